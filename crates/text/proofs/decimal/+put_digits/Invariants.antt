-- Why `put_digits` ends: it calls itself with n / 10, which is less than n.
use Rattle.text.proofs.decimal.+put_digits.Given as goal

abbrev pub decreases-put_digits : goal.decreases-put_digits
decreases-put_digits l = l.n

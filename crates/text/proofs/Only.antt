-- A text has one reading: which refusal it gets, which log it says, and what a call of `read` answers and leaves.
-- And what `text_of` writes is read back.
use Rattle.std.specs.Prelude.{Result, Ok}
use mathlib.Core.Path.{◌≡◌, refl, sym, ap, subst, ◌∙◌}
use mathlib.Core.Bool.{true}
use mathlib.Core.List.{List, [], ◌∷◌, ◌++◌, append-nil, append_assoc}
use Prim.Native.Nat.{ℕ, suc, ◌*◌, ◌≤◌, ◌<◌}
use native.Mathlib.Omega.{arith}
use lib.ListN.{length}
use Rattle.words.specs.Lists.{entries}
use Rattle.verdict.specs.Limits.{most_steps}
use Rattle.verdict.specs.Log.{steps}
use Rattle.verdict.specs.Answers.{Checked, Passed, Refused}
use Rattle.verdict.specs.declared.answers.Refusal.{Refusal}
use Rattle.verdict.specs.Call.{answered}
use Rattle.verdict.proofs.Only.{buffer_one, call_one}
use Rattle.text.specs.Line.{header, sayable, largest}
use Rattle.text.specs.Text.{lines, text_of, Steps}
use Rattle.text.specs.Reading.{NoHeader, NoLine, Says, Reading, no_header, too_many, bad_line, extra, in_form}
use Rattle.text.specs.ReadCall.{most_bytes, step_entries, ReadRefusal, wrong_buffer, too_long, by_line, leaves_steps, ReadCall}
use Rattle.text.proofs.Fronts.{→sayable}
use Rattle.text.proofs.Runs.{steps_length}
use Rattle.text.proofs.Compare.{header_free, no_line, Compared, agree, less, more, compare}

-- THE LOG OF A TEXT
pub steps_count : {n : ℕ} {log : List ℕ} → Steps n log → steps log ≡ n
unfolding steps
steps_count {n} {log} s = let e : length log ≡ 4 * n = steps_length s in omega arith

-- a text by its parts
pub text_parts : {n : ℕ} {log : List ℕ} → Steps n log → text_of log ≡ header n ++ lines n log
unfolding text_of
text_parts s = rw (steps_count s) refl

-- two logs of which each step can be said, and whose texts are one, are one
pub text_of_one : {n m : ℕ} {log log' : List ℕ} → n ≤ largest → m ≤ largest → Steps n log → Steps m log' → text_of log ≡ text_of log' → log ≡ log'
text_of_one {n} {m} {log} {log'} p q a b e =
    let h : (n ≡ m) × (lines n log ≡ lines m log') = header_free n m _ _ (→sayable n p) (→sayable m q) (sym (text_parts a) ∙ e ∙ text_parts b) in
    go h.0 (compare [] [] a b (ap (λ (u : List ℕ). u ++ []) h.1))
  where
    go : n ≡ m → Compared n m log log' [] [] → log ≡ log'
    go i (agree j k l) = k
    go i (less j k) = absurd (omega arith)
    go i (more j k) = absurd (omega arith)

pub says_one : {text log log' : List ℕ} → Says text log → Says text log' → log ≡ log'
says_one a b =
    text_of_one {n = a.n} {m = b.n} (omega (arith, a.few)) (omega (arith, b.few)) a.each b.each (sym a.whole ∙ b.whole)

-- THE REFUSAL OF A TEXT
-- where the lines stop, with i of n in form and `rest` behind them
data Stops (n i : ℕ) (rest : List ℕ) : Checked → Type 0 where
  short : i < n → NoLine rest → Stops n i rest (Refused 16 (suc i))
  long : (b : ℕ) (y : List ℕ) → i ≡ n → rest ≡ b ∷ y → Stops n i rest (Refused 16 (suc n))
  full : i ≡ n → rest ≡ [] → Stops n i rest Passed

-- a reading by its header
data ByHeader (text : List ℕ) : Checked → Type 0 where
  none : NoHeader text → ByHeader text (Refused 16 0)
  large : (n : ℕ) (rest : List ℕ) → sayable n ≡ true → most_steps < n → text ≡ header n ++ rest → ByHeader text (Refused 2 0)
  fine : (n i : ℕ) (log rest : List ℕ) {f : Checked} → n ≤ most_steps → Steps i log → text ≡ header n ++ (lines i log ++ rest) → Stops n i rest f → ByHeader text f

by_header : {text : List ℕ} {f : Checked} → Reading text f → ByHeader text f
by_header (no_header h) = none h
by_header (too_many n rest s h e) = large n rest s h e
by_header (bad_line n i log rest p h s e f) = fine n i log rest p s (e ∙ append_assoc (header n) (lines i log) rest) (short h f)
by_header (extra n b log rest p s e) = fine n n log (b ∷ rest) p s (e ∙ append_assoc (header n) (lines n log) (b ∷ rest)) (long b rest refl refl)
by_header (in_form log s) =
    fine s.n s.n log [] s.few s.each (s.whole ∙ text_parts s.each ∙ ap (λ (u : List ℕ). header s.n ++ u) (sym (append-nil (lines s.n log)))) (full refl refl)

-- no more lines are read than the header says
beyond : {n i j : ℕ} {rest : List ℕ} {f : Checked} → i < j → i ≡ n → Stops n j rest f → ⊥
beyond p a (short b c) = omega arith
beyond p a (long y z b c) = omega arith
beyond p a (full b c) = omega arith

stops_one : {n i j : ℕ} {log log' rest rest' : List ℕ} {f g : Checked} → Compared i j log log' rest rest' → Stops n i rest f → Stops n j rest' g → f ≡ g
stops_one (agree p q r) (short a b) (short c d) = ap (λ (k : ℕ). Refused 16 (suc k)) p
stops_one (agree p q r) (short a b) (long y z c d) = absurd (omega arith)
stops_one (agree p q r) (short a b) (full c d) = absurd (omega arith)
stops_one (agree p q r) (long y z a b) (short c d) = absurd (omega arith)
stops_one (agree p q r) (long y z a b) (long y' z' c d) = refl
stops_one (agree p q r) (long y z a b) (full c d) = let e : ◌≡◌ {A = ℕ} 0 1 = cc in absurd (omega arith)
stops_one (agree p q r) (full a b) (short c d) = absurd (omega arith)
stops_one (agree p q r) (full a b) (long y z c d) = let e : ◌≡◌ {A = ℕ} 0 1 = cc in absurd (omega arith)
stops_one (agree p q r) (full a b) (full c d) = refl
stops_one (less p h) (short a b) t = absurd (no_line b h)
stops_one (less p h) (long y z a b) t = absurd (beyond p a t)
stops_one (less p h) (full a b) t = absurd (beyond p a t)
stops_one (more p h) s (short a b) = absurd (no_line b h)
stops_one (more p h) s (long y z a b) = absurd (beyond p a s)
stops_one (more p h) s (full a b) = absurd (beyond p a s)

one_header : {n m : ℕ} {text : List ℕ} (x y : List ℕ) → sayable n ≡ true → sayable m ≡ true → text ≡ header n ++ x → text ≡ header m ++ y → (n ≡ m) × (x ≡ y)
one_header {n} {m} x y p q a b = header_free n m x y p q (sym a ∙ b)

few_sayable : (n : ℕ) → n ≤ most_steps → sayable n ≡ true
few_sayable n h = →sayable n (omega arith)

by_header_one : {text : List ℕ} {f g : Checked} → ByHeader text f → ByHeader text g → f ≡ g
by_header_one (none a) (none b) = refl
by_header_one (none a) (large n x p h e) = absurd (a n x p e)
by_header_one (none a) (fine n i log x p s e t) = absurd (a n _ (few_sayable n p) e)
by_header_one (large n x p h e) (none a) = absurd (a n x p e)
by_header_one (large n x p h e) (large m y q k d) = refl
by_header_one (large n x p h e) (fine m i log y q s d t) = absurd (omega (arith, (one_header x _ p (few_sayable m q) e d).0))
by_header_one (fine n i log x p s e t) (none a) = absurd (a n _ (few_sayable n p) e)
by_header_one (fine m i log y q s d t) (large n x p h e) = absurd (omega (arith, (one_header x _ p (few_sayable m q) e d).0))
by_header_one (fine n i log x p s e t) (fine m j log' y {f = g} q u d v) =
    let h : (n ≡ m) × (lines i log ++ x ≡ lines j log' ++ y) = one_header _ _ (few_sayable n p) (few_sayable m q) e d in
    stops_one (compare x y s u h.1) t (subst (λ (k : ℕ). Stops k j y g) (sym h.0) v)

-- a text gets one refusal, or none
pub reading_one : {text : List ℕ} {f g : Checked} → Reading text f → Reading text g → f ≡ g
reading_one a b = by_header_one (by_header a) (by_header b)

pub read_refusal_one : {text buffer : List ℕ} {f g : Checked} → ReadRefusal text buffer f → ReadRefusal text buffer g → f ≡ g
read_refusal_one (wrong_buffer a) (wrong_buffer b) = refl
read_refusal_one (wrong_buffer a) (too_long b c) = absurd (a b)
read_refusal_one (wrong_buffer a) (by_line b c d) = absurd (a b)
read_refusal_one (too_long b c) (wrong_buffer a) = absurd (a b)
read_refusal_one (too_long b c) (too_long b' c') = refl
read_refusal_one (too_long b c) (by_line b' c' d) = absurd (omega arith)
read_refusal_one (by_line b c d) (wrong_buffer a) = absurd (a b)
read_refusal_one (by_line b c d) (too_long b' c') = absurd (omega arith)
read_refusal_one (by_line b c d) (by_line b' c' d') = reading_one d d'

-- A CALL
-- any two results of one call of `read` are equal, the answer and every entry of the step buffer
pub read_call_one : {text buffer : List ℕ} {r s : Result ℕ Refusal} {v w : List ℕ} → ReadCall text buffer r v → ReadCall text buffer s w → (r ≡ s) × (v ≡ w)
read_call_one p q =
    let e = call_one (λ f g h k. read_refusal_one h k) (λ a b h k. says_one h k) p q in
    (e.0, buffer_one e.1)

-- what `text_of` writes is read back, where the text is no longer than a text may be
module _ {n : ℕ} {log : List ℕ} (each : Steps n log) (few : n ≤ most_steps) where
  text_says : Says (text_of log) log
  text_says = record { n = n; few = few; each = each; whole = refl }

  pub reads_back : Reading (text_of log) Passed
  reads_back = in_form log text_says

  pub read_back : {buffer : List ℕ} {r : Result ℕ Refusal} {v : List ℕ} → length (text_of log) ≤ most_bytes → length buffer ≡ step_entries
      → ReadCall (text_of log) buffer r v → (r ≡ Ok n) × (v ≡ entries step_entries log)
  unfolding leaves_steps
  read_back {buffer} fits size c =
      let e = read_call_one c (answered log (by_line size fits reads_back) text_says refl refl) in
      (e.0 ∙ ap Ok (steps_count each), e.1)

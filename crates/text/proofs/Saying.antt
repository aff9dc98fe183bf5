-- A well_formed log: a line can say each of its steps, and its text has room in the buffer for a text.
use mathlib.Core.Path.{◌≡◌, refl, ap, ◌∙◌}
use mathlib.Core.Bool.{true}
use mathlib.Core.List.{List, [], ◌∷◌, ◌++◌}
use mathlib.Core.Logic.{⊎_elim}
use Prim.Native.Nat.{ℕ, zero, suc, ◌+◌, ◌*◌, ◌≤◌, ◌<◌}
use native.Mathlib.Omega.{arith}
use native.Mathlib.Numerals.{add-one}
use lib.ListN.{length, length-append}
use Rattle.words.specs.Tests.{◌is◌, provided◌then◌else◌}
use Rattle.words.proofs.Truth.{decide, →and, →upto, is→, isnt→}
use Rattle.verdict.specs.Limits.{transactions, objects, most_steps}
use Rattle.verdict.specs.Log.{steps, kind, tx, obj, src}
use Rattle.verdict.specs.Refusal.{log_refusal}
use Rattle.verdict.specs.Answers.{Passed}
use Rattle.verdict.proofs.WellFormed.{kind_within, tx_within, object_within, source_within, source_none, whole_steps, steps_within, ranges}
use Rattle.text.specs.Bytes.{bytes, blank, line_end}
use Rattle.text.specs.Decimal.{decimal}
use Rattle.text.specs.Line.{word, item, header, op, line, has_word, sayable_step}
use Rattle.text.specs.Text.{lines, text_of, Steps, no_step, a_step}
use Rattle.text.specs.WriteCall.{text_bytes}
use Rattle.text.specs.Inner.StepLine.{line_of, Small}
use Rattle.text.proofs.Fronts.{→sayable}
use Rattle.text.proofs.Words.{Kind, begin, read, write, commit, abort, kind_of}
use Rattle.text.proofs.Forms.{→step}
use Rattle.text.proofs.Runs.{step_behind, lines_more}
use Rattle.text.proofs.Digits.{one_digit, two_digits, three_digits, four_digits, item_length}

-- SAYABLE STEPS
-- a log of n steps, each of which a line can say
each_said : (n : ℕ) (log : List ℕ) → length log ≡ 4 * n
    → ((i : ℕ) → i < n → sayable_step (kind log i) (tx log i) (obj log i) (src log i) ≡ true) → Steps n log
unfolding kind tx obj src
each_said zero [] e f = no_step
each_said zero (k ∷ log) e f = absurd (omega arith)
each_said (suc n) [] e f = absurd (omega arith)
each_said (suc n) (k ∷ []) e f = absurd (omega arith)
each_said (suc n) (k ∷ t ∷ []) e f = absurd (omega arith)
each_said (suc n) (k ∷ t ∷ x ∷ []) e f = absurd (omega arith)
each_said (suc n) (k ∷ t ∷ x ∷ s ∷ log) e f =
    a_step (f 0 (omega arith))
    (each_said n log (omega arith) (λ i h. step_behind (λ k' t' x' s'. sayable_step k' t' x' s' ≡ true) (k ∷ t ∷ x ∷ s ∷ log) i (f (suc i) (omega arith))))

module _ (log : List ℕ) (well : log_refusal log ≡ Passed) (i : ℕ) (h : i < steps log) where
  kind_said : has_word (kind log i) ≡ true
  unfolding has_word
  kind_said = let k = kind_within log i (ranges log well i h) in →and (→upto k.0) (→upto k.1)

  few_transaction : tx log i < 1000
  few_transaction = omega (arith, (tx_within log i (ranges log well i h)).1)

  few_object : obj log i < 100
  few_object = omega (arith, object_within log i (ranges log well i h))

  few_source : src log i < 1000
  few_source =
      ⊎_elim (λ e. omega (arith, source_within log i (ranges log well i h) (is→ e))) (λ e. omega (arith, source_none log i (ranges log well i h) (isnt→ e)))
      (decide (kind log i is 2))

  -- each has a place in the table of numbers
  pub small : Small log i
  small =
      let t : tx log i ≤ transactions = (tx_within log i (ranges log well i h)).1 in
      let x : obj log i < objects = object_within log i (ranges log well i h) in
      let s : src log i ≤ transactions =
      ⊎_elim (λ e. source_within log i (ranges log well i h) (is→ e)) (λ e. omega (arith, source_none log i (ranges log well i h) (isnt→ e)))
      (decide (kind log i is 2))
      in
      (omega arith, omega arith, omega arith)

  step_said : sayable_step (kind log i) (tx log i) (obj log i) (src log i) ≡ true
  step_said =
      →step (kind log i) (tx log i) (obj log i) (src log i) kind_said
      (→sayable (tx log i) (omega (arith, few_transaction))) (→sayable (obj log i) (omega (arith, few_object))) (→sayable (src log i) (omega (arith, few_source)))

pub well_said : (log : List ℕ) → log_refusal log ≡ Passed → Steps (steps log) log
well_said log well = each_said (steps log) log (whole_steps log well) (step_said log well)

-- ROOM
-- no line of a well_formed log is longer
abbrev most_line : ℕ
most_line = 31

pub line_length : (k t x s : ℕ) → length (line k t x s) ≡ length (op k) + (length (decimal t) + length (decimal x) + length (decimal s) + 15)
unfolding line bytes
line_length k t x s =
    let a = item (bytes "tx=") (decimal t) blank in
    let b = item (bytes "obj=") (decimal x) blank in
    let c = item (bytes "from=") (decimal s) line_end in
    omega (
      arith,
      length-append (op k ++ a ++ b) c,
      length-append (op k ++ a) b,
      length-append (op k) a,
      item_length (bytes "tx=") (decimal t) blank,
      item_length (bytes "obj=") (decimal x) blank,
      item_length (bytes "from=") (decimal s) line_end,
    )

-- the front of a line
pub front_length : {k : ℕ} → Kind k → length (op k) ≤ 10
unfolding op item word bytes ◌is◌ provided◌then◌else◌
front_length begin = omega arith
front_length read = omega arith
front_length write = omega arith
front_length commit = omega arith
front_length abort = omega arith

read_length : length (op 2) ≡ 8
unfolding op item word bytes ◌is◌ provided◌then◌else◌
read_length = refl

module _ (t x s : ℕ) (few_t : t < 1000) (few_x : x < 100) (few_s : s < 1000) where
  read_fits : length (line 2 t x s) ≤ most_line
  read_fits = omega (arith, line_length 2 t x s, read_length, three_digits t few_t, two_digits x few_x, three_digits s few_s)

  other_fits : {k : ℕ} → Kind k → s ≡ 0 → length (line k t x s) ≤ most_line
  other_fits {k} i e = omega (arith, line_length k t x s, front_length i, three_digits t few_t, two_digits x few_x, one_digit s (omega arith))

  line_fits : {k : ℕ} → Kind k → ((k ≡ 2 → ⊥) → s ≡ 0) → length (line k t x s) ≤ most_line
  line_fits begin f = other_fits begin (f (λ e. omega arith))
  line_fits read f = read_fits
  line_fits write f = other_fits write (f (λ e. omega arith))
  line_fits commit f = other_fits commit (f (λ e. omega arith))
  line_fits abort f = other_fits abort (f (λ e. omega arith))

module _ (log : List ℕ) (well : log_refusal log ≡ Passed) where
  step_fits : (i : ℕ) → i < steps log → length (line_of log i) ≤ most_line
  unfolding line_of
  step_fits i h =
      line_fits (tx log i) (obj log i) (src log i) (few_transaction log well i h) (few_object log well i h) (few_source log well i h)
      (kind_of (kind log i) (kind_said log well i h)) (source_none log i (ranges log well i h))

  lines_fit : (n : ℕ) → n ≤ steps log → length (lines n log) ≤ most_line * n
  unfolding lines
  lines_fit zero h = omega arith
  lines_fit (suc n) h =
      let e : length (lines (n + 1) log) ≡ length (lines n log) + length (line_of log n) =
      ap length (lines_more n log) ∙ length-append (lines n log) (line_of log n)
      in
      omega (arith, rw (add-one n) at e, lines_fit n (omega arith), step_fits n (omega arith))

  -- no well_formed log has a longer text
  pub longest_text : length (text_of log) ≤ 31755
  unfolding text_of header bytes
  longest_text =
      let n = steps log in
      let few : n ≤ most_steps = steps_within log well in
      omega (
        arith,
        length-append (header n) (lines n log),
        item_length (bytes "steps=") (decimal n) line_end,
        four_digits n (omega arith),
        lines_fit n (omega arith),
      )

  -- the buffer for a text has room for what is put too far
  pub text_roomy : length (text_of log) + 8 ≤ text_bytes
  text_roomy = omega (arith, longest_text)

  pub text_fits : length (text_of log) ≤ text_bytes
  text_fits = omega (arith, longest_text)

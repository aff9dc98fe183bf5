-- Two ways to read one text's lines: they agree, or where one stops the other has a line more.
use mathlib.Core.Path.{◌≡◌, refl, sym, ap, ◌∙◌}
use mathlib.Core.Bool.{true}
use mathlib.Core.List.{List, [], ◌∷◌, ◌++◌, append_assoc}
use Prim.Native.Nat.{ℕ, suc, ◌<◌}
use native.Mathlib.Omega.{arith}
use Rattle.words.proofs.Truth.{and→}
use Rattle.text.specs.Bytes.{bytes, line_end}
use Rattle.text.specs.Line.{header, line, sayable, has_word, sayable_step}
use Rattle.text.specs.Text.{lines, Steps, no_step, a_step}
use Rattle.text.specs.Reading.{NoLine}
use Rattle.text.proofs.Forms.{Free, op_free, tx_free, obj_free, from_free, item_free, line_end_apart, line_parts}
use Rattle.text.proofs.Runs.{lines_none, lines_first}

pub header_free : Free header sayable
unfolding header
header_free = item_free (bytes "steps=") line_end line_end_apart

-- the parts of a step that a line can say
pub step→ : (k t x s : ℕ) → sayable_step k t x s ≡ true → (has_word k ≡ true) × (sayable t ≡ true) × (sayable x ≡ true) × (sayable s ≡ true)
unfolding sayable_step
step→ k t x s h =
    let q = and→ h in
    let r = and→ q.0 in
    let u = and→ r.0 in
    (u.0, u.1, r.1, q.1)

-- at the front of a text stands one line
pub line_free : (k t x s k' t' x' s' : ℕ) (a b : List ℕ) → sayable_step k t x s ≡ true → sayable_step k' t' x' s' ≡ true
    → line k t x s ++ a ≡ line k' t' x' s' ++ b → (k ∷ t ∷ x ∷ s ∷ [] ≡ k' ∷ t' ∷ x' ∷ s' ∷ []) × (a ≡ b)
line_free k t x s k' t' x' s' a b p q e =
    let p' = step→ k t x s p in
    let q' = step→ k' t' x' s' q in
    let c = op_free k k' _ _ p'.0 q'.0 (sym (line_parts k t x s a) ∙ e ∙ line_parts k' t' x' s' b) in
    let d = tx_free t t' _ _ p'.1 q'.1 c.1 in
    let f = obj_free x x' _ _ p'.2 q'.2 d.1 in
    let g = from_free s s' _ _ p'.3 q'.3 f.1 in
    let i : k ≡ k' = c.0 in
    let j : t ≡ t' = d.0 in
    let l : x ≡ x' = f.0 in
    let m : s ≡ s' = g.0 in
    ((cc), g.1)

pub record HasLine (text : List ℕ) : Type 0 where
  pub k : ℕ
  pub t : ℕ
  pub x : ℕ
  pub s : ℕ
  pub rest : List ℕ
  pub fine : sayable_step k t x s ≡ true
  pub is : text ≡ line k t x s ++ rest

pub no_line : {text : List ℕ} → NoLine text → HasLine text → ⊥
no_line f h = f h.k h.t h.x h.s h.rest h.fine h.is

pub data Compared (i j : ℕ) (log log' rest rest' : List ℕ) : Type 0 where
  agree : i ≡ j → log ≡ log' → rest ≡ rest' → Compared i j log log' rest rest'
  less : i < j → HasLine rest → Compared i j log log' rest rest'
  more : j < i → HasLine rest' → Compared i j log log' rest rest'

-- the front of lines: nothing, or the first line and the others
front_none : (rest : List ℕ) → lines 0 [] ++ rest ≡ rest
front_none rest = rw lines_none refl

pub front_line : (n k t x s : ℕ) (log rest : List ℕ) → lines (suc n) (k ∷ t ∷ x ∷ s ∷ log) ++ rest ≡ line k t x s ++ (lines n log ++ rest)
front_line n k t x s log rest = rw (lines_first, append_assoc) refl

both_more : {n m k t x s k' t' x' s' : ℕ} {log log' rest rest' : List ℕ} → k ∷ t ∷ x ∷ s ∷ [] ≡ k' ∷ t' ∷ x' ∷ s' ∷ []
    → Compared n m log log' rest rest' → Compared (suc n) (suc m) (k ∷ t ∷ x ∷ s ∷ log) (k' ∷ t' ∷ x' ∷ s' ∷ log') rest rest'
both_more e (agree i j l) = agree (ap suc i) (cc) l
both_more e (less i h) = less (omega arith) h
both_more e (more i h) = more (omega arith) h

pub compare : {i j : ℕ} {log log' : List ℕ} (rest rest' : List ℕ) → Steps i log → Steps j log' → lines i log ++ rest ≡ lines j log' ++ rest'
    → Compared i j log log' rest rest'
compare rest rest' no_step no_step e = agree refl refl (rw lines_none at e)
compare rest rest' no_step (a_step {n} {k} {t} {x} {s} {log} p m) e =
    less (omega arith)
    (record { k = k; t = t; x = x; s = s; rest = lines n log ++ rest'; fine = p; is = sym (front_none rest) ∙ e ∙ front_line n k t x s log rest' })
compare rest rest' (a_step {n} {k} {t} {x} {s} {log} p m) no_step e =
    more (omega arith)
    (record { k = k; t = t; x = x; s = s; rest = lines n log ++ rest; fine = p; is = sym (front_none rest') ∙ sym e ∙ front_line n k t x s log rest })
compare rest rest' (a_step {n} {k} {t} {x} {s} {log} p m) (a_step {n = n'} {k = k'} {t = t'} {x = x'} {s = s'} {log = log'} q l) e =
    let f = line_free k t x s k' t' x' s' _ _ p q (sym (front_line n k t x s log rest) ∙ e ∙ front_line n' k' t' x' s' log' rest') in
    both_more f.0 (compare rest rest' m l f.1)

-- The lines of a log, one after another: one step more, and how far a pass over them has gone.
use Rattle.std.specs.Prelude.{Some, Ok}
use mathlib.Core.Path.{◌≡◌, refl, sym, ap, subst, ◌∙◌}
use mathlib.Core.Bool.{true}
use mathlib.Core.List.{List, [], ◌∷◌, ◌++◌, append-nil, append_assoc}
use Prim.Native.Nat.{ℕ, zero, suc, ◌+◌, ◌-◌, ◌*◌, ◌≤◌, ◌<◌}
use native.Mathlib.Omega.{arith}
use native.Mathlib.Numerals.{add-one}
use lib.ListN.{length, get_or, drop, length-append}
use lib.Seq.{take_at, drop-append-add, drop-drop}
use Rattle.text.specs.Line.{line, sayable_step}
use Rattle.text.specs.Text.{lines, Steps, no_step, a_step}
use Rattle.text.specs.Inner.Put.{put_at, Fits}
use Rattle.text.specs.Inner.StepLine.{line_of}
use Rattle.text.specs.Inner.Finds.{FindsLine, kept, Passes}
use Rattle.verdict.specs.declared.step.Step.{Step}
use Rattle.verdict.specs.Log.{kind, tx, obj, src}

pub steps_length : {n : ℕ} {log : List ℕ} → Steps n log → length log ≡ 4 * n
steps_length no_step = refl
steps_length (a_step p s) = omega (arith, steps_length s)

pub lines_none : (log : List ℕ) → lines 0 log ≡ []
unfolding lines
lines_none log = refl

pub lines_first : (n k t x s : ℕ) (log : List ℕ) → lines (suc n) (k ∷ t ∷ x ∷ s ∷ log) ≡ line k t x s ++ lines n log
unfolding lines kind tx obj src
lines_first n k t x s log = refl

-- the steps behind the first
get_d_drop : (n a b : ℕ) (l : List ℕ) → n + a ≡ b → get_or (drop n l) a 0 ≡ get_or l b 0
get_d_drop zero a b l e = let f : a ≡ b = omega arith in rw f refl
get_d_drop (suc n) a b [] e = refl
get_d_drop (suc n) a zero (c ∷ l) e = absurd (omega arith)
get_d_drop (suc n) a (suc b) (c ∷ l) e = get_d_drop n a b l (omega arith)

pub step_behind : (P : ℕ → ℕ → ℕ → ℕ → Type 0) (log : List ℕ) (i : ℕ)
    → P (kind log (suc i)) (tx log (suc i)) (obj log (suc i)) (src log (suc i))
    → P (kind (drop 4 log) i) (tx (drop 4 log) i) (obj (drop 4 log) i) (src (drop 4 log) i)
unfolding kind tx obj src
step_behind P log i p =
    rw (
      get_d_drop 4 (4 * i) (4 * suc i) log (omega arith),
      get_d_drop 4 (4 * i + 1) (4 * suc i + 1) log (omega arith),
      get_d_drop 4 (4 * i + 2) (4 * suc i + 2) log (omega arith),
      get_d_drop 4 (4 * i + 3) (4 * suc i + 3) log (omega arith),
    ) p

line_behind : (log : List ℕ) (i : ℕ) → line_of (drop 4 log) i ≡ line_of log (suc i)
unfolding line_of
line_behind log i = step_behind (λ k t x s. line k t x s ≡ line_of log (suc i)) log i refl

-- one line more, of any log
lines_more' : (n : ℕ) (log : List ℕ) → lines (suc n) log ≡ lines n log ++ line_of log n
unfolding lines line_of
lines_more' zero log = append-nil (line_of log 0)
lines_more' (suc n) log =
    ap (λ (u : List ℕ). line_of log 0 ++ u) (lines_more' n (drop 4 log) ∙ ap (λ (u : List ℕ). lines n (drop 4 log) ++ u) (line_behind log n))
    ∙ sym (append_assoc (line_of log 0) (lines n (drop 4 log)) (line_of log (suc n)))

pub lines_more : (n : ℕ) (log : List ℕ) → lines (n + 1) log ≡ lines n log ++ line_of log n
lines_more n log = rw (add-one n) (lines_more' n log)

-- .. has room where all have
lines_grow : (m n : ℕ) (log : List ℕ) → length (lines n log) ≤ length (lines (n + m) log)
lines_grow zero n log = let e : n + 0 ≡ n = omega arith in rw e (omega arith)
lines_grow (suc m) n log =
    let e : n + suc m ≡ n + m + 1 = omega arith in
    rw e (omega (arith, ap length (lines_more (n + m) log) ∙ length-append (lines (n + m) log) (line_of log (n + m)), lines_grow m n log))

pub more_fits : (n i : ℕ) (log l : List ℕ) (at : ℕ) → i < n → Fits (lines n log) at l → Fits (lines i log ++ line_of log i) at l
more_fits n i log l at h f =
    let e : i + 1 + (n - (i + 1)) ≡ n = omega arith in
    let g : length (lines (i + 1) log) ≤ length (lines n log) = rw e at (lines_grow (n - (i + 1)) (i + 1) log) in
    omega (arith, ap length (lines_more i log))

-- one step more, at the end
module _ (k t x s : ℕ) where
  abbrev pub four : List ℕ
  four = k ∷ t ∷ x ∷ s ∷ []

  steps_last' : {n : ℕ} {log : List ℕ} → Steps n log → sayable_step k t x s ≡ true → Steps (suc n) (log ++ four)
  steps_last' no_step p = a_step p no_step
  steps_last' (a_step q m) p = a_step q (steps_last' m p)

  lines_last' : {n : ℕ} {log : List ℕ} → Steps n log → lines (suc n) (log ++ four) ≡ lines n log ++ line k t x s
  lines_last' no_step = lines_first 0 k t x s [] ∙ rw (lines_none, append-nil) refl
  lines_last' (a_step {n} {k = k'} {t = t'} {x = x'} {s = s'} {log} q m) =
      lines_first (suc n) k' t' x' s' (log ++ four)
      ∙ ap (λ (u : List ℕ). line k' t' x' s' ++ u) (lines_last' m)
      ∙ sym (append_assoc (line k' t' x' s') (lines n log) (line k t x s))
      ∙ ap (λ (u : List ℕ). u ++ line k t x s) (sym (lines_first n k' t' x' s' log))

  pub steps_last : {n : ℕ} {log : List ℕ} → Steps n log → sayable_step k t x s ≡ true → Steps (n + 1) (log ++ four)
  steps_last {n} m p = rw (add-one n) (steps_last' m p)

  pub lines_last : {n : ℕ} {log : List ℕ} → Steps n log → lines (n + 1) (log ++ four) ≡ lines n log ++ line k t x s
  lines_last {n} m = rw (add-one n) (lines_last' m)

-- a pass from `at` on, with the buffer `before`, has gone over i lines to `place` and left `buffer`
pub record Gone (text : List ℕ) (at : ℕ) (before : List ℕ) (i place : ℕ) (buffer : List ℕ) : Type 0 where
  pub log : List ℕ
  pub each : Steps i log
  pub over : drop at text ≡ lines i log ++ drop place text
  pub holds : buffer ≡ kept log before

pub gone_nowhere : (text : List ℕ) (at : ℕ) (before : List ℕ) → Gone text at before 0 at before
unfolding kept
gone_nowhere text at before =
    record { log = []; each = no_step; over = sym (ap (λ (u : List ℕ). u ++ drop at text) (lines_none [])); holds = refl }

-- numbers put behind those of the log
kept_more : (log w before : List ℕ) (at : ℕ) → length log ≡ at → put_at at w (kept log before) ≡ kept (log ++ w) before
unfolding kept put_at
kept_more log w before at e =
    rw (take_at log (drop (length log) before) at e)
    (rw (sym e, drop-append-add log (drop (length log) before) (length w), drop-drop (length w) (length log) before, length-append log w) refl)

-- one line more
pub gone_on : {text : List ℕ} {at : ℕ} {before : List ℕ} {i place : ℕ} {buffer : List ℕ} (step : Step) (next : ℕ) → FindsLine text place (Some (step, next))
    → (buffer' : List ℕ) → buffer' ≡ put_at (4 * i) (four step.kind step.tx step.obj step.src) buffer → Gone text at before i place buffer → Gone text at before (i + 1) next buffer'
gone_on {text} {before} {i} step next f buffer' b g =
    record {
      log = g.log ++ four step.kind step.tx step.obj step.src;
      each = steps_last step.kind step.tx step.obj step.src g.each f.0;
      over =
          g.over
          ∙ ap (λ (u : List ℕ). lines i g.log ++ u) f.2
          ∙ sym (append_assoc (lines i g.log) (line step.kind step.tx step.obj step.src) (drop next text))
          ∙ ap (λ (u : List ℕ). u ++ drop next text) (sym (lines_last step.kind step.tx step.obj step.src g.each));
      holds = b ∙ ap (put_at (4 * i) (four step.kind step.tx step.obj step.src)) g.holds ∙ kept_more g.log (four step.kind step.tx step.obj step.src) before (4 * i) (steps_length g.each);
    }

-- a pass that has gone over all lines
pub gone_over : {text : List ℕ} {at : ℕ} {before : List ℕ} {i place : ℕ} {buffer : List ℕ} (n : ℕ) → i ≡ n → place ≤ length text
    → Gone text at before i place buffer → Passes text at n before (Ok place) buffer
gone_over {text} {at} {place} n e h g =
    (g.log, subst (λ (m : ℕ). Steps m g.log) e g.each, h, subst (λ (m : ℕ). drop at text ≡ lines m g.log ++ drop place text) e g.over, g.holds)

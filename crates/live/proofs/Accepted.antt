-- What is known of the steps accepted, and that a good step keeps it so.
use mathlib.Core.Path.{◌≡◌, refl, sym, ap, subst, ◌∙◌}
use mathlib.Core.Bool.{Bool, true, false}
use mathlib.Core.Logic.{◌⊎◌, inl, inr, ⊎_elim}
use mathlib.Core.List.{List, []}
use Prim.Native.Nat.{ℕ, suc, ◌≤◌, ◌<◌}
use native.Mathlib.Omega.{arith}
use native.Mathlib.Nat.{not-suc-le-zero}
use Rattle.words.specs.Tests.{◌is◌, ◌below◌, ◌upto◌, ◌or◌, provided◌then◌else◌, some}
use Rattle.words.proofs.Truth.{decide, not_both, to_false, and→, →and, or→, →or_left, →or_right, fails→, not_fails→, is→, →is, isnt→, below→, not_below→, upto→, →upto, not_upto→, provided_true, some→, →some, none→, lowest_is, lowest_at}
use Rattle.verdict.specs.Limits.{objects}
use Rattle.verdict.specs.Log.{steps, kind, tx, obj, begins, writes, commits, committed, writer, begin_step, commit_step}
use Rattle.verdict.specs.Log.{begun, ended, wrote}
use Rattle.verdict.specs.Refusal.{object_allowed}
use Rattle.live.specs.SoFar.{more, is_open, passed}
use Rattle.live.specs.Says.{number}
use Rattle.live.specs.Inner.Accepted.{Whole, Accepted}
use Rattle.live.proofs.Grows.{Grows, more_grows, more_whole, begun_later, begin_before, begun_same, ended_same}

-- no number applies to the step, places apart
pub record Good (most : ℕ) (log : List ℕ) (k t x : ℕ) : Type 0 where
  pub in_range : (1 ≤ t) × (t ≤ most)
  pub in_objects : (k ≡ 2) ⊎ (k ≡ 3) → x < objects
  pub above : k ≡ 1 → passed log t ≡ false
  pub alive : (k ≡ 1 → ⊥) → is_open log t ≡ true

pub nothing_accepted : (most : ℕ) → Accepted most []
unfolding steps
nothing_accepted most =
    record {
      whole = refl;
      range = λ i h. absurd (not-suc-le-zero h);
      object = λ i h o. absurd (not-suc-le-zero h);
      rise = λ i j l h a b. absurd (not-suc-le-zero h);
      has_begun = λ j h n. absurd (not-suc-le-zero h);
      not_ended = λ j h n. absurd (not-suc-le-zero h);
    }

-- a number that was not reached is above every begin
pub begun_below : (log : List ℕ) (t : ℕ) → passed log t ≡ false → (i : ℕ) → i < steps log → kind log i ≡ 1 → tx log i < t
unfolding passed
begun_below log t n i h k =
    ⊎_elim (λ (u : (t upto tx log i) ≡ true). absurd (not_both (→and (→is k) u) (none→ _ n i h))) (λ (u : (t upto tx log i) ≡ false). not_upto→ u) (decide (t upto tx log i))

pub open→ : (log : List ℕ) (t : ℕ) → is_open log t ≡ true → (begun log (steps log) t ≡ true) × (ended log (steps log) t ≡ false)
unfolding is_open
open→ log t h = ((and→ h).0, fails→ (and→ h).1)

-- WHAT FOLLOWS
module _ {most : ℕ} {log : List ℕ} (ok : Accepted most log) where
  pub commits_once : (t i j : ℕ) → i < j → j < steps log → commits log t i ≡ true → commits log t j ≡ true → ⊥
  unfolding commits ended
  commits_once t i j l h p q =
      let e : tx log j ≡ t = is→ (and→ q).1 in
      let f : kind log j ≡ 4 = is→ (and→ q).0 in
      not_both (→some _ i l (→or_left _ (rw e p))) (ok.not_ended j h (λ (z : kind log j ≡ 1). omega arith))

  pub commit_step_is : (t : ℕ) → committed log t ≡ true → (commit_step log t < steps log) × (commits log t (commit_step log t) ≡ true)
  unfolding committed commit_step
  commit_step_is t h = let r = lowest_is (commits log t) h in (r.0, r.1)

  pub commit_step_at : (t j : ℕ) → j < steps log → commits log t j ≡ true → commit_step log t ≡ j
  unfolding commit_step
  commit_step_at t j h c = lowest_at (commits log t) j h c (λ i l. to_false _ (λ q. commits_once t i j l h q c))

  pub tx_at : (t : ℕ) → committed log t ≡ true → tx log (commit_step log t) ≡ t
  unfolding commits
  tx_at t h = is→ (and→ (commit_step_is t h).1).1

  pub kind_at : (t : ℕ) → committed log t ≡ true → kind log (commit_step log t) ≡ 4
  unfolding commits
  kind_at t h = is→ (and→ (commit_step_is t h).1).0

  pub committed_range : (t : ℕ) → committed log t ≡ true → (1 ≤ t) × (t ≤ most)
  committed_range t h = rw (tx_at t h) at (ok.range (commit_step log t) (commit_step_is t h).0)

  pub commit_injective : (a b : ℕ) → committed log a ≡ true → committed log b ≡ true → commit_step log a ≡ commit_step log b → a ≡ b
  commit_injective a b p q e = sym (tx_at a p) ∙ ap (tx log) e ∙ tx_at b q

  -- a committed transaction began before it committed, and wrote before it committed
  pub begun_at_commit : (t : ℕ) → committed log t ≡ true → begun log (commit_step log t) t ≡ true
  begun_at_commit t c =
      let k : kind log (commit_step log t) ≡ 4 = kind_at t c in
      subst (λ (z : ℕ). begun log (commit_step log t) z ≡ true) (tx_at t c) (ok.has_begun (commit_step log t) (commit_step_is t c).0 (λ (z : kind log (commit_step log t) ≡ 1). omega arith))

  pub begins_first : (t : ℕ) → committed log t ≡ true → begin_step log t < commit_step log t
  begins_first t c = let l : commit_step log t < steps log = (commit_step_is t c).0 in begin_before log (commit_step log t) t (omega arith) (begun_at_commit t c)

  pub begun_committed : (t : ℕ) → committed log t ≡ true → begun log (steps log) t ≡ true
  begun_committed t c = let l : commit_step log t < steps log = (commit_step_is t c).0 in begun_later log (commit_step log t) (steps log) t (omega arith) (begun_at_commit t c)

  pub writes_first : (t x : ℕ) → committed log t ≡ true → writer log x t ≡ true → wrote log (commit_step log t) t x ≡ true
  unfolding writer wrote writes
  writes_first t x c w = go (decide (r.0 below commit_step log t))
    where
      r : (i : ℕ) × (i < steps log) × (writes log t x i ≡ true)
      r = some→ w

      k : kind log r.0 ≡ 3
      k = is→ (and→ (and→ r.2).0).0

      e : tx log r.0 ≡ t
      e = is→ (and→ (and→ r.2).0).1

      late : commit_step log t < r.0 → ⊥
      late l =
          let z : ended log r.0 (tx log r.0) ≡ true = unfold ended in (→some _ (commit_step log t) l (→or_left _ (rw e (commit_step_is t c).1))) in
          not_both z (ok.not_ended r.0 r.1 (λ (q : kind log r.0 ≡ 1). omega (arith, k)))

      go : ((r.0 below commit_step log t) ≡ true) ⊎ ((r.0 below commit_step log t) ≡ false) → some (commit_step log t) (writes log t x) ≡ true
      go (inl l) = →some _ r.0 (below→ l) r.2
      go (inr l) =
          let n : r.0 ≡ commit_step log t → ⊥ = λ (q : r.0 ≡ commit_step log t). (let z : kind log (commit_step log t) ≡ 4 = kind_at t c in let y : kind log r.0 ≡ 4 = rw q z in omega (arith, k)) in
          absurd (late (omega (arith, not_below→ l)))

  -- an ended transaction is not open; one that is open, or whose number was not reached, has not committed
  pub committed_ends : (t : ℕ) → committed log t ≡ true → ended log (steps log) t ≡ true
  unfolding committed ended
  committed_ends t c = let r = some→ c in →some _ r.0 r.1 (→or_left _ r.2)

  pub open_uncommitted : (t : ℕ) → is_open log t ≡ true → committed log t ≡ false
  open_uncommitted t o = to_false _ (λ c. not_both (committed_ends t c) (open→ log t o).1)

  pub new_unbegun : (t : ℕ) → passed log t ≡ false → begun log (steps log) t ≡ false
  unfolding passed begun begins
  new_unbegun t n = to_false _ (λ b.
      let r = some→ b in
      let e : tx log r.0 ≡ t = is→ (and→ r.2).1 in
      not_both (→and (and→ r.2).0 (→upto (omega arith))) (none→ _ n r.0 r.1))

  pub good_uncommitted : {k t x : ℕ} → Good most log k t x → committed log t ≡ false
  good_uncommitted {k} {t} g = go (decide (k is 1))
    where
      go : ((k is 1) ≡ true) ⊎ ((k is 1) ≡ false) → committed log t ≡ false
      go (inl e) = to_false _ (λ c. not_both (begun_committed t c) (new_unbegun t (g.above (is→ e))))
      go (inr e) = open_uncommitted t (g.alive (isnt→ e))

-- A GOOD STEP MORE
module _ {most k t x s : ℕ} {log log' : List ℕ} (ok : Accepted most log) (good : Good most log k t x) (g : Grows log k t x s log') (whole : Whole log') where
  place : (i : ℕ) → i < steps log' → (i < steps log) ⊎ (i ≡ steps log)
  place i h =
      let e : steps log' ≡ suc (steps log) = g.size in
      ⊎_elim (λ (l : (i below steps log) ≡ true). inl (below→ l)) (λ (l : (i below steps log) ≡ false). inr (omega (arith, not_below→ l))) (decide (i below steps log))

  pub accepted_grows : Accepted most log'
  accepted_grows = record { whole = whole; range = range; object = object; rise = rise; has_begun = has_begun; not_ended = not_ended }
    where
      range : (i : ℕ) → i < steps log' → (1 ≤ tx log' i) × (tx log' i ≤ most)
      range i h = ⊎_elim (λ (l : i < steps log). rw (g.txs i l) (ok.range i l)) (λ (e : i ≡ steps log). rw (e, g.tx_here) good.in_range) (place i h)

      object : (i : ℕ) → i < steps log' → (kind log' i ≡ 2) ⊎ (kind log' i ≡ 3) → obj log' i < objects
      object i h o =
          ⊎_elim (λ (l : i < steps log). rw (g.objs i l) (ok.object i l (rw (g.kinds i l) at o)))
          (λ (e : i ≡ steps log). rw (e, g.obj_here) (good.in_objects (rw (e, g.kind_here) at o))) (place i h)

      rise : (i j : ℕ) → i < j → j < steps log' → kind log' i ≡ 1 → kind log' j ≡ 1 → tx log' i < tx log' j
      rise i j l h a b = go (place j h)
        where
          go : (j < steps log) ⊎ (j ≡ steps log) → tx log' i < tx log' j
          go (inl m) = let m' : i < steps log = omega arith in rw (g.txs i m', g.txs j m) (ok.rise i j l m (sym (g.kinds i m') ∙ a) (sym (g.kinds j m) ∙ b))
          go (inr e) =
              let m' : i < steps log = omega arith in
              let z : passed log t ≡ false = good.above (sym g.kind_here ∙ (rw e at b)) in
              rw (e, g.txs i m', g.tx_here) (begun_below log t z i m' (sym (g.kinds i m') ∙ a))

      has_begun : (j : ℕ) → j < steps log' → (kind log' j ≡ 1 → ⊥) → begun log' j (tx log' j) ≡ true
      has_begun j h n =
          ⊎_elim (λ (l : j < steps log). rw (g.txs j l) (begun_same g j (omega arith) (tx log j) ∙ ok.has_begun j l (λ q. n (g.kinds j l ∙ q))))
          (λ (e : j ≡ steps log). rw (e, g.tx_here) (begun_same g (steps log) (omega arith) t ∙ (open→ log t (good.alive (λ q. n (rw e (g.kind_here ∙ q))))).0)) (place j h)

      not_ended : (j : ℕ) → j < steps log' → (kind log' j ≡ 1 → ⊥) → ended log' j (tx log' j) ≡ false
      not_ended j h n =
          ⊎_elim (λ (l : j < steps log). rw (g.txs j l) (ended_same g j (omega arith) (tx log j) ∙ ok.not_ended j l (λ q. n (g.kinds j l ∙ q))))
          (λ (e : j ≡ steps log). rw (e, g.tx_here) (ended_same g (steps log) (omega arith) t ∙ (open→ log t (good.alive (λ q. n (rw e (g.kind_here ∙ q))))).1)) (place j h)

pub accepted_more : {most k t x : ℕ} {log : List ℕ} (s : ℕ) → Accepted most log → Good most log k t x → Accepted most (more log k t x s)
accepted_more {most} {k} {t} {x} {log} s ok good = accepted_grows ok good (more_grows log ok.whole k t x s) (more_whole log ok.whole k t x s)

-- what the answer's number says
pub else→ : (b : Bool) (n r : ℕ) → (provided b then suc n else r) ≡ 0 → (b ≡ false) × (r ≡ 0)
unfolding provided◌then◌else◌
else→ true n r h = absurd (omega arith)
else→ false n r h = (refl, h)

pub good_step : {most : ℕ} (full : List ℕ → Bool) (log : List ℕ) (k t x s : ℕ) → number most full log k t x s ≡ 0 → Good most log k t x
unfolding number object_allowed
good_step {most} full log k t x s h =
    let a = else→ _ 2 _ h in
    let b = else→ _ 3 _ a.1 in
    let c = else→ _ 4 _ b.1 in
    let d = else→ _ 5 _ c.1 in
    let e = else→ _ 6 _ d.1 in
    let f = else→ _ 17 _ e.1 in
    let g = else→ _ 7 _ f.1 in
    let r = and→ (not_fails→ b.0) in
    record {
      in_range = (upto→ r.0, upto→ r.1);
      in_objects = λ o.
          let q : (k is 2 or k is 3) ≡ true = ⊎_elim (λ (z : k ≡ 2). →or_left _ (→is z)) (λ (z : k ≡ 3). →or_right _ (→is z)) o in
          below→ (rw (provided_true (x below objects) (x is 0) q) at (not_fails→ c.0));
      above = λ z. to_false _ (λ p. not_both (→and (→is z) p) e.0);
      alive = λ n. ⊎_elim (λ (z : (k is 1) ≡ true). absurd (n (is→ z))) (λ z. z) (or→ (not_fails→ g.0));
    }

-- its kind, and that a begin finds a place
pub good_kind : (most : ℕ) (full : List ℕ → Bool) (log : List ℕ) (k t x s : ℕ) → number most full log k t x s ≡ 0 → (1 ≤ k) × (k ≤ 5)
unfolding number
good_kind most full log k t x s h = let r = and→ (not_fails→ (else→ _ 2 _ h).0) in (upto→ r.0, upto→ r.1)

pub good_room : (most : ℕ) (full : List ℕ → Bool) (log : List ℕ) (k t x s : ℕ) → number most full log k t x s ≡ 0 → k ≡ 1 → full log ≡ false
unfolding number
good_room most full log k t x s h e =
    to_false _ (λ q. not_both (→and (→is e) q) (else→ _ 17 _ (else→ _ 6 _ (else→ _ 5 _ (else→ _ 4 _ (else→ _ 3 _ (else→ _ 2 _ h).1).1).1).1).1).0)

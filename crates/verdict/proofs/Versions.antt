-- Commit steps and versions of a well_formed log.
use mathlib.Core.Path.{◌≡◌, refl, sym, ap, subst, ◌∙◌}
use mathlib.Core.Bool.{Bool, true}
use mathlib.Core.List.{List}
use Prim.Native.Nat.{ℕ, suc, ◌≤◌, ◌<◌}
use native.Mathlib.Omega.{arith}
use Rattle.words.specs.Tests.{◌upto◌, ◌and◌, some, lowest}
use Rattle.verdict.specs.Log.{steps, tx, obj, writes, commits, committed, writer, commit_step, commits_writer, write_one_object}
use Rattle.verdict.specs.Version.{versions_from, next_commit, next_version}
use Rattle.words.proofs.Truth.{to_false, to_true, and→, →and, is→, →is, →isnt, upto→, →upto, below→, →below, provided_true, provided_false, some→, →some, lowest_is, lowest_none, lowest_at, lowest_le}
use Rattle.verdict.proofs.WellFormed.{Well}

-- t is a committed writer of x
pub record Wrote (log : List ℕ) (x t : ℕ) : Type 0 where
  pub commit : committed log t ≡ true
  pub write : writer log x t ≡ true

pub versions_from_zero : (log : List ℕ) → versions_from log 0 ≡ 0
unfolding versions_from
versions_from_zero log = provided_true 0 (suc (commit_step log 0)) (→is refl)

pub versions_from_other : (log : List ℕ) (v : ℕ) → (v ≡ 0 → ⊥) → versions_from log v ≡ suc (commit_step log v)
unfolding versions_from
versions_from_other log v n = provided_false 0 (suc (commit_step log v)) (→isnt n)

-- two writers of one object
pub share : (log : List ℕ) (x a b : ℕ) → writer log x a ≡ true → writer log x b ≡ true → write_one_object log a b ≡ true
unfolding write_one_object writer writes
share log x a b p q =
    let r = some→ p in
    let e : obj log r.0 ≡ x = is→ (and→ r.2).1 in
    →some _ r.0 r.1 (→and (and→ r.2).0 (rw e q))

pub shared : (log : List ℕ) (a b : ℕ) → write_one_object log a b ≡ true → (x : ℕ) × (writer log x a ≡ true) × (writer log x b ≡ true)
unfolding write_one_object writer writes
shared log a b h =
    let r = some→ h in
    (obj log r.0, →some _ r.0 r.1 (→and (and→ r.2).0 (→is refl)), (and→ r.2).1)

-- step j commits a version of x after v's
unfoldable pub candidate : List ℕ → ℕ → ℕ → ℕ → Bool
candidate log x v j = versions_from log v upto j and commits_writer log x j

module _ {most : ℕ} (log : List ℕ) (well : Well most log) where
  pub commit_step_is : (t : ℕ) → committed log t ≡ true → (commit_step log t < steps log) × (commits log t (commit_step log t) ≡ true)
  unfolding committed commit_step
  commit_step_is t h = let r = lowest_is (commits log t) h in (r.0, r.1)

  pub commit_step_at : (t j : ℕ) → j < steps log → commits log t j ≡ true → commit_step log t ≡ j
  unfolding commit_step
  commit_step_at t j h c = lowest_at (commits log t) j h c (λ i k. to_false _ (λ q. well.once t i j k h q c))

  pub tx_at : (t : ℕ) → committed log t ≡ true → tx log (commit_step log t) ≡ t
  unfolding commits
  tx_at t h = is→ (and→ (commit_step_is t h).1).1

  pub committed_range : (t : ℕ) → committed log t ≡ true → (1 ≤ t) × (t ≤ most)
  committed_range t h = rw (tx_at t h) at (well.range (commit_step log t) (commit_step_is t h).0)

  pub not_zero : (t : ℕ) → committed log t ≡ true → t ≡ 0 → ⊥
  not_zero t c e = omega (arith, (committed_range t c).0)

  pub commit_injective : (a b : ℕ) → committed log a ≡ true → committed log b ≡ true → commit_step log a ≡ commit_step log b → a ≡ b
  commit_injective a b p q e = sym (tx_at a p) ∙ ap (tx log) e ∙ tx_at b q

  -- the next version after v's: it is later, and no other version lies between
  pub record Following (x v u : ℕ) : Type 0 where
    pub wrote : Wrote log x u
    pub later : versions_from log v ≤ commit_step log u
    pub least : (z : ℕ) → Wrote log x z → versions_from log v ≤ commit_step log z → commit_step log u ≤ commit_step log z

  is_candidate : (x v z : ℕ) → Wrote log x z → versions_from log v ≤ commit_step log z → candidate log x v (commit_step log z) ≡ true
  unfolding candidate commits_writer commits
  is_candidate x v z z_wrote h =
      →and (→upto h)
      (→and (and→ (commit_step_is z z_wrote.commit).1).0 (rw (tx_at z z_wrote.commit) z_wrote.write))

  following_at : (x v : ℕ) → some (steps log) (candidate log x v) ≡ true → Following x v (tx log (next_commit log x v))
  unfolding candidate commits_writer next_commit commits committed
  following_at x v h =
      let r = lowest_is (candidate log x v) h in
      let j : ℕ = lowest (steps log) (candidate log x v) in
      let c : commits log (tx log j) j ≡ true = →and (and→ (and→ r.1).1).0 (→is refl) in
      let e : commit_step log (tx log j) ≡ j = commit_step_at (tx log j) j r.0 c in
      record {
        wrote = record { commit = →some _ j r.0 c; write = (and→ (and→ r.1).1).1 };
        later = rw e (upto→ (and→ r.1).0);
        least = λ z z_wrote k. rw e (lowest_le (candidate log x v) (commit_step log z) (commit_step_is z z_wrote.commit).0 (is_candidate x v z z_wrote k));
      }

  pub next→ : (x v u : ℕ) → next_version log x v u ≡ true → Following x v u
  unfolding next_version next_commit candidate
  next→ x v u h =
      let r = and→ h in
      let s : some (steps log) (candidate log x v) ≡ true = to_true _ (λ k. let n : lowest (steps log) (candidate log x v) ≡ steps log = lowest_none (candidate log x v) k in omega (arith, below→ r.0)) in
      subst (Following x v) (is→ r.1) (following_at x v s)

  pub →next : (x v z : ℕ) → Wrote log x z → versions_from log v ≤ commit_step log z → (u : ℕ) × (next_version log x v u ≡ true) × Following x v u
  unfolding next_version next_commit candidate
  →next x v z z_wrote h =
      let s : some (steps log) (candidate log x v) ≡ true = →some _ (commit_step log z) (commit_step_is z z_wrote.commit).0 (is_candidate x v z z_wrote h) in
      (tx log (next_commit log x v), →and (→below (lowest_is (candidate log x v) s).0) (→is refl), following_at x v s)

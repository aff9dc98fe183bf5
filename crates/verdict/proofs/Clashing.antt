-- Clashing writers, by the marks of what each transaction writes, and by the last commit of a writer of each object.
use mathlib.Core.Path.{◌≡◌, sym, ap, ◌∙◌}
use mathlib.Core.Bool.{Bool, true, false}
use mathlib.Core.Logic.{◌⊎◌, inl, inr}
use mathlib.Core.List.{List}
use Prim.Native.Nat.{ℕ, ◌+◌, ◌≤◌, ◌<◌}
use native.Mathlib.Omega.{arith}
use lib.ListN.{get_or, replicate, get_or-replicate, length-replicate}
use Rattle.words.specs.Tests.{◌below◌, ◌and◌, some, lowest}
use Rattle.words.proofs.Truth.{decide, not_both, to_false, same_test, and→, →and, and_true, and_no_left, and_no_right, is→, →is, →isnt, →below, →not_below, below→, provided_true, provided_false, some→, →some, →none, some_skip, lowest_le, lowest_passes}
use Rattle.bits.specs.Table.{Puts}
use Rattle.bits.specs.Word.{marked}
use Rattle.bits.proofs.Marks.{no_mark}
use Rattle.verdict.specs.Limits.{transactions, objects}
use Rattle.verdict.specs.Log.{steps, kind, tx, begins, begun, begin_step, commits, committed, writer, commit_step, commits_writer}
use Rattle.verdict.specs.Refusal.{log_refusal}
use Rattle.verdict.specs.Answers.{Passed}
use Rattle.verdict.specs.Snapshot.{snapshot_step, overlap, clash}
use Rattle.verdict.specs.Inner.Clashes.{partner, LastCommits}
use Rattle.verdict.specs.Inner.Marks.{FirstSteps}
use Rattle.verdict.specs.Inner.WriteTable.{WriteTable}
use Rattle.verdict.proofs.WellFormed.{Well, well_formed, begun_before}
use Rattle.verdict.proofs.Versions.{commit_step_is, commit_step_at, tx_at}
use Rattle.verdict.proofs.SnapshotLaws.{shared_object, is_partner, not_partner, common_object, commit_at, overlapping}

-- A CLASH, by the marks
module _ (log : List ℕ) (j p : ℕ) {t : ℕ} (passed : log_refusal log ≡ Passed) (here : j < steps log) (k : kind log j ≡ 4) (committing : t ≡ tx log j) (t_in : t ≤ transactions) (p_in : p ≤ transactions) where
  well : Well transactions log
  well = well_formed log passed

  -- who committed before step j, where t commits, began before that too
  began : committed log p ≡ true → commit_step log p < j → begin_step log p < commit_step log t
  unfolding begin_step begun commits
  began q h =
      let c = commit_step_is log well p q in
      let b = begun_before log passed (commit_step log p) c.0 (λ e. omega (arith, is→ {m = kind log (commit_step log p)} {n = 4} (and→ c.1).0)) in
      let r = some→ (rw (tx_at log well p q) at b) in
      let l = lowest_le {n = steps log} (begins log p) r.0 (omega (arith, r.1, c.0)) r.2 in
      let e = commit_step_at log well t j here (→and (→is k) (→is (sym committing))) in
      omega (arith, l, r.1, e)

  -- p is no partner, and there are no marks; or p is one, and the marks are of what both write
  pub not_over : partner log j t p ≡ false → some objects (marked 0) ≡ clash log j p
  not_over q = →none _ (λ x _. no_mark x) ∙ sym (not_partner log j p committing q)

  pub over : (m : ℕ) {table first last : List ℕ} → WriteTable log table → FirstSteps log 1 first → FirstSteps log 4 last → get_or last p 0 < j → get_or first t 0 < get_or last p 0
      → ((x : ℕ) → marked m x ≡ (marked (get_or table t 0) x and marked (get_or table p 0) x)) → some objects (marked m) ≡ clash log j p
  unfolding committed commit_step
  over m {last} marks b c h l both = same_test found shared
    where
      e : get_or last p 0 ≡ lowest (steps log) (commits log p)
      e = commit_at log p p_in c

      q : committed log p ≡ true
      q = lowest_passes _ (omega (arith, e))

      found : some objects (marked m) ≡ true → clash log j p ≡ true
      found s =
          let r = some→ s in
          let a = and→ (sym (both r.0) ∙ r.2) in
          shared_object log j p committing r.0 k (overlapping log j t p b c t_in p_in h l q (began q (omega (arith, e)))) (sym (marks.mark t r.0 t_in r.1) ∙ a.0) (sym (marks.mark p r.0 p_in r.1) ∙ a.1)

      shared : clash log j p ≡ true → some objects (marked m) ≡ true
      shared s =
          let o = common_object log j p committing well s in
          →some _ o.0 o.1 (both o.0 ∙ →and (marks.mark t o.0 t_in o.1 ∙ o.2) (marks.mark p o.0 p_in o.1 ∙ o.3))

-- a partner of one who begins at b commits between b and step j, and is a writer of what it writes
partner_commits : {most b : ℕ} (log : List ℕ) → Well most log → (j t p x : ℕ) → b ≡ snapshot_step log t → partner log j t p ≡ true → writer log x p ≡ true
    → (commit_step log p < j) × (b < commit_step log p) × (commits_writer log x (commit_step log p) ≡ true)
unfolding partner overlap commits_writer commits
partner_commits log well j t p x e q w =
    let r = and→ q in
    let s = and→ r.0 in
    (below→ s.1, rw e (below→ (and→ r.1).0), →and (and→ (commit_step_is log well p s.0).1).0 (rw (tx_at log well p s.0) w))

-- THE LAST COMMITS
pub nobody_yet : (log : List ℕ) (m : ℕ) → m ≡ objects → LastCommits log 0 (replicate m 0)
unfolding some
nobody_yet log m e =
    let none : ℕ = 0 in
    record { size = length-replicate m none ∙ e; entry = λ (x : ℕ) (h : x < objects) (b : ℕ). let q : get_or (replicate m none) x none ≡ none = get_or-replicate m x none none (omega arith) in →not_below (omega arith) }

-- the last number below j + 1 that passes is j
last_is : (j b : ℕ) (p : ℕ → Bool) → p j ≡ true → (b below j) ≡ some (j + 1) (λ i. b below i and p i)
last_is j b p h = same_test (λ l. →some _ j (omega arith) (→and l h)) (λ s. let r = some→ s in →below (omega (arith, r.1, below→ (and→ r.2).0)))

module _ (log : List ℕ) (j : ℕ) {last : List ℕ} (known : LastCommits log j last) where
  pub other_step : (kind log j ≡ 4 → ⊥) → LastCommits log (j + 1) last
  unfolding commits_writer
  other_step n = record { size = known.size; entry = λ x h b. known.entry x h b ∙ sym (some_skip j (λ i. b below i and commits_writer log x i) (and_no_right _ (and_no_left _ (→isnt n)))) }

  -- step j commits t
  module _ {writes : List ℕ} {t : ℕ} (marks : WriteTable log writes) (committing : t ≡ tx log j) (t_in : t ≤ transactions) where
    pub commit_more : {next : List ℕ} {v : ℕ} → kind log j ≡ 4 → v ≡ j
        → Puts last (get_or writes t 0) v next → LastCommits log (j + 1) next
    commit_more {next} {v} k e put = record { size = put.size ∙ known.size; entry = λ x h b. go x h b (decide (marked (get_or writes t 0) x)) }
      where
        by_mark : (x : ℕ) → x < objects → commits_writer log x j ≡ marked (get_or writes t 0) x
        by_mark x h = unfold commits_writer in (and_true (→is k) ∙ ap (writer log x) (sym committing) ∙ sym (marks.mark t x t_in h))

        go : (x : ℕ) → x < objects → (b : ℕ) → (marked (get_or writes t 0) x ≡ true) ⊎ (marked (get_or writes t 0) x ≡ false)
            → (b below get_or next x 0) ≡ some (j + 1) (λ i. b below i and commits_writer log x i)
        go x h b (inl q) = ap (λ (z : ℕ). b below z) (put.each known.size x h ∙ provided_true _ _ q ∙ e) ∙ last_is j b (commits_writer log x) (by_mark x h ∙ q)
        go x h b (inr q) =
            ap (λ (z : ℕ). b below z) (put.each known.size x h ∙ provided_false _ _ q) ∙ known.entry x h b
            ∙ sym (some_skip j (λ i. b below i and commits_writer log x i) (and_no_right _ (by_mark x h ∙ q)))

    -- t has no partner where none of its objects was written by one who committed since it began
    pub none_since : {most b : ℕ} → Well most log → b ≡ snapshot_step log t → some objects (λ x. marked (get_or writes t 0) x and b below get_or last x 0) ≡ false → (p : ℕ) → clash log j p ≡ false
    none_since {b} well e none p = to_false _ (λ h. not_both (since h) none)
      where
        since : clash log j p ≡ true → some objects (λ x. marked (get_or writes t 0) x and b below get_or last x 0) ≡ true
        since h =
            let o = common_object log j p committing well h in
            let x : ℕ = o.0 in
            let c = partner_commits log well j t p x e (is_partner log j p committing h) o.3 in
            let l : some j (λ i. b below i and commits_writer log x i) ≡ true = →some _ (commit_step log p) c.0 (→and (→below c.1) c.2) in
            →some _ x o.1 (→and (marks.mark t x t_in o.1 ∙ o.2) (known.entry x o.1 b ∙ l))

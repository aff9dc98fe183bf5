-- There are no more committed transactions than commits in the log.
use mathlib.Core.Path.{◌≡◌, refl, sym, ap, subst}
use mathlib.Core.Bool.{true, false, false≢true}
use mathlib.Core.Logic.{inl, ⊎_elim}
use mathlib.Core.List.{List, [], ◌∷◌}
use Prim.Native.Nat.{ℕ, suc, ◌≤◌}
use native.Mathlib.Omega.{arith}
use lib.ListN.{length}
use Rattle.words.specs.Tests.{◌is◌, count}
use Rattle.words.specs.Lists.{member, distinct}
use Rattle.words.proofs.Truth.{not_both, to_false, and→, →and, →fails}
use Rattle.words.proofs.Places.{member→, member_head, member_tail, distinct→}
use Rattle.words.proofs.Search.{ascending, rising}
use Rattle.words.proofs.Pigeon.{pigeon, rising_distinct, ascending_rises, ascending_has, ascending_only, ascending_length}
use Rattle.verdict.specs.Limits.{transactions}
use Rattle.verdict.specs.Log.{steps, kind, commits, committed, commit_step, committed_count}
use Rattle.verdict.proofs.WellFormed.{Well}
use Rattle.verdict.proofs.Versions.{commit_step_is, commit_injective}

-- f of each member
each : (ℕ → ℕ) → List ℕ → List ℕ
each f [] = []
each f (a ∷ l) = f a ∷ each f l

each_length : (f : ℕ → ℕ) (l : List ℕ) → length (each f l) ≡ length l
unfolding each
each_length f [] = refl
each_length f (a ∷ l) = ap suc (each_length f l)

each→ : (f : ℕ → ℕ) (l : List ℕ) (b : ℕ) → member b (each f l) ≡ true → (a : ℕ) × (member a l ≡ true) × (b ≡ f a)
unfolding each
each→ f [] b m = absurd (false≢true (unfold member in m))
each→ f (a ∷ l) b m = ⊎_elim (λ (e : b ≡ f a). (a, member_head a l, e)) (λ k. let r = each→ f l b k in (r.0, member_tail r.0 a l r.1, r.2)) (member→ b (f a) (each f l) m)

-- where f tells the members apart, its values are all different
each_distinct : (f : ℕ → ℕ) (l : List ℕ) → distinct l ≡ true → ((a b : ℕ) → member a l ≡ true → member b l ≡ true → f a ≡ f b → a ≡ b) → distinct (each f l) ≡ true
unfolding each distinct
each_distinct f [] d g = refl
each_distinct f (a ∷ l) d g =
    let r = distinct→ a l d in
    →and (→fails (to_false _ (λ m. let q = each→ f l (f a) m in let e : a ≡ q.0 = g a q.0 (member_head a l) (member_tail q.0 a l q.1) q.2 in not_both q.1 (subst (λ (z : ℕ). member z l ≡ false) e r.0))))
    (each_distinct f l r.1 (λ b c p q e. g b c (member_tail b a l p) (member_tail c a l q) e))

pub committed_fit : (log : List ℕ) → Well transactions log → count (suc transactions) (committed log) ≤ committed_count log
unfolding committed_count commits
committed_fit log well =
    let a : length those ≡ count (suc transactions) (committed log) = let e = ascending_length (suc transactions) (committed log) [] in omega arith in
    let b : length steps_of ≡ count (steps log) (λ i. kind log i is 4) = let e = ascending_length (steps log) (λ i. kind log i is 4) [] in omega arith in
    let c : length (each (commit_step log) those) ≡ length those = each_length (commit_step log) those in
    let d : length (each (commit_step log) those) ≤ length steps_of = pigeon (each (commit_step log) those) steps_of
    (each_distinct (commit_step log) those (rising_distinct those (ascending_rises (suc transactions) (committed log) [] (unfold rising in refl) (λ t m. absurd (false≢true (unfold member in m))))) (λ t u p q e. commit_injective log well t u (is_one t p) (is_one u q) e)) into in
    omega arith
  where
    those : List ℕ
    those = ascending (suc transactions) (committed log) []

    steps_of : List ℕ
    steps_of = ascending (steps log) (λ i. kind log i is 4) []

    is_one : (t : ℕ) → member t those ≡ true → committed log t ≡ true
    is_one t m = ⊎_elim (λ k. k.1) (λ (k : member t [] ≡ true). absurd (false≢true (unfold member in k))) (ascending_only (suc transactions) (committed log) [] t m)

    into : (j : ℕ) → member j (each (commit_step log) those) ≡ true → member j steps_of ≡ true
    into j m =
        let r = each→ (commit_step log) those j m in
        let s = commit_step_is log well r.0 (is_one r.0 r.1) in
        subst (λ (z : ℕ). member z steps_of ≡ true) (sym r.2) (ascending_has (steps log) (λ i. kind log i is 4) [] (commit_step log r.0) (inl (s.0, (and→ s.1).0)))

-- Who has committed, one step later, and the edges read off what is seen: a step that is no commit changes none, and a commit none that does not touch its transaction.
use mathlib.Core.Path.{◌≡◌, refl, sym, ap, ◌∙◌}
use mathlib.Core.Bool.{Bool, true, false}
use mathlib.Core.Logic.{◌⊎◌, inl, inr, ⊎_elim}
use mathlib.Core.List.{List}
use Prim.Native.Nat.{ℕ}
use native.Mathlib.Omega.{arith}
use Rattle.words.specs.Tests.{◌is◌, ◌and◌, ◌or◌, fails, some}
use Rattle.words.proofs.Truth.{decide, not_both, →and, and_no_left, and_no_right, →or_right, or_no, →is, →isnt, some_same}
use Rattle.verdict.specs.Limits.{objects}
use Rattle.verdict.specs.Log.{steps, begun, committed, writer}
use Rattle.live.specs.Inner.Seen.{seen, reads_first, edge_from_seen, edge_to_replacer, seen_edge}
use Rattle.live.proofs.Grows.{Grows, committed_grows, writer_grows}
use Rattle.live.specs.Inner.Accepted.{Accepted}
use Rattle.live.proofs.Accepted.{Good, begun_committed, good_uncommitted}
use Rattle.live.proofs.StepFacts.{reads_first_grows, seen_same}

-- an edge from a to b on x
unfoldable pub edge_on : List ℕ → ℕ → ℕ → ℕ → Bool
edge_on log a b x = edge_from_seen log a b x or edge_to_replacer log a b x

pub seen_edge_is : (log : List ℕ) (a b : ℕ) → seen_edge log a b ≡ (committed log a and committed log b and fails (a is b) and some objects (edge_on log a b))
unfolding seen_edge edge_on
seen_edge_is log a b = refl

-- what edges are read off is the same for u
pub record Alike (log log' : List ℕ) (u : ℕ) : Type 0 where
  pub wrote : (x : ℕ) → writer log' x u ≡ writer log x u
  pub read : (x : ℕ) → reads_first log' x u ≡ reads_first log x u
  pub sees : (x : ℕ) → seen log' u x ≡ seen log u x

-- the same ones have committed, and so the edges between them are the same, where they are on each object
pub same_between : (log log' : List ℕ) (a b : ℕ) (on on' : ℕ → Bool) → committed log' a ≡ committed log a → committed log' b ≡ committed log b
    → (committed log a ≡ true → committed log b ≡ true → (x : ℕ) → on' x ≡ on x)
    → (committed log' a and committed log' b and fails (a is b) and some objects on') ≡ (committed log a and committed log b and fails (a is b) and some objects on)
same_between log log' a b on on' p q f = rw (p, q) (go (decide (committed log a)) (decide (committed log b)))
  where
    no : (committed log a and committed log b) ≡ false → (committed log a and committed log b and fails (a is b) and some objects on') ≡ (committed log a and committed log b and fails (a is b) and some objects on)
    no e = and_no_left _ (and_no_left _ e) ∙ sym (and_no_left _ (and_no_left _ e))

    go : (committed log a ≡ true) ⊎ (committed log a ≡ false) → (committed log b ≡ true) ⊎ (committed log b ≡ false)
        → (committed log a and committed log b and fails (a is b) and some objects on') ≡ (committed log a and committed log b and fails (a is b) and some objects on)
    go (inl c) (inl d) = ap (λ (e : Bool). committed log a and committed log b and fails (a is b) and e) (some_same objects on' on (λ x l. f c d x))
    go (inl c) (inr d) = no (and_no_right _ d)
    go (inr c) d = no (and_no_left _ c)

module _ {most k t x s : ℕ} {log log' : List ℕ} (ok : Accepted most log) (good : Good most log k t x) (g : Grows log k t x s log') where
  -- the step is of another, or a commit
  pub alike : (u : ℕ) → begun log (steps log) u ≡ true → (t ≡ u → ⊥) ⊎ (k ≡ 4) → Alike log log' u
  alike u b e =
      record {
        wrote = λ y. writer_grows g y u ∙ or_no _ (⊎_elim (λ d. and_no_left _ (and_no_right _ (→isnt d))) (λ (q : k ≡ 4). and_no_left _ (and_no_left _ (→isnt (λ (z : k ≡ 3). omega arith)))) e);
        read = λ y. reads_first_grows g y u ∙ or_no _ (⊎_elim (λ d. and_no_left _ (and_no_left _ (and_no_right _ (→isnt d)))) (λ (q : k ≡ 4). and_no_left _ (and_no_left _ (and_no_left _ (→isnt (λ (z : k ≡ 2). omega arith))))) e);
        sees = λ y. seen_same ok good g u y b;
      }

  pub committed_alike : (u : ℕ) → committed log u ≡ true → Alike log log' u
  committed_alike u c = alike u (begun_committed ok u c) (inl (λ (e : t ≡ u). not_both (rw e c) (good_uncommitted ok good)))

  pub committed_same : (k ≡ 4 → ⊥) → (u : ℕ) → committed log' u ≡ committed log u
  committed_same n u = committed_grows g u ∙ or_no _ (and_no_left _ (→isnt n))

  pub committed_other : (u : ℕ) → (t ≡ u → ⊥) → committed log' u ≡ committed log u
  committed_other u d = committed_grows g u ∙ or_no _ (and_no_right _ (→isnt d))

  pub committed_here : k ≡ 4 → committed log' t ≡ true
  committed_here commit = committed_grows g t ∙ →or_right _ (→and (→is commit) (→is refl))

  edge_between : (a b : ℕ) → committed log' a ≡ committed log a → committed log' b ≡ committed log b → seen_edge log' a b ≡ seen_edge log a b
  unfolding edge_on edge_from_seen edge_to_replacer
  edge_between a b m n =
      seen_edge_is log' a b
      ∙ same_between log log' a b (edge_on log a b) (edge_on log' a b) m n
      (λ c d y. let p = committed_alike a c in let q = committed_alike b d in rw (p.wrote y, p.read y, p.sees y, q.wrote y, q.read y, q.sees y) refl)
      ∙ sym (seen_edge_is log a b)

  -- A STEP THAT IS NO COMMIT, and edges that do not touch who commits
  pub edge_same : (k ≡ 4 → ⊥) → (a b : ℕ) → seen_edge log' a b ≡ seen_edge log a b
  edge_same n a b = edge_between a b (committed_same n a) (committed_same n b)

  pub edge_others : (a b : ℕ) → (t ≡ a → ⊥) → (t ≡ b → ⊥) → seen_edge log' a b ≡ seen_edge log a b
  edge_others a b p q = edge_between a b (committed_other a p) (committed_other b q)

-- The edges by begins and commits, one step later: a step that is no commit changes none, and a commit adds only those at its transaction.
use mathlib.Core.Path.{◌≡◌, refl, sym, ap₂, ◌∙◌}
use mathlib.Core.Bool.{Bool, true, false}
use mathlib.Core.Logic.{◌⊎◌, inl, inr, ⊎_elim}
use mathlib.Core.List.{List}
use Prim.Native.Nat.{ℕ, ◌<◌}
use native.Mathlib.Omega.{arith}
use Rattle.words.specs.Tests.{◌is◌, ◌below◌, ◌and◌, ◌or◌, fails, some}
use Rattle.words.proofs.Truth.{decide, same_test, and→, →and, and_true, and_no_left, and_no_right, or→, →or_left, →or_right, or_false, fails→, →fails, isnt→, →isnt, →below, →not_below, some_same}
use Rattle.verdict.specs.Limits.{objects}
use Rattle.verdict.specs.Log.{steps, begun, committed, writer, begin_step, commit_step}
use Rattle.live.specs.Inner.Accepted.{Accepted}
use Rattle.live.specs.Inner.Seen.{reads_first}
use Rattle.live.specs.Inner.Chain.{to_later, to_reader, to_unseen, chain_edge}
use Rattle.live.proofs.Grows.{Grows, begin_step_same, commit_step_same, commit_step_here}
use Rattle.live.proofs.Accepted.{Good, open→, commit_step_is, begins_first, begun_committed, good_uncommitted}
use Rattle.live.proofs.SeenGrows.{Alike, alike, committed_alike, same_between, committed_same, committed_other, committed_here}

-- on x, by the tests of chain_edge
unfoldable pub chain_on : List ℕ → ℕ → ℕ → ℕ → Bool
chain_on log a b x = to_later log a b x or to_reader log a b x or to_unseen log a b x

-- on x, to one that commits now, and from it
unfoldable pub into_on : List ℕ → ℕ → ℕ → ℕ → Bool
into_on log a t x = writer log x t and (writer log x a or reads_first log x a) or (reads_first log x t and writer log x a and commit_step log a below begin_step log t)

unfoldable pub out_on : List ℕ → ℕ → ℕ → ℕ → Bool
out_on log t b x = reads_first log x t and writer log x b and begin_step log t below commit_step log b

pub chain_edge_is : (log : List ℕ) (a b : ℕ) → chain_edge log a b ≡ (committed log a and committed log b and fails (a is b) and some objects (chain_on log a b))
unfolding chain_edge chain_on
chain_edge_is log a b = refl

-- the ends of an edge have committed, and are not the same
pub chain_ends : (log : List ℕ) (a b : ℕ) → chain_edge log a b ≡ true → (committed log a ≡ true) × (committed log b ≡ true) × (a ≡ b → ⊥)
chain_ends log a b h = let p = and→ (sym (chain_edge_is log a b) ∙ h) in let q = and→ p.0 in let c = and→ q.0 in (c.0, c.1, isnt→ (fails→ q.1))

-- the three kinds of edges to one that commits now
sorted : (wa ra wt rt e : Bool) → (wa and wt and true or wa and rt and e or ra and wt and true) ≡ (wt and (wa or ra) or (rt and wa and e))
sorted wa ra wt rt e = same_test forth back
  where
    forth : (wa and wt and true or wa and rt and e or ra and wt and true) ≡ true → (wt and (wa or ra) or (rt and wa and e)) ≡ true
    forth h =
        ⊎_elim (λ o. ⊎_elim (λ z. let m = and→ (and→ z).0 in →or_left _ (→and m.1 (→or_left _ m.0))) (λ z. let m = and→ z in let n = and→ m.0 in →or_right _ (→and (→and n.1 n.0) m.1)) (or→ o))
        (λ z. let m = and→ (and→ z).0 in →or_left _ (→and m.1 (→or_right _ m.0))) (or→ h)

    back : (wt and (wa or ra) or (rt and wa and e)) ≡ true → (wa and wt and true or wa and rt and e or ra and wt and true) ≡ true
    back h =
        ⊎_elim (λ z. let m = and→ z in ⊎_elim (λ w. →or_left _ (→or_left _ (→and (→and w m.0) refl))) (λ r. →or_right _ (→and (→and r m.0) refl)) (or→ m.1))
        (λ z. let m = and→ z in let n = and→ m.0 in →or_left _ (→or_right _ (→and (→and n.1 n.0) m.1))) (or→ h)

module _ {most k t x s : ℕ} {log log' : List ℕ} (ok : Accepted most log) (good : Good most log k t x) (g : Grows log k t x s log') where
  between : (a b : ℕ) → committed log' a ≡ committed log a → committed log' b ≡ committed log b → chain_edge log' a b ≡ chain_edge log a b
  unfolding chain_on to_later to_reader to_unseen
  between a b m n =
      chain_edge_is log' a b
      ∙ same_between log log' a b (chain_on log a b) (chain_on log' a b) m n
      (λ c d y. let p = committed_alike ok good g a c in let q = committed_alike ok good g b d in
      rw (p.wrote y, p.read y, q.wrote y, q.read y, commit_step_same g a c, commit_step_same g b d, begin_step_same g a (begun_committed ok a c), begin_step_same g b (begun_committed ok b d)) refl)
      ∙ sym (chain_edge_is log a b)

  pub chain_same : (k ≡ 4 → ⊥) → (a b : ℕ) → chain_edge log' a b ≡ chain_edge log a b
  chain_same n a b = between a b (committed_same ok good g n a) (committed_same ok good g n b)

  pub chain_others : (a b : ℕ) → (t ≡ a → ⊥) → (t ≡ b → ⊥) → chain_edge log' a b ≡ chain_edge log a b
  chain_others a b p q = between a b (committed_other ok good g a p) (committed_other ok good g b q)

  -- A COMMIT: it comes after all steps of before
  module _ (commit : k ≡ 4) where
    begun_here : begun log (steps log) t ≡ true
    begun_here = (open→ log t (good.alive (λ (q : k ≡ 1). omega arith))).0

    last : commit_step log' t ≡ steps log
    last = commit_step_here g commit (good_uncommitted ok good)

    here : Alike log log' t
    here = alike ok good g t begun_here (inr commit)

    -- the tests of an edge to t, and from t
    into_tests : (a y : ℕ) → committed log a ≡ true → chain_on log' a t y ≡ into_on log a t y
    unfolding chain_on to_later to_reader to_unseen into_on
    into_tests a y c =
        let e : commit_step log a < steps log = (commit_step_is ok a c).0 in
        let f : begin_step log a < commit_step log a = begins_first ok a c in
        let p : (commit_step log a below steps log) ≡ true = →below e in
        let q : (begin_step log a below steps log) ≡ true = →below (omega arith) in
        let m = committed_alike ok good g a c in
        rw (m.wrote y, here.wrote y, m.read y, here.read y, commit_step_same g a c, last, begin_step_same g a (begun_committed ok a c), begin_step_same g t begun_here, p, q)
        (sorted (writer log y a) (reads_first log y a) (writer log y t) (reads_first log y t) (commit_step log a below begin_step log t))

    out_tests : (b y : ℕ) → committed log b ≡ true → chain_on log' t b y ≡ out_on log t b y
    unfolding chain_on to_later to_reader to_unseen out_on
    out_tests b y c =
        let e : commit_step log b < steps log = (commit_step_is ok b c).0 in
        let f : begin_step log b < commit_step log b = begins_first ok b c in
        let p : (steps log below commit_step log b) ≡ false = →not_below (omega arith) in
        let q : (steps log below begin_step log b) ≡ false = →not_below (omega arith) in
        let m = committed_alike ok good g b c in
        rw (m.wrote y, here.wrote y, m.read y, here.read y, commit_step_same g b c, last, begin_step_same g b (begun_committed ok b c), begin_step_same g t begun_here, p, q)
        (ap₂ (λ (m n : Bool). m or n or reads_first log y t and writer log y b and begin_step log t below commit_step log b) (and_no_right _ refl) (and_no_right _ refl) ∙ or_false (or_false refl))

    pub chain_into : (a : ℕ) → (t ≡ a → ⊥) → chain_edge log' a t ≡ (committed log a and some objects (into_on log a t))
    chain_into a d = chain_edge_is log' a t ∙ rw (committed_other ok good g a d, committed_here ok good g commit) (go (decide (committed log a)))
      where
        go : (committed log a ≡ true) ⊎ (committed log a ≡ false) → (committed log a and true and fails (a is t) and some objects (chain_on log' a t)) ≡ (committed log a and some objects (into_on log a t))
        go (inl c) = and_true (→and (→and c refl) (→fails (→isnt (λ e. d (sym e))))) ∙ some_same objects (chain_on log' a t) (into_on log a t) (λ y l. into_tests a y c) ∙ sym (and_true c)
        go (inr c) = and_no_left _ (and_no_left _ (and_no_left _ c)) ∙ sym (and_no_left _ c)

    pub chain_out : (b : ℕ) → (t ≡ b → ⊥) → chain_edge log' t b ≡ (committed log b and some objects (out_on log t b))
    chain_out b d = chain_edge_is log' t b ∙ rw (committed_other ok good g b d, committed_here ok good g commit) (go (decide (committed log b)))
      where
        go : (committed log b ≡ true) ⊎ (committed log b ≡ false) → (true and committed log b and fails (t is b) and some objects (chain_on log' t b)) ≡ (committed log b and some objects (out_on log t b))
        go (inl c) = and_true (→and (→and refl c) (→fails (→isnt d))) ∙ some_same objects (chain_on log' t b) (out_on log t b) (λ y l. out_tests b y c) ∙ sym (and_true c)
        go (inr c) = and_no_left _ (and_no_left _ (and_no_right _ c)) ∙ sym (and_no_left _ c)

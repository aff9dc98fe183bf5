-- Who has a place, one step later, and after one more was forgotten.
use mathlib.Core.Path.{◌≡◌, refl, sym, ap, subst, ◌∙◌}
use mathlib.Core.Bool.{Bool, true, false}
use mathlib.Core.Logic.{◌⊎◌, inl, inr, ⊎_elim}
use mathlib.Core.List.{List}
use Prim.Native.Nat.{ℕ, ◌≤◌}
use native.Mathlib.Omega.{arith}
use Rattle.words.specs.Tests.{◌is◌, ◌and◌, ◌or◌, fails}
use Rattle.words.proofs.Truth.{decide, not_both, and→, →and, or→, →or_left, →or_right, fails→, →fails, is→, isnt→, →isnt}
use Rattle.verdict.specs.Log.{committed}
use Rattle.live.specs.SoFar.{numbers, is_open}
use Rattle.live.specs.Breach.{breached}
use Rattle.live.specs.Forgotten.{may_go, one_gone}
use Rattle.live.specs.Kept.{places}
use Rattle.live.specs.Inner.Accepted.{Accepted}
use Rattle.live.specs.Inner.Table.{Table, name_at}
use Rattle.live.specs.Inner.Held.{Place, Held, Keeping}
use Rattle.live.proofs.Grows.{Grows}
use Rattle.live.proofs.Accepted.{Good, open→, committed_range, open_uncommitted, good_uncommitted}
use Rattle.live.proofs.StepFacts.{open_other, open_new, open_inside, open_ended}
use Rattle.live.proofs.Shut.{begun_range}
use Rattle.live.proofs.Forgetting.{forgets_committed}
use Rattle.live.proofs.ForgetGrows.{forgets_grows, forgets_commit}

-- one that has a place has a number
module _ {log : List ℕ} {top count : ℕ} {b : Table} {keeps : ℕ → Bool} (h : Held log top count b) (m : Keeping log b keeps) where
  pub has_number : (v : ℕ) → (is_open log v or keeps v) ≡ true → 1 ≤ v
  has_number v e = ⊎_elim (λ z. (begun_range h.accepted v (open→ log v z).0).0) (λ z. (committed_range h.accepted v (forgets_committed m.forgot v z)).0) (or→ e)

  -- ONE MORE IS FORGOTTEN: the one at place p, which is given back
  module _ {p : ℕ} (f : ℕ) (u : Place places p) (is_f : name_at b.rows p ≡ f) (kept : keeps f ≡ true) (free : may_go numbers log keeps f ≡ true) where
    pub keeping_forgot : {b' : Table} → name_at b'.rows p ≡ 0 → ((q : ℕ) → (q ≡ p → ⊥) → name_at b'.rows q ≡ name_at b.rows q) → Keeping log b' (λ v. keeps v and fails (v is f))
    keeping_forgot {b'} gone others = record { forgot = one_gone f m.forgot free (λ v. refl); placed = placed; only = only }
      where
        done : committed log f ≡ true
        done = forgets_committed m.forgot f kept

        placed : (v : ℕ) → (is_open log v or (keeps v and fails (v is f))) ≡ true → (q : ℕ) × Place places q × (name_at b'.rows q ≡ v)
        placed v e = (r.0, r.1, others r.0 away ∙ r.2)
          where
            another : v ≡ f → ⊥
            another z = ⊎_elim (λ o. not_both done (subst (λ (w : ℕ). committed log w ≡ false) z (open_uncommitted h.accepted v o))) (λ k. isnt→ (fails→ (and→ k).1) z) (or→ e)

            r : (q : ℕ) × Place places q × (name_at b.rows q ≡ v)
            r = m.placed v (⊎_elim (λ o. →or_left _ o) (λ k. →or_right _ (and→ k).0) (or→ e))

            away : r.0 ≡ p → ⊥
            away z = another (sym r.2 ∙ ap (name_at b.rows) z ∙ is_f)

        only : (q : ℕ) → Place places q → 1 ≤ name_at b'.rows q → (is_open log (name_at b'.rows q) or (keeps (name_at b'.rows q) and fails (name_at b'.rows q is f))) ≡ true
        only q v n = rw (others q away) (⊎_elim (λ o. →or_left _ o) (λ k. →or_right _ (→and k (→fails (→isnt another)))) (or→ (m.only q v low)))
          where
            away : q ≡ p → ⊥
            away z = let y : name_at b'.rows q ≡ 0 = ap (name_at b'.rows) z ∙ gone in omega arith

            low : 1 ≤ name_at b.rows q
            low = subst (λ (z : ℕ). 1 ≤ z) (others q away) n

            another : name_at b.rows q ≡ f → ⊥
            another z = away (h.once q p v u low (z ∙ sym is_f))

-- ONE STEP MORE
module _ {log log' : List ℕ} {top count k t x s : ℕ} {b : Table} {keeps : ℕ → Bool} (h : Held log top count b) (m : Keeping log b keeps)
    (good : Good numbers log k t x) (g : Grows log k t x s log') (ok' : Accepted numbers log') (fine' : breached numbers log' ≡ false) where
  -- another transaction has its place as before
  unkept : keeps t ≡ true → ⊥
  unkept z = not_both (forgets_committed m.forgot t z) (good_uncommitted h.accepted good)

  before : (v : ℕ) → (t ≡ v → ⊥) → (is_open log' v or keeps v) ≡ (is_open log v or keeps v)
  before v d = ap (λ (z : Bool). z or keeps v) (open_other g v d)

  -- a begin: t has place p
  pub keeping_begin : {b' : Table} → k ≡ 1 → {p : ℕ} → Place places p → name_at b.rows p ≡ 0 → name_at b'.rows p ≡ t → ((q : ℕ) → Place places q → (q ≡ p → ⊥) → name_at b'.rows q ≡ name_at b.rows q)
      → ((q : ℕ) → Place places q → t ≡ name_at b.rows q → ⊥) → Keeping log' b' keeps
  keeping_begin {b'} begin {p} u free here others new = record { forgot = forgets_grows h.accepted good g ok' h.fine fine' (λ (e : k ≡ 4). omega arith) m.forgot; placed = placed; only = only }
    where
      placed : (v : ℕ) → (is_open log' v or keeps v) ≡ true → (q : ℕ) × Place places q × (name_at b'.rows q ≡ v)
      placed v e = go (decide (t is v))
        where
          go : ((t is v) ≡ true) ⊎ ((t is v) ≡ false) → (q : ℕ) × Place places q × (name_at b'.rows q ≡ v)
          go (inl z) = (p, u, here ∙ is→ z)
          go (inr z) =
              let o : (is_open log v or keeps v) ≡ true = sym (before v (isnt→ z)) ∙ e in
              let r = m.placed v o in
              (r.0, r.1, others r.0 r.1 (λ (y : r.0 ≡ p). let w : v ≡ 0 = sym r.2 ∙ ap (name_at b.rows) y ∙ free in let l = has_number h m v o in omega arith) ∙ r.2)

      only : (q : ℕ) → Place places q → 1 ≤ name_at b'.rows q → (is_open log' (name_at b'.rows q) or keeps (name_at b'.rows q)) ≡ true
      only q v n = go (decide (q is p))
        where
          go : ((q is p) ≡ true) ⊎ ((q is p) ≡ false) → (is_open log' (name_at b'.rows q) or keeps (name_at b'.rows q)) ≡ true
          go (inl z) = let y : q ≡ p = is→ z in →or_left _ (rw (ap (name_at b'.rows) y ∙ here) (open_new h.accepted good g begin))
          go (inr z) = let d : q ≡ p → ⊥ = isnt→ z in rw (others q v d) (before (name_at b.rows q) (new q v) ∙ m.only q v (subst (λ (i : ℕ). 1 ≤ i) (others q v d) n))

  -- a read or a write
  pub keeping_inside : {b' : Table} → (k ≡ 1 → ⊥) → (k ≡ 4 → ⊥) → (k ≡ 5 → ⊥) → ((q : ℕ) → Place places q → name_at b'.rows q ≡ name_at b.rows q) → Keeping log' b' keeps
  keeping_inside i j l names =
      record {
        forgot = forgets_grows h.accepted good g ok' h.fine fine' j m.forgot;
        placed = λ v e. let r = m.placed v (sym (ap (λ (z : Bool). z or keeps v) (open_inside h.accepted good g i j l v)) ∙ e) in (r.0, r.1, names r.0 r.1 ∙ r.2);
        only = λ q v n. rw (names q v) (ap (λ (z : Bool). z or keeps (name_at b.rows q)) (open_inside h.accepted good g i j l (name_at b.rows q)) ∙ m.only q v (subst (λ (z : ℕ). 1 ≤ z) (names q v) n));
      }

  module _ {p : ℕ} (u : Place places p) (is_t : name_at b.rows p ≡ t) where
    alone : (q : ℕ) → Place places q → (q ≡ p → ⊥) → t ≡ name_at b.rows q → ⊥
    alone q v d e = d (sym (h.once p q u v (subst (λ (z : ℕ). 1 ≤ z) (sym is_t) good.in_range.0) (is_t ∙ e)))

    -- an abort: the place of t is given back
    pub keeping_abort : {b' : Table} → k ≡ 5 → name_at b'.rows p ≡ 0 → ((q : ℕ) → (q ≡ p → ⊥) → name_at b'.rows q ≡ name_at b.rows q) → Keeping log' b' keeps
    keeping_abort {b'} abort gone others = record { forgot = forgets_grows h.accepted good g ok' h.fine fine' (λ (e : k ≡ 4). omega arith) m.forgot; placed = placed; only = only }
      where
        placed : (v : ℕ) → (is_open log' v or keeps v) ≡ true → (q : ℕ) × Place places q × (name_at b'.rows q ≡ v)
        placed v e = (r.0, r.1, others r.0 (λ (z : r.0 ≡ p). another (sym is_t ∙ ap (name_at b.rows) (sym z) ∙ r.2)) ∙ r.2)
          where
            another : t ≡ v → ⊥
            another z = ⊎_elim (λ o. not_both (subst (λ (w : ℕ). is_open log' w ≡ true) (sym z) o) (open_ended h.accepted good g (inr abort))) (λ o. unkept (subst (λ (w : ℕ). keeps w ≡ true) (sym z) o)) (or→ e)

            r : (q : ℕ) × Place places q × (name_at b.rows q ≡ v)
            r = m.placed v (sym (before v another) ∙ e)

        only : (q : ℕ) → Place places q → 1 ≤ name_at b'.rows q → (is_open log' (name_at b'.rows q) or keeps (name_at b'.rows q)) ≡ true
        only q v n = rw (others q away) (before (name_at b.rows q) (alone q v away) ∙ m.only q v (subst (λ (z : ℕ). 1 ≤ z) (others q away) n))
          where
            away : q ≡ p → ⊥
            away z = let y : name_at b'.rows q ≡ 0 = ap (name_at b'.rows) z ∙ gone in omega arith

    -- a commit: t is kept at first
    pub keeping_commit : {b' : Table} → k ≡ 4 → ((q : ℕ) → Place places q → name_at b'.rows q ≡ name_at b.rows q) → Keeping log' b' (λ v. keeps v or t is v)
    keeping_commit {b'} commit names = record { forgot = forgets_commit h.accepted good g ok' h.fine fine' commit m.forgot; placed = placed; only = only }
      where
        placed : (v : ℕ) → (is_open log' v or (keeps v or t is v)) ≡ true → (q : ℕ) × Place places q × (name_at b'.rows q ≡ v)
        placed v e = go (decide (t is v))
          where
            go : ((t is v) ≡ true) ⊎ ((t is v) ≡ false) → (q : ℕ) × Place places q × (name_at b'.rows q ≡ v)
            go (inl z) = (p, u, names p u ∙ is_t ∙ is→ z)
            go (inr z) =
                let o : (is_open log v or keeps v) ≡ true = ⊎_elim (λ a. →or_left _ (sym (open_other g v (isnt→ z)) ∙ a)) (λ a. ⊎_elim (λ y. →or_right _ y) (λ y. absurd (not_both y z)) (or→ a)) (or→ e) in
                let r = m.placed v o in
                (r.0, r.1, names r.0 r.1 ∙ r.2)

        only : (q : ℕ) → Place places q → 1 ≤ name_at b'.rows q → (is_open log' (name_at b'.rows q) or (keeps (name_at b'.rows q) or t is name_at b'.rows q)) ≡ true
        only q v n = rw (names q v) (go (decide (t is name_at b.rows q)))
          where
            go : ((t is name_at b.rows q) ≡ true) ⊎ ((t is name_at b.rows q) ≡ false) → (is_open log' (name_at b.rows q) or (keeps (name_at b.rows q) or t is name_at b.rows q)) ≡ true
            go (inl z) = →or_right _ (→or_right _ z)
            go (inr z) = ⊎_elim (λ o. →or_left _ (open_other g _ (isnt→ z) ∙ o)) (λ o. →or_right _ (→or_left _ o)) (or→ (m.only q v (subst (λ (i : ℕ). 1 ≤ i) (names q v) n)))

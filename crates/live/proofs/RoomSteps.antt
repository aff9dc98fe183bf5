-- What the functions that forget do, turn by turn.
use mathlib.Core.Path.{◌≡◌, refl, sym, ap, subst, ◌∙◌}
use mathlib.Core.Bool.{Bool, true, false}
use mathlib.Core.Logic.{◌⊎◌, inl, inr, ⊎_elim}
use mathlib.Core.List.{List}
use Prim.Native.Nat.{ℕ, suc, ◌+◌, ◌-◌, ◌≤◌, ◌<◌}
use native.Mathlib.Omega.{arith}
use lib.ListN.{length, get_or, set, length-set}
use Rattle.words.specs.Tests.{◌is◌, ◌below◌, ◌upto◌, ◌and◌, fails, provided◌then◌else◌, some}
use Rattle.words.proofs.Truth.{decide, not_both, to_false, same_test, and→, →and, and_no_left, and_no_right, fails→, →fails, →not_fails, is→, →is, isnt→, →isnt, below→, →below, not_below→, upto→, →upto, →not_upto, provided_true, provided_false, some_same}
use Rattle.graph.specs.Matrix.{takes_part, in_row, Drops}
use Rattle.graph.proofs.RowLaws.{no_row}
use Rattle.live.specs.Inner.Table.{status_at, until_at, open_at}
use Rattle.live.specs.Inner.Held.{Place}
use Rattle.live.specs.Inner.Forgetting.{LeastOpen, still_overlapped, can_go, Leaves, Holder, LowUntil, Watched}
use Rattle.live.proofs.Cells.{stored_same, stored_other}
use Rattle.live.proofs.PlaceLaws.{one_up}

-- THE LOWEST NUMBER OPEN
pub open_next : (opened : List ℕ) (i : ℕ) → get_or opened i 0 ≡ open_at opened (suc i)
unfolding open_at
open_next opened i = ap (λ (j : ℕ). get_or opened j 0) (omega arith)

pub least_none : (opened : List ℕ) → LeastOpen opened 0 0
least_none opened = record { least = λ p u l. absurd (omega (arith, u.0, u.1)); there = λ l. absurd (omega arith) }

-- one place more, where b is the number open at it
pub least_more : {opened : List ℕ} {i a b r : ℕ} → LeastOpen opened i a → b ≡ open_at opened (suc i) → r ≡ (provided b is 0 then a else provided a is 0 then b else provided b below a then b else a) → LeastOpen opened (i + 1) r
least_more {opened} {i} {a} {b} {r} o here e = record { least = least; there = there }
  where
    -- r is a or b, and at most either that is there
    bound : ((r ≡ a) ⊎ ((r ≡ b) × (1 ≤ b))) × (1 ≤ a → (1 ≤ r) × (r ≤ a)) × (1 ≤ b → (1 ≤ r) × (r ≤ b))
    bound = go (decide (b is 0)) (decide (a is 0)) (decide (b below a))
      where
        go : ((b is 0) ≡ true) ⊎ ((b is 0) ≡ false) → ((a is 0) ≡ true) ⊎ ((a is 0) ≡ false) → ((b below a) ≡ true) ⊎ ((b below a) ≡ false) → ((r ≡ a) ⊎ ((r ≡ b) × (1 ≤ b))) × (1 ≤ a → (1 ≤ r) × (r ≤ a)) × (1 ≤ b → (1 ≤ r) × (r ≤ b))
        go (inl x) y z = let f : r ≡ a = e ∙ provided_true _ _ x in let g : b ≡ 0 = is→ x in (inl f, λ l. (omega arith, omega arith), λ l. absurd (omega arith))
        go (inr x) (inl y) z = let f : r ≡ b = e ∙ provided_false _ _ x ∙ provided_true _ _ y in let g : a ≡ 0 = is→ y in let k = one_up (isnt→ x) in (inr (f, k), λ l. absurd (omega arith), λ l. (omega arith, omega arith))
        go (inr x) (inr y) (inl z) =
            let f : r ≡ b = e ∙ provided_false _ _ x ∙ provided_false _ _ y ∙ provided_true _ _ z in
            let g = below→ z in
            let k = one_up (isnt→ x) in
            (inr (f, k), λ l. (omega arith, omega arith), λ l. (omega arith, omega arith))
        go (inr x) (inr y) (inr z) =
            let f : r ≡ a = e ∙ provided_false _ _ x ∙ provided_false _ _ y ∙ provided_false _ _ z in
            let g = not_below→ z in
            let k = one_up (isnt→ y) in
            (inl f, λ l. (omega arith, omega arith), λ l. (omega arith, omega arith))

    which : (p : ℕ) → Place (i + 1) p → Place i p ⊎ (p ≡ suc i)
    which p u = ⊎_elim (λ (z : (p is suc i) ≡ true). inr (is→ z)) (λ (z : (p is suc i) ≡ false). let d : p ≡ suc i → ⊥ = isnt→ z in inl (u.0, omega (arith, u.1))) (decide (p is suc i))

    least : (p : ℕ) → Place (i + 1) p → 1 ≤ open_at opened p → (1 ≤ r) × (r ≤ open_at opened p)
    least p u l =
        ⊎_elim (λ v. let f = o.least p v l in let g = bound.1 f.0 in (g.0, omega (arith, g.1, f.1)))
        (λ (z : p ≡ suc i). let f : open_at opened p ≡ b = ap (open_at opened) z ∙ sym here in let g = bound.2 (omega arith) in (g.0, omega (arith, g.1))) (which p u)

    there : 1 ≤ r → (p : ℕ) × Place (i + 1) p × (open_at opened p ≡ r)
    there l =
        ⊎_elim (λ (f : r ≡ a). let g = o.there (omega arith) in (g.0, (g.1.0, omega (arith, g.1.1)), g.2 ∙ sym f))
        (λ f. (suc i, (omega arith, omega arith), sym here ∙ sym f.0)) bound.0

pub least_all : {opened : List ℕ} {i r : ℕ} (n : ℕ) → i ≡ n → LeastOpen opened i r → LeastOpen opened n r
least_all {opened} {r = r} n e o = subst (λ (m : ℕ). LeastOpen opened m r) e o

-- WHETHER A PLACE CAN GO
module _ (rows : List ℕ) (least p : ℕ) where
  pub nobody_open : least ≡ 0 → false ≡ still_overlapped rows least p
  unfolding still_overlapped
  nobody_open e = sym (and_no_left _ (→not_upto (omega arith)))

  pub somebody_open : (least ≡ 0 → ⊥) → {r : Bool} {u : ℕ} → u ≡ until_at rows p → r ≡ (least upto u) → r ≡ still_overlapped rows least p
  unfolding still_overlapped
  somebody_open d {r} e f = f ∙ ap (λ (z : ℕ). least upto z) e ∙ same_test (λ z. →and (→upto (one_up d)) z) (λ z. (and→ z).1)

  module _ (edges : List ℕ) where
    pub not_done : (status_at rows p ≡ 2 → ⊥) → false ≡ can_go rows edges least p
    unfolding can_go
    not_done d = sym (and_no_left _ (and_no_left _ (→isnt d)))

    pub held_open : true ≡ still_overlapped rows least p → false ≡ can_go rows edges least p
    unfolding can_go
    held_open e = sym (and_no_left _ (and_no_right _ (→not_fails (sym e))))

    module _ (row : List ℕ) (is_row : (a : ℕ) → takes_part 128 row a ≡ in_row edges p a) where
      row_any : some 129 (takes_part 128 row) ≡ some 129 (in_row edges p)
      row_any = some_same 129 _ _ (λ a l. is_row a)

      pub held_edge : true ≡ some 129 (takes_part 128 row) → false ≡ can_go rows edges least p
      unfolding can_go
      held_edge e = sym (and_no_right _ (→not_fails (sym row_any ∙ sym e)))

      pub goes_free : status_at rows p ≡ 2 → false ≡ still_overlapped rows least p → false ≡ some 129 (takes_part 128 row) → true ≡ can_go rows edges least p
      unfolding can_go
      goes_free d o e = sym (→and (→and (→is d) (→fails (sym o))) (→fails (sym row_any ∙ sym e)))

-- SOMEBODY HOLDS ALL THAT ARE KEPT
pub holder_there : (opened rows : List ℕ) {n w u : ℕ} → 1 ≤ w → w ≤ n → (get_or opened (w - 1) 0 ≡ 0 → ⊥) → u ≡ until_at rows 0 → Holder opened rows n (get_or opened (w - 1) 0 upto u)
unfolding open_at
holder_there opened rows {n} {w} {u} low high d e f = let l : get_or opened (w - 1) 0 ≤ u = upto→ f in (w, (low, high), one_up d, omega arith)

-- what row 0 is given
pub watched : (rows : List ℕ) (n w bar : ℕ) → length rows ≡ 8643 → LowUntil rows n bar → Watched rows n (set (set rows 0 w) 66 bar)
watched rows n w bar size low =
    record {
      size = length-set (set rows 0 w) 66 bar ∙ length-set rows 0 w;
      others = λ q c l d e. stored_other (set rows 0 w) 0 66 66 bar q c (omega arith) (omega arith) l e ∙ stored_other rows 0 0 0 w q c (omega arith) (omega arith) l d;
      low = λ p u e. subst (λ (i : ℕ). i ≤ until_at rows p) (sym here) (low p u e);
    }
  where
    here : until_at (set (set rows 0 w) 66 bar) 0 ≡ bar
    here = unfold until_at in (stored_same (set rows 0 w) 0 66 66 bar (omega arith) (let z : length (set rows 0 w) ≡ length rows = length-set rows 0 w in omega arith))

pub low_more : (rows : List ℕ) (p : ℕ) {low r : ℕ} → (r ≤ low) × (status_at rows p ≡ 2 → r ≤ until_at rows p) → ((q : ℕ) → 1 ≤ q → q < p → status_at rows q ≡ 2 → low ≤ until_at rows q) → (q : ℕ) → 1 ≤ q → q < p + 1 → status_at rows q ≡ 2 → r ≤ until_at rows q
low_more rows p {low} {r} c f q l k e = go (decide (q is p))
  where
    go : ((q is p) ≡ true) ⊎ ((q is p) ≡ false) → r ≤ until_at rows q
    go (inl z) = let y : q ≡ p = is→ z in subst (λ (i : ℕ). r ≤ until_at rows i) (sym y) (c.1 (ap (status_at rows) (sym y) ∙ e))
    go (inr z) = let d : q ≡ p → ⊥ = isnt→ z in let m = f q l (omega arith) e in omega (arith, c.0)

-- A PLACE IS TAKEN OUT OF THE ROWS
pub leaves_none : (edges : List ℕ) (p : ℕ) → Leaves edges p 1 edges
leaves_none edges p = record { size = refl; each = λ c a. same_test (λ h. →and h (→fails (to_false _ (λ z. not_both h (zero_row c (below→ (and→ z).1) a))))) (λ h. (and→ h).0) }
  where
    zero_row : (c : ℕ) → c < 1 → (a : ℕ) → in_row edges c a ≡ false
    zero_row c l a = no_row edges c (λ (k : 1 ≤ c) _. omega arith) a

pub leaves_all : {edges next : List ℕ} {p q : ℕ} (n : ℕ) → q ≡ n + 1 → Leaves edges p q next → Leaves edges p (suc n) next
leaves_all {edges} {next} {p} {q} n e l = subst (λ (m : ℕ). Leaves edges p m next) (let z : q ≡ suc n = omega arith in z) l

pub leaves_more : {edges next next' : List ℕ} {p q : ℕ} → Leaves edges p q next → Drops next p q next' → Leaves edges p (q + 1) next'
leaves_more {edges} {next} {next'} {p} {q} l o = record { size = o.size ∙ l.size; each = each }
  where
    each : (c a : ℕ) → in_row next' c a ≡ (in_row edges c a and fails (a is p and c below (q + 1)))
    each c a = o.each c a ∙ ap (λ (z : Bool). z and fails (c is q and a is p)) (l.each c a) ∙ same_test forth back
      where
        forth : (in_row edges c a and fails (a is p and c below q) and fails (c is q and a is p)) ≡ true → (in_row edges c a and fails (a is p and c below (q + 1))) ≡ true
        forth h =
            let x = and→ h in
            let y = and→ x.0 in
            →and y.0 (→fails (to_false _ (λ z. let w = and→ z in let k = below→ w.1 in ⊎_elim (λ (v : (c is q) ≡ true). not_both (→and v w.0) (fails→ x.1)) (λ (v : (c is q) ≡ false). let d : c ≡ q → ⊥ = isnt→ v in not_both (→and w.0 (→below (omega arith))) (fails→ y.1)) (decide (c is q)))))

        back : (in_row edges c a and fails (a is p and c below (q + 1))) ≡ true → (in_row edges c a and fails (a is p and c below q) and fails (c is q and a is p)) ≡ true
        back h =
            let x = and→ h in
            let n = fails→ x.1 in
            →and (→and x.0 (→fails (to_false _ (λ z. let w = and→ z in let k = below→ w.1 in not_both (→and w.0 (→below (omega arith))) n))))
            (→fails (to_false _ (λ z. let w = and→ z in let k : c ≡ q = is→ w.0 in not_both (→and w.1 (→below (omega arith))) n)))

-- Numbers stored one behind another.
use mathlib.Core.Path.{◌≡◌, ap, ◌∙◌}
use mathlib.Core.List.{List, [], ◌∷◌, ◌++◌}
use Prim.Native.Nat.{ℕ, suc, ◌+◌, ◌≤◌}
use native.Mathlib.Omega.{arith}
use lib.ListN.{length, take, drop, set, length-append}
use lib.Seq.{length-take-le, take_at, sets-eq}

-- four numbers stored one after another stand behind what stood before them
pub four_stored : (l : List ℕ) (a k t x s : ℕ) → a + 4 ≤ length l
    → take (a + 4) (set (set (set (set l a k) (a + 1) t) (a + 2) x) (a + 3) s) ≡ take a l ++ k ∷ t ∷ x ∷ s ∷ []
four_stored l a k t x s h =
    let p : a + 1 ≡ suc a = omega arith in
    let q : a + 2 ≡ suc (suc a) = omega arith in
    let r : a + 3 ≡ suc (suc (suc a)) = omega arith in
    let w = k ∷ t ∷ x ∷ s ∷ [] in
    let n : length (take a l ++ w) ≡ a + 4 = length-append (take a l) w ∙ ap (λ (m : ℕ). m + 4) (length-take-le a l (omega arith)) in
    let e : set (set (set (set l a k) (a + 1) t) (a + 2) x) (a + 3) s ≡ take a l ++ w ++ drop (a + 4) l = rw (p, q, r) (sets-eq w l a h) in
    ap (take (a + 4)) e ∙ take_at (take a l ++ w) (drop (a + 4) l) (a + 4) n

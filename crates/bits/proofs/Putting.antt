-- A table with one value put in at each mark, the lowest first.
use mathlib.Core.Path.{◌≡◌, refl, sym, ◌∙◌}
use mathlib.Core.Bool.{true, false}
use mathlib.Core.Logic.{◌⊎◌, inl, inr}
use mathlib.Core.List.{List}
use Prim.Native.Nat.{ℕ, ◌<◌}
use native.Mathlib.Omega.{arith}
use lib.ListN.{length, get_or, set, length-set}
use lib.Seq.{get_or-set_same, get_or-set_other}
use Rattle.words.specs.Tests.{◌is◌, provided◌then◌else◌, some}
use Rattle.words.proofs.Truth.{decide, is→, isnt→, provided_true, provided_false, none→}
use Rattle.bits.specs.Word.{marked, less}
use Rattle.bits.specs.Table.{Puts}
use Rattle.bits.specs.Walk.{Turn}
use Rattle.bits.proofs.Walks.{turned, unturned}

-- with v put in at each mark that is left, `next` is the table with v put in at each mark
pub record MarksPut (table : List ℕ) (marks v left : ℕ) (next : List ℕ) : Type 0 where
  pub size : length next ≡ length table
  pub entry : length table ≡ 64 → (x : ℕ) → x < 64 → (provided marked left x then v else get_or next x 0) ≡ (provided marked marks x then v else get_or table x 0)

-- all marks are left
pub put_first : (table : List ℕ) (marks v : ℕ) → MarksPut table marks v marks table
put_first table marks v = record { size = refl; entry = λ e x h. refl }

module _ {table : List ℕ} {marks v left : ℕ} {next : List ℕ} (put : MarksPut table marks v left next) where
  -- v is put in at one of them, which is left no more
  pub put_next_mark : (y : ℕ) → y < 64 → marked left y ≡ true → MarksPut table marks v (less left y) (set next y v)
  put_next_mark y l m = record { size = length-set next y v ∙ put.size; entry = λ e x h. go e x h (decide (x is y)) }
    where
      go : length table ≡ 64 → (x : ℕ) → x < 64 → ((x is y) ≡ true) ⊎ ((x is y) ≡ false) → (provided marked (less left y) x then v else get_or (set next y v) x 0) ≡ (provided marked marks x then v else get_or table x 0)
      go e x h (inl q) =
          let z : x ≡ y = is→ q in
          rw z (provided_false _ _ (turned left y) ∙ get_or-set_same next y v 0 (omega (arith, put.size, e)) ∙ sym (provided_true _ _ m) ∙ put.entry e y l)
      go e x h (inr q) = rw (unturned left y x q, get_or-set_other next y x v 0 (isnt→ q)) (put.entry e x h)

  pub put_turn : {y others : ℕ} → Turn left y others → MarksPut table marks v others (set next y v)
  put_turn {y} t = rw t.after (put_next_mark y t.size t.mark)

  -- no mark is left
  pub put_last : some 64 (marked left) ≡ false → Puts table marks v next
  put_last none = record { size = put.size; each = λ e x h. sym (provided_false _ _ (none→ (marked left) none x h)) ∙ put.entry e x h }

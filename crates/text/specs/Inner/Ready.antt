-- Bytes that stand ready in a number, the lowest first; its highest byte says how many. Only private contracts cite these.
use Rattle.std.specs.Prelude.{◌≡◌, List, [], ◌∷◌, ℕ, zero, suc, ◌/◌, ◌%◌, ◌<◌, length, get_or, take}
use Rattle.text.specs.Decimal.{decimal}

-- the lowest n bytes of w
unfoldable pub low_bytes : ℕ → ℕ → List ℕ
low_bytes zero w = []
low_bytes (suc n) w = w % 256 ∷ low_bytes n (w / 256)

-- v stands ready in w, which has `most` bytes: the highest is worth `top`
pub record Ready (most top w : ℕ) (v : List ℕ) : Type 0 where
  pub says : take (w / top) (low_bytes most w) ≡ v
  pub counts : w / top ≡ length v

-- in a number of eight bytes
abbrev pub ReadyWord : ℕ → List ℕ → Type 0
ReadyWord = Ready 8 72057594037927936

-- each number below 129, in one of four bytes
pub record ReadyDigits (table : List ℕ) : Type 0 where
  pub each : (n : ℕ) → n < 129 → Ready 4 16777216 (get_or table n 0) (decimal n)

-- How the lent buffers keep the rows. A row has 67 numbers: the transaction's number, its status, for each object what it sees, and the
-- highest number that had begun when it committed. Row 0 has no transaction: it sees what one that begins now would see; of the highest
-- numbers of those that committed none is below its own; and in place of a number it has the place of one who holds them, which only saves
-- looking for it. The others are the places 1 to 128.
use Rattle.std.specs.Prelude.{◌≡◌, List, ℕ, ◌+◌, ◌-◌, ◌*◌, length, get_or}

pub record Table : Type 0 where
  -- the number of the open transaction at each place, 0 where there is none; and behind them, for the low bits of a number, the place of the
  -- last one with these bits that began, which only saves looking for it
  pub opened : List ℕ
  pub rows : List ℕ
  -- 64 marks of what each writes, and 64 of what it reads before any own write
  pub marks : List ℕ
  -- the edges between places, a row of marks each
  pub edges : List ℕ

-- the sizes of the buffers
abbrev pub opened_entries : ℕ
opened_entries = 256

abbrev pub row_numbers : ℕ
row_numbers = 8643

abbrev pub mark_words : ℕ
mark_words = 256

abbrev pub edge_words : ℕ
edge_words = 256

pub record Sized (b : Table) : Type 0 where
  pub opened : length b.opened ≡ opened_entries
  pub rows : length b.rows ≡ row_numbers
  pub marks : length b.marks ≡ mark_words
  pub edges : length b.edges ≡ edge_words

-- entry c of the row of place p
unfoldable pub cell : List ℕ → ℕ → ℕ → ℕ
cell rows p c = get_or rows (p * 67 + c) 0

unfoldable pub name_at : List ℕ → ℕ → ℕ
name_at rows p = cell rows p 0

-- 0 at first, 1 after a wrong read, 2 after the commit
unfoldable pub status_at : List ℕ → ℕ → ℕ
status_at rows p = cell rows p 1

unfoldable pub sees_at : List ℕ → ℕ → ℕ → ℕ
sees_at rows p x = cell rows p (2 + x)

-- the highest number begun when p committed
unfoldable pub until_at : List ℕ → ℕ → ℕ
until_at rows p = cell rows p 66

unfoldable pub open_at : List ℕ → ℕ → ℕ
open_at opened p = get_or opened (p - 1) 0

unfoldable pub writes_at : List ℕ → ℕ → ℕ
writes_at marks p = get_or marks ((p - 1) * 2) 0

unfoldable pub reads_at : List ℕ → ℕ → ℕ
reads_at marks p = get_or marks ((p - 1) * 2 + 1) 0

-- What the private functions that forget promise.
use Rattle.std.specs.Prelude.{◌≡◌, Bool, true, false, List, ℕ, suc, ◌+◌, ◌*◌, ◌≤◌, ◌<◌, length, set}
use Rattle.words.specs.Tests.{◌is◌, ◌below◌, ◌upto◌, ◌and◌, fails, provided◌then◌else◌, some, count}
use Rattle.graph.specs.Matrix.{vertices, in_row}
use Rattle.live.specs.SoFar.{numbers}
use Rattle.live.specs.Forgotten.{Rests}
use Rattle.live.specs.Kept.{places}
use Rattle.live.specs.Inner.Table.{Table, Sized, cell, name_at, status_at, until_at, open_at}
use Rattle.live.specs.Inner.Held.{Place, Held, Keeping, Tidy}

-- r is the lowest number open at the first n places; 0 where none is
pub record LeastOpen (opened : List ℕ) (n r : ℕ) : Type 0 where
  pub least : (p : ℕ) → Place n p → 1 ≤ open_at opened p → (1 ≤ r) × (r ≤ open_at opened p)
  pub there : 1 ≤ r → (p : ℕ) × Place n p × (open_at opened p ≡ r)

-- place p committed while the transaction with the lowest number open had begun
unfoldable pub still_overlapped : List ℕ → ℕ → ℕ → Bool
still_overlapped rows least p = 1 upto least and least upto until_at rows p

-- place p can go: it committed, everyone who overlapped it has ended, and no edge leads to it
unfoldable pub can_go : (rows edges : List ℕ) → ℕ → ℕ → Bool
can_go rows edges least p = status_at rows p is 2 and fails (still_overlapped rows least p) and fails (some (suc vertices) (in_row edges p))

-- the rows after place p was given back
unfoldable pub freed : List ℕ → ℕ → List ℕ
freed rows p = set (set rows (p * 67) 0) (p * 67 + 1) 0

-- p is taken out of the rows below m
pub record Leaves (edges : List ℕ) (p m : ℕ) (edges' : List ℕ) : Type 0 where
  pub size : length edges' ≡ length edges
  pub each : (c a : ℕ) → in_row edges' c a ≡ (in_row edges c a and fails (a is p and c below m))

-- place p is forgotten where it can go; r is true where it did, or where somebody has gone before
pub record Looks (rows edges : List ℕ) (p least n : ℕ) (gone : Bool) (rows' edges' : List ℕ) (r : Bool) : Type 0 where
  pub stays : can_go rows edges least p ≡ false → (rows' ≡ rows) × (edges' ≡ edges) × (r ≡ gone)
  pub goes : can_go rows edges least p ≡ true → (rows' ≡ freed rows p) × Leaves edges p (suc n) edges' × (r ≡ true)

-- whatever log the table holds, it holds after some were forgotten, of whom only the rows and the edges tell
abbrev pub Carries : (opened rows edges : List ℕ) → ℕ → (rows' edges' : List ℕ) → Type 0
Carries opened rows edges n rows' edges' =
    (marks log : List ℕ) (top : ℕ) (keeps : ℕ → Bool) → Held log top n (record { opened = opened; rows = rows; marks = marks; edges = edges }) → Keeping log (record { opened = opened; rows = rows; marks = marks; edges = edges }) keeps
    → (keeps' : ℕ → Bool) × Held log top n (record { opened = opened; rows = rows'; marks = marks; edges = edges' }) × Keeping log (record { opened = opened; rows = rows'; marks = marks; edges = edges' }) keeps'

-- how many places committed
unfoldable pub done_count : List ℕ → ℕ
done_count rows = count (suc places) (λ q. status_at rows q is 2)

-- each of the first n places was looked at: where r is false none could go, and else fewer are left
pub record Passes (opened rows edges : List ℕ) (n least : ℕ) (rows' edges' : List ℕ) (r : Bool) : Type 0 where
  pub size_rows : length rows' ≡ length rows
  pub size_edges : length edges' ≡ length edges
  pub none : r ≡ false → (q : ℕ) → Place n q → can_go rows' edges' least q ≡ false
  pub fewer : (done_count rows' ≤ done_count rows) × (r ≡ true → done_count rows' < done_count rows)
  pub holds : Carries opened rows edges n rows' edges'

-- the rows, with a number in row 0 that is not above `top`
unfoldable pub lowered : List ℕ → ℕ → List ℕ
lowered rows top = provided top below until_at rows 0 then set rows 66 top else rows

-- where r is true, somebody is open, at one of the first n places, who overlapped all that are kept
abbrev pub Holder : (opened rows : List ℕ) → ℕ → Bool → Type 0
Holder opened rows n r = r ≡ true → (w : ℕ) × Place n w × (1 ≤ open_at opened w) × (open_at opened w ≤ until_at rows 0)

-- no committed one of the first n places has a number below r
abbrev pub LowUntil : List ℕ → ℕ → ℕ → Type 0
LowUntil rows n r = (p : ℕ) → Place n p → status_at rows p ≡ 2 → r ≤ until_at rows p

-- in row 0 the number is put that none of the first n places is below; of it only what no transaction needs is another
pub record Watched (rows : List ℕ) (n : ℕ) (rows' : List ℕ) : Type 0 where
  pub size : length rows' ≡ length rows
  pub others : (q c : ℕ) → c < 67 → (q ≡ 0 → c ≡ 0 → ⊥) → (q ≡ 0 → c ≡ 66 → ⊥) → cell rows' q c ≡ cell rows q c
  pub low : LowUntil rows n (until_at rows' 0)

-- the places behind r, of the first n, are free
pub record LastUsed (rows : List ℕ) (n r : ℕ) : Type 0 where
  pub bound : r ≤ n
  pub free : (q : ℕ) → r < q → q ≤ n → name_at rows q ≡ 0

-- the table after whoever could go was forgotten, whatever the log that it holds: nothing more can go
pub record Forgot (n : ℕ) (b b' : Table) : Type 0 where
  pub sized : Sized b → Sized b'
  pub holds : (log : List ℕ) (top : ℕ) (keeps : ℕ → Bool) → Held log top n b → Keeping log b keeps → (keeps' : ℕ → Bool) × Held log top n b' × Keeping log b' keeps' × Rests numbers log keeps'

-- .. and the places in use are among the first r
pub record GivesBack (n : ℕ) (b b' : Table) (r : ℕ) : Type 0 where
  pub sized : Sized b → Sized b'
  pub room : r ≤ n
  pub tidy : (log : List ℕ) (top : ℕ) (keeps : ℕ → Bool) → Held log top n b → Keeping log b keeps → Tidy log top r b'

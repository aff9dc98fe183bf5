-- What the private functions that find and keep the edges of a commit promise.
use Rattle.std.specs.Prelude.{◌≡◌, Bool, List, ℕ, length}
use Rattle.words.specs.Tests.{◌is◌, ◌below◌, ◌upto◌, ◌and◌, ◌or◌, fails, some}
use Rattle.bits.specs.Word.{marked}
use Rattle.graph.specs.Matrix.{vertices, takes_part, in_row}
use Rattle.live.specs.Inner.Table.{name_at, status_at, until_at, writes_at, reads_at}

-- p writes what q wrote or read
unfoldable pub writes_touched : List ℕ → ℕ → ℕ → Bool
writes_touched marks p q = some 64 (λ x. marked (writes_at marks p) x and (marked (writes_at marks q) x or marked (reads_at marks q) x))

-- p reads what q wrote
unfoldable pub reads_written : List ℕ → ℕ → ℕ → Bool
reads_written marks p q = some 64 (λ x. marked (reads_at marks p) x and marked (writes_at marks q) x)

-- q committed before p began
unfoldable pub earlier : List ℕ → ℕ → ℕ → Bool
earlier rows p q = until_at rows q below name_at rows p

module _ (rows marks : List ℕ) (p q : ℕ) where
  -- an edge leads from q, who committed, to p, who commits now
  unfoldable pub into_place : Bool
  into_place = status_at rows q is 2 and (writes_touched marks p q or (reads_written marks p q and earlier rows p q))

  -- .. and from p to q
  unfoldable pub out_of_place : Bool
  out_of_place = status_at rows q is 2 and (reads_written marks p q and fails (earlier rows p q))

-- the set has those of the first n that pass
abbrev pub Finds : (ℕ → Bool) → ℕ → List ℕ → Type 0
Finds passes n those = (q : ℕ) → takes_part vertices those q ≡ (1 upto q and q upto n and passes q)

-- edges to q from each of those, where q is one of those asked for
pub record JoinsOne (edges those asked : List ℕ) (q : ℕ) (edges' : List ℕ) : Type 0 where
  pub size : length edges' ≡ length edges
  pub each : (c a : ℕ) → in_row edges' c a ≡ (in_row edges c a or (c is q and takes_part vertices asked q and takes_part vertices those a))

-- edges to p from those before it, and from p to those after it, of the first n
pub record JoinsAround (edges before after : List ℕ) (p n : ℕ) (edges' : List ℕ) : Type 0 where
  pub size : length edges' ≡ length edges
  pub each : (c a : ℕ) → in_row edges' c a ≡ (in_row edges c a or (c is p and takes_part vertices before a) or (a is p and (1 upto c and c upto n and takes_part vertices after c)))

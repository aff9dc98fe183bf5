-- The edges of the conflict graph, pair of steps by pair of steps.
use Rattle.std.specs.Prelude.{◌≡◌, Bool, ◌⊎◌, List, ℕ, suc, ◌+◌, ◌<◌, length, replicate}
use Rattle.words.specs.Tests.{◌is◌, ◌upto◌, ◌and◌, ◌or◌, fails, provided◌then◌else◌, some}
use Rattle.graph.specs.Matrix.{row_words, takes_part, in_row, Joins}
use Rattle.verdict.specs.Limits.{transactions, objects}
use Rattle.verdict.specs.Log.{steps, kind, tx, obj, committed}
use Rattle.verdict.specs.Inner.Edges.{one_edge}

-- which row has those that read an object, and which those that write it; 0 stands for none
unfoldable pub touched_row : ℕ → ℕ → ℕ
touched_row k x = provided k is 2 then suc x else provided k is 3 then suc (x + objects) else 0

-- a is among those whose earlier steps meet a step of kind k on x: the writers of x, and for a write its readers too
unfoldable pub earlier_touch : List ℕ → ℕ → ℕ → ℕ → Bool
earlier_touch rows k x a = (k is 2 or k is 3) and in_row rows (touched_row 3 x) a or k is 3 and in_row rows (touched_row 2 x) a

-- a step of t of kind k on x: the rows of m' have beside those of m an edge to t from each of those whose earlier steps it meets, and the touched rows t in that of its kind
pub record Touches (m touched : List ℕ) (k t x : ℕ) (m' touched' : List ℕ) : Type 0 where
  pub before : List ℕ
  pub known : (a : ℕ) → takes_part transactions before a ≡ earlier_touch touched k x a
  pub joins : Joins m before t m'
  pub one : List ℕ
  pub single : (a : ℕ) → takes_part transactions one a ≡ (a is t and 1 upto t and t upto transactions or takes_part transactions (replicate 2 0) a)
  pub noted : Joins touched one (touched_row k x) touched'

module _ (log : List ℕ) where
  -- step i, of a committed transaction, is a's, and touches x in the way of kind k
  unfoldable pub touched_by : ℕ → ℕ → ℕ → ℕ → Bool
  touched_by k x a i = committed log (tx log i) and kind log i is k and obj log i is x and tx log i is a

  -- the rows have those that the first j steps say
  pub record Touched (j : ℕ) (rows : List ℕ) : Type 0 where
    pub size : length rows ≡ row_words
    pub mark : (k x a : ℕ) → (k ≡ 2) ⊎ (k ≡ 3) → x < objects → in_row rows (touched_row k x) a ≡ some j (touched_by k x a)

  -- step i reads or writes
  unfoldable pub touches : ℕ → Bool
  touches i = kind log i is 2 or kind log i is 3

  -- steps i and j touch one object, at least one writing
  unfoldable pub meet_somehow : ℕ → ℕ → Bool
  meet_somehow i j = touches i and touches j and obj log i is obj log j and (kind log i is 3 or kind log j is 3)

  -- an edge, whatever its kind and its object
  unfoldable pub plain_conflict : ℕ → ℕ → Bool
  plain_conflict a b =
      fails (a is b) and committed log a and committed log b
      and some (steps log) (λ j. tx log j is b and some j (λ i. tx log i is a and meet_somehow i j))

  -- the edges from step i to step j; and of all pairs of steps whose later one is below n
  unfoldable pub conflict_pair : ℕ → ℕ → ℕ → ℕ → Bool
  conflict_pair j i a b = committed log (tx log j) and committed log (tx log i) and meet_somehow i j and one_edge (tx log i) (tx log j) a b

  unfoldable pub conflicts_until : ℕ → ℕ → ℕ → Bool
  conflicts_until n a b = some n (λ j. some j (λ i. conflict_pair j i a b))

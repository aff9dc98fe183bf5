-- How an outcome's entries stand in a lent witness, how they are read there, and how an order is handed to "next".
use Rattle.std.specs.Prelude.{List, [], ◌∷◌, map, ℕ, zero, suc, get_or, drop}
use Rattle.words.specs.Lists.{entries}
use Rattle.verdict.specs.Limits.{witness_buffer, order_entries}
use Rattle.verdict.specs.Reason.{Entry}
use Rattle.verdict.specs.Outcome.{Outcome, members}

-- three numbers an entry: transaction, kind, object
unfoldable pub in_threes : List Entry → List ℕ
in_threes [] = []
in_threes (e ∷ w) = e.transaction ∷ e.kind ∷ e.object ∷ in_threes w

-- the entries first, and the remaining numbers are 0
unfoldable pub witness : Outcome → List ℕ
witness a = entries witness_buffer (in_threes (members a))

-- the first n entries in a witness, and the order in them
unfoldable pub entries_in : ℕ → List ℕ → List Entry
entries_in zero numbers = []
entries_in (suc n) numbers = record { transaction = get_or numbers 0 0; kind = get_or numbers 1 0; object = get_or numbers 2 0 } ∷ entries_in n (drop 3 numbers)

unfoldable pub read_off : ℕ → List ℕ → List ℕ
read_off n numbers = map (λ e. e.transaction) (entries_in n numbers)

-- an order as "next" takes it: its members, with zeros after them
unfoldable pub handed : List ℕ → List ℕ
handed w = entries order_entries w

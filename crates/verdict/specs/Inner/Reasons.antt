-- How the reasons on a cycle are found: one number for each member, the least of those that are offered while the log is walked.
use Rattle.std.specs.Prelude.{◌≡◌, Bool, true, ◌⊎◌, List, map, ℕ, suc, ◌+◌, ◌*◌, ◌/◌, ◌%◌, ◌≤◌, ◌<◌, length, get_or, set}
use Rattle.words.specs.Tests.{◌is◌, ◌below◌, ◌and◌, ◌or◌, provided◌then◌else◌}
use Rattle.verdict.specs.Limits.{transactions}
use Rattle.verdict.specs.Reason.{Entry}
use Rattle.verdict.specs.Outcome.{Outcome, said}
use Rattle.verdict.specs.Witness.{witness}
use Rattle.verdict.specs.declared.answers.Witnessed.{Witnessed}

-- an outcome by value
abbrev pub by_value : Outcome → Witnessed
by_value a = record { answer = said a; list = witness a }

-- the numbers of entry i, put in
unfoldable pub entry_put : List ℕ → ℕ → ℕ → ℕ → ℕ → List ℕ
entry_put numbers i t k x = set (set (set numbers (3 * i) t) (3 * i + 1) k) (3 * i + 2) x

-- the number of a reason: lower for a lower object, and on one object for a lower kind; and what stands for none
unfoldable pub reason_number : ℕ → ℕ → ℕ
reason_number x k = 4 * x + k

abbrev pub no_reason : ℕ
no_reason = 256

unfoldable pub number_if : Bool → ℕ → ℕ → ℕ
number_if fits x k = provided fits then reason_number x k else no_reason

-- the members with the reasons that these numbers say
unfoldable pub entry_of : List ℕ → ℕ → Entry
entry_of numbers t = record { transaction = t; kind = get_or numbers t 0 % 4; object = get_or numbers t 0 / 4 }

unfoldable pub numbered : List ℕ → List ℕ → List Entry
numbered numbers c = map (entry_of numbers) c

-- the members of a cycle, each once
pub record Ring (c : List ℕ) : Type 0 where
  pub any : 1 ≤ length c
  pub low : (i : ℕ) → i < length c → 1 ≤ get_or c i 0
  pub high : (i : ℕ) → i < length c → get_or c i 0 ≤ transactions
  pub differ : (i j : ℕ) → i < length c → j < length c → get_or c i 0 ≡ get_or c j 0 → i ≡ j

-- the one that follows place i: behind the last comes the first
unfoldable pub follower : List ℕ → ℕ → ℕ
follower c i = get_or c (suc i) (get_or c 0 0)

-- the table says of each who stands before it on the cycle
pub record Before (c table : List ℕ) : Type 0 where
  pub within : (b : ℕ) → b ≤ transactions → get_or table b 0 ≤ transactions
  pub stands : (i b : ℕ) → i < length c → b ≤ transactions → (get_or table b 0 is get_or c i 0) ≡ (b is follower c i)

-- e is the least number of the reasons `on`
pub record Least (on : ℕ → ℕ → Bool) (e : ℕ) : Type 0 where
  pub one : (e ≡ no_reason) ⊎ ((x : ℕ) × (k : ℕ) × (k < 4) × (e ≡ reason_number x k) × (on x k ≡ true))
  pub least : (x k : ℕ) → on x k ≡ true → e ≤ reason_number x k

-- the table has it for each member of the cycle, of the reasons that lead to its follower
pub record Best (c : List ℕ) (on : ℕ → ℕ → ℕ → ℕ → Bool) (table : List ℕ) : Type 0 where
  pub size : length table ≡ suc transactions
  pub each : (i : ℕ) → i < length c → Least (on (get_or c i 0) (follower c i)) (get_or table (get_or c i 0) 0)

-- a number is offered for a: the lower one is kept
unfoldable pub offered : List ℕ → ℕ → ℕ → List ℕ
offered table a e = provided e below get_or table a 0 then set table a e else table

-- the edge from s to t of kind l on y is such a reason
unfoldable pub edge_on : ℕ → ℕ → ℕ → ℕ → ℕ → ℕ → ℕ → ℕ → Bool
edge_on s t y l a b x k = s is a and t is b and y is x and l is k

-- .. beside those that were on
unfoldable pub with_edge : (ℕ → ℕ → ℕ → ℕ → Bool) → ℕ → ℕ → ℕ → ℕ → ℕ → ℕ → ℕ → ℕ → Bool
with_edge on s t y l a b x k = on a b x k or edge_on s t y l a b x k

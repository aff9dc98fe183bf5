-- What the exact search keeps while it places transactions.
use Rattle.std.specs.Prelude.{◌≡◌, Bool, true, false, List, [], ◌∷◌, ◌++◌, ℕ, zero, suc, ◌+◌, ◌*◌, ◌≤◌, ◌<◌, length, get_or, take}
use Rattle.words.specs.Tests.{◌is◌, ◌and◌, ◌or◌, fails, provided◌then◌else◌, every, count}
use Rattle.words.specs.Lists.{member, all, distinct}
use Rattle.words.specs.First.{dictionary, First, Never}
use Rattle.bits.specs.Word.{marked, less}
use Rattle.verdict.specs.Limits.{transactions, objects, most_searched}
use Rattle.verdict.specs.Log.{steps, tx, obj, src, committed, writer}
use Rattle.verdict.specs.Refusal.{log_refusal}
use Rattle.verdict.specs.Clean.{judged_other, is_clean}
use Rattle.verdict.specs.Replay.{finds, explains_loosely}
use Rattle.verdict.specs.Inner.WriteTable.{WriteTable}
use Rattle.verdict.specs.Answers.{Passed}
use Rattle.verdict.specs.declared.search.Run.{Run}

-- a need is 0 for none, a source and 1, or more than any of these where no source will do
unfoldable pub barred : ℕ
barred = 255

-- one more source is asked for
unfoldable pub needing : ℕ → ℕ → ℕ
needing e s = provided e is 0 then suc s else provided e is suc s then e else barred

-- the need allows v as last writer
unfoldable pub allows : ℕ → ℕ → Bool
allows e v = e is 0 or e is suc v

-- the marks are the objects of which t needs to find something, by the table of needs
pub record NeededOf (need : List ℕ) (t marks : ℕ) : Type 0 where
  pub mark : (x : ℕ) → x < objects → marked marks x ≡ fails (get_or need (t * objects + x) 0 is 0)

-- the one at place i of the list would find what it needs, by the last writer of each object
unfoldable pub may_follow : List ℕ → List ℕ → List ℕ → ℕ → Bool
may_follow need ones last i = every objects (λ x. allows (get_or need (get_or ones i 0 * objects + x) 0) (get_or last x 0))

-- those that are placed
abbrev pub placed_of : Run → List ℕ → List ℕ
placed_of run order = take run.at order

-- the run with the one at place i of the list placed next
pub record OneMore (i : ℕ) (run next : Run) : Type 0 where
  pub more : next.at ≡ run.at + 1
  pub taken : next.free ≡ less run.free i

-- the last writers when t has run too: t of what it writes, the one before of every other object
pub record LastAfter (writes : List ℕ) (t : ℕ) (last after : List ℕ) : Type 0 where
  pub size : length after ≡ length last
  pub each : (x : ℕ) → x < objects → get_or after x 0 ≡ (provided marked (get_or writes t 0) x then t else get_or last x 0)

module _ (log : List ℕ) where
  -- step i is a judged read of x by t from another
  unfoldable pub needs_source : ℕ → ℕ → ℕ → Bool
  needs_source t x i = judged_other log i and tx log i is t and obj log i is x

  -- what the first n steps need t to find of x
  unfoldable pub need : ℕ → ℕ → ℕ → ℕ
  need t x zero = 0
  need t x (suc i) = provided needs_source t x i then needing (need t x i) (src log i) else need t x i

  -- the last writer of x when p has run, or v if there is none
  unfoldable pub ran : ℕ → ℕ → List ℕ → ℕ
  ran x v [] = v
  ran x v (t ∷ p) = ran x (provided writer log x t then t else v) p

  -- the table of needs, for the committed transactions
  pub record Needs (table : List ℕ) : Type 0 where
    pub entry : (t x : ℕ) → committed log t ≡ true → t ≤ transactions → x < objects → get_or table (t * objects + x) 0 ≡ need t x (steps log)

  -- the first n entries are the committed transactions, the lowest first
  pub record CommittedList (ones : List ℕ) (n : ℕ) : Type 0 where
    pub each : (i : ℕ) → i < n → committed log (get_or ones i 0) ≡ true
    pub rising : (i j : ℕ) → i < j → j < n → get_or ones i 0 < get_or ones j 0
    pub every_one : (t : ℕ) → committed log t ≡ true → (i : ℕ) × (i < n) × (get_or ones i 0 ≡ t)
    pub counted : n ≡ count (suc transactions) (committed log)

  -- a well_formed, clean log with the tables that the search goes by: what each needs and writes,
  -- the n on the list, and the objects of which each of them needs something
  pub record Searchable (table writes ones asks : List ℕ) (n : ℕ) : Type 0 where
    pub passed : log_refusal log ≡ Passed
    pub clean : is_clean log ≡ true
    pub needs : Needs table
    pub written : WriteTable log writes
    pub list : CommittedList ones n
    pub asked : (i : ℕ) → i < n → NeededOf table (get_or ones i 0) (get_or asks i 0)
    pub few : n ≤ most_searched

  -- p is placed: different committed transactions whose judged reads find their sources, and last has the last writer of each object
  pub record Replayed (p last : List ℕ) : Type 0 where
    pub different : distinct p ≡ true
    pub members : all (committed log) p ≡ true
    pub right : (i : ℕ) → i < steps log → judged_other log i ≡ true → member (tx log i) p ≡ true → finds log (obj log i) (tx log i) 0 p ≡ src log i
    pub size : length last ≡ objects
    pub writers : (x : ℕ) → x < objects → get_or last x 0 ≡ ran x 0 p

  -- .. and of the n on the list those are marked that are left, and no others
  pub record Placed (ones : List ℕ) (n : ℕ) (run : Run) (p last : List ℕ) : Type 0 where
    pub so_far : Replayed p last
    pub left : (i : ℕ) → i < n → marked run.free i ≡ fails (member (get_or ones i 0) p)
    pub within : (i : ℕ) → marked run.free i ≡ true → i < n
    pub fills : run.at + count n (marked run.free) ≡ n

  -- what the search finds behind p: the first list with which p explains loosely, in the n entries of the array, or none
  pub data Searched (p : List ℕ) (n : ℕ) : Bool → List ℕ → Type 0 where
    found : {order : List ℕ} (u : List ℕ) → First dictionary (λ v. explains_loosely transactions log (p ++ v)) u → take n order ≡ p ++ u → Searched p n true order
    missed : {order : List ℕ} → Never (λ v. explains_loosely transactions log (p ++ v)) → Searched p n false order

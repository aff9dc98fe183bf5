-- The lines of a text: the header `steps=N` and the steps `op=WORD tx=T obj=X from=S`, each with its LF.
use Rattle.std.specs.Prelude.{Bool, List, [], ◌∷◌, ◌++◌, ℕ}
use Rattle.words.specs.Tests.{◌is◌, ◌upto◌, ◌and◌, provided◌then◌else◌}
use Rattle.text.specs.Bytes.{bytes, blank, line_end}
use Rattle.text.specs.Decimal.{decimal}

-- the largest number that a line can say
abbrev pub largest : ℕ
largest = 65535

-- the word of each kind, 1 to 5
unfoldable pub word : ℕ → List ℕ
word k =
    provided k is 1 then bytes "begin"
    else provided k is 2 then bytes "read"
    else provided k is 3 then bytes "write"
    else provided k is 4 then bytes "commit"
    else bytes "abort"

-- a key, its value, and the byte behind them
unfoldable pub item : List ℕ → List ℕ → ℕ → List ℕ
item key value behind = key ++ value ++ behind ∷ []

-- line 0, which says how many lines follow
unfoldable pub header : ℕ → List ℕ
header n = item (bytes "steps=") (decimal n) line_end

-- the front of a step's line, by its kind
unfoldable pub op : ℕ → List ℕ
op k = item (bytes "op=") (word k) blank

-- the line of a step: its kind, transaction, object and source
unfoldable pub line : ℕ → ℕ → ℕ → ℕ → List ℕ
line k t x s =
    op k
    ++ item (bytes "tx=") (decimal t) blank
    ++ item (bytes "obj=") (decimal x) blank
    ++ item (bytes "from=") (decimal s) line_end

-- a number that a line can say
unfoldable pub sayable : ℕ → Bool
sayable n = n upto largest

-- a kind that has a word
unfoldable pub has_word : ℕ → Bool
has_word k = 1 upto k and k upto 5

-- a step that a line can say
unfoldable pub sayable_step : ℕ → ℕ → ℕ → ℕ → Bool
sayable_step k t x s = has_word k and sayable t and sayable x and sayable s

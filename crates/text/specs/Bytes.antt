-- Bytes, each a number: a quoted text as the codes of its characters, which are all ASCII.
use Rattle.std.specs.Prelude.{List, [], ◌∷◌, ℕ}
use Prim.Native.Char.{code}
use Prim.Native.String.{String, [] as no_more, ◌∷◌ as ◌then◌}

unfoldable pub bytes : String → List ℕ
bytes no_more = []
bytes (c then s) = code c ∷ bytes s

-- the byte between two keys
abbrev pub blank : ℕ
blank = code " "

-- LF, the byte after every line
abbrev pub line_end : ℕ
line_end = code "\n"

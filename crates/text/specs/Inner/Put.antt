-- Numbers put into a lent run of numbers, as bytes into a text or a step into the step buffer. Only private contracts cite these.
use Rattle.std.specs.Prelude.{◌≡◌, List, ◌++◌, ℕ, ◌+◌, ◌≤◌, length, take, drop}

-- w put in at this place: what stands before and behind it is as it was
unfoldable pub put_at : ℕ → List ℕ → List ℕ → List ℕ
put_at at w run = take at run ++ w ++ drop (at + length w) run

-- w has room in the run at this place
abbrev pub Fits : (w : List ℕ) (at : ℕ) (run : List ℕ) → Type 0
Fits w at run = at + length w ≤ length run

-- w has been put in at this place, and `next` is the place behind it
abbrev pub Puts : (w : List ℕ) (at : ℕ) (run : List ℕ) (next : ℕ) (run' : List ℕ) → Type 0
Puts w at run next run' = (next ≡ at + length w) × (run' ≡ put_at at w run)

-- w leads on from this place: it stands there, what stands before it is as it was, and what stands behind it may be anything
pub record Leads (w : List ℕ) (at : ℕ) (run : List ℕ) (next : ℕ) (run' : List ℕ) : Type 0 where
  pub reaches : next ≡ at + length w
  pub size : length run' ≡ length run
  pub front : take next run' ≡ take at run ++ w

-- a line that passes has been put in, which has at most so many bytes
abbrev pub PutsLine : (most : ℕ) (passes : List ℕ → Type 0) (at : ℕ) (run : List ℕ) (next : ℕ) (run' : List ℕ) → Type 0
PutsLine most passes at run next run' = (w : List ℕ) × passes w × (length w ≤ most) × Puts w at run next run'

-- how many bytes a line of a report may take: that of a verdict that may show a cycle, that of the exact verdict, and any other
abbrev pub most_long : ℕ
most_long = 1295

abbrev pub most_exact : ℕ
most_exact = 524

abbrev pub most_short : ℕ
most_short = 64

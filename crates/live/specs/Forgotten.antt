-- Room given back: which committed transactions may be forgotten, and which are kept once nothing more can go. Transactions are at most `most`.
use Rattle.std.specs.Prelude.{◌≡◌, Bool, true, false, List, ℕ, zero, suc}
use Rattle.words.specs.Tests.{◌is◌, ◌below◌, ◌and◌, fails, some}
use Rattle.verdict.specs.Log.{committed, begin_step, commit_step}
use Rattle.verdict.specs.Version.{version_edge}
use Rattle.live.specs.SoFar.{is_open, so_far}

module _ (most : ℕ) (log : List ℕ) where
  -- not every transaction that overlapped t has ended: one is open that began before t committed
  unfoldable pub overlapped : ℕ → Bool
  overlapped t = some (suc most) (λ u. is_open log u and begin_step log u below commit_step log t)

  -- a kept committed transaction has an edge to t, over the log so far
  unfoldable pub pointed_at : (ℕ → Bool) → ℕ → Bool
  pointed_at keeps t = some (suc most) (λ p. keeps p and version_edge (so_far most log) p t)

  -- t may be forgotten
  unfoldable pub may_go : (ℕ → Bool) → ℕ → Bool
  may_go keeps t = fails (overlapped t) and fails (pointed_at keeps t)

  -- the committed transactions that are left after k rounds: each forgets all that may go
  unfoldable pub left : ℕ → ℕ → Bool
  left zero t = committed log t
  left (suc k) t = left k t and fails (may_go (left k) t)

  -- .. and those kept when nothing more can go: as many rounds as there are numbers are enough, since each before that forgets one at least
  unfoldable pub kept : ℕ → Bool
  kept t = left (suc most) t

  -- forgetting one after another, in any order: those that are kept then
  pub data Forgets : (ℕ → Bool) → Type 0 where
    none_gone : {keeps : ℕ → Bool} → ((u : ℕ) → keeps u ≡ committed log u) → Forgets keeps
    one_gone : {keeps keeps' : ℕ → Bool} (t : ℕ) → Forgets keeps → may_go keeps t ≡ true → ((u : ℕ) → keeps' u ≡ (keeps u and fails (u is t))) → Forgets keeps'

  -- nothing more can go
  abbrev pub Rests : (ℕ → Bool) → Type 0
  Rests keeps = (t : ℕ) → keeps t ≡ true → may_go keeps t ≡ false

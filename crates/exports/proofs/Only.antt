-- The statements fix the numbers: any two results that one allows are equal, the number and every lent entry.
use mathlib.Core.Path.{◌≡◌, sym, ap, ◌∙◌}
use mathlib.Core.List.{List}
use Prim.Native.Nat.{ℕ}
use Rattle.verdict.specs.Call.{CleanCall, SnapshotCall, ConflictCall, VersionCall, ExactCall, NextCall}
use Rattle.verdict.proofs.Only.{clean_call_one, snapshot_call_one, conflict_call_one, version_call_one, exact_call_one, next_call_one}
use Rattle.text.specs.ReadCall.{ReadCall}
use Rattle.text.specs.ReportCall.{ReportCall}
use Rattle.text.specs.WriteCall.{WriteCall}
use Rattle.text.proofs.Only.{read_call_one}
use Rattle.text.proofs.ReportOnly.{report_call_one}
use Rattle.text.proofs.WriteCalls.{write_call_one}
use Rattle.live.specs.LiveCall.{Buffers, LiveCall}
use Rattle.live.specs.Live.{Calls}
use Rattle.live.proofs.ByCalls.{live_call_one}
use Rattle.plan.specs.AcceptsCall.{AcceptsCall}
use Rattle.plan.specs.RedoCall.{RedoCall}
use Rattle.plan.proofs.ByCalls.{accepts_call_one, redo_call_one}
use Rattle.exports.specs.Packed.{Numbers, clean_numbers, snapshot_numbers, witness_numbers, count_numbers, live_numbers, accepts_numbers, packed, Packs, packs}

-- two calls that allow one answer, and leave one thing, have one number
pub packs_one : {A Left : Type 0} {call call' : A → Type 0} {numbers : A → Numbers} {r s : ℕ} → ((a b : A) → call a → call' b → (a ≡ b) × Left)
    → Packs call numbers r → Packs call' numbers s → (r ≡ s) × Left
packs_one {A} {numbers} one (packs a c e) (packs b d f) = let o = one a b c d in (e ∙ ap (λ (z : A). packed (numbers z)) o.0 ∙ sym f, o.1)

module _ (log : List ℕ) {work : List ℕ} {r s : ℕ} {v w : List ℕ} where
  pub packed_clean_one : Packs (λ a. CleanCall log work a v) clean_numbers r → Packs (λ a. CleanCall log work a w) clean_numbers s → (r ≡ s) × (v ≡ w)
  packed_clean_one = packs_one (λ a b c d. clean_call_one log c d)

  pub packed_snapshot_one : Packs (λ a. SnapshotCall log work a v) snapshot_numbers r → Packs (λ a. SnapshotCall log work a w) snapshot_numbers s → (r ≡ s) × (v ≡ w)
  packed_snapshot_one = packs_one (λ a b c d. snapshot_call_one log c d)

module _ (log : List ℕ) {work witness : List ℕ} {r s : ℕ} {v w x y : List ℕ} where
  pub packed_conflict_one : Packs (λ a. ConflictCall log work witness a v x) witness_numbers r → Packs (λ a. ConflictCall log work witness a w y) witness_numbers s
      → (r ≡ s) × ((v ≡ w) × (x ≡ y))
  packed_conflict_one = packs_one (λ a b c d. let o = conflict_call_one log c d in (o.0, (o.1, o.2)))

  pub packed_version_one : Packs (λ a. VersionCall log work witness a v x) witness_numbers r → Packs (λ a. VersionCall log work witness a w y) witness_numbers s
      → (r ≡ s) × ((v ≡ w) × (x ≡ y))
  packed_version_one = packs_one (λ a b c d. let o = version_call_one log c d in (o.0, (o.1, o.2)))

  pub packed_exact_one : Packs (λ a. ExactCall log work witness a v x) witness_numbers r → Packs (λ a. ExactCall log work witness a w y) witness_numbers s
      → (r ≡ s) × ((v ≡ w) × (x ≡ y))
  packed_exact_one = packs_one (λ a b c d. let o = exact_call_one log c d in (o.0, (o.1, o.2)))

  pub packed_next_one : (given : List ℕ) → Packs (λ a. NextCall log given work witness a v x) witness_numbers r → Packs (λ a. NextCall log given work witness a w y) witness_numbers s
      → (r ≡ s) × ((v ≡ w) × (x ≡ y))
  packed_next_one given = packs_one (λ a b c d. let o = next_call_one log given c d in (o.0, (o.1, o.2)))

module _ {text buffer : List ℕ} {r s : ℕ} {v w : List ℕ} where
  pub packed_read_one : Packs (λ a. ReadCall text buffer a v) count_numbers r → Packs (λ a. ReadCall text buffer a w) count_numbers s → (r ≡ s) × (v ≡ w)
  packed_read_one = packs_one (λ a b c d. read_call_one c d)

  pub packed_report_one : Packs (λ a. ReportCall text buffer a v) count_numbers r → Packs (λ a. ReportCall text buffer a w) count_numbers s → (r ≡ s) × (v ≡ w)
  packed_report_one = packs_one (λ a b c d. report_call_one c d)

module _ (log : List ℕ) {out : List ℕ} {r s : ℕ} {v w : List ℕ} where
  pub packed_write_one : Packs (λ a. WriteCall log out a v) count_numbers r → Packs (λ a. WriteCall log out a w) count_numbers s → (r ≡ s) × (v ≡ w)
  packed_write_one = packs_one (λ a b c d. write_call_one log c d)

-- the live judge, on buffers that were reached by calls
pub packed_live_one : {run said part answers x y : List ℕ} {b left left' : Buffers} {r s : ℕ} → Calls run said b
    → Packs (λ a. LiveCall b part answers a left x) live_numbers r → Packs (λ a. LiveCall b part answers a left' y) live_numbers s → (r ≡ s) × (x ≡ y)
packed_live_one k = packs_one (λ a b c d. live_call_one k c d)

-- the judge of a proposal, and the planner
pub packed_accepts_one : (log proposal : List ℕ) {work : List ℕ} {r s : ℕ} {v w : List ℕ} → Packs (λ a. AcceptsCall log proposal work a v) accepts_numbers r → Packs (λ a. AcceptsCall log proposal work a w) accepts_numbers s → (r ≡ s) × (v ≡ w)
packed_accepts_one log proposal = packs_one (λ a b c d. accepts_call_one log proposal c d)

pub packed_redo_one : (log : List ℕ) {work proposal : List ℕ} {r s : ℕ} {v w x y : List ℕ} → Packs (λ a. RedoCall log work proposal a v x) count_numbers r → Packs (λ a. RedoCall log work proposal a w y) count_numbers s
    → (r ≡ s) × ((v ≡ w) × (x ≡ y))
packed_redo_one log = packs_one (λ a b c d. let o = redo_call_one log c d in (o.0, (o.1, o.2)))

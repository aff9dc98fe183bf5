-- A call that reads a text, where `applies` says which refusal applies: for the functions that read from the header on.
use Rattle.std.specs.Prelude.{List, [], ◌∷◌, ℕ, Result}
use Rattle.verdict.specs.Answers.{Checked}
use Rattle.verdict.specs.declared.answers.Refusal.{Refusal}
use Rattle.verdict.specs.Log.{steps}
use Rattle.verdict.specs.Call.{Call}
use Rattle.text.specs.Reading.{Says}
use Rattle.text.specs.ReadCall.{leaves_steps}

abbrev pub ReadsCall : (applies : Checked → Type 0) (text buffer : List ℕ) → Result ℕ Refusal → (buffer' : List ℕ) → Type 0
ReadsCall applies text buffer r buffer' =
    Call applies (Says text) steps leaves_steps (buffer ∷ []) r (buffer' ∷ [])

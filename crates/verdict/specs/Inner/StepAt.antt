-- What `step_at` gives: the four numbers of step i.
use Rattle.std.specs.Prelude.{◌≡◌, List, ℕ}
use Rattle.verdict.specs.Log.{kind, tx, obj, src}
use Rattle.verdict.specs.declared.step.Step.{Step}

pub record StepAt (log : List ℕ) (i : ℕ) (s : Step) : Type 0 where
  pub kind_is : s.kind ≡ kind log i
  pub tx_is : s.tx ≡ tx log i
  pub obj_is : s.obj ≡ obj log i
  pub src_is : s.src ≡ src log i

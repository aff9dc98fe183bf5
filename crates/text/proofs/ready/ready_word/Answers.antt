-- `ready_word` meets its contract: each word is computed.
use mathlib.Core.Path.{◌≡◌, refl, sym, subst}
use mathlib.Core.List.{List, [], ◌∷◌, ◌++◌}
use Prim.Native.Nat.{ℕ}
use Rattle.words.specs.Tests.{◌is◌, provided◌then◌else◌}
use Rattle.text.specs.Bytes.{bytes, blank}
use Rattle.text.specs.Line.{word}
use Rattle.text.specs.Inner.Ready.{low_bytes, ReadyWord}
use Rattle.text.proofs.Words.{other_word}
use native.Mathlib.Omega.{arith}
use Rattle.text.proofs.ready.ready_word.Goals as goal

-- a number that is ready for a word, whatever that one is called
as_word : (r : ℕ) {v w : List ℕ} → v ≡ w → ReadyWord r (w ++ blank ∷ []) → ReadyWord r (v ++ blank ∷ [])
as_word r e = subst (λ (u : List ℕ). ReadyWord r (u ++ blank ∷ [])) (sym e)

-- the kind is known by its case
of_kind : (r : ℕ) {j k : ℕ} → k ≡ j → ReadyWord r (word j ++ blank ∷ []) → ReadyWord r (word k ++ blank ∷ [])
of_kind r e = subst (λ (u : ℕ). ReadyWord r (word u ++ blank ∷ [])) (sym e)

pub returns-in-1 : goal.returns-in-1
unfolding word bytes low_bytes ◌is◌ provided◌then◌else◌
returns-in-1 c = of_kind _ c.in-1.is (record { says = refl; counts = refl })

pub returns-in-2 : goal.returns-in-2
unfolding word bytes low_bytes ◌is◌ provided◌then◌else◌
returns-in-2 c = of_kind _ c.in-2.is (record { says = refl; counts = refl })

pub returns-in-3 : goal.returns-in-3
unfolding word bytes low_bytes ◌is◌ provided◌then◌else◌
returns-in-3 c = of_kind _ c.in-3.is (record { says = refl; counts = refl })

pub returns-in-4 : goal.returns-in-4
unfolding word bytes low_bytes ◌is◌ provided◌then◌else◌
returns-in-4 c = of_kind _ c.in-4.is (record { says = refl; counts = refl })

pub returns-in_default : goal.returns-in_default
unfolding word bytes low_bytes ◌is◌ provided◌then◌else◌
returns-in_default c =
    as_word _ (other_word c.args.k (λ e. omega (arith, e)) (λ e. omega (arith, e)) (λ e. omega (arith, e)) (λ e. omega (arith, e))) (record { says = refl; counts = refl })

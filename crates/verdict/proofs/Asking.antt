-- What the kind of a step asks of its object, its source and its transaction, and which of 3 to 6 follows from it.
use mathlib.Core.Path.{◌≡◌, refl, sym, ◌∙◌}
use mathlib.Core.Logic.{◌⊎◌, inl, inr}
use mathlib.Core.List.{List}
use Prim.Native.Nat.{ℕ, ◌<◌, ◌≤◌}
use native.Mathlib.Omega.{arith}
use Rattle.words.specs.Tests.{◌is◌, ◌below◌, ◌upto◌, ◌and◌, ◌or◌, provided◌then◌else◌}
use Rattle.words.proofs.Truth.{same_test, and→, →and, →not_fails, is→, →is, below→, →below, upto→, →upto}
use Rattle.verdict.specs.Limits.{objects}
use Rattle.verdict.specs.Log.{kind, tx, obj, src}
use Rattle.verdict.specs.Refusal.{object_allowed, source_allowed, range_refusal}
use Rattle.verdict.specs.Inner.Checking.{Asks, in_range, InRange}
use Rattle.verdict.specs.Inner.StepAt.{StepAt}
use Rattle.verdict.specs.Answers.{Checked, Passed}
use Rattle.verdict.specs.declared.step.Step.{Step}
use Rattle.verdict.specs.declared.taking.Asked.{Asked}
use Rattle.verdict.proofs.Refused.{first_no}

-- WHAT A KIND ASKS
any_below : (x : ℕ) → (x below objects and x below objects) ≡ (x below objects)
any_below x = same_test (λ h. (and→ h).0) (λ h. →and h h)

only_0 : (x : ℕ) → (x below objects and x below 1) ≡ (x is 0)
only_0 x = same_test (λ h. let z : x < 1 = below→ (and→ h).1 in →is (omega arith)) (λ h. let z : x ≡ 0 = is→ h in →and (→below (omega arith)) (→below (omega arith)))

none_but_0 : (s : ℕ) → (s upto 0) ≡ (s is 0)
none_but_0 s = same_test (λ h. let z : s ≤ 0 = upto→ h in →is (omega arith)) (λ h. let z : s ≡ 0 = is→ h in →upto (omega arith))

pub asks_begin : {k : ℕ} → k ≡ 1 → Asks k (record { objects = 1; source = 0; life = 0; late = 7 })
unfolding object_allowed source_allowed ◌is◌ ◌upto◌ ◌and◌ ◌or◌ provided◌then◌else◌
asks_begin e = rw e (record { known = refl; object = only_0; source = none_but_0; far = refl; number = refl })

pub asks_read : {k : ℕ} → k ≡ 2 → Asks k (record { objects = 64; source = 128; life = 1; late = 8 })
unfolding object_allowed source_allowed ◌is◌ ◌upto◌ ◌and◌ ◌or◌ provided◌then◌else◌
asks_read e = rw e (record { known = refl; object = any_below; source = λ s. refl; far = refl; number = refl })

pub asks_write : {k : ℕ} → k ≡ 3 → Asks k (record { objects = 64; source = 0; life = 1; late = 8 })
unfolding object_allowed source_allowed ◌is◌ ◌upto◌ ◌and◌ ◌or◌ provided◌then◌else◌
asks_write e = rw e (record { known = refl; object = any_below; source = none_but_0; far = refl; number = refl })

pub asks_end : {k : ℕ} → (k ≡ 4) ⊎ (k ≡ 5) → Asks k (record { objects = 1; source = 0; life = 1; late = 8 })
unfolding object_allowed source_allowed ◌is◌ ◌upto◌ ◌and◌ ◌or◌ provided◌then◌else◌
asks_end (inl e) = rw e (record { known = refl; object = only_0; source = none_but_0; far = refl; number = refl })
asks_end (inr e) = rw e (record { known = refl; object = only_0; source = none_but_0; far = refl; number = refl })

-- WHICH NUMBER FOLLOWS
by_kind : {k : ℕ} {r : Asked} → Asks k r → (place t x s : ℕ) → in_range place t x s r ≡ range_refusal place k t x s
unfolding in_range range_refusal
by_kind asks place t x s = rw (asks.object x, asks.source s) (sym (first_no 3 place _ (→not_fails asks.known)))

-- .. of a step that was read
pub by_asked : {log : List ℕ} {i : ℕ} {s : Step} {a : Asked} {r : Checked} → StepAt log i s → Asks (kind log i) a → r ≡ in_range i s.tx s.obj s.src a
    → r ≡ range_refusal i (kind log i) (tx log i) (obj log i) (src log i)
by_asked {i} step asks e = rw (step.tx_is, step.obj_is, step.src_is) at e ∙ by_kind asks i _ _ _

-- .. and none of them applies
pub passes_asked : {log : List ℕ} {i : ℕ} {s : Step} {a : Asked} → StepAt log i s → Asks (kind log i) a → Passed ≡ in_range i s.tx s.obj s.src a → InRange log i
unfolding InRange
passes_asked step asks e = sym (by_asked step asks e)

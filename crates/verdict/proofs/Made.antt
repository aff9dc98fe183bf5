-- What the constructors of transactions, objects and logs tell of the number that they were given.
use Rattle.std.specs.Prelude.{◌≡◌, true, false, ℕ, Option, None, Some}
use Rattle.std.proofs.Common.{◌∙◌, sym, arith}
use Rattle.words.specs.Tests.{◌below◌, ◌upto◌, ◌and◌}
use Rattle.verdict.specs.Limits.{transactions, objects, most_steps, make_transaction, make_object, make_log}
use Rattle.verdict.specs.declared.limits.Transaction.{Transaction}
use Rattle.verdict.specs.declared.limits.Object.{Object}
use Rattle.verdict.specs.declared.limits.Log.{Log}
use Rattle.verdict.proofs.Refused.{chose_first, chose_second}

none_some : {A : Type 0} {x : A} → ◌≡◌ {A = Option A} None (Some x) → ⊥
none_some e = let z : ◌≡◌ {A = ℕ} 0 1 = cc in omega arith

some_none : {A : Type 0} {x : A} → ◌≡◌ {A = Option A} (Some x) None → ⊥
some_none e = let z : ◌≡◌ {A = ℕ} 0 1 = cc in omega arith

module _ (n : ℕ) where
  pub made_transaction : {r : Option Transaction} {x : Transaction} → r ≡ make_transaction n → r ≡ Some x → (1 upto n and n upto transactions) ≡ true
  unfolding make_transaction
  made_transaction e f = chose_first _ _ _ (sym e ∙ f) none_some

  pub no_transaction : {r : Option Transaction} → r ≡ make_transaction n → r ≡ None → (1 upto n and n upto transactions) ≡ false
  unfolding make_transaction
  no_transaction e f = chose_second _ _ _ (sym e ∙ f) some_none

  pub made_object : {r : Option Object} {x : Object} → r ≡ make_object n → r ≡ Some x → (n below objects) ≡ true
  unfolding make_object
  made_object e f = chose_first _ _ _ (sym e ∙ f) none_some

  pub no_object : {r : Option Object} → r ≡ make_object n → r ≡ None → (n below objects) ≡ false
  unfolding make_object
  no_object e f = chose_second _ _ _ (sym e ∙ f) some_none

  pub made_log : {r : Option Log} {x : Log} → r ≡ make_log n → r ≡ Some x → (n upto most_steps) ≡ true
  unfolding make_log
  made_log e f = chose_first _ _ _ (sym e ∙ f) none_some

  pub no_log : {r : Option Log} → r ≡ make_log n → r ≡ None → (n upto most_steps) ≡ false
  unfolding make_log
  no_log e f = chose_second _ _ _ (sym e ∙ f) some_none

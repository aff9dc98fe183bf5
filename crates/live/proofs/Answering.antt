-- What is said of a step, by its number, and what holds after it.
use mathlib.Core.Path.{◌≡◌, refl, sym, ap, subst, ◌∙◌}
use mathlib.Core.Bool.{Bool, true, false}
use mathlib.Core.Logic.{◌⊎◌, inl, inr, ⊎_elim}
use mathlib.Core.List.{List}
use Prim.Native.Nat.{ℕ, ◌≤◌}
use native.Mathlib.Omega.{arith}
use Rattle.words.specs.Tests.{◌is◌, provided◌then◌else◌}
use Rattle.words.proofs.Truth.{decide, not_both, →fails, →not_fails, →is, →isnt, provided_true, provided_false}
use Rattle.live.specs.Answers.{Said, Taken, Yes, Breach, CycleClosed, stands, answer_number}
use Rattle.live.specs.SoFar.{numbers, more}
use Rattle.live.specs.Breach.{breached}
use Rattle.live.specs.Closed.{closed}
use Rattle.live.specs.Says.{State, going, over, number, commit_says, good_says, says, after}
use Rattle.live.specs.Kept.{places, full}
use Rattle.live.specs.declared.step.Live.{Live}
use Rattle.live.specs.declared.step.Told.{Told}
use Rattle.live.specs.Inner.Accepted.{Accepted}
use Rattle.live.specs.Inner.Table.{Table, Sized}
use Rattle.live.specs.Inner.Held.{Tidy, Holds, holds_steps, holds_answer}
use Rattle.live.specs.Inner.Took.{Took, Takes}
use Rattle.live.proofs.Shut.{commit_told}

module _ (most : ℕ) (whole : List ℕ → Bool) (log : List ℕ) (k t x s : ℕ) where
  -- a bad step
  module _ {n : ℕ} (e : number most whole log k t x s ≡ n) (d : n ≡ 0 → ⊥) where
    bad : (number most whole log k t x s is 0) ≡ false
    bad = →isnt (λ z. d (sym e ∙ z))

    pub says_refused : Said.Refused n ≡ says most whole (going log) k t x s
    unfolding says
    says_refused = sym (provided_false _ _ bad ∙ ap Said.Refused e)

    pub after_refused : after most whole (going log) k t x s ≡ going log
    unfolding after
    after_refused = provided_true _ _ (→fails bad)

  -- a good step
  module _ (e : number most whole log k t x s ≡ 0) where
    good : (number most whole log k t x s is 0) ≡ true
    good = →is e

    says_good : says most whole (going log) k t x s ≡ good_says most whole k (more log k t x s)
    unfolding says
    says_good = provided_true _ _ good

    pub after_good : {a : Said} → a ≡ says most whole (going log) k t x s → stands a ≡ false → after most whole (going log) k t x s ≡ going (more log k t x s)
    unfolding after
    after_good f n = provided_false _ _ (→not_fails good) ∙ provided_false _ _ (subst (λ (b : Said). stands b ≡ false) (f ∙ says_good) n)

    -- that is no commit
    pub says_taken : (k ≡ 4 → ⊥) → Taken ≡ says most whole (going log) k t x s
    unfolding good_says
    says_taken n = sym (says_good ∙ provided_false _ _ (→isnt n))

    -- .. or a commit
    pub says_commit : k ≡ 4 → says most whole (going log) k t x s ≡ commit_says most whole (more log k t x s)
    unfolding good_says
    says_commit c = says_good ∙ provided_true _ _ (→is c)

    module _ (c : k ≡ 4) (ok : Accepted most (more log k t x s)) where
      told : says most whole (going log) k t x s ≡ (provided breached most (more log k t x s) then Breach else provided closed most (more log k t x s) then CycleClosed else Yes)
      told = says_commit c ∙ commit_told ok whole

      pub says_breach : breached most (more log k t x s) ≡ true → Breach ≡ says most whole (going log) k t x s
      says_breach b = sym (told ∙ provided_true _ _ b)

      module _ (b : breached most (more log k t x s) ≡ false) where
        pub says_closed : closed most (more log k t x s) ≡ true → CycleClosed ≡ says most whole (going log) k t x s
        says_closed l = sym (told ∙ provided_false _ _ b ∙ provided_true _ _ l)

        pub says_yes : closed most (more log k t x s) ≡ false → Yes ≡ says most whole (going log) k t x s
        says_yes l = sym (told ∙ provided_false _ _ b ∙ provided_false _ _ l)

-- A STEP TAKEN
module _ {l : Live} {b : Table} {k t x s : ℕ} where
  -- a bad one changes nothing
  pub took_refused : (n : ℕ) → (n ≡ 0 → ⊥) → Sized b → l.count ≤ places → ((log : List ℕ) → Tidy log l.top l.count b → number numbers (full numbers places) log k t x s ≡ n)
      → Took l b k t x s (record { live = l; said = Said.Refused n }) b
  unfolding stands
  took_refused n d size room f =
      record {
        sized = size;
        room = room;
        stood = sym (provided_false _ _ refl);
        answers = λ log h. says_refused numbers (full numbers places) log k t x s (f log h) d;
        goes_on = λ log h _. (log, after_refused numbers (full numbers places) log k t x s (f log h) d, h);
      }

  -- a good one that is no commit
  pub took_taken : {b' : Table} (top count : ℕ) → (k ≡ 4 → ⊥) → Sized b' → count ≤ places
      → ((log : List ℕ) → Tidy log l.top l.count b → (number numbers (full numbers places) log k t x s ≡ 0) × Tidy (more log k t x s) top count b')
      → Took l b k t x s (record { live = record { standing = l.standing; top = top; count = count }; said = Taken }) b'
  unfolding stands
  took_taken top count n size room f =
      record {
        sized = size;
        room = room;
        stood = sym (provided_false _ _ refl);
        answers = λ log h. says_taken numbers (full numbers places) log k t x s (f log h).0 n;
        goes_on = λ log h q. let r = f log h in (more log k t x s, after_good numbers (full numbers places) log k t x s r.0 (says_taken numbers (full numbers places) log k t x s r.0 n) q, r.1);
      }

  -- a commit that ends it
  pub took_last : {b' : Table} (a : Said) (n : ℕ) → stands a ≡ true → n ≡ answer_number a → Sized b' → l.count ≤ places → ((log : List ℕ) → Tidy log l.top l.count b → a ≡ says numbers (full numbers places) (going log) k t x s)
      → Took l b k t x s (record { live = record { standing = n; top = l.top; count = l.count }; said = a }) b'
  took_last a n e d size room f = record { sized = size; room = room; stood = d ∙ sym (provided_true _ _ e); answers = f; goes_on = λ log h q. absurd (not_both e q) }

  -- .. and one that does not
  pub took_yes : {b' : Table} (count : ℕ) → Sized b' → count ≤ places
      → ((log : List ℕ) → Tidy log l.top l.count b → (number numbers (full numbers places) log k t x s ≡ 0) × (Yes ≡ says numbers (full numbers places) (going log) k t x s) × Tidy (more log k t x s) l.top count b')
      → Took l b k t x s (record { live = record { standing = l.standing; top = l.top; count = count }; said = Yes }) b'
  unfolding stands
  took_yes count size room f =
      record {
        sized = size;
        room = room;
        stood = sym (provided_false _ _ refl);
        answers = λ log h. (f log h).1;
        goes_on = λ log h q. let r = f log h in (more log k t x s, after_good numbers (full numbers places) log k t x s r.0 r.1 q, r.2);
      }

-- WHATEVER THE STATE HOLDS
-- an answer that stands ends it
after_stands : (most : ℕ) (whole : List ℕ → Bool) (log : List ℕ) (k t x s : ℕ) {a : Said} → a ≡ says most whole (going log) k t x s → stands a ≡ true → after most whole (going log) k t x s ≡ over a
unfolding says after
after_stands most whole log k t x s {a} e f = go (decide (number most whole log k t x s is 0))
  where
    go : ((number most whole log k t x s is 0) ≡ true) ⊎ ((number most whole log k t x s is 0) ≡ false) → after most whole (going log) k t x s ≡ over a
    go (inl n) =
        let g : a ≡ good_says most whole k (more log k t x s) = e ∙ provided_true _ _ n in
        provided_false _ _ (→not_fails n) ∙ provided_true _ _ (subst (λ (z : Said). stands z ≡ true) g f) ∙ ap over (sym g)
    go (inr n) = absurd (not_both f (subst (λ (z : Said). stands z ≡ false) (sym (e ∙ provided_false _ _ n)) (unfold stands in refl)))

-- which answer stands is seen by its number
same_standing : (a c : Said) → stands a ≡ true → stands c ≡ true → answer_number a ≡ answer_number c → a ≡ c
unfolding stands answer_number
same_standing Breach Breach e f n = refl
same_standing CycleClosed CycleClosed e f n = refl
same_standing Breach CycleClosed e f n = absurd (omega arith)
same_standing CycleClosed Breach e f n = absurd (omega arith)
same_standing (Said.Refused m) c e f n = absurd (not_both e refl)
same_standing Taken c e f n = absurd (not_both e refl)
same_standing Yes c e f n = absurd (not_both e refl)
same_standing Breach (Said.Refused m) e f n = absurd (not_both f refl)
same_standing Breach Taken e f n = absurd (not_both f refl)
same_standing Breach Yes e f n = absurd (not_both f refl)
same_standing CycleClosed (Said.Refused m) e f n = absurd (not_both f refl)
same_standing CycleClosed Taken e f n = absurd (not_both f refl)
same_standing CycleClosed Yes e f n = absurd (not_both f refl)

-- .. and it is not 0
standing_there : (a : Said) → stands a ≡ true → (answer_number a ≡ 66) ⊎ (answer_number a ≡ 67)
unfolding stands answer_number
standing_there Breach e = inl refl
standing_there CycleClosed e = inr refl
standing_there (Said.Refused m) e = absurd (not_both e refl)
standing_there Taken e = absurd (not_both e refl)
standing_there Yes e = absurd (not_both e refl)

module _ {l : Live} {b : Table} {k t x s : ℕ} where
  pub takes_standing : (a : Said) → stands a ≡ true → l.standing ≡ answer_number a → Sized b → l.count ≤ places → Takes l b k t x s (record { live = l; said = a }) b
  unfolding says after
  takes_standing a e f size room = record { sized = size; room = room; answers = λ j h. same j h; holds = λ j h. stays j h }
    where
      no_steps : l.standing ≡ 0 → ⊥
      no_steps z = ⊎_elim (λ n. omega arith) (λ n. omega arith) (standing_there a e)

      same : (j : State) → Holds l.standing l.top l.count b j → a ≡ says numbers (full numbers places) j k t x s
      same (going log) (holds_steps z h) = absurd (no_steps z)
      same (over c) (holds_answer g n) = same_standing a c e g (sym f ∙ n)

      stays : (j : State) → Holds l.standing l.top l.count b j → Holds l.standing l.top l.count b (after numbers (full numbers places) j k t x s)
      stays (going log) (holds_steps z h) = absurd (no_steps z)
      stays (over c) (holds_answer g n) = holds_answer g n

  pub takes_took : (l.standing ≡ 66 → ⊥) → (l.standing ≡ 67 → ⊥) → {r : Told} {b' : Table} → Took l b k t x s r b' → Takes l b k t x s r b'
  takes_took m n {r} {b'} c = record { sized = c.sized; room = c.room; answers = λ j h. same j h; holds = λ j h. goes j h }
    where
      none : (a : Said) → stands a ≡ true → l.standing ≡ answer_number a → ⊥
      none a e f = ⊎_elim (λ z. m (f ∙ z)) (λ z. n (f ∙ z)) (standing_there a e)

      same : (j : State) → Holds l.standing l.top l.count b j → r.said ≡ says numbers (full numbers places) j k t x s
      same (going log) (holds_steps z h) = c.answers log h
      same (over a) (holds_answer g e) = absurd (none a g e)

      goes : (j : State) → Holds l.standing l.top l.count b j → Holds r.live.standing r.live.top r.live.count b' (after numbers (full numbers places) j k t x s)
      goes (over a) (holds_answer g e) = absurd (none a g e)
      goes (going log) (holds_steps z h) = go (decide (stands r.said))
        where
          go : (stands r.said ≡ true) ⊎ (stands r.said ≡ false) → Holds r.live.standing r.live.top r.live.count b' (after numbers (full numbers places) (going log) k t x s)
          go (inl e) = rw (after_stands numbers (full numbers places) log k t x s (c.answers log h) e) (holds_answer e (c.stood ∙ provided_true _ _ e))
          go (inr e) = let q = c.goes_on log h e in rw q.1 (holds_steps (c.stood ∙ provided_false _ _ e ∙ z) q.2)

  pub takes_breach : l.standing ≡ 66 → Sized b → l.count ≤ places → Takes l b k t x s (record { live = l; said = Breach }) b
  unfolding stands answer_number
  takes_breach e size room = takes_standing Breach refl e size room

  pub takes_closed : l.standing ≡ 67 → Sized b → l.count ≤ places → Takes l b k t x s (record { live = l; said = CycleClosed }) b
  unfolding stands answer_number
  takes_closed e size room = takes_standing CycleClosed refl e size room

-- The planner, try by try: what a try finds, how far the planner has come after it, and that it comes to an end.
use mathlib.Core.Path.{◌≡◌, refl, sym, ap, subst, fun_ext, ◌∙◌}
use mathlib.Core.Bool.{Bool, true, false}
use mathlib.Core.Logic.{◌⊎◌, inl, inr}
use mathlib.Core.List.{List}
use Prim.Native.Nat.{ℕ, suc, ◌+◌, ◌*◌, ◌<◌, ◌≤◌}
use native.Mathlib.Omega.{arith}
use lib.ListN.{length, get_or, set, replicate, length-set, length-replicate, get_or-replicate, get_or-eq_default}
use lib.Seq.{get_or-set_same, get_or-set_other}
use Rattle.words.specs.Tests.{◌is◌, ◌below◌, ◌and◌, fails, provided◌then◌else◌, count, lowest}
use Rattle.verdict.specs.Limits.{transactions}
use Rattle.verdict.specs.Log.{steps, src, committed}
use Rattle.verdict.specs.Clean.{fault_step, faulty_read}
use Rattle.verdict.specs.Refusal.{log_refusal}
use Rattle.verdict.specs.Answers.{Passed}
use Rattle.verdict.specs.declared.answers.Fault.{Fault}
use Rattle.verdict.specs.declared.answers.Answer.{Answer}
use Rattle.verdict.specs.declared.answers.Answer.TheVariants.{Order, Cycle, None, Unclean}
use Rattle.words.proofs.Truth.{decide, not_both, to_true, to_false, and→, →and, and_no_left, and_no_right, and_true_right, →fails, →not_fails, is→, →is, isnt→, →isnt, below→, not_below→, provided_true, provided_false, lowest_is, lowest_passes, below_lowest, lowest_some, none→, count_same, count_without}
use Rattle.words.proofs.Counting.{count_most}
use Rattle.plan.specs.TakenBack.{taken_back, ◌but◌}
use Rattle.plan.specs.Fine.{Fine}
use Rattle.plan.specs.WillDo.{Needs}
use Rattle.plan.specs.Redo.{GivesBack, no_more, one_more}
use Rattle.plan.specs.Inner.Marks.{table, marked, Committed}
use Rattle.plan.specs.Inner.Trials.{Shown, Within, Waits, Tried, given_back, waits_for}
use Rattle.plan.specs.Inner.Planning.{can_try, Planning, Planned}
use Rattle.plan.proofs.MarkLaws.{marked_beyond, marked_without, marked_again}
use Rattle.plan.proofs.ChangedLog.{changed}
use Rattle.plan.proofs.Inside.{but→}
use Rattle.plan.proofs.AllBack.{all_back_fine}
use Rattle.plan.proofs.Trying.{Told, told_fine, told_cycle, told_unclean, told, fault_there}
use Rattle.plan.proofs.Waiting.{waits_for_good, waits_for_source}

-- WHAT A TRY FINDS
module _ (log : List ℕ) (well : log_refusal log ≡ Passed) (back : List ℕ) (t : ℕ) (h : t < length back) (m : marked back t ≡ true) where
  abbrev others : List ℕ
  others = set back t 0

  alike : {a : Answer} → Shown log (marked others) a → Shown log (marked back but t) a
  alike {a} s = subst (λ (p : ℕ → Bool). Shown log p a) (marked_without back t h) s

  module _ {a : Answer} (s : Shown log (marked others) a) where
    pub tried_fine : {n : ℕ} → a ≡ Order n → Tried log (marked back) t 0
    tried_fine {n} e = go (told (alike s))
      where
        go : Told log (marked back but t) a → Tried log (marked back) t 0
        go (told_fine k g f) = given_back f
        go (told_cycle k g c f) = let z : ◌≡◌ {A = ℕ} 0 1 = cc in absurd (omega arith)
        go (told_unclean k g c f) = let z : ◌≡◌ {A = ℕ} 0 1 = cc in absurd (omega arith)

    pub tried_cycle : {n : ℕ} → a ≡ Cycle n → Tried log (marked back) t t
    tried_cycle {n} e = go (told (alike s))
      where
        go : Told log (marked back but t) a → Tried log (marked back) t t
        go (told_fine k g f) = let z : ◌≡◌ {A = ℕ} 0 1 = cc in absurd (omega arith)
        go (told_cycle k g c f) = waits_for m (waits_for_good log well (marked back) t c f)
        go (told_unclean k g c f) = let z : ◌≡◌ {A = ℕ} 0 1 = cc in absurd (omega arith)

    pub tried_none : a ≡ None → ⊥
    tried_none e = go (told s)
      where
        go : Told log (marked others) a → ⊥
        go (told_fine k g f) = let z : ◌≡◌ {A = ℕ} 0 1 = cc in omega arith
        go (told_cycle k g c f) = let z : ◌≡◌ {A = ℕ} 0 1 = cc in omega arith
        go (told_unclean k g c f) = let z : ◌≡◌ {A = ℕ} 0 1 = cc in omega arith

    module _ {f : Fault} (e : a ≡ Unclean f) where
      there : (fault_step f < steps (taken_back (marked back but t) log)) × (faulty_read (taken_back (marked back but t) log) (fault_step f) ≡ true)
      there = go (told (alike s))
        where
          go : Told log (marked back but t) a → (fault_step f < steps (taken_back (marked back but t) log)) × (faulty_read (taken_back (marked back but t) log) (fault_step f) ≡ true)
          go (told_fine k g x) = let z : ◌≡◌ {A = ℕ} 0 1 = cc in absurd (omega arith)
          go (told_cycle k g c x) = let z : ◌≡◌ {A = ℕ} 0 1 = cc in absurd (omega arith)
          go (told_unclean k g c x) = let z : f ≡ k = cc in fault_there _ f (rw z c)

      pub fault_inside : fault_step f < steps log
      fault_inside = rw (changed (marked back but t) log).size at there.0

      pub tried_unclean : Fine transactions (taken_back (marked back) log) → {r : ℕ} → r ≡ (provided marked back (src log (fault_step f)) then src log (fault_step f) else t) → Tried log (marked back) t r
      tried_unclean fine {r} q = rw q (waits_for (chosen (decide (marked back source))) (waits_for_source log well (marked back) t fine (fault_step f) fault_inside there.1))
        where
          source : ℕ
          source = src log (fault_step f)

          chosen : (marked back source ≡ true) ⊎ (marked back source ≡ false) → marked back (provided marked back (src log (fault_step f)) then src log (fault_step f) else t) ≡ true
          chosen (inl y) = ap (marked back) (provided_true _ _ y) ∙ y
          chosen (inr y) = ap (marked back) (provided_false _ _ y) ∙ m

-- FEWER ARE TAKEN BACK
still_waits : (log : List ℕ) (back fewer : ℕ → Bool) (t s : ℕ) → Within fewer back → Waits log back t s → Waits log fewer t s
still_waits log back fewer t s within w less inside = w less (λ u k. within u (inside u k))

-- nobody waits for 0
nobody_waits : (log : List ℕ) (back : ℕ → Bool) (t : ℕ) → back 0 ≡ false → Waits log back t 0
nobody_waits log back t z fewer within a b = absurd (not_both (within 0 b) z)

module _ (log back waits : List ℕ) (p : Planning log back waits) where
  -- who is taken back and cannot be tried is needed
  stuck : (u : ℕ) → marked back u ≡ true → can_try back waits u ≡ false → Needs transactions log (marked back) u
  unfolding can_try
  stuck u m n = p.waiting u (marked back) (λ v k. k) m (to_true _ (λ k. not_both (→and m (→fails k)) n))

  -- nobody can be tried any more
  pub planning_done : table ≤ lowest table (can_try back waits) → Planned log back
  unfolding can_try
  planning_done h =
      record {
        size = p.size;
        none_0 = p.none_0;
        ends = p.goes_on (marked back) (no_more (λ u m. stuck u m (none u (decide (u below table)))));
      }
    where
      none : (u : ℕ) → ((u below table) ≡ true) ⊎ ((u below table) ≡ false) → can_try back waits u ≡ false
      none u (inl k) = none→ (can_try back waits) (lowest_some (can_try back waits) h) u (below→ k)
      none u (inr k) = and_no_left _ (marked_beyond back u (omega (arith, p.size, not_below→ k)))

  -- one is tried
  module _ (t : ℕ) (low : t ≡ lowest table (can_try back waits)) (h : t < table) where
    can : can_try back waits t ≡ true
    can = rw low (lowest_is (can_try back waits) (lowest_passes (can_try back waits) (rw low at h))).1

    pub tried_marked : marked back t ≡ true
    unfolding can_try
    tried_marked = (and→ can).0

    lower : (u : ℕ) → u < t → marked back u ≡ true → Needs transactions log (marked back) u
    lower u k m = stuck u m (below_lowest table (can_try back waits) u (rw low at k))

    in_back : t < length back
    in_back = omega (arith, p.size)

    in_waits : t < length waits
    in_waits = omega (arith, p.size_waits)

    module _ (s v : ℕ) (found : Tried log (marked back) t s) (mark : v ≡ (provided s is 0 then 0 else 1)) where
      -- the marks behind the try: t goes where nobody has to be waited for
      gone : s ≡ 0 → marked (set back t v) ≡ (marked back but t)
      gone z = rw (mark ∙ provided_true _ _ (→is z)) (marked_without back t in_back)

      kept : (s ≡ 0 → ⊥) → marked (set back t v) ≡ marked back
      kept z = rw (mark ∙ provided_false _ _ (→isnt z)) (marked_again back t in_back tried_marked)

      -- giving back goes on
      given : (rest : ℕ → Bool) → s ≡ 0 → Fine transactions (taken_back (marked back but t) log) → GivesBack transactions log (marked back but t) rest → GivesBack transactions log (committed log) rest
      given rest z f g = p.goes_on rest (one_more t tried_marked f lower g)

      -- who is noted to wait does
      waiting_other : (q : ℕ → Bool) → Within q (marked back) → Waits log q t s → (u : ℕ) → Waits log q u (get_or (set waits t s) u 0)
      waiting_other q within w u = go (decide (u is t))
        where
          go : ((u is t) ≡ true) ⊎ ((u is t) ≡ false) → Waits log q u (get_or (set waits t s) u 0)
          go (inl e) =
              let z : u ≡ t = is→ e in
              subst (λ (n : ℕ). Waits log q u n) (sym (ap (λ (a : ℕ). get_or (set waits t s) a 0) z ∙ get_or-set_same waits t s 0 in_waits)) (subst (λ (a : ℕ). Waits log q a s) (sym z) w)
          go (inr e) =
              subst (λ (n : ℕ). Waits log q u n) (sym (get_or-set_other waits t u s 0 (isnt→ e))) (still_waits log (marked back) q u (get_or waits u 0) within (p.waiting u))

      -- by the marks behind the try
      planning_by : (q : ℕ → Bool) → marked (set back t v) ≡ q → Within q (marked back) → ((rest : ℕ → Bool) → GivesBack transactions log q rest → GivesBack transactions log (committed log) rest)
          → Fine transactions (taken_back q log) → Waits log q t s → Planning log (set back t v) (set waits t s)
      planning_by q e within on f w =
          record {
            size = length-set back t v ∙ p.size;
            size_waits = length-set waits t s ∙ p.size_waits;
            none_0 = ap (λ (a : ℕ → Bool). a 0) e ∙ to_false _ (λ k. not_both (within 0 k) p.none_0);
            goes_on = λ rest g. on rest (subst (λ (a : ℕ → Bool). GivesBack transactions log a rest) e g);
            fine = subst (λ (a : ℕ → Bool). Fine transactions (taken_back a log)) (sym e) f;
            waiting = λ u. subst (λ (a : ℕ → Bool). Waits log a u (get_or (set waits t s) u 0)) (sym e) (waiting_other q within w u);
          }

      pub planning_next : Planning log (set back t v) (set waits t s)
      planning_next = go s refl found
        where
          go : (n : ℕ) → s ≡ n → Tried log (marked back) t n → Planning log (set back t v) (set waits t s)
          go n e (given_back f) =
              let within : Within (marked back but t) (marked back) = λ u k. (but→ (marked back) t u k).0 in
              planning_by (marked back but t) (gone e) within (λ rest g. given rest e f g) f
              (subst (λ (a : ℕ). Waits log (marked back but t) t a) (sym e) (nobody_waits log (marked back but t) t (to_false _ (λ k. not_both (within 0 k) p.none_0))))
          go n e (waits_for m w) =
              planning_by (marked back) (kept (λ (z : s ≡ 0). not_both (subst (λ (a : ℕ). marked back a ≡ true) (sym e ∙ z) m) p.none_0)) (λ u k. k) p.goes_on p.fine (subst (λ (a : ℕ). Waits log (marked back) t a) (sym e) w)

-- EVERY COMMIT TAKEN BACK
pub planning_start : (log : List ℕ) → log_refusal log ≡ Passed → (who waits : List ℕ) → Committed log who → waits ≡ replicate table 0 → marked who 0 ≡ false → Planning log who waits
planning_start log well who waits c e z =
    let same : marked who ≡ committed log = fun_ext c.each in
    record {
      size = c.size;
      size_waits = ap length e ∙ length-replicate {A = ℕ} table 0;
      none_0 = z;
      goes_on = λ rest g. subst (λ (a : ℕ → Bool). GivesBack transactions log a rest) same g;
      fine = subst (λ (a : ℕ → Bool). Fine transactions (taken_back a log)) (sym same) (all_back_fine log well);
      waiting = λ u. subst (λ (n : ℕ). Waits log (marked who) u n) (sym (ap (λ (l : List ℕ). get_or l u 0) e ∙ zero u (decide (u below table)))) (nobody_waits log (marked who) u z);
    }
  where
    zero : (u : ℕ) → ((u below table) ≡ true) ⊎ ((u below table) ≡ false) → get_or (replicate {A = ℕ} table 0) u 0 ≡ 0
    zero u (inl k) = get_or-replicate table u 0 0 (below→ k)
    zero u (inr k) = let l : length (replicate {A = ℕ} table 0) ≡ table = length-replicate {A = ℕ} table 0 in get_or-eq_default (replicate table 0) 0 {n = u} (omega (arith, not_below→ k))

-- IT COMES TO AN END
-- each try leaves fewer taken back, or as many and fewer to try
unfoldable pub to_do : (back waits : List ℕ) → ℕ
to_do back waits = count table (marked back) * 130 + count table (can_try back waits)

module _ (log back waits : List ℕ) (p : Planning log back waits) (t : ℕ) (low : t ≡ lowest table (can_try back waits)) (h : t < table)
    (s v : ℕ) (found : Tried log (marked back) t s) (mark : v ≡ (provided s is 0 then 0 else 1)) where
  one_fewer : suc (count table (marked back but t)) ≡ count table (marked back)
  unfolding ◌but◌
  one_fewer = count_without table (marked back) t h (tried_marked log back waits p t low h)

  -- who waits for one that is taken back cannot be tried
  not_again : (s ≡ 0 → ⊥) → marked back s ≡ true → (u : ℕ) → can_try (set back t v) (set waits t s) u ≡ (can_try back waits u and fails (u is t))
  unfolding can_try
  not_again z m u = rw (kept log back waits p t low h s v found mark z) (go (decide (u is t)))
    where
      go : ((u is t) ≡ true) ⊎ ((u is t) ≡ false) → (marked back u and fails (marked back (get_or (set waits t s) u 0))) ≡ (marked back u and fails (marked back (get_or waits u 0)) and fails (u is t))
      go (inl e) =
          let y : u ≡ t = is→ e in
          and_no_right _ (→not_fails (ap (marked back) (ap (λ (a : ℕ). get_or (set waits t s) a 0) y ∙ get_or-set_same waits t s 0 (in_waits log back waits p t low h)) ∙ m))
          ∙ sym (and_no_right _ (→not_fails e))
      go (inr e) = rw (get_or-set_other waits t u s 0 (isnt→ e)) (sym (and_true_right _ (→fails e)))

  pub less_to_do : to_do (set back t v) (set waits t s) < to_do back waits
  unfolding to_do
  less_to_do = go s refl found
    where
      go : (n : ℕ) → s ≡ n → Tried log (marked back) t n → count table (marked (set back t v)) * 130 + count table (can_try (set back t v) (set waits t s)) < count table (marked back) * 130 + count table (can_try back waits)
      go n e (given_back f) =
          let a : count table (marked (set back t v)) ≡ count table (marked back but t) = ap (count table) (gone log back waits p t low h s v found mark e) in
          let b : suc (count table (marked back but t)) ≡ count table (marked back) = one_fewer in
          let c : count table (can_try (set back t v) (set waits t s)) ≤ table = count_most table (can_try (set back t v) (set waits t s)) in
          omega arith
      go n e (waits_for m w) =
          let z : s ≡ 0 → ⊥ = λ y. not_both (subst (λ (x : ℕ). marked back x ≡ true) (sym e ∙ y) m) p.none_0 in
          let a : count table (marked (set back t v)) ≡ count table (marked back) = ap (count table) (kept log back waits p t low h s v found mark z) in
          let b : count table (can_try (set back t v) (set waits t s)) ≡ count table (λ u. can_try back waits u and fails (u is t)) = count_same table _ _ (λ (u : ℕ) (l : u < table). not_again z (subst (λ (x : ℕ). marked back x ≡ true) (sym e) m) u) in
          let c : suc (count table (λ u. can_try back waits u and fails (u is t))) ≡ count table (can_try back waits) = count_without table (can_try back waits) t h (can log back waits p t low h) in
          omega arith

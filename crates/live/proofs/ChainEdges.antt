-- While no breach came, the edges by begins and commits have the same cycles as the version edges: each of these is one of them, and each of them is a
-- way along these.
use mathlib.Core.Path.{◌≡◌, refl, sym, subst, ◌∙◌}
use mathlib.Core.Bool.{true, false}
use mathlib.Core.Logic.{◌⊎◌, inl, inr, ⊎_elim}
use mathlib.Core.List.{List}
use Prim.Native.Nat.{ℕ, zero, suc, ◌≤◌, ◌<◌}
use native.Mathlib.Omega.{arith}
use Rattle.words.specs.Tests.{◌is◌, ◌below◌, ◌and◌, ◌or◌, fails, some}
use Rattle.words.proofs.Truth.{decide, and→, →and, or→, →or_left, →or_right, fails→, →fails, is→, →is, isnt→, →isnt, below→, →below, not_below→, some→, →some}
use Rattle.graph.specs.Reach.{Way, stay, onward}
use Rattle.graph.proofs.Ways.{way_join}
use Rattle.verdict.specs.Limits.{objects}
use Rattle.verdict.specs.Log.{steps, begun, committed, writer, begin_step, commit_step}
use Rattle.live.specs.Breach.{breached}
use Rattle.live.specs.Inner.Accepted.{Accepted}
use Rattle.live.specs.Inner.Seen.{seen, reads_first, edge_from_seen, edge_to_replacer, seen_edge}
use Rattle.live.specs.Inner.Chain.{to_later, to_reader, to_unseen, chain_edge}
use Rattle.live.proofs.Accepted.{committed_range, commit_injective, begins_first, begun_committed}
use Rattle.live.proofs.LastWriter.{Last, None}
use Rattle.live.proofs.SeenEdges.{begin_no_commit, seen_cases, apart}
use Rattle.live.proofs.SeenGrows.{edge_on, seen_edge_is}

module _ {most : ℕ} {log : List ℕ} (ok : Accepted most log) (fine : breached most log ≡ false) where
  -- an edge to b from who wrote what it sees, and from who reads what it replaces
  from_seen_edge : (a b x : ℕ) → x < objects → committed log a ≡ true → committed log b ≡ true → (a ≡ b → ⊥) → writer log x a ≡ true → (writer log x b or reads_first log x b) ≡ true → seen log b x ≡ a → seen_edge log a b ≡ true
  unfolding edge_on edge_from_seen
  from_seen_edge a b x l c d n w t e = seen_edge_is log a b ∙ →and (→and (→and c d) (→fails (→isnt n))) (→some _ x l (→or_left _ (→and (→and w t) (→is e))))

  to_replacer_edge : (a b x : ℕ) → x < objects → committed log a ≡ true → committed log b ≡ true → (a ≡ b → ⊥) → reads_first log x a ≡ true → writer log x b ≡ true → seen log a x ≡ seen log b x → seen_edge log a b ≡ true
  unfolding edge_on edge_to_replacer
  to_replacer_edge a b x l c d n r w e = seen_edge_is log a b ∙ →and (→and (→and c d) (→fails (→isnt n))) (→some _ x l (→or_right _ (→and (→and r w) (→is e))))

  -- a committed writer of x
  record Wrote (x t : ℕ) : Type 0 where
    done : committed log t ≡ true
    write : writer log x t ≡ true

  -- what b sees of x, where a's version was committed before b began: that one, or a later one
  record Sees (a b x : ℕ) : Type 0 where
    wrote : Wrote x (seen log b x)
    early : commit_step log (seen log b x) < begin_step log b
    late : (seen log b x ≡ a) ⊎ (commit_step log a < commit_step log (seen log b x))

  sees : (a b x : ℕ) → begun log (steps log) b ≡ true → Wrote x a → commit_step log a < begin_step log b → Sees a b x
  sees a b x g w e = go (seen_cases ok b g x)
    where
      go : Last log x (begin_step log b) (seen log b x) ⊎ ((seen log b x ≡ 0) × None log x (begin_step log b)) → Sees a b x
      go (inr q) = absurd (q.1 a w.done w.write e)
      go (inl q) = record { wrote = record { done = q.commit; write = q.write }; early = q.early; late = which (decide (commit_step log a below commit_step log (seen log b x))) }
        where
          which : ((commit_step log a below commit_step log (seen log b x)) ≡ true) ⊎ ((commit_step log a below commit_step log (seen log b x)) ≡ false) → (seen log b x ≡ a) ⊎ (commit_step log a < commit_step log (seen log b x))
          which (inl l) = inr (below→ l)
          which (inr l) = inl (commit_injective ok (seen log b x) a q.commit w.done (let z : commit_step log a ≤ commit_step log (seen log b x) = q.latest a w.done w.write e in omega (arith, not_below→ l)))

  -- who committed before b began is not b
  not_itself : (s b : ℕ) → committed log b ≡ true → commit_step log s < begin_step log b → s ≡ b → ⊥
  not_itself s b d e z = let f : begin_step log b < commit_step log b = begins_first ok b d in let y : commit_step log b < begin_step log b = subst (λ (i : ℕ). commit_step log i < begin_step log b) z e in omega arith

  -- A VERSION LEADS TO EVERY LATER ONE: n bounds how late that one is
  later_way : (n a b x : ℕ) → commit_step log b < n → x < objects → Wrote x a → Wrote x b → commit_step log a < commit_step log b → Way (seen_edge log) a b
  later_way zero a b x h l w v e = absurd (omega arith)
  later_way (suc n) a b x h l w v e = go (sees a b x (begun_committed ok b v.done) w before) (later_way n a)
    where
      before : commit_step log a < begin_step log b
      before = apart ok fine x a b w.done v.done w.write v.write e

      first : begin_step log b < commit_step log b
      first = begins_first ok b v.done

      go : Sees a b x → ((s : ℕ) (x : ℕ) → commit_step log s < n → x < objects → Wrote x a → Wrote x s → commit_step log a < commit_step log s → Way (seen_edge log) a s) → Way (seen_edge log) a b
      go q rec = ⊎_elim (λ z. subst (λ (i : ℕ). Way (seen_edge log) i b) z (onward last stay)) (λ z. way_join (rec (seen log b x) x (omega (arith, q.early, first)) l w q.wrote z) (onward last stay)) q.late
        where
          last : seen_edge log (seen log b x) b ≡ true
          last = from_seen_edge (seen log b x) b x l q.wrote.done v.done (not_itself (seen log b x) b v.done q.early) q.wrote.write (→or_left _ v.write) refl

  later_leads : (a b x : ℕ) → x < objects → Wrote x a → Wrote x b → commit_step log a < commit_step log b → Way (seen_edge log) a b
  later_leads a b x l w v e = later_way (suc (commit_step log b)) a b x (omega arith) l w v e

  -- .. AND TO EACH READER that began after its commit
  reader_leads : (a b x : ℕ) → x < objects → Wrote x a → committed log b ≡ true → reads_first log x b ≡ true → commit_step log a < begin_step log b → Way (seen_edge log) a b
  reader_leads a b x l w d r e = go (sees a b x (begun_committed ok b d) w e)
    where
      go : Sees a b x → Way (seen_edge log) a b
      go q = ⊎_elim (λ z. subst (λ (i : ℕ). Way (seen_edge log) i b) z (onward last stay)) (λ z. way_join (later_leads a (seen log b x) x l w q.wrote z) (onward last stay)) q.late
        where
          last : seen_edge log (seen log b x) b ≡ true
          last = from_seen_edge (seen log b x) b x l q.wrote.done d (not_itself (seen log b x) b d q.early) q.wrote.write (→or_right _ r) refl

  -- A READER LEADS TO EVERY VERSION committed after it began
  unseen_way : (n a b x : ℕ) → commit_step log b < n → x < objects → committed log a ≡ true → reads_first log x a ≡ true → Wrote x b → (a ≡ b → ⊥) → begin_step log a < commit_step log b → Way (seen_edge log) a b
  unseen_way zero a b x h l c r v d e = absurd (omega arith)
  unseen_way (suc n) a b x h l c r v d e = go (seen_cases ok b (begun_committed ok b v.done) x) (seen_cases ok a (begun_committed ok a c) x) (unseen_way n a)
    where
      first : begin_step log b < commit_step log b
      first = begins_first ok b v.done

      -- a sees what b sees: the edge itself
      same : seen log a x ≡ seen log b x → Way (seen_edge log) a b
      same z = onward (to_replacer_edge a b x l c v.done d r v.write z) stay

      -- between what b sees and b's own there is no version
      between : (s : ℕ) → Wrote x s → commit_step log s < commit_step log b → commit_step log s < begin_step log b
      between s w k = apart ok fine x s b w.done v.done w.write v.write k

      go : Last log x (begin_step log b) (seen log b x) ⊎ ((seen log b x ≡ 0) × None log x (begin_step log b)) → Last log x (begin_step log a) (seen log a x) ⊎ ((seen log a x ≡ 0) × None log x (begin_step log a))
          → ((s : ℕ) (x : ℕ) → commit_step log s < n → x < objects → committed log a ≡ true → reads_first log x a ≡ true → Wrote x s → (a ≡ s → ⊥) → begin_step log a < commit_step log s → Way (seen_edge log) a s) → Way (seen_edge log) a b
      go (inr q) (inr p) rec = same (p.0 ∙ sym q.0)
      go (inr q) (inl p) rec = absurd (q.1 (seen log a x) p.commit p.write (between (seen log a x) (record { done = p.commit; write = p.write }) (let z : commit_step log (seen log a x) < begin_step log a = p.early in omega arith)))
      go (inl q) p rec = which (decide (begin_step log a below commit_step log (seen log b x)))
        where
          w : Wrote x (seen log b x)
          w = record { done = q.commit; write = q.write }

          last : seen_edge log (seen log b x) b ≡ true
          last = from_seen_edge (seen log b x) b x l q.commit v.done (not_itself (seen log b x) b v.done q.early) q.write (→or_left _ v.write) refl

          -- a began later: it sees the same
          agrees : commit_step log (seen log b x) < begin_step log a → Last log x (begin_step log a) (seen log a x) ⊎ ((seen log a x ≡ 0) × None log x (begin_step log a)) → seen log a x ≡ seen log b x
          agrees k (inr m) = absurd (m.1 (seen log b x) q.commit q.write k)
          agrees k (inl m) =
              let i : commit_step log (seen log b x) ≤ commit_step log (seen log a x) = m.latest (seen log b x) q.commit q.write k in
              let y : commit_step log (seen log a x) < begin_step log a = m.early in
              let j : commit_step log (seen log a x) ≤ commit_step log (seen log b x) = q.latest (seen log a x) m.commit m.write (between (seen log a x) (record { done = m.commit; write = m.write }) (omega arith)) in
              commit_injective ok (seen log a x) (seen log b x) m.commit q.commit (omega arith)

          which : ((begin_step log a below commit_step log (seen log b x)) ≡ true) ⊎ ((begin_step log a below commit_step log (seen log b x)) ≡ false) → Way (seen_edge log) a b
          which (inr k) =
              let z : commit_step log (seen log b x) ≡ begin_step log a → ⊥ = begin_no_commit ok a (seen log b x) (begun_committed ok a c) q.commit in
              same (agrees (omega (arith, not_below→ k)) p)
          which (inl k) = itself (decide (a is seen log b x))
            where
              itself : ((a is seen log b x) ≡ true) ⊎ ((a is seen log b x) ≡ false) → Way (seen_edge log) a b
              itself (inl z) = subst (λ (i : ℕ). Way (seen_edge log) i b) (sym (is→ z)) (onward last stay)
              itself (inr z) = way_join (rec (seen log b x) x (omega (arith, q.early, first)) l c r w (isnt→ z) (below→ k)) (onward last stay)

  -- THE SAME WAYS
  pub chain_way : (a b : ℕ) → chain_edge log a b ≡ true → Way (seen_edge log) a b
  unfolding chain_edge to_later to_reader to_unseen
  chain_way a b h =
      let p = and→ h in
      let q = and→ p.0 in
      let c = and→ q.0 in
      let d : a ≡ b → ⊥ = isnt→ (fails→ q.1) in
      let r = some→ p.1 in
      ⊎_elim (λ o. ⊎_elim (λ z. let m = and→ z in let n = and→ m.0 in later_leads a b r.0 r.1 (record { done = c.0; write = n.0 }) (record { done = c.1; write = n.1 }) (below→ m.1))
      (λ z. let m = and→ z in let n = and→ m.0 in reader_leads a b r.0 r.1 (record { done = c.0; write = n.0 }) c.1 n.1 (below→ m.1)) (or→ o))
      (λ z. let m = and→ z in let n = and→ m.0 in unseen_way (suc (commit_step log b)) a b r.0 (omega arith) r.1 c.0 n.0 (record { done = c.1; write = n.1 }) d (below→ m.1)) (or→ r.2)

  pub seen_chain : (a b : ℕ) → seen_edge log a b ≡ true → chain_edge log a b ≡ true
  unfolding chain_edge to_later to_reader to_unseen edge_on edge_from_seen edge_to_replacer
  seen_chain a b h = →and p.0 (→some _ r.0 r.1 (⊎_elim from to (or→ r.2)))
    where
      p : ((committed log a and committed log b and fails (a is b)) ≡ true) × (some objects (edge_on log a b) ≡ true)
      p = and→ (sym (seen_edge_is log a b) ∙ h)

      c : (committed log a ≡ true) × (committed log b ≡ true)
      c = and→ (and→ p.0).0

      r : (x : ℕ) × (x < objects) × (edge_on log a b x ≡ true)
      r = some→ p.1

      first : begin_step log b < commit_step log b
      first = begins_first ok b c.1

      early : (x : ℕ) → seen log b x ≡ a → commit_step log a < begin_step log b
      early x e = ⊎_elim (λ q. subst (λ (i : ℕ). commit_step log i < begin_step log b) e q.early) (λ q. let z : a ≡ 0 = sym e ∙ q.0 in let l : 1 ≤ a = (committed_range ok a c.0).0 in absurd (omega arith)) (seen_cases ok b (begun_committed ok b c.1) x)

      from : edge_from_seen log a b r.0 ≡ true → (to_later log a b r.0 or to_reader log a b r.0 or to_unseen log a b r.0) ≡ true
      from q =
          let m = and→ q in
          let n = and→ m.0 in
          let e = early r.0 (is→ m.1) in
          →or_left _ (⊎_elim (λ w. →or_left _ (→and (→and n.0 w) (→below (omega (arith, first, e))))) (λ w. →or_right _ (→and (→and n.0 w) (→below e))) (or→ n.1))

      to : edge_to_replacer log a b r.0 ≡ true → (to_later log a b r.0 or to_reader log a b r.0 or to_unseen log a b r.0) ≡ true
      to q =
          let m = and→ q in
          let n = and→ m.0 in
          →or_right _ (→and m.0 (→below (unseen (is→ m.1) n.1)))
        where
          -- what b sees was committed before b began
          seen_early : seen log a r.0 ≡ seen log b r.0 → committed log (seen log a r.0) ≡ true → commit_step log (seen log a r.0) < begin_step log b
          seen_early e d =
              ⊎_elim (λ q. subst (λ (i : ℕ). commit_step log i < begin_step log b) (sym e) q.early)
              (λ q. let v : seen log a r.0 ≡ 0 = e ∙ q.0 in let l : 1 ≤ seen log a r.0 = (committed_range ok (seen log a r.0) d).0 in absurd (omega arith)) (seen_cases ok b (begun_committed ok b c.1) r.0)

          unseen : seen log a r.0 ≡ seen log b r.0 → writer log r.0 b ≡ true → begin_step log a < commit_step log b
          unseen e w = go (decide (begin_step log a below commit_step log b))
            where
              go : ((begin_step log a below commit_step log b) ≡ true) ⊎ ((begin_step log a below commit_step log b) ≡ false) → begin_step log a < commit_step log b
              go (inl k) = below→ k
              go (inr k) =
                  let z : commit_step log b ≡ begin_step log a → ⊥ = begin_no_commit ok a b (begun_committed ok a c.0) c.1 in
                  let q = sees b a r.0 (begun_committed ok a c.0) (record { done = c.1; write = w }) (omega (arith, not_below→ k)) in
                  let y : commit_step log (seen log a r.0) < begin_step log b = seen_early e q.wrote.done in
                  absurd (⊎_elim (λ (v : seen log a r.0 ≡ b). let u : commit_step log b < begin_step log b = subst (λ (i : ℕ). commit_step log i < begin_step log b) v y in omega (arith, first)) (λ v. omega (arith, first, y)) q.late)

-- A row, one step later: the rows of others stay, and what the step changes in the row of its own transaction.
use mathlib.Core.Path.{◌≡◌, refl, sym, ap, subst, ◌∙◌}
use mathlib.Core.Bool.{Bool, true, false}
use mathlib.Core.Logic.{◌⊎◌, inl, inr, ⊎_elim}
use mathlib.Core.List.{List}
use Prim.Native.Nat.{ℕ, ◌<◌}
use native.Mathlib.Omega.{arith}
use Rattle.words.specs.Tests.{◌is◌, ◌and◌, ◌or◌, fails, provided◌then◌else◌}
use Rattle.words.proofs.Truth.{decide, not_both, same_test, and→, →and, and_no_left, and_no_right, or→, →or_left, →or_right, or_no, →fails, →not_fails, is→, →is, →isnt}
use Rattle.bits.specs.Word.{marked, more}
use Rattle.bits.proofs.Marks.{no_mark, marked_more}
use Rattle.verdict.specs.Limits.{objects}
use Rattle.verdict.specs.Log.{steps, begun, wrote, writer}
use Rattle.live.specs.SoFar.{is_open}
use Rattle.live.specs.Inner.Accepted.{Accepted}
use Rattle.live.specs.Inner.Seen.{last_writer, seen, misreads, reads_first}
use Rattle.live.specs.Inner.Held.{Row}
use Rattle.live.proofs.Grows.{Grows, writer_grows}
use Rattle.live.proofs.Accepted.{Good, good_uncommitted, new_unbegun}
use Rattle.live.proofs.StepFacts.{reads_first_grows, begun_grows, open_other, unbegun_unwritten, unbegun_unread, unbegun_right, seen_same, seen_here, wanted_here, misreads_grows, open_inside, open_ended}
use Rattle.live.proofs.SeenGrows.{committed_same, committed_other, committed_here}

-- the same row, read elsewhere
pub row_as : {log : List ℕ} {u status : ℕ} {sees : ℕ → ℕ} {writes reads : ℕ} → Row log u status sees writes reads → {u' status' : ℕ} {sees' : ℕ → ℕ} {writes' reads' : ℕ}
    → u' ≡ u → status' ≡ status → ((x : ℕ) → x < objects → sees' x ≡ sees x) → writes' ≡ writes → reads' ≡ reads → Row log u' status' sees' writes' reads'
row_as r e f g h i =
    record {
      began = rw e r.began;
      seeing = λ x l. g x l ∙ rw e (r.seeing x l);
      writing = λ x l. rw (e, h) (r.writing x l);
      reading = λ x l. rw (e, i) (r.reading x l);
      done = rw (e, f) r.done;
      wrong = λ o. rw (e, f) (r.wrong (rw e at o));
    }

module _ {most k t x s : ℕ} {log log' : List ℕ} (ok : Accepted most log) (good : Good most log k t x) (g : Grows log k t x s log') where
  began_later : (u : ℕ) → begun log (steps log) u ≡ true → begun log' (steps log') u ≡ true
  began_later u b = begun_grows g u ∙ →or_left _ b

  -- the step is of another
  pub row_other : {u status : ℕ} {sees : ℕ → ℕ} {writes reads : ℕ} → (t ≡ u → ⊥) → Row log u status sees writes reads → Row log' u status sees writes reads
  row_other {u} d r =
      record {
        began = began_later u r.began;
        seeing = λ y l. r.seeing y l ∙ sym (seen_same ok good g u y r.began);
        writing = λ y l. r.writing y l ∙ sym (writer_grows g y u ∙ or_no _ (and_no_left _ (and_no_right _ (→isnt d))));
        reading = λ y l. r.reading y l ∙ sym (reads_first_grows g y u ∙ or_no _ (and_no_left _ (and_no_left _ (and_no_right _ (→isnt d)))));
        done = r.done ∙ sym (committed_other ok good g u d);
        wrong = λ o. r.wrong (sym (open_other g u d) ∙ o) ∙ sym (misreads_grows ok good g u ∙ or_no _ (and_no_left _ (and_no_right _ (→isnt d))));
      }

  -- what stays in the row of its own transaction
  stays_written : (k ≡ 3 → ⊥) → (y : ℕ) → writer log' y t ≡ writer log y t
  stays_written n y = writer_grows g y t ∙ or_no _ (and_no_left _ (and_no_left _ (→isnt n)))

  stays_read : (k ≡ 2 → ⊥) → (y : ℕ) → reads_first log' y t ≡ reads_first log y t
  stays_read n y = reads_first_grows g y t ∙ or_no _ (and_no_left _ (and_no_left _ (and_no_left _ (→isnt n))))

  stays_right : (k ≡ 2 → ⊥) → misreads log' t ≡ misreads log t
  stays_right n = misreads_grows ok good g t ∙ or_no _ (and_no_left _ (and_no_left _ (→isnt n)))

  -- A BEGIN: the row sees what one that begins now would see, and has done nothing
  pub row_begin : k ≡ 1 → {sees : ℕ → ℕ} → ((y : ℕ) → y < objects → sees y ≡ last_writer log (steps log) y) → Row log' t 0 sees 0 0
  row_begin e f =
      let fresh : begun log (steps log) t ≡ false = new_unbegun ok t (good.above e) in
      record {
        began = begun_grows g t ∙ →or_right _ (→and (→is e) (→is refl));
        seeing = λ y l. f y l ∙ sym (seen_here ok good g y e);
        writing = λ y l. no_mark y ∙ sym (stays_written (λ (q : k ≡ 3). omega arith) y ∙ unbegun_unwritten ok t fresh y);
        reading = λ y l. no_mark y ∙ sym (stays_read (λ (q : k ≡ 2). omega arith) y ∙ unbegun_unread ok t fresh y);
        done = →isnt (λ (q : ◌≡◌ {A = ℕ} 0 2). omega arith) ∙ sym (committed_same ok good g (λ (q : k ≡ 4). omega arith) t ∙ good_uncommitted ok good);
        wrong = λ o. →isnt (λ (q : ◌≡◌ {A = ℕ} 0 1). omega arith) ∙ sym (stays_right (λ (q : k ≡ 2). omega arith) ∙ unbegun_right ok t fresh);
      }

  module _ {status : ℕ} {sees : ℕ → ℕ} {writes reads : ℕ} (r : Row log t status sees writes reads) where
    seeing_still : (y : ℕ) → y < objects → sees y ≡ seen log' t y
    seeing_still y l = r.seeing y l ∙ sym (seen_same ok good g t y r.began)

    still_open : (k ≡ 1 → ⊥) → (k ≡ 4 → ⊥) → (k ≡ 5 → ⊥) → is_open log' t ≡ true → is_open log t ≡ true
    still_open a b c o = sym (open_inside ok good g a b c t) ∙ o

    -- A WRITE
    pub row_write : k ≡ 3 → Row log' t status sees (more writes x) reads
    row_write e =
        record {
          began = began_later t r.began;
          seeing = seeing_still;
          writing = λ y l. marked_more writes x y ∙ same y l ∙ sym (writer_grows g y t);
          reading = λ y l. r.reading y l ∙ sym (stays_read (λ (q : k ≡ 2). omega arith) y);
          done = r.done ∙ sym (committed_same ok good g (λ (q : k ≡ 4). omega arith) t);
          wrong = λ o. r.wrong (still_open (λ (q : k ≡ 1). omega arith) (λ (q : k ≡ 4). omega arith) (λ (q : k ≡ 5). omega arith) o) ∙ sym (stays_right (λ (q : k ≡ 2). omega arith));
        }
      where
        same : (y : ℕ) → y < objects → (y is x or marked writes y) ≡ (writer log y t or (k is 3 and t is t and x is y))
        same y l =
            same_test (λ h. ⊎_elim (λ (q : (y is x) ≡ true). →or_right _ (→and (→and (→is e) (→is refl)) (→is (sym (is→ q))))) (λ q. →or_left _ (sym (r.writing y l) ∙ q)) (or→ h))
            (λ h. ⊎_elim (λ q. →or_right _ (r.writing y l ∙ q)) (λ q. →or_left _ (→is (sym (is→ {m = x} {n = y} (and→ q).1)))) (or→ h))

    -- A READ: after an own write the source is the reader, and before it is what the reader sees
    module _ (e : k ≡ 2) where
      wrong_now : misreads log' t ≡ (misreads log t or fails (s is (provided writer log x t then t else seen log t x)))
      wrong_now =
          misreads_grows ok good g t
          ∙ ap (λ (b : Bool). misreads log t or b) (same_test (λ h. rw (wanted_here ok good g e) at (and→ h).1) (λ h. →and (→and (→is e) (→is refl)) (rw (wanted_here ok good g e) h)))

      read_row : (status' reads' : ℕ) → (status' is 2) ≡ false → (is_open log t ≡ true → (status' is 1) ≡ misreads log' t) → ((y : ℕ) → y < objects → marked reads' y ≡ reads_first log' y t) → Row log' t status' sees writes reads'
      read_row status' reads' d w m =
          record {
            began = began_later t r.began;
            seeing = seeing_still;
            writing = λ y l. r.writing y l ∙ sym (stays_written (λ (q : k ≡ 3). omega arith) y);
            reading = m;
            done = d ∙ sym (committed_same ok good g (λ (q : k ≡ 4). omega arith) t ∙ good_uncommitted ok good);
            wrong = λ o. w (still_open (λ (q : k ≡ 1). omega arith) (λ (q : k ≡ 4). omega arith) (λ (q : k ≡ 5). omega arith) o);
          }

      read_marks : (y : ℕ) → reads_first log' y t ≡ (reads_first log y t or (x is y and fails (writer log y t)))
      unfolding writer wrote
      read_marks y =
          reads_first_grows g y t
          ∙ ap (λ (b : Bool). reads_first log y t or b) (same_test (λ h. let a = and→ h in →and (and→ a.0).1 a.1) (λ h. let a = and→ h in →and (→and (→and (→is e) (→is refl)) a.0) a.1))

      -- the marks of what is read before any own write
      pub marks_own : writer log x t ≡ true → (y : ℕ) → y < objects → marked reads y ≡ reads_first log' y t
      marks_own w y l = r.reading y l ∙ sym (read_marks y ∙ or_no _ (go (decide (x is y))))
        where
          go : ((x is y) ≡ true) ⊎ ((x is y) ≡ false) → (x is y and fails (writer log y t)) ≡ false
          go (inl q) = and_no_right _ (→not_fails (subst (λ (z : ℕ). writer log z t ≡ true) (is→ q) w))
          go (inr q) = and_no_left _ q

      pub marks_first : writer log x t ≡ false → (y : ℕ) → y < objects → marked (more reads x) y ≡ reads_first log' y t
      marks_first w y l = marked_more reads x y ∙ same ∙ sym (read_marks y)
        where
          same : (y is x or marked reads y) ≡ (reads_first log y t or (x is y and fails (writer log y t)))
          same =
              same_test (λ h. ⊎_elim (λ (q : (y is x) ≡ true). →or_right _ (→and (→is (sym (is→ q))) (→fails (subst (λ (z : ℕ). writer log z t ≡ false) (sym (is→ q)) w)))) (λ q. →or_left _ (sym (r.reading y l) ∙ q)) (or→ h))
              (λ h. ⊎_elim (λ q. →or_right _ (r.reading y l ∙ q)) (λ q. →or_left _ (→is (sym (is→ {m = x} {n = y} (and→ q).0)))) (or→ h))

      -- the source is right, and the status stays; or it is wrong, and the status says so
      pub row_right : (reads' : ℕ) → ((y : ℕ) → y < objects → marked reads' y ≡ reads_first log' y t) → s ≡ (provided writer log x t then t else seen log t x) → Row log' t status sees writes reads'
      row_right reads' m q = read_row status reads' (r.done ∙ good_uncommitted ok good) (λ o. r.wrong o ∙ sym (wrong_now ∙ or_no _ (→not_fails (→is q)))) m

      pub row_wrong : (reads' : ℕ) → ((y : ℕ) → y < objects → marked reads' y ≡ reads_first log' y t) → (s ≡ (provided writer log x t then t else seen log t x) → ⊥) → Row log' t 1 sees writes reads'
      row_wrong reads' m q = read_row 1 reads' (→isnt (λ (z : ◌≡◌ {A = ℕ} 1 2). omega arith)) (λ o. →is refl ∙ sym (wrong_now ∙ →or_right _ (→fails (→isnt q)))) m

    -- AN ABORT
    pub row_abort : k ≡ 5 → Row log' t status sees writes reads
    row_abort e =
        record {
          began = began_later t r.began;
          seeing = seeing_still;
          writing = λ y l. r.writing y l ∙ sym (stays_written (λ (q : k ≡ 3). omega arith) y);
          reading = λ y l. r.reading y l ∙ sym (stays_read (λ (q : k ≡ 2). omega arith) y);
          done = r.done ∙ sym (committed_same ok good g (λ (q : k ≡ 4). omega arith) t);
          wrong = λ o. absurd (not_both o (open_ended ok good g (inr e)));
        }

    -- A COMMIT
    pub row_commit : k ≡ 4 → Row log' t 2 sees writes reads
    row_commit e =
        record {
          began = began_later t r.began;
          seeing = seeing_still;
          writing = λ y l. r.writing y l ∙ sym (stays_written (λ (q : k ≡ 3). omega arith) y);
          reading = λ y l. r.reading y l ∙ sym (stays_read (λ (q : k ≡ 2). omega arith) y);
          done = →is refl ∙ sym (committed_here ok good g e);
          wrong = λ o. absurd (not_both o (open_ended ok good g (inl e)));
        }

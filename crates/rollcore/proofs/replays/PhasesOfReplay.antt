-- The parts of a replay keep what shows one database.
use Rattle.rollcore.proofs.Below.{Agrees, ArePages, Bool, Database, Db, Device, DiskState, Filed, Filling, IsFit, IsHot, IsLacking, IsLogDurable, IsPageSize, IsRolledBack, IsSectorSize, IsSoundDisk, KeepsLog, List, Ok, Option, Result, RollError, Segment, ShowsAlone, Some, Suits, SyncStep, Unnamed, Unwritten, Writing, all_records, ap, arith, byte, cond, down_by, down_syncs, file_page, filling_wider, get_or, get_or-file_page, image_present, journal_log, last_content, length, made_length, named_or, one_journal, page, restored_step, restoring_by, restoring_shows, restoring_syncs, subst, suits_syncs, sym, table, torn_sector, true, unwrap_or, unwritten_begins, word, ℕ, ⊎_elim, ◌∙◌, ◌≡◌, ◌≤◌}

pub agrees_by : (old new : DiskState) → ((size : ℕ) (w : List ℕ) (d : Database) → Unwritten journal_log size d w old → ShowsAlone journal_log size d new) → (size : ℕ) → Agrees journal_log size old new
agrees_by old new shows size w d durable alone = shows size w d (unwritten_begins journal_log size d w old durable alone)

-- ---- Pages are written.

module _ (size : ℕ) (w : List ℕ) (d : Database) where
  -- so it begins
  writing_begins : (s : DiskState) → Suits size s → (s.tears ≡ true → s.sector ≤ word w 20) → Unwritten journal_log size d w s → IsHot w → Writing size w d s
  writing_begins s suits sectors is hot =
      let now : List ℕ = table s.db.len (byte s.db) in
      let here = (is.shows now (image_present s.sector s.tears s.db suits.sound.db)).hot hot in
      let rolled : IsRolledBack now w d = here.1 in
      let logged : (p : ℕ) (c : List ℕ) → 1 ≤ p → p ≤ length d → last_content (all_records rolled.segments) p ≡ Some c → page d p ≡ c =
      λ p c a b found. rolled.each p a b ∙ ap (λ (o : Option (List ℕ)). unwrap_or o (file_page (word w 24) now p)) found in
      record {
        hot = hot;
        named = here.0;
        sectors = sectors;
        segments = rolled.segments;
        at = rolled.at;
        why = rolled.why;
        is = rolled.is;
        count = rolled.count;
        pages = record {
          file = record {
            suits = suits;
            full = λ p a b. made_length w now rolled.segments rolled.at rolled.why rolled.is hot d rolled p a b ∙ sym here.0;
            steady = λ p i a b un lt x image.
                let there = (is.shows x image).hot hot in
                let same : there.1.segments ≡ rolled.segments = (one_journal w there.1.segments rolled.segments there.1.at rolled.at there.1.why rolled.why there.1.is rolled.is).0 in
                let other : page d p ≡ file_page size x p = there.1.each p a b
                ∙ ap (λ (l : List Segment). unwrap_or (last_content (all_records l) p) (file_page (word w 24) x p)) same
                ∙ ap (λ (o : Option (List ℕ)). unwrap_or o (file_page (word w 24) x p)) un ∙ ap (λ (n : ℕ). file_page n x p) (sym here.0) in
                sym (get_or-file_page size x p i lt) ∙ ap (λ (c : List ℕ). get_or c i 0) (sym other);
          };
          durable = is.durable;
          shows = λ db other. record {
            hot = λ again. (
              here.0,
              record {
                segments = rolled.segments;
                at = rolled.at;
                why = rolled.why;
                is = rolled.is;
                count = rolled.count;
                each = λ p a b. ⊎_elim
                    (λ un. other p a b un ∙ ap (λ (n : ℕ). file_page n db p) here.0 ∙ sym (ap (λ (o : Option (List ℕ)). unwrap_or o (file_page (word w 24) db p)) un))
                    (λ some. logged p some.0 a b some.1 ∙ sym (ap (λ (o : Option (List ℕ)). unwrap_or o (file_page (word w 24) db p)) some.1))
                    (named_or (all_records rolled.segments) p);
              },
            );
            cold = λ cold. absurd (cold hot);
          };
        };
      }

  -- where the journal can be replayed the disk suits it
  pub fit_begins : (s : DiskState) → IsSoundDisk s → IsSectorSize s.sector → IsFit (torn_sector s) w → Unwritten journal_log size d w s → Writing size w d s
  fit_begins s sound sectors fit is =
      let named : (n : ℕ) → torn_sector s ≤ n → s.tears ≡ true → s.sector ≤ n = λ n le torn. subst (λ (b : Bool). cond b s.sector 0 ≤ n) torn le in
      let here = (is.shows (table s.db.len (byte s.db)) (image_present s.sector s.tears s.db sound.db)).hot fit.hot in
      writing_begins s
      (record { sound = sound; sectors = sectors; pages = subst IsPageSize (sym here.0) fit.hot.first.size; whole = λ tears_pages. let le : s.sector ≤ size = subst (λ (n : ℕ). s.sector ≤ n) (sym here.0) (named (word w 24) fit.page tears_pages.0) in omega (arith, tears_pages.1) })
      (named (word w 20) fit.sector) is fit.hot

  pub writing_shows : (s : DiskState) → Writing size w d s → ShowsAlone journal_log size d s
  writing_shows s is = restoring_shows journal_log size d (Unnamed (all_records is.segments)) w s is.pages

  writing_by : (old new : DiskState) → (is : Writing size w d old) → new.sector ≡ old.sector → new.tears ≡ old.tears → IsLogDurable new w → Filling size d (Unnamed (all_records is.segments)) new → Writing size w d new
  writing_by old new is sector tears durable file = record {
    hot = is.hot;
    named = is.named;
    sectors = λ torn. subst (λ (n : ℕ). n ≤ word w 20) (sym sector) (is.sectors (sym tears ∙ torn));
    segments = is.segments;
    at = is.at;
    why = is.why;
    is = is.is;
    count = is.count;
    pages = restoring_by journal_log size d (Unnamed (all_records is.segments)) w old new is.pages durable file;
  }

  -- the log is left alone
  pub writing_keeps : (old new : DiskState) → Writing size w d old → KeepsLog old new → (Filling size d (IsLacking w) old → Filling size d (IsLacking w) new) → Writing size w d new
  writing_keeps old new is keeps fills = writing_by old new is keeps.sector keeps.tears (down_by w old new is.pages.durable keeps.log keeps.tears keeps.kept keeps.handed)
      (filling_wider size d (IsLacking w) (Unnamed (all_records is.segments)) new
      (λ p un segments at why other. subst (λ (l : List Segment). Unnamed (all_records l) p) (sym (one_journal w segments is.segments at is.at why is.why other is.is).0) un)
      (fills (filling_wider size d (Unnamed (all_records is.segments)) (IsLacking w) old (λ p lacks. lacks is.segments is.at is.why is.is) is.pages.file)))

  -- ---- The file is synced, or not.

  pub synced_shows : {T : Type 0} (result : Result T RollError) (old new : DiskState) → Writing size w d old → SyncStep Device Db result old new → ShowsAlone journal_log size d new
  synced_shows result old new is step = restoring_shows journal_log size d (Unnamed (all_records is.segments)) w new (restoring_syncs journal_log size d (Unnamed (all_records is.segments)) w Db step.0 old new is.pages step.2)

  -- all pages are there, and then durable
  pub synced_filed : {T : Type 0} (u : T) (old new : DiskState) → Writing size w d old → ArePages size d old.db → SyncStep {T = T} Device Db (Ok u) old new → Filed size d w new
  synced_filed u old new is pages step = record {
    suits = suits_syncs size Db step.0 old new is.pages.file.suits step.2;
    durable = down_syncs w Db step.0 old new is.pages.durable step.2;
    hot = is.hot;
    sectors = λ torn. subst (λ (n : ℕ). n ≤ word w 20) (sym step.2.elsewhere.sector) (is.sectors (sym step.2.elsewhere.tears ∙ torn));
    all = restored_step journal_log size d (Unnamed (all_records is.segments)) w Device u old new is.pages pages step;
  }

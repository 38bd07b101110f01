-- A commit whose pages are all in the file: it becomes durable, and the journal ends.
use Rattle.rollcore.proofs.Between.{AreChanges, AreOf, ArePages, ArePut, AreSome, Change, Cuts, Database, Db, Device, DiskError, DiskState, EndAnswer, EndSteps, Err, FileState, Finishes, Harmless, IsAt, IsFaultless, IsHeld, IsHot, IsJournaled, IsJust, IsLogDurable, IsSettled, IsSoundDisk, Journaled, List, Log, MayBeRead, None, Ok, OnOk, Pages, PutAnswer, Result, RollError, SyncStep, Syncs, Writes, ZeroSteps, ap, apply, arith, at_by, change_at, counted_grows, cut_by, down_present, down_syncs, each_page, end_answer, end_later, end_shows, ended, ends_ended, get_or-map, granted, had_refusal, held_applied, hot_long, inl, journal_log, journaled_hot, just_after, length, length-apply, length-map, lit≤, new_numbers, none_ok, of_by, pages_after, pages_of, refl, refusal_after, refusal_of, replicate, sectors_of, steady_syncs, subst, suits_syncs, suits_writes, sym, sync_refused, tells_end, told_ok, zero_refused, zeroed, ℕ, ⊎_elim, ◌*◌, ◌++◌, ◌<◌, ◌∙◌, ◌≡◌, ◌≤◌, ◌⊎◌}
use Rattle.rollcore.proofs.commit.CommitPoint.{closing_left, closing_down, closing_shows, closing_sectors}
use Rattle.rollcore.proofs.journal.WrittenSegmentHeader.{read_syncs}
use Rattle.rollcore.proofs.commit.OverwrittenPages.{journaled_cuts, journaled_unharmed}

-- a refusal that leaves the database from before the commit
pub put_harmless : (T : Type 0) (size : ℕ) (d e : Database) (error : RollError) (old new : DiskState) → Harmless size d error old new → PutAnswer {T = T} size d e (Err error) old new
put_harmless T size d e error old new off = (off.device, off.refusal, λ v may. inl (λ db image. off.unharmed.shows v may db image), off.unharmed.sectors)

module _ (size sector : ℕ) (d : Database) (named : List ℕ) (place : ℕ) (w : List ℕ) (begun : 0 < place) where
  -- the database is synced
  journaled_syncs : {T : Type 0} (called : Result T DiskError) (old new : DiskState) → Journaled size sector d named place w old → Syncs Db called old new → Journaled size sector d named place w new
  journaled_syncs called old new is synced = record {
    at = record {
      suits = suits_syncs size Db called old new is.at.suits synced;
      sector_is = synced.elsewhere.sector ∙ is.at.sector_is;
      multiple = is.at.multiple;
      others = record {
        held = is.at.others.held;
        each = λ p i a b un lt. steady_syncs Db called old new _ _ is.at.suits.sound.db synced (is.at.others.each p i a b un lt);
        whole = λ zero. absurd (omega (arith, begun, zero));
      };
    };
    durable = down_syncs w Db called old new is.durable synced;
    is = is.is;
  }

  -- what is durable once it is zeroed
  pub ends_log : {T : Type 0} (r : Result T RollError) (old new : DiskState) → EndAnswer r old new → Journaled size sector d named place w old → OnOk r (IsLogDurable new (zeroed w))
  unfolding EndAnswer
  ends_log (Ok v) old new ends is =
      let hot : IsHot w = journaled_hot size sector d (sectors_of size sector d named place old is.at) is.at.suits.pages named place w is.is begun in
      ends.1 w (down_present w old is.durable) (omega (arith, hot_long w hot))
  ends_log (Err e) old new ends is = tt

  -- what is left while the header is zeroed
  abbrev Left : DiskState → Type 0
  Left s = (v : List ℕ) → MayBeRead journal_log s v → IsJournaled size sector d named place v ⊎ (IsHot v → ⊥)

  at_write : {U : Type 0} (called : Result U DiskError) (b c : DiskState) → Journaled size sector d named place w b → Writes Log 0 (replicate 28 0) called b c → IsAt size sector d named place c
  at_write called b c is wrote = at_by size sector d named place b c is.at (suits_writes size Log 0 (replicate 28 0) called b c is.at.suits wrote) wrote.elsewhere.sector wrote.elsewhere.tears wrote.elsewhere.other

  left_write : {U : Type 0} (called : Result U DiskError) (b c : DiskState) → Journaled size sector d named place w b → Writes Log 0 (replicate 28 0) called b c → Left c
  left_write called b c is wrote = closing_left size sector d named place w begun b c is called wrote

  left_sync : {U : Type 0} (called : Result U DiskError) (b c : DiskState) → IsAt size sector d named place b → Left b → Syncs Log called b c → Left c
  left_sync called b c at left synced v may = left v (read_syncs called b c at.suits.sound.log synced v may)

  at_sync : {U : Type 0} (called : Result U DiskError) (b c : DiskState) → IsAt size sector d named place b → Syncs Log called b c → IsAt size sector d named place c
  at_sync called b c at synced = at_by size sector d named place b c at (suits_syncs size Log called b c at.suits synced) synced.elsewhere.sector synced.elsewhere.tears synced.elsewhere.other

  module _ {T : Type 0} (e : Database) where
    synced_failed : (r q : Result T RollError) (error : RollError) (old new : DiskState) → Journaled size sector d named place w old → r ≡ Err error → q ≡ Err error → SyncStep Device Db r old new → PutAnswer size d e q old new
    synced_failed r q error old new is was passes step =
        let had = sync_refused Device Db r error old new is.at.suits.sound was step in
        subst (λ (x : Result T RollError). PutAnswer size d e x old new) (sym passes) (put_harmless T size d e error old new (record {
          device = had.0;
          refusal = had.1;
          unharmed = journaled_unharmed size sector d named place w begun new (journaled_syncs step.0 old new is step.2);
        }))

    zero_at : (r : Result T RollError) (b c : DiskState) → Journaled size sector d named place w b → ZeroSteps Device 28 r b c → IsAt size sector d named place c × Left c × (c.db ≡ b.db)
    zero_at r b c is steps = ⊎_elim
        (λ failed. (at_write failed.0 b c is failed.3, left_write failed.0 b c is failed.3, failed.3.elsewhere.other))
        (λ done.
        let mid = at_write (Ok done.1.0) b done.0 is done.1.1 in (
          at_sync done.2.0 done.0 c mid done.2.2,
          left_sync done.2.0 done.0 c mid (left_write (Ok done.1.0) b done.0 is done.1.1) done.2.2,
          done.2.2.elsewhere.other ∙ done.1.1.elsewhere.other,
        ))
        steps

    module _ (first : Result T RollError) (done : T) (a b c : DiskState) (was : Journaled size sector d named place w a) (pages : ArePages size e a.db) (held : IsHeld size e) (first_ok : first ≡ Ok done) (synced : SyncStep Device Db first a b) where
      settled : (bytes : List ℕ) × IsSettled b.db bytes × IsJust size e bytes
      settled =
          let t = told_ok Device synced.0 first done first_ok synced.1 in
          just_after {u = t.0} size e a b pages held (subst (λ (x : Result T DiskError). Syncs Db x a b) t.1 synced.2) was.at.suits.sound

      is : Journaled size sector d named place w b
      is = journaled_syncs synced.0 a b was synced.2

      zero_failed : (r q : Result T RollError) (error : RollError) → r ≡ Err error → q ≡ Err error → ZeroSteps Device 28 r b c → PutAnswer size d e q a c
      zero_failed r q error r_is passes steps =
          let had = zero_refused Device 28 (lit≤ tt) r error b c is.at.suits.sound r_is steps in
          let left = zero_at r b c is steps in
          let durable : IsSettled c.db settled.0 = subst (λ (s : FileState). IsSettled s settled.0) (sym left.2) settled.1 in
          subst (λ (x : Result T RollError). PutAnswer size d e x a c) (sym passes) (
            had.0,
            refusal_after a b c (omega (arith, synced.2.elsewhere.refused, counted_grows synced.0 a.refused was.at.suits.sound.refused)) had.1,
            closing_shows size sector d e named place c settled.0 left.0 begun durable settled.2 left.1,
            closing_sectors size sector d e named place c settled.0 left.0 begun durable settled.2 left.1,
          )

      zero_closed : (r : Result T RollError) (v x : T) → r ≡ Ok v → ZeroSteps Device 28 r b c → PutAnswer {T = T} size d e (Ok x) a c
      zero_closed r v x r_is steps = ⊎_elim
          (λ failed. absurd (none_ok Device failed.0 r v failed.1 r_is failed.2))
          (λ all.
          let t = told_ok Device all.2.0 r v r_is all.2.1 in
          closing_down size sector d named place w begun b c is e all.0 settled.0 all.1.1 (subst (λ (x : Result T DiskError). Syncs Log x all.0 c) t.1 all.2.2) settled.1 settled.2)
          steps

    -- the file is synced, and the header zeroed
    put_end : (r : Result T RollError) (a c : DiskState) → Journaled size sector d named place w a → ArePages size e a.db → IsHeld size e → EndSteps Device 28 r a c → PutAnswer size d e r a c
    put_end (Ok v) a c was pages held steps =
        let done = ended Device 28 v a c steps in
        zero_closed (Ok done.1.0) done.1.0 a done.0 c was pages held refl done.1.1 (Ok v) v v refl done.2
    put_end (Err x) a c was pages held steps = ⊎_elim
        (λ failed. synced_failed (Err x) (Err x) x a c was refl refl failed.1)
        (λ done. zero_failed (Ok done.1.0) done.1.0 a done.0 c was pages held refl done.1.1 (Err x) (Err x) x refl refl done.2)
        steps

-- the end of a replay, and of a commit
pub finishes : {T : Type 0} (r : Result T RollError) (a b : DiskState) → IsSoundDisk a → EndSteps Device 28 r a b → Finishes r a b
finishes r a b sound steps = record {
  asks = λ most size. record { later = end_later Device 28 r a b steps (λ f. tt) (refl, refl) sound; told = tells_end Device 28 r a b steps };
  ends = end_answer r a b sound steps;
  shows = λ size w d is pages. end_shows size w d r a b is pages steps;
  lengths = λ sectors w durable hot names. ends_ended w a b sound sectors durable hot names r steps;
  commit = λ size sector d e named place w is begun pages held. put_end size sector d named place w begun e r a b is pages held steps;
}

-- an answer from a later state on
pub put_after : {T : Type 0} (size : ℕ) (d e : Database) (r : Result T RollError) (a b c : DiskState) → a.refused ≤ b.refused → PutAnswer size d e r b c → PutAnswer size d e r a c
put_after size d e (Ok v) a b c le rests = rests
put_after size d e (Err error) a b c le bad = (bad.0, refusal_after a b c le bad.1, bad.2, bad.3)

-- ---- The new pages, and the length.

module _ (size sector : ℕ) (d : Database) (pages : Pages) (old_size n nonces : ℕ) (changes : List Change) (place : ℕ) (w : List ℕ) (begun : 0 < place)
    (many : old_size ≡ length d) (listed : AreChanges pages old_size n changes) (none : refusal_of old_size size pages n nonces ≡ None) where
  abbrev after : Database
  after = apply d pages n

  right : IsFaultless (length d) size pages n
  right = subst (λ (k : ℕ). IsFaultless k size pages n) many (granted old_size size pages n nonces none)

  are : AreChanges pages (length d) n changes
  are = subst (λ (k : ℕ). AreChanges pages k n changes) many listed

  pub of_pages : AreOf size after pages
  of_pages = of_by size d pages n right changes are

  pub some_changes : AreSome (pages_of changes)
  some_changes p has =
      let k : ℕ = has.0 in
      let there : k < length changes = omega (arith, has.1, length-map changes (λ (c : Change). c.page)) in
      let is : p ≡ (change_at changes k).page = sym has.2 ∙ get_or-map (λ (c : Change). c.page) changes k (record { page = 0; content = None }) p there in
      omega (arith, is, (are.within k there).0)

  pub held_after : (s : DiskState) → Journaled size sector d (pages_of changes) place w s → IsHeld size after
  held_after s is = held_applied size d pages n right is.at.others.held

  cut_journaled : {U : Type 0} (called : Result U DiskError) (a b : DiskState) → Journaled size sector d (pages_of changes) place w a → Cuts Db (n * size) called a b → Journaled size sector d (pages_of changes) place w b
  cut_journaled called a b is cut = journaled_cuts size sector d (pages_of changes) place w begun n called a b is (cut_by size d pages n right changes are) cut

  pub cut_failed : {T U : Type 0} (m : ℕ) (called : Result U DiskError) (x : DiskError) (q : Result T RollError) (s a b : DiskState) → m ≡ n * size → s.refused ≤ a.refused → Journaled size sector d (pages_of changes) place w a
      → called ≡ Err x → q ≡ Err Device → Cuts Db m called a b → PutAnswer size d after q s b
  cut_failed {T = T} m called x q s a b end le is was passes cut =
      subst (λ (r : Result T RollError). PutAnswer size d after r s b) (sym passes) (put_harmless T size d after Device s b (record {
        device = refl;
        refusal = refusal_after s a b le (had_refusal called x m a b is.at.suits.sound.refused was cut.within (omega (arith, end, right.bytes)) cut.elsewhere.refused);
        unharmed = journaled_unharmed size sector d (pages_of changes) place w begun b (cut_journaled called a b is (subst (λ (k : ℕ). Cuts Db k called a b) end cut));
      }))

  module _ {U : Type 0} {u : U} (m : ℕ) (a b : DiskState) (end : m ≡ n * size) (is : Journaled size sector d (pages_of changes) place w a) (cut : Cuts Db m (Ok u) a b) where
    pub cut_done : Journaled size sector d (pages_of changes) place w b
    cut_done = cut_journaled (Ok u) a b is (subst (λ (k : ℕ). Cuts Db k (Ok u) a b) end cut)

    pub cut_pages : ArePut size after (pages_of changes ++ new_numbers old_size pages) a.db → ArePages size after b.db
    cut_pages put = pages_after size sector d after (pages_of changes) place w (pages_of changes ++ new_numbers (length d) pages) a b is
        (subst (λ (k : ℕ). ArePut size after (pages_of changes ++ new_numbers k pages) a.db) many put)
        (each_page size d pages n right changes are)
        (subst (λ (k : ℕ). Cuts Db k (Ok u) a b) (end ∙ ap (λ (k : ℕ). k * size) (sym (length-apply d pages n))) cut)

-- What an opening has recovered, by its steps.
use Rattle.rollcore.proofs.Below.{AreFiles, ArePresent, Asks, Bool, Core, CountAnswer, Database, Device, DiskState, EndsBy, Err, FileState, Files, FitsDisk, FrontAnswer, GivenUpTo, HasMagic, IsBelow, IsHeld, IsHot, IsImage, IsLogDurable, IsNewCore, IsPlanWithin, IsSmall, IsSoundDisk, IsTrue, List, Log, MatchOption, MayBeRead, MayRecover, MayRefuse, NoMemory, Ok, OpenedTo, Option, PageSize, Plan, PlanAnswer, ReadAnswer, RecoverAnswer, RecoveredAt, Replayed, Rests, Result, RollError, RolledAnswer, SectorAbovePage, Segment, Show, ShowsAlone, ShowsHistory, ShowsOne, ShowsWhole, SizeJudged, Some, State, Still, Suits, SyncStep, TooLarge, [], all_records, ap, arith, asks_err, asks_step, asks_then, at, byte, cases_eq, closed, cond, down_by, down_present, down_read, ends_narrow, ext_get_or, false, file_count, file_page, file_syncs, get_or, get_or-take, history_narrows, inl, inr, journal_log, last, last_content, length, length-take-le, may_after, may_down, most_bytes, narrows_still, narrows_syncs, newest, number_of, one_journal, opened, page, present_image, present_list, refl, refusal_after, sector_within, sectors_narrow, shows_by, size_some, subst, suits_go, sym, sync_down, sync_refused, table, take, torn_sector, true, unwrap_or, unwritten_begins, unwritten_shows, unwritten_still, word, zeroed, ℕ, ⊎_elim, ◌*◌, ◌+◌, ◌-◌, ◌<◌, ◌∙◌, ◌≡◌, ◌≤◌}
use Rattle.rollcore.proofs.openings.ErasedMagic.{zero_gate, lost_magic, cold_one}
use Rattle.rollcore.proofs.crash.ImagesOfSyncedLog.{down_left}
use Rattle.rollcore.proofs.replays.LengthOfDatabaseFile.{ends_down, named_by}
use Rattle.rollcore.proofs.replays.AnswerOfParts.{zeroed_zero, within_some}

-- with no header at the front of the log that is durable the file is just the database
pub rests_by : (size : ℕ) (d : Database) (v : List ℕ) (s : DiskState) → ShowsOne size d s → IsLogDurable s v → (HasMagic v 0 → ⊥) → Rests size d s
rests_by size d v s one durable gate =
    let cold : IsHot v → ⊥ = λ hot. gate hot.first.magic in
    record {
      file = λ db image. record { long = one.ends.cold db v image (may_down journal_log v s durable) cold; each = ((one.alone.images db v image (down_left v s durable)).cold cold).each };
      log = (v, durable, gate);
    }

pub one_still : (size : ℕ) (d : Database) (w : List ℕ) (a b : DiskState) → IsLogDurable a w → Still a b → ShowsOne size d a → ShowsOne size d b
one_still size d w a b durable is one = record {
  alone = unwritten_shows journal_log size d w b (unwritten_still journal_log size d w a b (unwritten_begins journal_log size d w a durable one.alone) is);
  ends = ends_narrow a b (narrows_still journal_log a b is) (length d * size) one.ends;
}

module _ (size : ℕ) (d : Database) (w : List ℕ) (s : DiskState) (suits : Suits size s) (held : IsHeld size d) (durable : IsLogDurable s w) (one : ShowsOne size d s) where
  now : List ℕ
  now = table s.db.len (byte s.db)

  now_are : ArePresent s.db now
  unfolding now
  now_are = present_list s.db

  now_image : IsImage s.sector s.tears s.db now
  now_image = present_image s.sector s.tears s.db now suits.sound.db now_are

  here : Show size now w d
  here = one.alone.images now w now_image (down_left w s durable)

  hot_size : IsHot w → size ≡ word w 24
  hot_size hot = (here.hot hot).0

  hot_count : IsHot w → length d ≡ word w 16
  hot_count hot = (here.hot hot).1.count

  pub hot_product : IsHot w → word w 16 * word w 24 ≡ length d * size
  hot_product hot = ap (λ (n : ℕ). n * word w 24) (sym (hot_count hot)) ∙ ap (λ (n : ℕ). length d * n) (sym (hot_size hot))

  cold_long : (IsHot w → ⊥) → s.db.len ≡ length d * size
  cold_long cold = sym now_are.len ∙ one.ends.cold now w now_image (may_down journal_log w s durable) cold

  below : IsHot w → IsBelow (torn_sector s) w → ⊥
  below hot under = by s.tears refl
    where
      by : (b : Bool) → s.tears ≡ b → ⊥
      by true e =
          let is : IsBelow s.sector w = subst (λ (x : Bool). IsBelow (cond x s.sector 0) w) e under in
          ⊎_elim (λ l. omega (arith, l, hot_size hot, sector_within size s suits e)) (λ l. omega (arith, l, one.ends.sectors e w (may_down journal_log w s durable) hot)) is
      by false e =
          let none : IsBelow 0 w = subst (λ (x : Bool). IsBelow (cond x s.sector 0) w) e under in
          ⊎_elim (λ l. omega (arith, l)) (λ l. omega (arith, l)) none

  -- ---- the journal is read

  module _ (a : DiskState) (is : Still s a) where
    refuse : (e : RollError) → ReadAnswer most_bytes (torn_sector s) w (Err e) s a → MayRefuse NoMemory Device e s a
    unfolding ReadAnswer PlanAnswer
    refuse TooLarge x = absurd (⊎_elim (λ far. omega (arith, far, (down_present w s durable).len, suits.sound.log.greatest, suits.sound.log.within)) (λ large. omega (arith, large.1, hot_product large.0, held.few)) x)
    refuse SectorAbovePage x = absurd (below x.0 x.2)
    refuse NoMemory x = inl refl
    refuse Device x = inr (refl, x)
    refuse _ x = absurd x

    pub unplanned : (e : RollError) (r : Result (Option Plan) RollError) (q : Result ℕ RollError) → r ≡ Err e → q ≡ Err e → ReadAnswer most_bytes (torn_sector s) w r s a → RecoverAnswer size d q s a
    unplanned e r q was given answer = subst (λ (x : Result ℕ RollError). RecoverAnswer size d x s a) (sym given)
        (refuse e (subst (λ (x : Result (Option Plan) RollError). ReadAnswer most_bytes (torn_sector s) w x s a) was answer), one_still size d w s a durable is one)

    pub misjudged : {T : Type 0} (e : RollError) (r : Result T RollError) (q : Result ℕ RollError) → IsHot w → r ≡ Err e → SizeJudged size w r → q ≡ Err e → RecoverAnswer size d q s a
    misjudged {T = T} e r q hot was answer given = absurd (by e (subst (λ (x : Result T RollError). SizeJudged size w x) was answer))
      where
        by : (x : RollError) → SizeJudged {T = T} size w (Err x) → ⊥
        by PageSize x = ⊎_elim (λ ne. ne (sym (hot_size hot))) (λ zero. omega (arith, zero, hot_count hot, held.some)) x
        by _ x = x

    -- ---- and replayed

    module _ (hot : IsHot w) (db : List ℕ) (b : DiskState) (alone : ShowsAlone journal_log size d b) (ends : EndsBy (word w 16 * word w 24) b) where
      one_replayed : ShowsOne size d b
      one_replayed = record { alone = alone; ends = subst (λ (n : ℕ). EndsBy n b) (hot_product hot) ends }

      pub unreplayed : (e : RollError) (r : Result Replayed RollError) (q : Result ℕ RollError) → r ≡ Err e → RolledAnswer db w r a b → q ≡ Err e → RecoverAnswer size d q s b
      unfolding RolledAnswer
      unreplayed e r q was answer given = subst (λ (x : Result ℕ RollError). RecoverAnswer size d x s b) (sym given) (
        may_after NoMemory Device e s a b is.refused (inr (subst (λ (x : Result Replayed RollError). RolledAnswer db w x a b) was answer)),
        one_replayed,
      )

      pub replayed : (x : Replayed) (r : Result Replayed RollError) → r ≡ Ok x → RolledAnswer db w r a b → RecoverAnswer size d (Ok x.size) s b
      unfolding RolledAnswer
      replayed x r was answer =
          let rolled = subst (λ (y : Result Replayed RollError). RolledAnswer db w y a b) was answer in (
            rolled.size ∙ sym (hot_count hot),
            rests_by size d (zeroed w) b one_replayed rolled.log (zero_gate (zeroed w) (zeroed_zero w)),
          )

    -- ---- or it isn't hot, and pages are counted

    module _ (cold : IsHot w → ⊥) where
      long : a.db.len ≡ length d * size
      long = ap (λ (f : FileState). f.len) is.db ∙ cold_long cold

      down_a : IsLogDurable a w
      down_a = down_by w s a durable is.log is.tears is.kept is.handed

      module _ (b : DiskState) (then : Still a b) where
        down_b : IsLogDurable b w
        down_b = down_by w a b down_a then.log then.tears then.kept then.handed

        one_b : ShowsOne size d b
        one_b = one_still size d w a b down_a then (one_still size d w s a durable is one)

        miscounted : (e : RollError) → CountAnswer size a.db.len (Err e) a b → MayRefuse NoMemory Device e s b
        miscounted PageSize x = absurd (x.1 (length d) held.some (sym long))
        miscounted TooLarge x = absurd (omega (arith, x, long, held.few))
        miscounted Device x = inr (refl, refusal_after s a b is.refused x)
        miscounted _ x = absurd x

        pub uncounted : (e : RollError) (r q : Result ℕ RollError) → r ≡ Err e → CountAnswer size a.db.len r a b → q ≡ Err e → RecoverAnswer size d q s b
        uncounted e r q was answer given = subst (λ (x : Result ℕ RollError). RecoverAnswer size d x s b) (sym given)
            (miscounted e (subst (λ (x : Result ℕ RollError). CountAnswer size a.db.len x a b) was answer), one_b)

        counted : (n : ℕ) → CountAnswer size a.db.len (Ok n) a b → n ≡ length d
        counted n x = file_count size now n (omega (arith, size_some size suits.pages)) (now_are.len ∙ cold_long cold ∙ sym long ∙ sym x.1)
            ∙ sym (file_count size now (length d) (omega (arith, size_some size suits.pages)) (now_are.len ∙ cold_long cold))

        -- the front of the log has no magic any more
        module _ (c : DiskState) (sound : IsSoundDisk c) (sector : c.sector ≡ b.sector) (tears : c.tears ≡ b.tears) (same : c.db ≡ b.db) where
          pub unbroken : {T : Type 0} (e : RollError) (r : Result T RollError) (q : Result ℕ RollError) → r ≡ Err e → FrontAnswer w r b c → q ≡ Err e → RecoverAnswer size d q s c
          unbroken {T = T} e r q was answer given =
              let front = subst (λ (x : Result T RollError). FrontAnswer w x b c) was answer in
              subst (λ (x : Result ℕ RollError). RecoverAnswer size d x s c) (sym given) (
                may_after NoMemory Device e s b c (omega (arith, is.refused, then.refused)) (inr front.refused),
                cold_one size d w b c down_b cold sound sector tears same front.cold one_b,
              )

          pub broken : {T : Type 0} (v : T) (n : ℕ) (r : Result T RollError) (q : Result ℕ RollError) → r ≡ Ok v → FrontAnswer w r b c → q ≡ Ok n → CountAnswer size a.db.len q a b → RecoverAnswer size d (Ok n) s c
          broken {T = T} v n r q was answer ok count =
              let front = subst (λ (x : Result T RollError). FrontAnswer w x b c) was answer in (
                counted n (subst (λ (x : Result ℕ RollError). CountAnswer size a.db.len x a b) ok count),
                rests_by size d front.done.0 c (cold_one size d w b c down_b cold sound sector tears same front.cold one_b) front.done.1 (lost_magic w front.done.0 front.done.2),
              )

-- ---- a file and a journal show one database

stable : (m n : ℕ) → ((m ≡ n → ⊥) → ⊥) → m ≡ n
stable m n not = ⊎_elim (λ e. e) (λ ne. absurd (not ne)) (cases_eq m n)

module _ (size : ℕ) (db w : List ℕ) (d e : Database) (a : Show size db w d) (b : Show size db w e) where
  pub same_count : length d ≡ length e
  same_count = stable (length d) (length e) (λ ne.
      let cold : IsHot w → ⊥ = λ hot. ne ((a.hot hot).1.count ∙ sym (b.hot hot).1.count) in
      ne ((a.cold cold).count ∙ sym (b.cold cold).count))

  hot_page : IsHot w → (p : ℕ) → 1 ≤ p → p ≤ length d → page d p ≡ page e p
  hot_page hot p one le =
      let x = (a.hot hot).1 in
      let y = (b.hot hot).1 in
      x.each p one le
      ∙ ap (λ (l : List Segment). unwrap_or (last_content (all_records l) p) (file_page (word w 24) db p)) (one_journal w x.segments y.segments x.at y.at x.why y.why x.is y.is).0
      ∙ sym (y.each p one (omega (arith, same_count)))

  pub same_page : IsHeld size d → IsHeld size e → (p : ℕ) → 1 ≤ p → p ≤ length d → page d p ≡ page e p
  same_page held_d held_e p one le = ext_get_or 0 (page d p) (page e p) (held_d.full p one le ∙ sym (held_e.full p one (omega (arith, same_count))))
      (λ i lt. stable (get_or (page d p) i 0) (get_or (page e p) i 0) (λ ne.
      let cold : IsHot w → ⊥ = λ hot. ne (ap (λ (c : List ℕ). get_or c i 0) (hot_page hot p one le)) in
      ne (ap (λ (c : List ℕ). get_or c i 0) ((a.cold cold).each p one le ∙ sym ((b.cold cold).each p one (omega (arith, same_count)))))))

  pub show_unique : IsHeld size d → IsHeld size e → d ≡ e
  unfolding page
  show_unique held_d held_e = ext_get_or [] d e same_count
      (λ k lt.
      let back : k + 1 - 1 ≡ k = omega arith in
      ap (λ (n : ℕ). get_or d n []) (sym back) ∙ same_page held_d held_e (k + 1) (omega arith) (omega arith) ∙ ap (λ (n : ℕ). get_or e n []) back)

-- ---- a history that a disk shows

-- all that is left shows one database of it
pub one_history : (size : ℕ) (h : List Database) (floor k : ℕ) (s : DiskState) → floor ≤ k → k < length h → ShowsOne size (get_or h k []) s → ShowsHistory size h floor s
one_history size h floor k s low lt one w may = (
  k,
  low,
  lt,
  λ db image. record {
    shows = ⊎_elim (λ listed. one.alone.listed db w image listed) (λ left. one.alone.images db w image left) may;
    whole = λ cold. one.ends.cold db w image may cold;
  },
)

-- what an opening finds shows this place of the history with each file that may be left
pub record IsFound (past : State) (w : List ℕ) (s : DiskState) : Type 0 where
  pub place : ℕ
  pub floor : past.floor ≤ place
  pub within : place < length past.history
  pub newest_is : IsTrue past.is_open → place ≡ last past.history
  pub shows : (db : List ℕ) → IsImage s.sector s.tears s.db db → ShowsWhole journal_log past.page_size db w (at past.history place)

module _ (past : State) (found : Files) (s : DiskState) (fits : FitsDisk past s) (are : AreFiles s found) where
  found_read : MayBeRead journal_log s found.log
  found_read = inl (present_image s.sector false s.log found.log fits.suits.sound.log are.log)

  found_db : IsImage s.sector s.tears s.db found.db
  found_db = present_image s.sector s.tears s.db found.db fits.suits.sound.db are.db

  by_open : (b : Bool) → b ≡ past.is_open → (k : ℕ) → past.floor ≤ k → k < length past.history
      → ((db : List ℕ) → IsImage s.sector s.tears s.db db → ShowsWhole journal_log past.page_size db found.log (at past.history k)) → IsFound past found.log s
  by_open false e k low lt shows = record { place = k; floor = low; within = lt; newest_is = λ opens. absurd (cc (opens, e)); shows = shows }
  by_open true e k low lt shows =
      let now = fits.present (subst (λ (x : Bool). IsTrue x) e refl) found are in
      let f = fits.floor in
      let end : last past.history < length past.history = omega arith in
      let same : at past.history k ≡ newest past.history = show_unique past.page_size found.db found.log (at past.history k) (newest past.history) (shows found.db found_db).shows now.shows (fits.held k lt) (fits.held (last past.history) end) in
      record {
        place = last past.history;
        floor = omega arith;
        within = end;
        newest_is = λ opens. refl;
        shows = λ db image. subst (λ (d : Database). ShowsWhole journal_log past.page_size db found.log d) same (shows db image);
      }

  pub is_found : IsFound past found.log s
  is_found = let k = fits.left found.log found_read in by_open past.is_open refl k.0 k.1 k.2 k.3

  -- the log is synced, or not
  pub unsettled : {T : Type 0} (e : RollError) (r : Result T RollError) (q : Result ℕ RollError) (a : DiskState) → r ≡ Err e → SyncStep Device Log r s a → q ≡ Err e → RecoveredAt past found q s a
  unsettled e r q a was step given =
      let sound = fits.suits.sound in
      let narrows = narrows_syncs journal_log Log step.0 s a sound step.2 in
      subst (λ (x : Result ℕ RollError). RecoveredAt past found x s a) (sym given) (
        asks_err {T = ℕ} (Err e) r e s a was refl (asks_step Log r s a (inl tt) sound step),
        inr (sync_refused Device Log r e s a sound was step),
        history_narrows s a narrows past.page_size past.history past.floor fits.left,
        sectors_narrow s a narrows fits.sectors,
      )

  module _ {T : Type 0} (v : T) (r : Result T RollError) (a : DiskState) (was : r ≡ Ok v) (step : SyncStep Device Log r s a) where
    abbrev is : IsFound past found.log s
    is = is_found

    goes : Asks (MayRecover past.page_size) r s a
    goes = asks_step Log r s a (inl tt) fits.suits.sound step

    settled_down : IsLogDurable a found.log
    settled_down = sync_down r v found.log s a fits.suits.sound was step are.log

    settled_suits : Suits past.page_size a
    settled_suits = suits_go past.page_size s a goes.later fits.suits

    shows_a : (db : List ℕ) → IsImage a.sector a.tears a.db db → ShowsWhole journal_log past.page_size db found.log (at past.history is.place)
    shows_a db image = is.shows db (file_syncs Log step.0 s a fits.suits.sound step.2 db image)

    pub settled_one : ShowsOne past.page_size (at past.history is.place) a
    settled_one = record {
      alone = shows_by journal_log past.page_size (at past.history is.place) a goes.later.sound (λ u. u ≡ found.log)
          (λ u left. down_read journal_log found.log a settled_down u (inr left))
          (λ u image. down_read journal_log found.log a settled_down u (inl image))
          (λ db u image e. subst (λ (x : List ℕ). Show past.page_size db x (at past.history is.place)) (sym e) (shows_a db image).shows);
      ends = ends_down found.log a settled_down (length (at past.history is.place) * past.page_size) (λ cold db image. (shows_a db image).whole cold)
          (λ hot. named_by found.log s a goes.later.sector goes.later.tears (λ torn. fits.sectors torn found.log found_read hot));
    }

    settled_held : IsHeld past.page_size (at past.history is.place)
    settled_held = fits.held is.place is.within

    by_answer : (q : Result ℕ RollError) (b : DiskState) → Asks (MayRecover past.page_size) q a b → RecoverAnswer past.page_size (at past.history is.place) q a b → RecoveredAt past found q s b
    by_answer (Ok n) b then answer = (
      asks_then (Ok n) r v s a b was goes then,
      record { place = is.place; floor = is.floor; within = is.within; newest_is = is.newest_is; shown = (is.shows found.db found_db).shows; rests = answer.1; count = answer.0 },
    )
    by_answer (Err e) b then answer = (
      asks_then {T = ℕ} (Err e) r v s a b was goes then,
      may_after NoMemory Device e s a b goes.later.refused answer.0,
      one_history past.page_size past.history past.floor is.place b is.floor is.within answer.1,
      answer.1.ends.sectors,
    )

    pub settled : (size : ℕ) → past.page_size ≡ size → (q : Result ℕ RollError) (b : DiskState) → Asks (MayRecover size) q a b
        → ((d : Database) → Suits size a → IsHeld size d → IsLogDurable a found.log → ShowsOne size d a → RecoverAnswer size d q a b) → RecoveredAt past found q s b
    settled size same q b then recovers = by_answer q b (subst (λ (n : ℕ). Asks (MayRecover n) q a b) (sym same) then)
        (subst (λ (n : ℕ). (d : Database) → Suits n a → IsHeld n d → IsLogDurable a found.log → ShowsOne n d a → RecoverAnswer n d q a b) (sym same) recovers (at past.history is.place) settled_suits settled_held settled_down settled_one)

-- ---- what an opening leaves to hold

module _ (h : List Database) (k : ℕ) (within : k < length h) where
  cut_long : length (take (k + 1) h) ≡ k + 1
  cut_long = length-take-le (k + 1) h (omega arith)

  cut_at : (i : ℕ) → i < length (take (k + 1) h) → get_or (take (k + 1) h) i [] ≡ get_or h i []
  cut_at i lt = get_or-take (k + 1) h i [] (omega (arith, cut_long))

  cut_last : get_or (take (k + 1) h) (length (take (k + 1) h) - 1) [] ≡ get_or h k []
  cut_last = cut_at (length (take (k + 1) h) - 1) (omega (arith, cut_long)) ∙ ap (λ (i : ℕ). get_or h i []) (let e : length (take (k + 1) h) - 1 ≡ k = omega (arith, cut_long) in e)

-- a disk at rest fits
pub fits_rested : (past : State) (s : DiskState) → Suits past.page_size s → past.floor + 1 ≡ length past.history → ((i : ℕ) → i < length past.history → IsHeld past.page_size (at past.history i)) → Rests past.page_size (newest past.history) s → FitsDisk past s
fits_rested past s suits durable held rests =
    let cold : (w : List ℕ) → MayBeRead journal_log s w → IsHot w → ⊥ = λ w may hot. rests.log.2 (subst (λ (x : List ℕ). HasMagic x 0) (down_read journal_log rests.log.0 s rests.log.1 w may) hot.first.magic) in
    let whole : (db w : List ℕ) → IsImage s.sector s.tears s.db db → MayBeRead journal_log s w → ShowsWhole journal_log past.page_size db w (newest past.history) = λ db w image may. record {
      shows = record {
        hot = λ hot. absurd (cold w may hot);
        cold = λ c. record { count = file_count past.page_size db (length (newest past.history)) (omega (arith, size_some past.page_size suits.pages)) (rests.file db image).long; each = (rests.file db image).each };
      };
      whole = λ c. (rests.file db image).long;
    } in
    record {
      suits = suits;
      floor = omega arith;
      held = held;
      left = λ w may. (last past.history, omega arith, omega arith, λ db image. whole db w image may);
      sectors = λ torn w may hot. absurd (cold w may hot);
      present = λ opens files are. whole files.db files.log (present_image s.sector s.tears s.db files.db suits.sound.db are.db) (inl (present_image s.sector false s.log files.log suits.sound.log are.log));
    }

module _ (past : State) (found : Files) (s : DiskState) (fits : FitsDisk past s) (b : DiskState) where
  pub given_up : (e : RollError) (q : Result ℕ RollError) → q ≡ Err e → RecoveredAt past found q s b → GivenUpTo past found e s b
  given_up e q was answer =
      let x = subst (λ (y : Result ℕ RollError). RecoveredAt past found y s b) was answer in
      record {
        next = closed past;
        same = record { sector = x.0.later.sector; tears = x.0.later.tears; calls = x.0.later.calls };
        refused = x.0.later.refused;
        told = λ lt. (let d = x.0.told lt in cc);
        row = (⊎_elim (λ none. inl (ap number_of none)) (λ is. inr (ap number_of is.0, is.1)) x.1, refl);
        fits = record {
          suits = suits_go past.page_size s b x.0.later fits.suits;
          floor = fits.floor;
          held = fits.held;
          left = x.2;
          sectors = x.3;
          present = λ opens. absurd (cc opens);
        };
      }

  pub opened_to : (n : ℕ) (q : Result ℕ RollError) → q ≡ Ok n → RecoveredAt past found q s b → (size : ℕ) → past.page_size ≡ size → (sector : ℕ) → sector ≡ s.sector → (core : Core) → IsNewCore size n sector core → OpenedTo past found core s b
  opened_to n q was answer size same sector whole core is =
      let x = subst (λ (y : Result ℕ RollError). RecoveredAt past found y s b) was answer in
      let at_k = x.1 in
      let e = cut_last past.history at_k.place at_k.within in
      let rests = subst (λ (d : Database). Rests past.page_size d b) (sym e) at_k.rests in
      let durable : at_k.place + 1 ≡ length (take (at_k.place + 1) past.history) = sym (cut_long past.history at_k.place at_k.within) in
      record {
        next = opened past at_k.place;
        same = record { sector = x.0.later.sector; tears = x.0.later.tears; calls = x.0.later.calls };
        refused = x.0.later.refused;
        told = λ lt. absurd (let d = x.0.told lt in cc);
        row = (at_k.place, at_k.floor, at_k.within, at_k.shown, at_k.newest_is, refl);
        fits = record {
          disk = fits_rested (opened past at_k.place) b (suits_go past.page_size s b x.0.later fits.suits) durable
              (λ i lt. subst (λ (d : Database). IsHeld past.page_size d) (sym (cut_at past.history at_k.place at_k.within i lt)) (fits.held i (omega (arith, cut_long past.history at_k.place at_k.within)))) rests;
          page_size = is.page_size ∙ sym same;
          is_open = is.is_open;
          core = λ opens. record {
            size = is.size ∙ at_k.count ∙ ap (λ (d : Database). length d) (sym e);
            rests = rests;
            durable = durable;
            record_room = core.record_room ∙ ap (λ (m : ℕ). m + 8) (is.page_size ∙ sym same);
            header_room = is.header_room ∙ whole ∙ sym x.0.later.sector;
          };
        };
      }

-- a plan keeps the database within the limit
pub few_some : (o : Option Plan) (p : Plan) (n size : ℕ) → o ≡ Some p → MatchOption o (Unit {0}) (IsPlanWithin most_bytes) → p.header.page_size ≡ size → n ≡ p.header.first_size → n * size ≤ 1073741824
few_some o p n size is within same count =
    let have : IsPlanWithin most_bytes p = within_some most_bytes o p is within in
    subst (λ (k : ℕ). k * size ≤ 1073741824) (sym count) (subst (λ (k : ℕ). p.header.first_size * k ≤ 1073741824) same have)

pub small_some : (o : Option Plan) (p : Plan) → o ≡ Some p → MatchOption o (Unit {0}) IsSmall → IsSmall p
small_some o p is small = subst (λ (x : Option Plan). MatchOption x (Unit {0}) IsSmall) is small

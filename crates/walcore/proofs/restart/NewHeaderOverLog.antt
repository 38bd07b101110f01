-- A new header is written over a log whose last database is all in the file, or into an empty one, and then synced.
use Rattle.walcore.proofs.Between.{AltersFile, AreMade, ArePresent, AreWhole, Bool, ChangedBy, Contains, Contains-push_cases, Database, DiskError, DiskState, Err, Failed, FileState, HasFixed, HasMadeHeader, HasNewSalts, IsBegun, IsDurable, IsFront, IsHeader, IsHeld, IsImage, IsJust, IsLog, IsLogDurable, IsSoundDisk, List, Log, MayBeRead, Ok, Result, ShowsHistory, SinceSync, Stands, Stopped, Suits, Syncs, TooLong, WriteTouches, Writes, [], altered_rest, ap, arith, begun_log, div-eq_of_lt, down_head, down_image, era_begin, false, file_syncs, fixed_written, frame_end, frame_end-head, frame_end-suc, frame_end-zero, front_exists, get_or, image_elsewhere, image_write, inl, inr, just_file, just_shows, length, made_before, made_begun, made_here, max, named_size, part, present_written, read_cases, refl, same_front, sector_some, sector_within, settled_one, shown, started, subst, suits_syncs, suits_writes, sym, syncs_untorn, take, take_all, then_write, true, turned_shows, untorn, wal_log, with_write, writes_untorn, written, written_inside, zeros_bad, ℕ, ⊎_elim, ◌++◌, ◌+◌, ◌-◌, ◌<◌, ◌∙◌, ◌∷◌, ◌≡◌, ◌≤◌, ◌⊎◌}
use Rattle.recovery.proofs.Words.{NoMemory}

zero_plus : (i : ℕ) → 0 + i ≡ i
zero_plus i = omega arith

minus_zero : (i : ℕ) → i - 0 ≡ i
minus_zero i = omega arith

-- ---- the header that is left of one that is written at the front

module _ {T : Type 0} (f : List ℕ) (result : Result T DiskError) (s t : DiskState) (alone : length f ≡ 32) (suits : IsSoundDisk s) (wide : 512 ≤ s.sector) (wrote : Writes Log 0 f result s t) where
  -- of a list of listed values
  pub listed_header : (w : List ℕ) → 32 ≤ length w → IsImage t.sector false t.log w
      → (take 32 w ≡ take 32 f) ⊎ ((v : List ℕ) × IsImage s.sector false s.log v × ((i : ℕ) → i < 32 → get_or w i 0 ≡ get_or v i 0))
  listed_header w long image = ⊎_elim
      (λ new. inl (same_front w f 32 long (omega arith) (λ i lt. ap (λ (j : ℕ). get_or w j 0) (sym (zero_plus i)) ∙ new i (omega arith))))
      (λ was. inr (was.0, was.1, λ i lt. ap (λ (j : ℕ). get_or w j 0) (sym (zero_plus i)) ∙ was.2 i (omega arith) ∙ ap (λ (j : ℕ). get_or was.0 j 0) (zero_plus i)))
      (image_write Log 0 f result (untorn s) (untorn t) suits.log (writes_untorn result s t 0 f wrote) refl (λ i a b. div-eq_of_lt (omega arith) ∙ sym (div-eq_of_lt (omega arith))) w image (omega arith))

  -- the pieces that were handed over
  handed_cases : (write : ℕ × List ℕ) → Contains t.handed write → Contains s.handed write ⊎ ((0, f) ≡ write)
  handed_cases write has = by s.tears result wrote.handed
    where
      same : t.handed ≡ s.handed → Contains s.handed write ⊎ ((0, f) ≡ write)
      same e = inl (subst (λ (l : List (ℕ × List ℕ)). Contains l write) e has)

      more : t.handed ≡ s.handed ++ (0, f) ∷ [] → Contains s.handed write ⊎ ((0, f) ≡ write)
      more e = Contains-push_cases s.handed (0, f) write (subst (λ (l : List (ℕ × List ℕ)). Contains l write) e has)

      by : (tears : Bool) (r : Result T DiskError) → t.handed ≡ with_write tears Log r 0 f s.handed → Contains s.handed write ⊎ ((0, f) ≡ write)
      by true (Ok _) e = more e
      by true (Err Failed) e = more e
      by true (Err Stopped) e = same e
      by true (Err TooLong) e = same e
      by true (Err NoMemory) e = same e
      by false r e = same e

  -- of what a disk that tears leaves
  pub torn_header : (w : List ℕ) → ((write : ℕ × List ℕ) → Contains s.handed write → 32 ≤ write.0) → AreWhole t.kept t.handed w → IsHeader (named_size w) w
      → (take 32 w ≡ take 32 f) ⊎ ((32 ≤ length s.kept) × (take 32 w ≡ take 32 s.kept))
  torn_header w behind whole header = ⊎_elim
      (λ stood. inr (
        subst (λ (x : List ℕ). 32 ≤ length x) wrote.kept (omega (arith, stood.0)),
        stood.1 ∙ ap (λ (x : List ℕ). part x 0 32) wrote.kept,
      ))
      (λ lies. ⊎_elim
      (λ before. absurd (omega (arith, behind lies.0 before, lies.2)))
      (λ is. inl (let P : ℕ × List ℕ → Type 0 = λ x. part w 0 32 ≡ part x.1 (0 - x.0) 32 in subst P (sym is) lies.4))
      (handed_cases lies.0 lies.1))
      (whole.header header)

-- ---- a restart

module _ {T : Type 0} (size : ℕ) (logs : List (List ℕ)) (e : List ℕ) (n : ℕ) (h : List Database) (index : ℕ → ℕ) (mark d c : ℕ) (s t : DiskState) (stands : Stands size logs e n h index mark d c s) (newest : mark ≤ d)
    (drained : (db : List ℕ) → IsImage s.sector s.tears s.db db → IsJust size (shown h index n) db)
    (sequence salt1 salt2 : ℕ) (f : List ℕ) (begun : IsBegun size sequence salt1 salt2 f) (new : HasNewSalts logs salt1 salt2) (result : Result T DiskError) (wrote : Writes Log 0 f result s t) where
  wide : 512 ≤ s.sector
  wide = sector_some s.sector stands.suits.sectors

  small : s.tears ≡ true → s.sector ≤ size
  small torn = sector_within size s stands.suits torn

  -- what stood behind the header
  listed_rest : (w : List ℕ) → IsImage t.sector false t.log w → (frame_end size d ≤ length w) × ((i : ℕ) → frame_end size 1 ≤ i → i < frame_end size d → get_or w i 0 ≡ get_or e i 0)
  listed_rest w image =
      let alters = then_write Log 0 32 0 f result (untorn s) (untorn s) (untorn t) (omega arith) (omega (arith, begun.alone)) (started Log 0 32 (untorn s) stands.suits.sound.log) (writes_untorn result s t 0 f wrote) in
      altered_rest size s.sector false e n d s.log t.log stands.era.log stands.marks.durable wide (λ torn. absurd (cc torn)) stands.suits.sound.log stands.log.listed alters.file w (subst (λ (k : ℕ). IsImage k false t.log w) wrote.elsewhere.sector image)

  old_header : (w v : List ℕ) → 32 ≤ length w → IsImage s.sector false s.log v → ((i : ℕ) → i < 32 → get_or w i 0 ≡ get_or v i 0) → take 32 w ≡ take 32 e
  old_header w v long image same =
      let durable : IsDurable size e d v = down_image size e n d s.sector false s.log stands.era.log stands.marks.durable stands.log.listed v image in
      let first : take 32 w ≡ take 32 v = same_front w v 32 long (omega (arith, durable.long, frame_end-head size d)) same in
      first ∙ down_head size e v d durable

  -- the old header or the new one
  listed_head : (w : List ℕ) → IsImage t.sector false t.log w → (take 32 w ≡ take 32 e) ⊎ (take 32 w ≡ take 32 f)
  listed_head w image =
      let long : 32 ≤ length w = omega (arith, (listed_rest w image).0, frame_end-head size d) in
      ⊎_elim (λ is. inr is) (λ was. inl (old_header w was.0 long was.1 was.2)) (listed_header f result s t begun.alone stands.suits.sound wide wrote w long image)

  torn_left : s.tears ≡ true → 1 ≤ d → (w : List ℕ) → IsImage t.sector true t.log w → (frame_end size d ≤ length w) × ((i : ℕ) → frame_end size 1 ≤ i → i < frame_end size d → get_or w i 0 ≡ get_or e i 0)
  torn_left torn some w image =
      let alters = then_write Log 0 32 0 f result s s t (omega arith) (omega (arith, begun.alone)) (started Log 0 32 s stands.suits.sound.log) wrote in
      altered_rest size s.sector true e n d s.log t.log stands.era.log stands.marks.durable wide small_at stands.suits.sound.log (stands.log.torn torn some)
      (subst (λ (b : Bool). AltersFile s.sector b 0 32 s.log t.log) torn alters.file) w (subst (λ (k : ℕ). IsImage k true t.log w) wrote.elsewhere.sector image)
    where
      small_at : true ≡ true → s.sector ≤ size
      small_at is = small torn

  headers_left : (w : List ℕ) → MayBeRead wal_log t w → IsHeader (named_size w) w → (take 32 w ≡ take 32 e) ⊎ (take 32 w ≡ take 32 f)
  headers_left w may header = ⊎_elim
      (λ image. listed_head w image)
      (λ left.
      let was : s.tears ≡ true = sym wrote.elsewhere.tears ∙ left.0 in
      ⊎_elim
      (λ is. inr is)
      (λ is. inl (is.1 ∙ stands.log.kept was))
      (torn_header f result s t begun.alone stands.suits.sound wide wrote w (stands.log.handed was) left.2 header))
      (read_cases wal_log t w may)

  stood : (w : List ℕ) → MayBeRead wal_log t w → 1 ≤ d → (frame_end size d ≤ length w) × ((i : ℕ) → frame_end size 1 ≤ i → i < frame_end size d → get_or w i 0 ≡ get_or e i 0)
  stood w may some = ⊎_elim (λ image. listed_rest w image) (λ left. torn_left (sym wrote.elsewhere.tears ∙ left.0) some w left.1) (read_cases wal_log t w may)

  -- Whatever the write of the header answered, what is left shows the last database.
  pub restart_shows : (floor : ℕ) → floor ≤ index n → ShowsHistory size (f ∷ logs) h floor t × HasMadeHeader (f ∷ logs) t
  restart_shows floor low = (
    λ w may chance. (
      index n,
      low,
      omega (arith, stands.era.last),
      λ db image. turned_shows size (f ∷ logs) e f n mark d h index stands.era stands.marks.durable stands.marks.durable_ends newest (made_begun size sequence salt1 salt2 logs f stands.are_made begun new) (made_before f e logs stands.in_made) (made_here f logs)
          (begun_log size sequence salt1 salt2 f begun) w chance (headers_left w may) (stood w may) db (drained db (image_elsewhere Log result s t wrote.elsewhere db image)),
    ),
    λ w may header. ⊎_elim
        (λ is. (e, made_before f e logs stands.in_made, is))
        (λ is. (f, made_here f logs, is))
        (headers_left w may header),
  )

-- ---- a new log

-- When the header is durable its era begins, over the last database of the history, which is in the file.
module _ {T U : Type 0} {u : T} {v : U} (size : ℕ) (logs : List (List ℕ)) (h : List Database) (s mid t : DiskState) (suits : Suits size s) (are : AreMade size logs) (some : 1 ≤ length h) (held : (i : ℕ) → i < length h → IsHeld size (get_or h i []))
    (file : (db : List ℕ) → IsImage s.sector s.tears s.db db → IsJust size (get_or h (length h - 1) []) db)
    (sequence salt1 salt2 : ℕ) (f : List ℕ) (begun : IsBegun size sequence salt1 salt2 f) (new : HasNewSalts logs salt1 salt2) (wrote : Writes Log 0 f (Ok u) s mid) (synced : Syncs Log (Ok v) mid t) where
  pub begin_stands : Stands size (f ∷ logs) f 0 h (λ i. length h - 1) 0 0 0 t
  begin_stands =
      let log : IsLog size f 0 = begun_log size sequence salt1 salt2 f begun in
      let whole : take (frame_end size 0) f ≡ f = take_all (frame_end size 0) f (omega (arith, log.whole)) in
      let fixed : (b : Bool) → HasFixed t.sector b t.log 0 f → HasFixed t.sector b t.log 0 (take (frame_end size 0) f) = λ b is. subst (λ (x : List ℕ). HasFixed t.sector b t.log 0 x) (sym whole) is in
      let suits_mid = suits_writes size Log 0 f (Ok u) s mid suits wrote in
      let since : t.tears ≡ true → ArePresent mid.log t.kept × (t.handed ≡ []) = λ torn. since_torn mid.tears (sym synced.elsewhere.tears ∙ torn) synced.since in
      record {
        suits = suits_syncs size Log (Ok v) mid t suits_mid synced;
        are_made = made_begun size sequence salt1 salt2 logs f are begun new;
        in_made = made_here f logs;
        era = era_begin size f h log some held;
        marks = record { durable = omega arith; durable_ends = inl refl; begun = omega arith; begun_ends = inl refl };
        log = record {
          listed = fixed false (fixed_written Log 0 f (untorn s) (untorn mid) (untorn t) (writes_untorn (Ok u) s mid 0 f wrote) (syncs_untorn (Ok v) mid t synced));
          torn = λ torn one. absurd (omega arith);
          kept = λ torn.
              let is = (since torn).0 in
              same_front t.kept f 32 (omega (arith, is.len, wrote.file.1.len, begun.alone)) (omega (arith, begun.alone))
              (λ i lt. is.each i (omega (arith, wrote.file.1.len, begun.alone)) ∙ present_written Log 0 f s mid wrote i ∙ written_inside s.log 0 f i (omega arith) (omega (arith, begun.alone)) ∙ ap (λ (j : ℕ). get_or f j 0) (minus_zero i));
          handed = λ torn write has. absurd (let none : Contains [] write = subst (λ (l : List (ℕ × List ℕ)). Contains l write) (since torn).1 has in omega (arith, none.1));
        };
        file = λ db image.
            let just = file db (image_elsewhere Log (Ok u) s mid wrote.elsewhere db (file_syncs Log (Ok v) mid t suits_mid.sound synced db image)) in
            record { untouched = λ z. just; rest = λ p a b b_c un. just.each p a b };
      }
    where
      since_torn : (b : Bool) → b ≡ true → SinceSync b Log (Ok v) mid t → ArePresent mid.log t.kept × (t.handed ≡ [])
      since_torn true e is = is
      since_torn false e is = absurd (cc e)

pub greatest_changed : {T : Type 0} (sector : ℕ) (touches : ℕ → Type 0) (target : ℕ → ℕ) (end : ℕ) (result : Result T DiskError) (old new : FileState) → ChangedBy sector touches target end result old new → new.greatest ≤ max old.greatest end
greatest_changed sector touches target end (Ok _) old new changed = omega (arith, changed.0.greatest)
greatest_changed sector touches target end (Err Failed) old new changed = omega (arith, changed.greatest)
greatest_changed sector touches target end (Err Stopped) old new same = subst (λ (x : FileState). x.greatest ≤ max old.greatest end) (sym same) (omega arith)
greatest_changed sector touches target end (Err TooLong) old new same = subst (λ (x : FileState). x.greatest ≤ max old.greatest end) (sym same) (omega arith)
greatest_changed sector touches target end (Err NoMemory) old new same = subst (λ (x : FileState). x.greatest ≤ max old.greatest end) (sym same) (omega arith)

-- Whatever the write of the header into an empty log answered, what is left shows the last database.
module _ {T : Type 0} (size : ℕ) (logs : List (List ℕ)) (h : List Database) (s t : DiskState) (suits : Suits size s) (durable : IsLogDurable s []) (some : 1 ≤ length h)
    (file : (db : List ℕ) → IsImage s.sector s.tears s.db db → IsJust size (get_or h (length h - 1) []) db)
    (f : List ℕ) (alone : length f ≡ 32) (result : Result T DiskError) (wrote : Writes Log 0 f result s t) where
  short : (b : Bool) (w : List ℕ) → IsImage t.sector b t.log w → length w ≤ 32
  short b w image = omega (arith, image.greatest, greatest_changed s.sector (WriteTouches s.sector s.log 0 f) (written s.log 0 f) (max s.log.len (0 + length f)) result s.log t.log wrote.file, durable.settled.greatest, durable.settled.len, alone)

  is_short : (w : List ℕ) → MayBeRead wal_log t w → length w ≤ 32
  is_short w may = ⊎_elim (λ image. short false w image) (λ left. short true w left.1) (read_cases wal_log t w may)

  begun_header : (w : List ℕ) → MayBeRead wal_log t w → IsHeader (named_size w) w → take 32 w ≡ take 32 f
  begun_header w may header = ⊎_elim
      (λ image. ⊎_elim
      (λ is. is)
      (λ was. absurd (zeros_bad (named_size w) w (λ i lt. was.2 i (omega arith) ∙ ap (λ (x : List ℕ). get_or x i 0) (settled_one s.log [] durable.settled s.sector false was.0 was.1)) header))
      (listed_header f result s t alone suits.sound (sector_some s.sector suits.sectors) wrote w header.whole image))
      (λ left.
      let was : s.tears ≡ true = sym wrote.elsewhere.tears ∙ left.0 in
      ⊎_elim
      (λ is. is)
      (λ is. absurd (let none : 32 ≤ length {A = ℕ} [] = subst (λ (x : List ℕ). 32 ≤ length x) (durable.kept was) is.0 in omega arith))
      (torn_header f result s t alone suits.sound (sector_some s.sector suits.sectors) wrote w
      (λ write has. absurd (let none : Contains [] write = subst (λ (l : List (ℕ × List ℕ)). Contains l write) durable.handed has in omega (arith, none.1))) left.2 header))
      (read_cases wal_log t w may)

  front_zero : (w : List ℕ) → MayBeRead wal_log t w → IsFront (named_size w) w 0
  front_zero w may =
      let found = front_exists (named_size w) w in
      ⊎_elim
      (λ z. subst (λ (k : ℕ). IsFront (named_size w) w k) z found.1)
      (λ v. absurd (omega (arith, (v.0.each 1 (omega arith) v.0.first).whole, frame_end-suc (named_size w) 0, frame_end-zero (named_size w), is_short w may)))
      found.1.is

  pub begin_shows : (floor : ℕ) → floor ≤ length h - 1 → ShowsHistory size (f ∷ logs) h floor t × HasMadeHeader (f ∷ logs) t
  begin_shows floor low = (
    λ w may chance. (
      length h - 1,
      low,
      omega arith,
      λ db image.
          let just = file db (image_elsewhere Log result s t wrote.elsewhere db image) in
          just_shows size db w (get_or h (length h - 1) []) just (just_file size (get_or h (length h - 1) []) db suits.pages just) (front_zero w may),
    ),
    λ w may header. (f, made_here f logs, begun_header w may header),
  )

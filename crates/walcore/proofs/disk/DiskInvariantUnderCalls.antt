-- The steps of an engine on its log keep what stands on its disk.
use Rattle.walcore.proofs.Between.{AreCommitted, AreMade, AreMarks, Database, Db, DiskError, DiskState, File, HoldsFrames, IsBehind, IsBoundary, IsEra, IsExtended, IsFixed, IsImage, IsJust, IsPresent, List, Log, Ok, Pages, Result, Stands, Suits, Syncs, Writes, [], ap, apply, arith, boundary_same, commit_era, extended_front, false, frame_end, frame_end-head, frame_end-le, get_or, get_or_append_left, image_elsewhere, image_sync, index_low, index_with, length, made_here, made_more, most_frames, page, sector_some, shown, since_db, subst, suits_syncs, suits_writes, sym, take, take_less, true, unnamed_same, ℕ, ◌++◌, ◌+◌, ◌<◌, ◌∙◌, ◌∷◌, ◌≡◌, ◌≤◌}
use Rattle.walcore.proofs.log.DurableFrames.{holds_writes, holds_syncs, holds_synced, holds_elsewhere, holds_fewer}

-- ---- a log that goes on

-- What stands on the disk stands of a log that goes on, before a frame of it is written.
pub stands_more : (size : ℕ) (logs more_logs : List (List ℕ)) (e f : List ℕ) (n m : ℕ) (h h_new : List Database) (index index_new : ℕ → ℕ) (mark mark_new d c : ℕ) (s : DiskState)
    → Stands size logs e n h index mark d c s → AreMade size (f ∷ more_logs) → IsEra size f m mark_new h_new index_new → n ≤ m → take (frame_end size n) f ≡ take (frame_end size n) e
    → ((i : ℕ) → i ≤ n → shown h_new index_new i ≡ shown h index i) → Stands size (f ∷ more_logs) f m h_new index_new mark_new d c s
stands_more size logs more_logs e f n m h h_new index index_new mark mark_new d c s stands are era more same now =
    let low : c ≤ n = omega (arith, stands.marks.begun, stands.marks.durable) in
    let same_d : take (frame_end size d) f ≡ take (frame_end size d) e = take_less f e (frame_end size n) (frame_end size d) same (frame_end-le size d n stands.marks.durable) in
    let same_head : take 32 f ≡ take 32 e = take_less f e (frame_end size n) 32 same (frame_end-head size n) in
    record {
      suits = stands.suits;
      are_made = are;
      in_made = made_here f more_logs;
      era = era;
      marks = record {
        durable = omega (arith, stands.marks.durable);
        durable_ends = boundary_same size e f n d same stands.marks.durable stands.marks.durable_ends;
        begun = stands.marks.begun;
        begun_ends = boundary_same size e f n c same low stands.marks.begun_ends;
      };
      log = record {
        listed = λ i lt. let was = subst (λ (x : List ℕ). (j : ℕ) → j < length x → IsFixed s.sector false s.log (0 + j) (get_or x j 0)) (sym same_d) stands.log.listed in was i lt;
        torn = λ torn some i lt. let was = subst (λ (x : List ℕ). (j : ℕ) → j < length x → IsFixed s.sector true s.log (0 + j) (get_or x j 0)) (sym same_d) (stands.log.torn torn some) in was i lt;
        kept = λ torn. stands.log.kept torn ∙ sym same_head;
        handed = stands.log.handed;
      };
      file = λ db image. let under = stands.file db image in record {
        untouched = λ z. subst (λ (b : Database). IsJust size b db) (sym (now 0 (omega arith))) (under.untouched z);
        rest = λ p a b b_c un. ap (λ (b : Database). page b p) (now 0 (omega arith))
            ∙ under.rest p a (subst (λ (b : Database). p ≤ length b) (now 0 (omega arith)) b) (subst (λ (b : Database). p ≤ length b) (now c low) b_c)
            (unnamed_same size f e (frame_end size n) c p same (frame_end-le size c n low) un);
      };
    }

-- Before the first write of a commit what stands on the disk stands of the history with its database.
pub commit_stands : (size : ℕ) (rest : List (List ℕ)) (e : List ℕ) (n : ℕ) (h : List Database) (index : ℕ → ℕ) (mark d c : ℕ) (s : DiskState) (pages : Pages) (count : ℕ) (f : List ℕ)
    → Stands size (e ∷ rest) e n h index mark d c s → IsExtended size e n pages count f → AreCommitted size (shown h index n) pages count → n + length pages ≤ most_frames
    → Stands size (f ∷ rest) f (n + length pages) (h ++ apply (shown h index n) pages count ∷ []) (index_with index n (n + length pages) (length h)) (n + length pages) d c s
commit_stands size rest e n h index mark d c s pages count f stands more are few =
    let era = stands.era in
    let same : take (frame_end size n) f ≡ take (frame_end size n) e = extended_front size e n pages count f era.log more in
    let head : take 32 f ≡ take 32 e = take_less f e (frame_end size n) 32 same (frame_end-head size n) in
    let new : Database = apply (shown h index n) pages count in
    stands_more size (e ∷ rest) rest e f n (n + length pages) h (h ++ new ∷ []) index (index_with index n (n + length pages) (length h)) mark (n + length pages) d c s stands
    (made_more size rest f (n + length pages) more.log few e stands.are_made head)
    (commit_era size e n mark h index pages count f era more are)
    (omega arith) same
    (λ i le. ap (λ (k : ℕ). get_or (h ++ new ∷ []) k []) (index_low index n (n + length pages) (length h) i (omega (arith, are.some)) le)
    ∙ get_or_append_left h (new ∷ []) [] (index i) (omega (arith, era.rises i n le (omega arith), era.last)))

-- ---- calls

module _ (size : ℕ) (logs : List (List ℕ)) (e : List ℕ) (n : ℕ) (h : List Database) (index : ℕ → ℕ) (mark d c : ℕ) (s t : DiskState) (stands : Stands size logs e n h index mark d c s) where
  -- the file is left alone, or no file comes to those that a crash may leave
  pub stands_by : (d_new : ℕ) → Suits size t → AreMarks size e n d_new c → HoldsFrames size e d_new t → ((db : List ℕ) → IsImage t.sector t.tears t.db db → IsImage s.sector s.tears s.db db) → Stands size logs e n h index mark d_new c t
  stands_by d_new suits marks log file = record {
    suits = suits;
    are_made = stands.are_made;
    in_made = stands.in_made;
    era = stands.era;
    marks = marks;
    log = log;
    file = λ db image. stands.file db (file db image);
  }

  positive : 1 ≤ s.sector
  positive = omega (arith, sector_some s.sector stands.suits.sectors)

  module _ {T : Type 0} where
    -- a write of the log behind what is durable, whatever was answered
    pub stands_writes : (at : ℕ) (bytes : List ℕ) (result : Result T DiskError) → Writes Log at bytes result s t → IsBehind size d at s → Stands size logs e n h index mark d c t
    stands_writes at bytes result wrote behind = stands_by d (suits_writes size Log at bytes result s t stands.suits wrote) stands.marks
        (holds_writes size e n d s t stands.era.log stands.marks.durable stands.suits.sound positive stands.log at bytes result wrote behind)
        (image_elsewhere Log result s t wrote.elsewhere)

    -- a sync, whatever was answered
    pub stands_syncs : (f : File) (result : Result T DiskError) → Syncs f result s t → Stands size logs e n h index mark d c t
    stands_syncs Log result synced = stands_by d (suits_syncs size Log result s t stands.suits synced) stands.marks
        (holds_syncs size e n d s t stands.era.log stands.marks.durable stands.suits.sound positive stands.log result synced)
        (image_elsewhere Log result s t synced.elsewhere)
    stands_syncs Db result synced = stands_by d (suits_syncs size Db result s t stands.suits synced) stands.marks
        (holds_elsewhere size e d s t synced.elsewhere.sector synced.elsewhere.tears synced.elsewhere.other (since_db [] s.tears result s t synced.since) stands.log)
        (image_sync Db result s t stands.suits.sound.db synced)

    -- a sync of the log that succeeds, after which all frames are durable
    pub stands_synced : {u : T} → Syncs Log (Ok u) s t → IsPresent size e n s → Stands size logs e n h index mark n c t
    stands_synced {u = u} synced present = stands_by n (suits_syncs size Log (Ok u) s t stands.suits synced)
        (record { durable = omega arith; durable_ends = stands.era.ends; begun = omega (arith, stands.marks.begun, stands.marks.durable); begun_ends = stands.marks.begun_ends })
        (holds_synced size e n d s t stands.era.log stands.marks.durable stands.suits.sound positive stands.log synced present)
        (image_elsewhere Log (Ok u) s t synced.elsewhere)

-- Fewer frames are said to be durable, as where the last one is a copy.
pub stands_fewer : (size : ℕ) (logs : List (List ℕ)) (e : List ℕ) (n : ℕ) (h : List Database) (index : ℕ → ℕ) (mark d d_new c : ℕ) (s : DiskState) → Stands size logs e n h index mark d c s
    → d_new ≤ d → c ≤ d_new → IsBoundary size e d_new → Stands size logs e n h index mark d_new c s
stands_fewer size logs e n h index mark d d_new c s stands less begun ends = stands_by size logs e n h index mark d c s s stands d_new stands.suits
    (record { durable = omega (arith, stands.marks.durable); durable_ends = ends; begun = begun; begun_ends = stands.marks.begun_ends })
    (holds_fewer size e n d d_new s stands.era.log stands.marks.durable less stands.log)
    (λ db image. image)

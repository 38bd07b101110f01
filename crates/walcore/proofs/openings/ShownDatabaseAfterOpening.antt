-- Where nothing of the log was unsynced and all that a crash may leave showed one database, it does so after an opening.
use Rattle.walcore.proofs.Between.{Agrees, Bounds, Database, DiskError, DiskState, Err, FileState, FoldAnswerWithin, Folded, FoldsWithin, HeaderSteps, IsEmptyDurable, IsFront, IsImage, IsLogDurable, IsSoundDisk, IsView, List, Log, MayBeRead, Ok, OnOk, Result, Show, ShowsAlone, Still, Syncs, WalError, WriteTouches, Writes, [], alone_read, alone_still, alone_syncs, ap, arith, byte, down_left, down_still, down_syncs, frame_end-suc, frame_end-zero, front_unique, image_elsewhere, inl, length, max, named_size, present_list, read_cases, refl, sound_writes, subst, sym, synced_down, table, wal_log, written, ℕ, ⊎_elim, ◌+◌, ◌∙◌, ◌≡◌, ◌≤◌}
use Rattle.walcore.proofs.restart.NewHeaderOverLog.{greatest_changed}

module _ (size : ℕ) (d : Database) where
  -- a log of no more than a header shows nothing of its own
  short_front : (w : List ℕ) → length w ≤ 32 → IsFront (named_size w) w 0
  short_front w short = record { is = inl refl; greatest = λ i valid commit. absurd (omega (arith, (valid.each 1 (omega arith) valid.first).whole, frame_end-suc (named_size w) 0, frame_end-zero (named_size w))) }

  short_shows : (db v w : List ℕ) → length v ≤ 32 → length w ≤ 32 → Show size db v d → Show size db w d
  short_shows db v w old_short short shows k front =
      let z : k ≡ 0 = front_unique (named_size w) w k 0 front (short_front w short) in
      let view = (shows 0 (short_front v old_short)).1 in
      let here : IsView size db w 0 d = record {
        none = view.none;
        some = λ one. absurd (omega arith);
        over = record {
          logged = λ p i a b last. absurd (omega (arith, last.first, last.within));
          other = λ p a b un. view.over.other p a b (λ i one le. absurd (omega arith));
        };
      } in
      (λ one. absurd (omega arith), subst (λ (j : ℕ). IsView size db w j d) (sym z) here)

  module _ {T : Type 0} (f v : List ℕ) (long : length f ≡ 32) (old_short : length v ≤ 32) (s : DiskState) (sound : IsSoundDisk s) (durable : IsLogDurable s v) (alone : ShowsAlone wal_log size d s) where
    written_read : (called : Result T DiskError) (t : DiskState) → Writes Log 0 f called s t → (db w : List ℕ) → IsImage t.sector t.tears t.db db → MayBeRead wal_log t w → Show size db w d
    written_read called t wrote db w image may =
        let top = greatest_changed s.sector (WriteTouches s.sector s.log 0 f) (written s.log 0 f) (max s.log.len (0 + length f)) called s.log t.log wrote.file in
        let short : length w ≤ 32 = ⊎_elim (λ listed. omega (arith, listed.greatest, top, durable.settled.greatest, durable.settled.len, long, old_short)) (λ left. omega (arith, left.1.greatest, top, durable.settled.greatest, durable.settled.len, long, old_short)) (read_cases wal_log t w may) in
        short_shows db v w old_short short (alone.images db v (image_elsewhere Log called s t wrote.elsewhere db image) (down_left v s durable))

    -- the header is written, or not
    pub header_alone : (r : Result T WalError) (t : DiskState) → HeaderSteps f r s t → ShowsAlone wal_log size d t
    header_alone r t steps = ⊎_elim
        (λ failed. alone_read wal_log size d t (sound_writes Log 0 f failed.0 s t sound failed.3) (written_read failed.0 t failed.3))
        (λ done.
        let on = sound_writes Log 0 f (Ok done.1.0) s done.0 sound done.1.1 in
        alone_syncs wal_log size d Log done.2.0 done.0 t on done.2.2 (alone_read wal_log size d done.0 on (written_read (Ok done.1.0) done.0 done.1.1)))
        steps

-- ---- an opening

pub agrees_then : (size : ℕ) (a b c : DiskState) → Agrees wal_log size a b → ((d : Database) → ShowsAlone wal_log size d b → ShowsAlone wal_log size d c) → Agrees wal_log size a c
agrees_then size a b c first second w d durable alone = second d (first w d durable alone)

pub agrees_synced : {T : Type 0} (size : ℕ) (r : Result T DiskError) (a b : DiskState) → IsSoundDisk a → Syncs Log r a b → Agrees wal_log size a b
agrees_synced size r a b sound synced w d durable alone = alone_syncs wal_log size d Log r a b sound synced alone

-- a sync and then more
pub agrees_after : {T : Type 0} (size : ℕ) (r : Result T DiskError) (a b c : DiskState) → IsSoundDisk a → Syncs Log r a b → Agrees wal_log size b c → Agrees wal_log size a c
agrees_after size r a b c sound synced then w d durable alone = then w d (down_syncs w Log r a b durable synced) (alone_syncs wal_log size d Log r a b sound synced alone)

-- what a sync and a fold leave of the log
pub synced_empty : {T : Type 0} {u : T} (a b : DiskState) → IsSoundDisk a → Syncs Log (Ok u) a b → IsEmptyDurable b
synced_empty a b sound synced zero = synced_down [] a b sound (record { len = sym (sym synced.file.len ∙ zero); each = λ i lt. absurd (omega (arith, synced.file.len)) }) synced

pub folded_empty : (limits : Bounds) (size : ℕ) (f : Folded) (r : Result Folded WalError) (b c : DiskState) → r ≡ Ok f → FoldsWithin limits size r b c → IsLogDurable c []
folded_empty limits size f r b c was folds =
    let db = table b.db.len (byte b.db) in
    let w = table b.log.len (byte b.log) in
    (subst (λ (x : Result Folded WalError). FoldAnswerWithin limits size db w x b c) was (folds db w (present_list b.db) (present_list b.log))).3.log

pub on_ok : {T : Type 0} (r : Result T WalError) (P : Type 0) → P → OnOk r P
on_ok (Ok v) P p = p
on_ok (Err e) P p = tt

-- a look first
pub agrees_looked : (size : ℕ) (a b c : DiskState) → IsSoundDisk a → Still a b → Agrees wal_log size b c → Agrees wal_log size a c
agrees_looked size a b c sound still then w d durable alone = then w d (down_still w a b still durable) (alone_still wal_log size d a b sound still alone)

pub still_empty : (a b : DiskState) → Still a b → IsEmptyDurable a → IsEmptyDurable b
still_empty a b still empty zero = down_still [] a b still (empty (ap (λ (f : FileState). f.len) (sym still.log) ∙ zero))

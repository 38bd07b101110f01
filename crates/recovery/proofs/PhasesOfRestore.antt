-- In each step of a restore what may be left shows the database that it showed at the start.
use Rattle.std.proofs.Common.{◌≡◌, inl, inr, ⊎_elim, ℕ, false, List, sym, subst, Result, Ok, Err}
use Rattle.recovery.proofs.Below.{Database, IsFile, byte, IsImage, IsSettled, DiskState, IsSoundDisk, ArePresent, Syncs, Elsewhere, IsLogDurable, Still, KeepsLog, Told, SyncStep, File, Db, Log, DiskError, settled_one, settled_image, table, image_elsewhere, present_list, settled_sync, sound_syncs, image_still, present_in, down_one, down_by, down_syncs, down_present, down_present_one, LogKind, MayBeRead, ShowsAlone, ArePages, IsFiled, Repeats, Filling, Unwritten, Restoring, Restored}
use Rattle.recovery.proofs.NarrowedImages.{Narrows, narrows_syncs, alone_read, read_alone}
use Rattle.recovery.proofs.FilledFile.{filling_syncs, filling_other, filled_just, filled_file}

-- ---- The log is durable.

module _ (kind : LogKind) (w : List ℕ) (s : DiskState) (durable : IsLogDurable s w) where
  -- no other may be read
  pub down_read : (v : List ℕ) → MayBeRead kind s v → v ≡ w
  down_read v may = ⊎_elim (λ listed. down_one w s durable s.sector false v listed) (λ left. down_one w s durable s.sector s.tears v left.image) may

  pub may_down : MayBeRead kind s w
  may_down = inl (settled_image s.log w durable.settled s.sector false)

  -- so what it shows with each file that may be left is shown alone
  pub down_shows : (size : ℕ) (d : Database) → IsSoundDisk s → ((db : List ℕ) → IsImage s.sector s.tears s.db db → kind.Show size db w d) → ShowsAlone kind size d s
  down_shows size d sound shows = alone_read kind size d s sound (λ db v image may. subst (λ (x : List ℕ). kind.Show size db x d) (sym (down_read v may)) (shows db image))

pub down_still : (w : List ℕ) (old new : DiskState) → Still old new → IsLogDurable old w → IsLogDurable new w
down_still w old new still durable = down_by w old new durable still.log still.tears still.kept still.handed

-- ---- Nothing was written yet.

module _ (kind : LogKind) (size : ℕ) (d : Database) (w : List ℕ) where
  pub unwritten_begins : (s : DiskState) → IsLogDurable s w → ShowsAlone kind size d s → Unwritten kind size d w s
  unwritten_begins s durable alone = record {
    durable = durable;
    shows = λ db image. read_alone kind size d s alone db w image (may_down kind w s durable);
    present = λ db are. alone.present db w are (down_present w s durable);
  }

  pub unwritten_shows : (s : DiskState) → Unwritten kind size d w s → ShowsAlone kind size d s
  unwritten_shows s is = record {
    images = λ db v image left. subst (λ (x : List ℕ). kind.Show size db x d) (sym (down_read kind w s is.durable v (inr left))) (is.shows db image);
    listed = λ db v image values. subst (λ (x : List ℕ). kind.Show size db x d) (sym (down_read kind w s is.durable v (inl values))) (is.shows db image);
    present = λ db v are_db are. subst (λ (x : List ℕ). kind.Show size db x d) (sym (down_present_one w s is.durable v are)) (is.present db are_db);
  }

  pub unwritten_still : (old new : DiskState) → Unwritten kind size d w old → Still old new → Unwritten kind size d w new
  unwritten_still old new is still = record {
    durable = down_still w old new still is.durable;
    shows = λ db image. is.shows db (image_still old new still db image);
    present = λ db are. is.present db (present_in new.db old.db db (sym still.db) are);
  }

  pub unwritten_syncs : {T : Type 0} (result : Result T DiskError) (old new : DiskState) → Unwritten kind size d w old → Syncs Log result old new → Unwritten kind size d w new
  unwritten_syncs result old new is synced = record {
    durable = down_syncs w Log result old new is.durable synced;
    shows = λ db image. is.shows db (image_elsewhere Log result old new synced.elsewhere db image);
    present = λ db are. is.present db (present_in new.db old.db db (sym synced.elsewhere.other) are);
  }

-- ---- The file has all pages.

module _ (kind : LogKind) (size : ℕ) (d : Database) where
  pub restored_shows : (s : DiskState) → Restored kind size d s → ShowsAlone kind size d s
  restored_shows s is = alone_read kind size d s is.sound (λ db w image may. is.log w may db (is.file db image))

  pub restored_syncs : {T : Type 0} (f : File) (result : Result T DiskError) (old new : DiskState) → Restored kind size d old → Syncs f result old new → Restored kind size d new
  restored_syncs f result old new is synced =
      let narrows : Narrows kind old new = narrows_syncs kind f result old new is.sound synced in
      record { sound = sound_syncs f result old new is.sound synced; file = λ db image. is.file db (narrows.file db image); log = λ w may. is.log w (narrows.log w may) }

  -- the log was changed
  pub restored_by : {T : Type 0} (result : Result T DiskError) (old new : DiskState) → Restored kind size d old → IsSoundDisk new → Elsewhere Log result old new
      → ((w : List ℕ) → MayBeRead kind new w → Repeats kind size d w) → Restored kind size d new
  restored_by result old new is sound elsewhere log = record { sound = sound; file = λ db image. is.file db (image_elsewhere Log result old new elsewhere db image); log = log }

  pub restored_down : (w : List ℕ) (s : DiskState) → IsSoundDisk s → IsLogDurable s w → IsFiled size d s → Repeats kind size d w → Restored kind size d s
  restored_down w s sound durable file repeats = record {
    sound = sound;
    file = file;
    log = λ v may. subst (λ (x : List ℕ). Repeats kind size d x) (sym (down_read kind w s durable v may)) repeats;
  }

-- ---- Pages are written.

module _ (kind : LogKind) (size : ℕ) (d : Database) (Unnamed : ℕ → Type 0) (w : List ℕ) where
  pub restoring_shows : (s : DiskState) → Restoring kind size d Unnamed w s → ShowsAlone kind size d s
  restoring_shows s is = down_shows kind w s is.durable size d is.file.suits.sound (λ db image. is.shows db (filling_other size d Unnamed s db is.file image))

  -- the log is left alone
  pub restoring_by : (old new : DiskState) → Restoring kind size d Unnamed w old → IsLogDurable new w → Filling size d Unnamed new → Restoring kind size d Unnamed w new
  restoring_by old new is durable file = record { file = file; durable = durable; shows = is.shows }

  pub restoring_keeps : (old new : DiskState) → Restoring kind size d Unnamed w old → KeepsLog old new → Filling size d Unnamed new → Restoring kind size d Unnamed w new
  restoring_keeps old new is keeps file = restoring_by old new is (down_by w old new is.durable keeps.log keeps.tears keeps.kept keeps.handed) file

  pub restoring_syncs : {T : Type 0} (f : File) (result : Result T DiskError) (old new : DiskState) → Restoring kind size d Unnamed w old → Syncs f result old new → Restoring kind size d Unnamed w new
  restoring_syncs f result old new is synced = restoring_by old new is (down_syncs w f result old new is.durable synced) (filling_syncs size d Unnamed f result old new is.file synced)

  -- all pages are there, and then durable
  restored_settled : (s : DiskState) (bytes : List ℕ) → Restoring kind size d Unnamed w s → IsSettled s.db bytes → IsFile size bytes d → Restored kind size d s
  restored_settled s bytes is settled file = restored_down kind size d w s is.file.suits.sound is.durable
      (λ db image. subst (λ (x : List ℕ). IsFile size x d) (sym (settled_one s.db bytes settled s.sector s.tears db image)) file)
      (λ db filed. is.shows db (λ p a b un. filed.each p a b))

  restored_told : {T E : Type 0} (device : E) (v : T) (called : Result T DiskError) (old new : DiskState) → Restoring kind size d Unnamed w old → ArePages size d old.db → Told {E = E} device called (Ok v) → Syncs Db called old new → Restored kind size d new
  restored_told device v (Ok x) old new is pages told synced =
      let bytes : List ℕ = table old.db.len (byte old.db) in
      let are : ArePresent old.db bytes = present_list old.db in
      restored_settled new bytes (restoring_syncs Db (Ok x) old new is synced) (settled_sync Db old new bytes is.file.suits.sound.db synced are)
      (filled_file size d Unnamed old bytes is.file (filled_just size d Unnamed old bytes is.file pages are))
  restored_told device v (Err e) old new is pages told synced = absurd told

  pub restored_step : {T E : Type 0} (device : E) (v : T) (old new : DiskState) → Restoring kind size d Unnamed w old → ArePages size d old.db → SyncStep {T = T} device Db (Ok v) old new → Restored kind size d new
  restored_step device v old new is pages step = restored_told device v step.0 old new is pages step.1 step.2

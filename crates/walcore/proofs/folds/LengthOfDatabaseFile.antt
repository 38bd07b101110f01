-- How long the file is that a crash leaves, while a log is folded into it.
use Rattle.walcore.proofs.Words.{ArePages, CutSteps, Database, Db, Device, DiskError, DiskState, EndSteps, EndsBy, File, IsFront, IsFronted, IsLengthOf, IsLogDurable, IsLong, IsSoundDisk, IsView, KeepsLog, List, Log, Ok, Result, Still, SyncStep, Syncs, WalError, ap, arith, down_by, down_read, down_syncs, front_unique, image_still, length, long_done, long_else, long_syncs, long_zero, named_size, size_of, sound_cuts, sound_syncs, subst, sym, wal_log, ℕ, ⊎_elim, ◌*◌, ◌∙◌, ◌≡◌, ◌≤◌}

module _ (n : ℕ) where
  pub ends_long : (s : DiskState) → IsLong n s → EndsBy n s
  ends_long s long db w image read front = long db image

  -- all logs that are left have this front
  pub ends_fronted : (w : List ℕ) (m : ℕ) (s : DiskState) → IsFronted w m s → EndsBy n s
  ends_fronted w m s is db v image read front =
      let e : v ≡ w = down_read wal_log w s is.durable v read in
      let none : IsFront (named_size w) w 0 = subst (λ (x : List ℕ). IsFront (named_size x) x 0) e front in
      let z : 0 ≡ m = front_unique (named_size w) w 0 m none is.front in
      let some = is.some in absurd (omega arith)

  -- the log alone is left
  pub ends_down : (w : List ℕ) (s : DiskState) → IsLogDurable s w → (IsFront (named_size w) w 0 → IsLong n s) → EndsBy n s
  ends_down w s durable long db v image read front =
      let e : v ≡ w = down_read wal_log w s durable v read in
      long (subst (λ (x : List ℕ). IsFront (named_size x) x 0) e front) db image

  pub long_cut : {T : Type 0} (result : Result T WalError) (old new : DiskState) → IsSoundDisk old → CutSteps result old new → IsLong n old → IsLong n new
  long_cut result old new sound steps long = ⊎_elim
      (λ failed. long_else n failed.0 old new failed.3.elsewhere long)
      (λ done. long_syncs n Log done.2.0 done.0 new (sound_cuts Log 0 (Ok done.1.0) old done.0 sound done.1.1) done.2.2 (long_else n (Ok done.1.0) old done.0 done.1.1.elsewhere long))
      steps

  pub long_still : (old new : DiskState) → Still old new → IsLong n old → IsLong n new
  long_still old new still long db image = long db (image_still old new still db image)

-- the log keeps its front
pub fronted_keeps : (w : List ℕ) (m : ℕ) (old new : DiskState) → KeepsLog old new → IsFronted w m old → IsFronted w m new
fronted_keeps w m old new keeps is = record { durable = down_by w old new is.durable keeps.log keeps.tears keeps.kept keeps.handed; some = is.some; front = is.front }

fronted_step : {T : Type 0} (w : List ℕ) (m : ℕ) (result : Result T WalError) (old new : DiskState) → IsSoundDisk old → SyncStep Device Db result old new → IsFronted w m old → IsFronted w m new
fronted_step w m result old new sound step is = record { durable = down_syncs w Db step.0 old new is.durable step.2; some = is.some; front = is.front }

-- the file is synced, and the header zeroed
module _ {T : Type 0} (n : ℕ) (result : Result T WalError) (old new : DiskState) (sound : IsSoundDisk old) (steps : EndSteps Device 32 result old new) where
  pub long_end : IsLong n old → IsLong n new
  long_end long = ⊎_elim
      (λ failed. long_syncs n Db failed.1.0 old new sound failed.1.2 long)
      (λ done. long_zero n Device 32 result done.0 new (sound_syncs Db done.1.1.0 old done.0 sound done.1.1.2) done.2 (long_syncs n Db done.1.1.0 old done.0 sound done.1.1.2 long))
      steps

  pub long_ended : (u : T) → old.db.len ≡ n → result ≡ Ok u → IsLong n new
  long_ended u len is = ⊎_elim
      (λ failed. absurd (let bad = failed.0 in cc))
      (λ done. long_zero n Device 32 result done.0 new (sound_syncs Db done.1.1.0 old done.0 sound done.1.1.2) done.2 (long_done n Device done.1.0 old done.0 len done.1.1))
      steps

  pub ends_end : (w : List ℕ) (m : ℕ) → old.db.len ≡ n → IsFronted w m old → EndsBy n new
  ends_end w m len is = ⊎_elim
      (λ failed. ends_fronted n w m new (fronted_step w m result old new sound failed.1 is))
      (λ done. ends_long n new (long_zero n Device 32 result done.0 new (sound_syncs Db done.1.1.0 old done.0 sound done.1.1.2) done.2 (long_done n Device done.1.0 old done.0 len done.1.1)))
      steps

-- a call that changes nothing
pub length_still : (size : ℕ) (w : List ℕ) (n : ℕ) (old new : DiskState) → Still old new → IsLengthOf size w n old → IsLengthOf size w n new
length_still size w n old new still is = record { none = λ front. long_still n old new still (is.none front); some = is.some }

pub front_none : (w : List ℕ) (m : ℕ) → m ≡ 0 → IsFront (named_size w) w m → IsFront (named_size w) w 0
front_none w m z front = subst (λ (k : ℕ). IsFront (named_size w) w k) z front

-- the pages of the view are as long as the database that log and file show
pub copied_length : (size : ℕ) (w : List ℕ) (m n : ℕ) (d : Database) (db : List ℕ) (old new : DiskState) → 1 ≤ m → IsFront (named_size w) w m → named_size w ≡ size
    → IsLengthOf size w n old → IsView size db w m d → ArePages size d new.db → new.db.len ≡ n
copied_length size w m n d db old new some front named is view are =
    let count : length d ≡ size_of (named_size w) w m = view.some some ∙ ap (λ k. size_of k w m) (sym named) in
    are.len ∙ ap (λ k. k * size) count ∙ sym (is.some m some front)

pub length_syncs : {T : Type 0} (size : ℕ) (w : List ℕ) (n : ℕ) (f : File) (result : Result T DiskError) (old new : DiskState) → IsSoundDisk old → Syncs f result old new → IsLengthOf size w n old → IsLengthOf size w n new
length_syncs size w n f result old new sound synced is = record { none = λ front. long_syncs n f result old new sound synced (is.none front); some = is.some }

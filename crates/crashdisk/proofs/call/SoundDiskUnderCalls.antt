-- Each call leaves a sound disk sound.
use Rattle.crashdisk.proofs.Between.{AreBytes, Bool, ChangedBy, CutTouches, Cuts, Db, DiskError, DiskState, Elsewhere, EndsWithin, Err, Failed, File, FileState, IsCrash, IsFit, IsNew, IsSound, IsSoundDisk, List, Log, Looks, NoMemory, Ok, Result, SinceSync, Stopped, SyncedBy, Syncs, TooLong, Value, WriteTouches, Writes, [], arith, by_sync, counted, counted_within, cut_to, false, fit_cut, fit_write, kept_of, length, longest, max, of, other, refl, settled_sound, sound_changed, sound_shuffled, sound_synced, subst, sym, with_write, written, ℕ, ◌+◌, ◌<◌, ◌^◌, ◌∙◌, ◌≡◌, ◌≤◌}

-- The file that a call changes, whatever it answers.
module _ (sector : ℕ) where
  sound_by_answer : {T : Type 0} (touches : ℕ → Type 0) (target : Value) (end reach : ℕ) (result : Result T DiskError) (old new : FileState) → IsSound sector old → IsFit sector touches target end old → (reach ≤ longest → end ≤ longest) → EndsWithin result reach
      → ChangedBy sector touches target end result old new → IsSound sector new
  sound_by_answer touches target end reach (Ok _) old new sound fit short within changed = sound_changed sector touches target end old new sound fit changed.0 (short within)
  sound_by_answer touches target end reach (Err Failed) old new sound fit short within changed = sound_changed sector touches target end old new sound fit changed (short within)
  sound_by_answer touches target end reach (Err Stopped) old new sound fit short within same = subst (λ (s : FileState). IsSound sector s) (sym same) sound
  sound_by_answer touches target end reach (Err TooLong) old new sound fit short within same = subst (λ (s : FileState). IsSound sector s) (sym same) sound
  sound_by_answer touches target end reach (Err NoMemory) old new sound fit short within same = subst (λ (s : FileState). IsSound sector s) (sym same) sound

  pub sound_written : {T : Type 0} (at : ℕ) (bytes : List ℕ) (result : Result T DiskError) (old new : FileState) → IsSound sector old → AreBytes bytes → EndsWithin result (at + length bytes)
      → ChangedBy sector (WriteTouches sector old at bytes) (written old at bytes) (max old.len (at + length bytes)) result old new → IsSound sector new
  sound_written at bytes result old new sound are within changed =
      sound_by_answer (WriteTouches sector old at bytes) (written old at bytes) (max old.len (at + length bytes)) (at + length bytes) result old new sound (fit_write sector old at bytes sound are) (λ short. omega (arith, sound.within, sound.greatest)) within changed

  pub sound_cut : {T : Type 0} (n : ℕ) (result : Result T DiskError) (old new : FileState) → IsSound sector old → EndsWithin result n
      → ChangedBy sector (CutTouches sector old n) (cut_to old n) n result old new → IsSound sector new
  sound_cut n result old new sound within changed = sound_by_answer (CutTouches sector old n) (cut_to old n) n n result old new sound (fit_cut sector old n sound) (λ short. short) within changed

  pub sound_sync : {T : Type 0} (result : Result T DiskError) (old new : FileState) → IsSound sector old → SyncedBy sector result old new → IsSound sector new
  sound_sync result old new sound = by_sync (λ s. IsSound sector s) sector result old new (sound_synced sector old new sound) (λ shuffled. sound_shuffled sector old new shuffled sound) sound

pub sound_of : (f : File) (s : DiskState) → IsSoundDisk s → IsSound s.sector (of f s)
sound_of Db s sound = sound.db
sound_of Log s sound = sound.log

-- the disk, of its parts
sound_by : {T : Type 0} (f : File) (result : Result T DiskError) (old new : DiskState) → IsSoundDisk old → Elsewhere f result old new → IsSound old.sector (of f new)
    → (new.tears ≡ false → (new.kept ≡ []) × (new.handed ≡ [])) → IsSoundDisk new
sound_by f result old new sound elsewhere file untorn =
    let same : (g : File) → IsSound old.sector (of g old) → IsSound new.sector (of g old) = λ g s. subst (λ (n : ℕ). IsSound n (of g old)) (sym elsewhere.sector) s in
    let there : IsSound new.sector (of f new) = subst (λ (n : ℕ). IsSound n (of f new)) (sym elsewhere.sector) file in
    let left : IsSound new.sector (of (other f) new) = subst (λ (s : FileState). IsSound new.sector s) (sym elsewhere.other) (same (other f) (sound_of (other f) old sound)) in
    both f there left
  where
    both : (g : File) → IsSound new.sector (of g new) → IsSound new.sector (of (other g) new) → IsSoundDisk new
    both Db a b = record { db = a; log = b; refused = subst (λ (n : ℕ). n < 2 ^ 64) (sym elsewhere.refused) (counted_within result old.refused sound.refused).1; untorn = untorn }
    both Log a b = record { db = b; log = a; refused = subst (λ (n : ℕ). n < 2 ^ 64) (sym elsewhere.refused) (counted_within result old.refused sound.refused).1; untorn = untorn }

-- Each call of the trait, whatever it answers.
pub sound_writes : {T : Type 0} (f : File) (at : ℕ) (bytes : List ℕ) (result : Result T DiskError) (old new : DiskState) → IsSoundDisk old → Writes f at bytes result old new → IsSoundDisk new
sound_writes f at bytes result old new sound wrote = sound_by f result old new sound wrote.elsewhere
    (sound_written old.sector at bytes result (of f old) (of f new) (sound_of f old sound) wrote.are_bytes wrote.within wrote.file)
    (λ whole. let before : old.tears ≡ false = sym wrote.elsewhere.tears ∙ whole in
    let none = sound.untorn before in
    (wrote.kept ∙ none.0, wrote.handed ∙ subst (λ (b : Bool). with_write b f result at bytes old.handed ≡ []) (sym before) (nothing f result none.1)))
  where
    nothing : {T : Type 0} (g : File) (r : Result T DiskError) → old.handed ≡ [] → with_write false g r at bytes old.handed ≡ []
    nothing g r e = e

pub sound_cuts : {T : Type 0} (f : File) (n : ℕ) (result : Result T DiskError) (old new : DiskState) → IsSoundDisk old → Cuts f n result old new → IsSoundDisk new
sound_cuts f n result old new sound cut = sound_by f result old new sound cut.elsewhere
    (sound_cut old.sector n result (of f old) (of f new) (sound_of f old sound) cut.within cut.file)
    (λ whole. let none = sound.untorn (sym cut.elsewhere.tears ∙ whole) in (cut.kept ∙ none.0, cut.handed ∙ none.1))

pub sound_syncs : {T : Type 0} (f : File) (result : Result T DiskError) (old new : DiskState) → IsSoundDisk old → Syncs f result old new → IsSoundDisk new
sound_syncs f result old new sound synced = sound_by f result old new sound synced.elsewhere
    (sound_sync old.sector result (of f old) (of f new) (sound_of f old sound) synced.file)
    (λ whole. let before : old.tears ≡ false = sym synced.elsewhere.tears ∙ whole in
    let none = sound.untorn before in
    let same : SinceSync false f result old new = subst (λ (b : Bool). SinceSync b f result old new) before synced.since in
    (same.0 ∙ none.0, same.1 ∙ none.1))

pub sound_looks : {T : Type 0} (end : ℕ) (result : Result T DiskError) (old new : DiskState) → IsSoundDisk old → Looks end result old new → IsSoundDisk new
sound_looks end result old new sound looked =
    sound_by Db result old new sound (record { sector = looked.sector; tears = looked.tears; other = looked.log; refused = looked.refused })
    (subst (λ (s : FileState). IsSound old.sector s) (sym looked.db) sound.db)
    (λ whole. let none = sound.untorn (sym looked.tears ∙ whole) in (looked.kept ∙ none.0, looked.handed ∙ none.1))

-- A crash, and the start.
pub sound_crash : (db log : List ℕ) (old new : DiskState) → IsSoundDisk old → IsCrash db log old new → IsSoundDisk new
sound_crash db log old new sound crashed = record {
  db = settled_sound new.db db crashed.db_left new.sector (omega (arith, crashed.db_image.greatest, sound.db.within));
  log = settled_sound new.log log crashed.log_left new.sector (omega (arith, crashed.log_image.greatest, sound.log.within));
  refused = subst (λ (n : ℕ). n < 2 ^ 64) (sym crashed.refused) sound.refused;
  untorn = λ whole. (crashed.kept ∙ subst (λ (b : Bool). kept_of b log ≡ []) (sym (sym crashed.tears ∙ whole)) refl, crashed.handed);
}

pub sound_new : (size : ℕ) (torn : Bool) (bytes : List ℕ) (s : DiskState) → length bytes ≤ longest → IsNew size torn bytes s → IsSoundDisk s
sound_new size torn bytes s short made = record {
  db = settled_sound s.db bytes made.db s.sector short;
  log = settled_sound s.log [] made.log s.sector (omega arith);
  refused = omega (arith, made.refused);
  untorn = λ whole. (made.kept, made.handed);
}

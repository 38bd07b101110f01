-- The present bytes, a log of which nothing is unsynced, and what a sync leaves.
use Rattle.crashdisk.proofs.Facts.{ArePresent, Bool, Contains, Contains-push_cases, Cuts, Db, DiskError, DiskState, Err, Failed, File, FileState, IsImage, IsLogDurable, IsSettled, IsSound, IsSoundDisk, List, Log, Looks, NoMemory, Ok, OneListed, Result, SinceSync, Stopped, SyncedBy, Syncs, TooLong, Writes, [], ap, arith, byte, byte_below, byte_past, cases_lt, drop, false, get_or, get_or-drop, get_or-take, get_or_past, handed_db, image_elsewhere, image_sync, images_by_sync, inl, inr, length, length-drop, length-take-le, refl, same_number_lists, settled_one, settled_sync, settled_syncs, sound_syncs, subst, sym, take, take-add, true, with_write, ℕ, ⊎_elim, ◌++◌, ◌+◌, ◌<◌, ◌∙◌, ◌∷◌, ◌≡◌, ◌≤◌}

-- ---- The present bytes.

-- The present bytes are among those that a crash may leave, as they would be of a disk that doesn't tear.
pub present_image : (sector : ℕ) (tears : Bool) (s : FileState) (c : List ℕ) → IsSound sector s → ArePresent s c → IsImage sector tears s c
present_image sector tears s c sound are = record {
  least = omega (arith, are.len, sound.least);
  greatest = omega (arith, are.len, sound.greatest);
  each = λ k. inl (λ i e lt. let below : i < s.len = omega (arith, are.len) in are.each i below ∙ byte_below s i below);
}

pub present_byte : (s : FileState) (db : List ℕ) → ArePresent s db → (i : ℕ) → get_or db i 0 ≡ byte s i
present_byte s db are i = ⊎_elim (λ lt. are.each i lt) (λ le. get_or_past db i 0 (omega (arith, are.len)) ∙ sym (byte_past s i le)) (cases_lt i s.len)

-- a piece that was read behind the first bytes
pub piece_read : (w : List ℕ) (log : FileState) (at : ℕ) (piece : List ℕ) → ArePresent log w → at + length piece ≤ length w
    → ((i : ℕ) → i < length piece → get_or piece i 0 ≡ byte log (at + i)) → take at w ++ piece ≡ take (at + length piece) w
piece_read w log at piece are fits same =
    let rest : length (take (length piece) (drop at w)) ≡ length piece = length-take-le (length piece) (drop at w) (omega (arith, length-drop at w)) in
    let is : piece ≡ take (length piece) (drop at w) = same_number_lists piece (take (length piece) (drop at w)) (sym rest)
    (λ i lt. same i lt ∙ sym (are.each (at + i) (omega (arith, are.len))) ∙ sym (get_or-take (length piece) (drop at w) i 0 lt ∙ get_or-drop at w i 0)) in
    ap (λ (x : List ℕ). take at w ++ x) is ∙ sym (take-add at (length piece) w)

pub same_present : (s : FileState) (v w : List ℕ) → ArePresent s v → ArePresent s w → v ≡ w
same_present s v w a b = same_number_lists v w (a.len ∙ sym b.len) (λ i lt. let below : i < s.len = omega (arith, a.len) in a.each i below ∙ sym (b.each i below))

pub settled_present : (s : FileState) (c : List ℕ) → IsSettled s c → ArePresent s c
settled_present s c is = record { len = sym is.len; each = λ i lt. sym (byte_below s i lt ∙ is.present i) }

-- a list of listed values is one that a crash may leave
pub image_listed : (sector : ℕ) (tears : Bool) (s : FileState) (c : List ℕ) → IsImage sector false s c → IsImage sector tears s c
image_listed sector tears s c image = record { least = image.least; greatest = image.greatest; each = λ k. one k (image.each k) }
  where
    one : (k : ℕ) → OneListed sector false s c k → OneListed sector tears s c k
    one k (inl shows) = inl shows
    one k (inr (inl listed)) = inr (inl listed)
    one k (inr (inr torn)) = absurd (cc torn.0)

-- ---- Nothing of the log is unsynced.

module _ (w : List ℕ) where
  pub down_one : (s : DiskState) → IsLogDurable s w → (sector : ℕ) (tears : Bool) (v : List ℕ) → IsImage sector tears s.log v → v ≡ w
  down_one s durable sector tears v image = settled_one s.log w durable.settled sector tears v image

  -- it is present, and no other
  pub down_present : (s : DiskState) → IsLogDurable s w → ArePresent s.log w
  down_present s durable = settled_present s.log w durable.settled

  pub down_present_one : (s : DiskState) → IsLogDurable s w → (v : List ℕ) → ArePresent s.log v → v ≡ w
  down_present_one s durable v are = same_present s.log v w are (down_present s durable)

  pub down_by : (old new : DiskState) → IsLogDurable old w → new.log ≡ old.log → new.tears ≡ old.tears → new.kept ≡ old.kept → new.handed ≡ old.handed → IsLogDurable new w
  down_by old new durable log tears kept handed = record {
    settled = subst (λ (s : FileState). IsSettled s w) (sym log) durable.settled;
    kept = λ torn. kept ∙ durable.kept (sym tears ∙ torn);
    handed = handed ∙ durable.handed;
  }

  module _ {T : Type 0} where
    -- the log is left alone where the file is written
    pub down_writes : (at : ℕ) (bytes : List ℕ) (result : Result T DiskError) (old new : DiskState) → IsLogDurable old w → Writes Db at bytes result old new → IsLogDurable new w
    down_writes at bytes result old new durable wrote = down_by old new durable wrote.elsewhere.other wrote.elsewhere.tears wrote.kept (wrote.handed ∙ handed_db old.tears result at bytes old.handed)

    pub down_cuts : (n : ℕ) (result : Result T DiskError) (old new : DiskState) → IsLogDurable old w → Cuts Db n result old new → IsLogDurable new w
    down_cuts n result old new durable cut = down_by old new durable cut.elsewhere.other cut.elsewhere.tears cut.kept cut.handed

    pub since_db : (tears : Bool) (result : Result T DiskError) (old new : DiskState) → SinceSync tears Db result old new → (new.kept ≡ old.kept) × (new.handed ≡ old.handed)
    since_db true result old new since = since
    since_db false result old new since = since

    since_log : (tears : Bool) (result : Result T DiskError) (old new : DiskState) → IsLogDurable old w → SinceSync tears Log result old new → (tears ≡ true → old.kept ≡ w) → (tears ≡ true → new.kept ≡ w) × (new.handed ≡ [])
    since_log true (Ok u) old new durable since kept = (λ torn. down_present_one old durable new.kept since.0, since.1)
    since_log true (Err e) old new durable since kept = (λ torn. since.0 ∙ kept torn, since.1 ∙ durable.handed)
    since_log false result old new durable since kept = (λ torn. since.0 ∙ kept torn, since.1 ∙ durable.handed)

    pub down_syncs : (f : File) (result : Result T DiskError) (old new : DiskState) → IsLogDurable old w → Syncs f result old new → IsLogDurable new w
    down_syncs Db result old new durable synced =
        let since = since_db old.tears result old new synced.since in
        down_by old new durable synced.elsewhere.other synced.elsewhere.tears since.0 since.1
    down_syncs Log result old new durable synced =
        let since = since_log old.tears result old new durable synced.since durable.kept in record {
          settled = settled_syncs Log result old new w synced durable.settled;
          kept = λ torn. since.0 (sym synced.elsewhere.tears ∙ torn);
          handed = since.1;
        }

-- ---- A sync.

-- a sync adds no database file to those that a crash may leave
pub file_syncs : {T : Type 0} (f : File) (result : Result T DiskError) (old new : DiskState) → IsSoundDisk old → Syncs f result old new
    → (db : List ℕ) → IsImage new.sector new.tears new.db db → IsImage old.sector old.tears old.db db
file_syncs Db result old new sound synced db image = image_sync Db result old new sound.db synced db image
file_syncs Log result old new sound synced db image = image_elsewhere Log result old new synced.elsewhere db image

-- A sync adds no file to those that a crash may leave, nor to those that it might leave if the disk didn't tear.
pub log_syncs : {T : Type 0} (sector : ℕ) (tears : Bool) (result : Result T DiskError) (old new : FileState) → IsSound sector old → SyncedBy sector result old new → (v : List ℕ) → IsImage sector tears new v → IsImage sector tears old v
log_syncs sector tears result = images_by_sync sector tears result

-- after a sync nothing of the log is unsynced
pub synced_down : {T : Type 0} {u : T} (w : List ℕ) (s t : DiskState) → IsSoundDisk s → ArePresent s.log w → Syncs Log (Ok u) s t → IsLogDurable t w
synced_down {T} {u} w s t sound are synced = by s.tears refl synced.since
  where
    settled : IsSettled t.log w
    settled = settled_sync Log s t w sound.log synced are

    by : (b : Bool) → b ≡ s.tears → SinceSync b Log (Ok u) s t → IsLogDurable t w
    by true e since = record { settled = settled; kept = λ torn. same_present s.log t.kept w since.0 are; handed = since.1 }
    by false e since =
        let whole : t.tears ≡ false = synced.elsewhere.tears ∙ sym e in
        record { settled = settled; kept = λ torn. absurd (cc (torn, whole)); handed = ((sound_syncs Log (Ok u) s t sound synced).untorn whole).1 }

-- ---- One write was handed over.

pub one_write : (zeros : List ℕ) (write : ℕ × List ℕ) → Contains ((0, zeros) ∷ []) write → (0, zeros) ≡ write
one_write zeros write has = ⊎_elim (λ empty. absurd (omega (arith, empty.1))) (λ e. e) (Contains-push_cases [] (0, zeros) write has)

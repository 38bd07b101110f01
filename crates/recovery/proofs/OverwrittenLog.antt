-- A write over a log of which nothing was unsynced, whatever was answered.
use Rattle.std.proofs.Common.{◌≡◌, ⊎_elim, ℕ, ◌+◌, max, Bool, true, false, List, [], ◌∷◌, ◌++◌, length, sym, ◌∙◌, ap, subst, Result, Ok, Err}
use Rattle.recovery.proofs.Below.{FileState, IsImage, IsSound, Changed, WriteTouches, written, DiskState, IsSoundDisk, Writes, ChangedBy, with_write, IsLogDurable, Log, DiskError, Stopped, TooLong, Failed, NoMemory, sound_writes, settled_one, LogKind, MayBeRead}
use Rattle.recovery.proofs.ShownDatabase.{read_cases}

-- the log as the write leaves it, done or in part
abbrev pub Overwritten : (at : ℕ) (bytes : List ℕ) (old new : DiskState) → Type 0
Overwritten at bytes old new = Changed old.sector (WriteTouches old.sector old.log at bytes) (written old.log at bytes) (max old.log.len (at + length bytes)) old.log new.log

-- What holds of the log that was durable, and of whatever the write leaves, listed or torn, holds of what may be read.
module _ (kind : LogKind) (P : List ℕ → Type 0) (w : List ℕ) (at : ℕ) (bytes : List ℕ) (old new : DiskState) (sound : IsSoundDisk old) (durable : IsLogDurable old w) (stays : P w)
    (listed : IsSound old.sector new.log → Overwritten at bytes old new → (v : List ℕ) → IsImage old.sector false new.log v → P v)
    (torn : old.tears ≡ true → IsSound old.sector new.log → Overwritten at bytes old new → (v : List ℕ) → IsImage old.sector true new.log v → kind.AreWhole w ((at, bytes) ∷ []) v → P v) where
  abbrev By : {T : Type 0} → Result T DiskError → Type 0
  By result = ChangedBy old.sector (WriteTouches old.sector old.log at bytes) (written old.log at bytes) (max old.log.len (at + length bytes)) result old.log new.log

  same_log : new.log ≡ old.log → (tears : Bool) (v : List ℕ) → IsImage old.sector tears new.log v → P v
  same_log e tears v image = subst P (sym (settled_one old.log w durable.settled old.sector tears v (subst (λ (s : FileState). IsImage old.sector tears s v) e image))) stays

  listed_by : {T : Type 0} (result : Result T DiskError) → IsSound old.sector new.log → By result → (v : List ℕ) → IsImage old.sector false new.log v → P v
  listed_by (Ok u) after changed v image = listed after changed.0 v image
  listed_by (Err Failed) after changed v image = listed after changed v image
  listed_by (Err Stopped) after e v image = same_log e false v image
  listed_by (Err TooLong) after e v image = same_log e false v image
  listed_by (Err NoMemory) after e v image = same_log e false v image

  torn_put : old.tears ≡ true → IsSound old.sector new.log → Overwritten at bytes old new → new.kept ≡ old.kept → new.handed ≡ old.handed ++ (at, bytes) ∷ []
      → (v : List ℕ) → IsImage old.sector true new.log v → kind.AreWhole new.kept new.handed v → P v
  torn_put was after changed kept handed v image whole = torn was after changed v image
      (subst (λ (x : List ℕ). kind.AreWhole x ((at, bytes) ∷ []) v) (kept ∙ durable.kept was)
      (subst (λ (x : List (ℕ × List ℕ)). kind.AreWhole new.kept x v) (handed ∙ ap (λ (x : List (ℕ × List ℕ)). x ++ (at, bytes) ∷ []) durable.handed) whole))

  torn_by : {T : Type 0} (result : Result T DiskError) → old.tears ≡ true → IsSound old.sector new.log → By result → new.kept ≡ old.kept → new.handed ≡ with_write true Log result at bytes old.handed
      → (v : List ℕ) → IsImage old.sector true new.log v → kind.AreWhole new.kept new.handed v → P v
  torn_by (Ok u) was after changed kept handed v image whole = torn_put was after changed.0 kept handed v image whole
  torn_by (Err Failed) was after changed kept handed v image whole = torn_put was after changed kept handed v image whole
  torn_by (Err Stopped) was after e kept handed v image whole = same_log e true v image
  torn_by (Err TooLong) was after e kept handed v image whole = same_log e true v image
  torn_by (Err NoMemory) was after e kept handed v image whole = same_log e true v image

  module _ {T : Type 0} (result : Result T DiskError) (wrote : Writes Log at bytes result old new) where
    after_it : IsSound old.sector new.log
    after_it = subst (λ (n : ℕ). IsSound n new.log) wrote.elsewhere.sector (sound_writes Log at bytes result old new sound wrote).log

    pub written_listed : (v : List ℕ) → IsImage new.sector false new.log v → P v
    written_listed v image = listed_by result after_it wrote.file v (subst (λ (n : ℕ). IsImage n false new.log v) wrote.elsewhere.sector image)

    pub written_torn : new.tears ≡ true → (v : List ℕ) → IsImage new.sector true new.log v → kind.AreWhole new.kept new.handed v → P v
    written_torn tears v image whole =
        let was : old.tears ≡ true = sym wrote.elsewhere.tears ∙ tears in
        torn_by result was after_it wrote.file wrote.kept (subst (λ (t : Bool). new.handed ≡ with_write t Log result at bytes old.handed) was wrote.handed)
        v (subst (λ (n : ℕ). IsImage n true new.log v) wrote.elsewhere.sector image) whole

    pub written_read : (v : List ℕ) → MayBeRead kind new v → P v
    written_read v may = ⊎_elim (λ image. written_listed v image) (λ left. written_torn left.0 v left.1 left.2) (read_cases kind new v may)

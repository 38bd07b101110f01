-- What a replay and an engine over a rollback journal may ask of their disk (fileformat2, 3; zeros are own).
use Rattle.std.specs.Prelude.{◌≡◌, ◌⊎◌, ℕ, ◌+◌, ◌-◌, ◌*◌, ◌≤◌, List, [], ◌∷◌, ◌++◌, length, replicate, Result}
use Rattle.sqval.specs.CommitFaults.{most_bytes}
use Rattle.sqjournal.specs.Header.{header_bytes}
use Rattle.sqjournal.specs.declared.header.JournalHeader.{JournalHeader}
use Rattle.crashdisk.specs.State.{longest}
use Rattle.crashdisk.specs.Call.{DiskState, Change, write, set_len, sync, Nothing}
use Rattle.crashdisk.specs.Keeps.{Later, TellsRefusal}
use Rattle.crashdisk.specs.declared.file.File.TheVariants.{Db, Log}
use Rattle.rollcore.specs.Journaling.{record_bytes}
use Rattle.rollcore.specs.Machine.{Act, Opens, Commits, Reads, Crashes, Sets}
use Rattle.rollcore.specs.declared.error.RollError.{RollError}
use Rattle.rollcore.specs.declared.error.RollError.TheVariants.{Device}

-- whole pages of this size, one or more one behind the other, at the place of the first in a database of at most so
-- many bytes
abbrev pub AreWholePages : (most size at : ℕ) → (bytes : List ℕ) → Type 0
AreWholePages most size at bytes = (p : ℕ) × (k : ℕ) × (at ≡ p * size) × (1 ≤ k) × (length bytes ≡ k * size) × (at + length bytes ≤ most)

-- the length of so many pages of this size, at most so many bytes
abbrev pub IsWholeLength : (most size n : ℕ) → Type 0
IsWholeLength most size n = (count : ℕ) × (n ≡ count * size) × (n ≤ most)

-- A replay of a journal of pages of this size: pages of a database of at most so many bytes, and its length; 28 zero
-- bytes over the journal's first header; and syncs.
abbrev pub MayReplayWithin : (most size : ℕ) → Change → Type 0
MayReplayWithin most size (write Db at bytes) = AreWholePages most size at bytes
MayReplayWithin most size (write Log at bytes) = (at ≡ 0) × (bytes ≡ replicate 28 0)
MayReplayWithin most size (set_len Db n) = IsWholeLength most size n
MayReplayWithin most size (set_len Log n) = ⊥
MayReplayWithin most size (sync f) = Unit {0}

-- the same at the usual limit
abbrev pub MayReplay : (size : ℕ) → Change → Type 0
MayReplay size change = MayReplayWithin most_bytes size change

-- a record of a page of this size
abbrev pub IsWholeRecord : (size : ℕ) (bytes : List ℕ) → Type 0
IsWholeRecord size bytes = (number : ℕ) × (nonce : ℕ) × (content : List ℕ) × (length content ≡ size) × (bytes ≡ record_bytes number nonce content)

-- a header, with zeros up to the end of its sector
abbrev pub IsWholeHeader : (sector : ℕ) (bytes : List ℕ) → Type 0
IsWholeHeader sector bytes = (h : JournalHeader) × (h.sector ≡ sector) × (bytes ≡ header_bytes h ++ replicate (sector - 28) 0)

-- one zero byte, a record or a header of the journal, whole, by one write within the limit of a file
abbrev pub IsJournaling : (size sector : ℕ) → Change → Type 0
IsJournaling size sector (write Db at bytes) = ⊥
IsJournaling size sector (write Log at bytes) = (at + length bytes ≤ longest) × ((bytes ≡ 0 ∷ []) ⊎ (IsWholeRecord size bytes ⊎ IsWholeHeader sector bytes))
IsJournaling size sector (set_len f n) = ⊥
IsJournaling size sector (sync f) = ⊥

-- An opening: what a replay may, and one zero byte at the front of the journal.
abbrev pub MayRecover : (size : ℕ) → Change → Type 0
MayRecover size change = MayReplay size change ⊎ (change ≡ write Log 0 (0 ∷ []))

-- A commit: what a replay may, and what journals pages.
abbrev pub MayCommit : (size sector : ℕ) → Change → Type 0
MayCommit size sector change = MayReplay size change ⊎ IsJournaling size sector change

-- what a call of an engine may ask for; a read looks alone
abbrev pub MayChange : Act → (size sector : ℕ) → Change → Type 0
MayChange (Opens found) size sector = MayRecover size
MayChange (Commits pages count nonces) size sector = MayCommit size sector
MayChange (Reads page) size sector = Nothing
MayChange (Crashes left) size sector = Nothing
MayChange Sets size sector = Nothing

-- Calls of a disk that asked for nothing else. That one was refused is told.
pub record Asks {T : Type 0} (May : Change → Type 0) (result : Result T RollError) (old new : DiskState) : Type 0 where
  pub later : Later May old new
  pub told : TellsRefusal Device result old new

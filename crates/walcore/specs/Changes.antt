-- What a fold and the calls of an engine over a write-ahead log may ask of their disk (fileformat2, 4.1 and 4.3; zeros, syncs
-- and the limit are own).
use Rattle.std.specs.Prelude.{◌≡◌, ◌⊎◌, ℕ, ◌+◌, ◌*◌, ◌≤◌, List, ◌∷◌, length, replicate}
use Rattle.sqval.specs.Bytes.{part}
use Rattle.sqval.specs.CommitFaults.{most_bytes}
use Rattle.sqwal.specs.Frames.{frame_at}
use Rattle.crashdisk.specs.Call.{Change, write, set_len, sync}
use Rattle.crashdisk.specs.declared.file.File.TheVariants.{Db, Log}
use Rattle.walcore.specs.Machine.{Act, Opens, Commits, Syncs, Checkpoints, Restarts}

-- Of the database file: whole pages, one or more one behind the other, at the place of the first, a length of whole pages, both
-- within so many bytes, and a sync.
abbrev pub MayFillWithin : (most size : ℕ) → Change → Type 0
MayFillWithin most size (write Db at bytes) = (p : ℕ) × (k : ℕ) × (at ≡ p * size) × (1 ≤ k) × (length bytes ≡ k * size) × (at + length bytes ≤ most)
MayFillWithin most size (set_len Db n) = (count : ℕ) × (n ≡ count * size) × (n ≤ most)
MayFillWithin most size (sync Db) = Unit {0}
MayFillWithin most size (write Log at bytes) = ⊥
MayFillWithin most size (set_len Log n) = ⊥
MayFillWithin most size (sync Log) = ⊥

-- at the usual limit
abbrev pub MayFill : (size : ℕ) → Change → Type 0
MayFill size change = MayFillWithin most_bytes size change

-- Of the log: 32 zero bytes over its header, to have no bytes, and a sync.
abbrev pub MayEmpty : Change → Type 0
MayEmpty (write Log at bytes) = (at ≡ 0) × (bytes ≡ replicate 32 0)
MayEmpty (set_len Log n) = n ≡ 0
MayEmpty (sync Log) = Unit {0}
MayEmpty (write Db at bytes) = ⊥
MayEmpty (set_len Db n) = ⊥
MayEmpty (sync Db) = ⊥

-- a fold of at most so many bytes
abbrev pub MayFoldWithin : (most size : ℕ) → Change → Type 0
MayFoldWithin most size change = MayFillWithin most size change ⊎ MayEmpty change

-- at the usual limit
abbrev pub MayFold : (size : ℕ) → Change → Type 0
MayFold size change = MayFoldWithin most_bytes size change

-- the newest log is e
abbrev pub IsInForce : List (List ℕ) → List ℕ → Type 0
IsInForce logs e = (earlier : List (List ℕ)) × (logs ≡ e ∷ earlier)

-- a frame of the newest log, whole, at its place
abbrev pub MayExtend : (size : ℕ) (logs : List (List ℕ)) → Change → Type 0
MayExtend size logs (write Log at bytes) = (e : List ℕ) × (i : ℕ) × IsInForce logs e × (1 ≤ i) × (at ≡ frame_at size i) × (bytes ≡ part e at (length bytes)) × (length bytes ≡ 24 + size)
MayExtend size logs _ = ⊥

-- the newest log, a header alone, from the front of the file on, and a sync
abbrev pub MayBegin : (logs : List (List ℕ)) → Change → Type 0
MayBegin logs (write Log at bytes) = IsInForce logs bytes × (at ≡ 0) × (length bytes ≡ 32)
MayBegin logs (sync Log) = Unit {0}
MayBegin logs _ = ⊥

-- a sync of the log
abbrev pub MaySync : Change → Type 0
MaySync (sync Log) = Unit {0}
MaySync _ = ⊥

-- Each call, where these logs are made once it is done: an opening folds and begins a log, a commit writes frames and syncs
-- nothing, a sync copies a frame, a checkpoint fills the database file too, a restart begins a log, and no other call changes
-- anything.
abbrev pub MayChange : Act → (size : ℕ) (logs : List (List ℕ)) → Change → Type 0
MayChange (Opens salts found) size logs change = MayFold size change ⊎ MayBegin logs change
MayChange (Commits pages s) size logs change = MayExtend size logs change
MayChange Syncs size logs change = MayExtend size logs change ⊎ MaySync change
MayChange Checkpoints size logs change = MayExtend size logs change ⊎ (MaySync change ⊎ MayFill size change)
MayChange (Restarts salt2) size logs change = MayBegin logs change
MayChange _ size logs change = ⊥

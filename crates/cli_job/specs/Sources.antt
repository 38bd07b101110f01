-- Up to which front a log is read, and how it is watched meanwhile (own).
use Rattle.std.specs.Prelude.{◌≡◌, ◌≤◌, ℕ, Option, Some, None, ◌⊎◌, false, List, IsSome}
use Rattle.cli_job.specs.declared.sources.Extent.{Extent}
use Rattle.cli_job.specs.declared.sources.Extent.TheVariants.{One, Several, Log}
use Rattle.cli_job.specs.declared.sources.Watch.{Watch}
use Rattle.cli_job.specs.declared.sources.Watch.TheVariants.{Dated, Undated, Alone, Still, Indexed}
use Rattle.std.specs.Borrow.{Bor}
use Rattle.std.specs.Duration.{as_nanos}
use Rattle.std.specs.Option.{option_map_or}
use Rattle.std.specs.declared.time.Duration.{Duration}
use Rattle.cli_facts.specs.declared.outcome.Refusal.{Refusal}
use Rattle.cli_facts.specs.declared.outcome.Refusal.TheVariants.{InUse, NoSuchCommit}
use Rattle.cli_words.specs.declared.requests.Options.{Options}
use Rattle.cli_files.specs.Files.{AreBeside, path_of}
use Rattle.cli_files.specs.Refusals.{IsFromWatch}
use Rattle.cli_files.specs.Watches.{longest_left, tick}
use Rattle.cli_facts.specs.declared.readings.Readings.{Readings}
use Rattle.cli_held.specs.declared.fdinfo.Held.TheVariants as held
use Rattle.cli_held.specs.declared.todo.Locks.{Locks}
use Rattle.cli_held.specs.declared.todo.Locks.TheVariants as locks
use Rattle.cli_job.specs.declared.sources.Before.{Before}
use Rattle.cli_job.specs.declared.sources.Before.TheVariants as readings
use Rattle.cli_job.specs.declared.sources.Source.{Source}

-- the front of the log that is read under this watch: by an index that is watched the one that it named first, 0 where the
-- file alone is the database, and none where files are watched by what they are
abbrev pub IsFrontUnder : Watch → (front : Option ℕ) → Type 0
IsFrontUnder Dated front = front ≡ None
IsFrontUnder Undated front = front ≡ None
IsFrontUnder Alone front = front ≡ Some 0
IsFrontUnder Still front = Unit {0}
IsFrontUnder (Indexed head) front = front ≡ Some head.frames

-- the commit that is asked for isn't behind the front, where both are known
abbrev pub IsWithin : (asked front : Option ℕ) → Type 0
IsWithin None front = Unit {0}
IsWithin (Some m) None = Unit {0}
IsWithin (Some m) (Some front) = m ≤ front

-- all of a log is read to its end, and none where the file alone is the database; otherwise one to the front under this
-- watch, and the commit that is asked for is within
abbrev pub IsReadTo : Extent → (asked : Option ℕ) → Watch → (front : Option ℕ) → Type 0
IsReadTo Log asked Alone front = front ≡ Some 0
IsReadTo Log asked watch front = front ≡ None
IsReadTo One asked watch front = IsFrontUnder watch front × IsWithin asked front
IsReadTo Several asked watch front = IsFrontUnder watch front × IsWithin asked front

-- By its index a log is watched only where the last commit alone is read: a checkpoint may copy the commits up to the front
-- into the database file meanwhile, from which an earlier one is read.
abbrev pub IsWatchFor : Extent → (asked : Option ℕ) → Watch → Type 0
IsWatchFor extent asked Dated = Unit {0}
IsWatchFor extent asked Undated = Unit {0}
IsWatchFor extent asked Alone = Unit {0}
IsWatchFor extent asked Still = Unit {0}
IsWatchFor extent asked (Indexed head) = (extent ≡ One) × (asked ≡ None)

-- the files of a reading, as they are read: with these options, but for the front
pub record IsSourceOf (file : Bor (List ℕ)) (options : Options) (extent : Extent) (source : Source) : Type 0 where
  pub named : source.file.now ≡ file.now
  pub unlinked : source.paths.is_link ≡ false → path_of source.paths.db ≡ file.now
  pub beside : AreBeside source.paths
  pub as_asked : source.options ≡ record options { front = source.options.front }
  pub front : IsReadTo extent options.at source.watch source.options.front
  pub watched : IsWatchFor extent options.at source.watch

-- the same, of which the database file alone is read
pub record IsAloneOf (source alone : Source) : Type 0 where
  pub file : alone.file ≡ source.file
  pub paths : alone.paths ≡ source.paths
  pub as_asked : alone.options ≡ record source.options { front = Some 0 }
  pub still : alone.watch ≡ Still

-- Why no files are read: an error of the system, one changed, the index of a log that is in use has no valid header, or the
-- commit that is asked for is behind its front.
abbrev pub IsUnsourced : (at : Option ℕ) → Refusal → Type 0
IsUnsourced at refusal = IsFromWatch refusal ⊎ ((refusal ≡ InUse) ⊎ ((refusal ≡ NoSuchCommit) × IsSome at))

-- So long is waited, in nanoseconds, by a clock that says how long it is since 1970, or nothing: of files that are watched by
-- their dates until a change of each is dated later than its last one, and of others not at all.
abbrev pub IsWaitFor : Option Before → (wait : ℕ) → Type 0
IsWaitFor (Some (readings.Dated before)) wait = (now : Option Duration) × (wait ≡ option_map_or (λ d. longest_left (as_nanos d) before) now tick)
IsWaitFor _ wait = wait ≡ 0

-- Files are taken to stay as they are only under locks that keep writers off them, or off the log up to a front; and dates
-- pass unseen only under those on FILE alone, beside which a journal is current. Where it is told that none is, the file alone
-- is the database, and only what is shown of all of a log may be a journal that isn't hot.
abbrev pub IsWatchUnder : Locks → Extent → Watch → Type 0
IsWatchUnder under extent Still = (under ≡ locks.Held held.Log) ⊎ (under ≡ locks.Held held.Everything) ⊎ (under ≡ locks.Held held.Front)
IsWatchUnder under extent Undated = (under ≡ locks.Held held.File) ⊎ ((under ≡ locks.Held held.Alone) × (extent ≡ Log))
IsWatchUnder under extent Alone = under ≡ locks.Held held.Alone
IsWatchUnder under extent Dated = Unit {0}
IsWatchUnder under extent (Indexed head) = Unit {0}

-- what is known of files that are watched so before they are read: nothing is looked at of those that stay as they are
abbrev pub IsBefore : Watch → Option Before → Type 0
IsBefore Still before = before ≡ None
IsBefore Alone before = before ≡ None
IsBefore Dated before = (now : Readings) × (before ≡ Some (readings.Dated now))
IsBefore Undated before = (now : Readings) × (before ≡ Some (readings.Undated now))
IsBefore (Indexed head) before = before ≡ Some (readings.Indexed head)

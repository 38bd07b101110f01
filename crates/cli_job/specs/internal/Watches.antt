-- When what was read of files that others change stands yet (own).
use Rattle.std.specs.Prelude.{◌≡◌, ◌≤◌, Option, None, Some, pos}
use Rattle.cli_facts.specs.declared.readings.Reading.{Reading}
use Rattle.cli_facts.specs.declared.readings.Readings.{Readings}
use Rattle.sqlocks.specs.declared.index.IndexHead.{IndexHead}

-- What a file is, but for when it was changed.
abbrev pub IsUndated : (before after : Option Reading) → Type 0
IsUndated None after = after ≡ None
IsUndated (Some r) after = after ≡ Some (record { identity = r.identity; length = r.length; seconds = pos 0; nanoseconds = pos 0; front = r.front })

pub record AreUndated (before after : Readings) : Type 0 where
  pub db : IsUndated before.db after.db
  pub wal : IsUndated before.wal after.wal
  pub journal : IsUndated before.journal after.journal

-- What was read up to the front that an index named stands yet: it is the index of the same log, and nobody began to copy
-- frames behind that front (walformat, 2.1).
abbrev pub StandsYet : (before : IndexHead) → (now : Option IndexHead) → Type 0
StandsYet before None = ⊥
StandsYet before (Some now) = (now.salt1 ≡ before.salt1) × (now.salt2 ≡ before.salt2) × (now.attempted ≤ before.frames)

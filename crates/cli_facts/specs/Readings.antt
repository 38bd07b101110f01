-- Files that are as they were.
use Rattle.std.specs.Prelude.{◌≡◌, ℕ, List, Option, Some, None}
use Rattle.cli_facts.specs.declared.readings.Reading.{Reading}
use Rattle.cli_facts.specs.declared.readings.Readings.{Readings}

-- the same bytes, or none both times
abbrev pub IsSameFront : (before after : Option (List ℕ)) → Type 0
IsSameFront (Some before) (Some after) = before ≡ after
IsSameFront (Some before) None = ⊥
IsSameFront None (Some after) = ⊥
IsSameFront None None = Unit {0}

-- a file of the same identity and length, changed at the same time, with the same bytes
abbrev pub IsSame : (before after : Reading) → Type 0
IsSame before after = (before.identity ≡ after.identity) × (before.length ≡ after.length) × (before.seconds ≡ after.seconds)
    × (before.nanoseconds ≡ after.nanoseconds) × IsSameFront before.front after.front

-- such a file, or none
abbrev pub IsSameFile : (before after : Option Reading) → Type 0
IsSameFile (Some before) (Some after) = IsSame before after
IsSameFile (Some before) None = ⊥
IsSameFile None (Some after) = ⊥
IsSameFile None None = Unit {0}

-- all three
abbrev pub AreSame : (before after : Readings) → Type 0
AreSame before after = IsSameFile before.db after.db × IsSameFile before.wal after.wal × IsSameFile before.journal after.journal

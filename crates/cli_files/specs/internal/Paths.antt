-- Which files are one.
use Rattle.std.specs.Prelude.{◌≢◌, Option, Some, None}
use Rattle.cli_facts.specs.declared.locks.Identity.{Identity}

-- no log is the database file, and neither is the other
abbrev pub AreApart : (db : Identity) → (wal journal : Option Identity) → Type 0
AreApart db (Some wal) (Some journal) = (wal ≢ db) × (journal ≢ db) × (wal ≢ journal)
AreApart db (Some wal) None = wal ≢ db
AreApart db None (Some journal) = journal ≢ db
AreApart db None None = Unit {0}

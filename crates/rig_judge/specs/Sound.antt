-- What is wrong with a database that files show, whatever was committed (own).
use Rattle.std.specs.Prelude.{◌≢◌, ◌⊎◌, ℕ, List}
use Rattle.sqval.specs.Bytes.{word}
use Rattle.sqval.specs.Database.{Database, page}
use Rattle.sqpage.specs.declared.fault.CheckError.{CheckError}
use Rattle.sqcheck.specs.Stands.{Stands}
use Rattle.sqcheck.specs.WellFormed.{WellFormed}
use Rattle.sqview.specs.LogView.{Views, ViewRefused}
use Rattle.sqview.specs.declared.view_error.ViewError.{ViewError}
use Rattle.sqview.specs.declared.view_error.ViewError.TheVariants.{NoMemory}

-- a database is well formed, or has pointer maps, and then it isn't checked
abbrev pub IsSound : Database → (size : ℕ) → Type 0
IsSound d size = WellFormed d size ⊎ (word (page d 1) 52 ≢ 0)

-- this fault stands in it, and it isn't well formed
abbrev pub IsFaulty : Database → (size : ℕ) → CheckError → Type 0
IsFaulty d size e = Stands d size e.fault e.page × ¬ WellFormed d size

-- the database that files show is so, or they show none of a page or more, for another reason than that memory was refused
abbrev pub ShowsSound : (db wal journal : List ℕ) → Type 0
ShowsSound db wal journal =
    ((size : ℕ) × (d : Database) × Views size db wal journal d × IsSound d size)
    ⊎ ((e : ViewError) × (e ≢ NoMemory) × ViewRefused db wal journal e)

-- the database that files show has this fault
abbrev pub ShowsFault : (db wal journal : List ℕ) → CheckError → Type 0
ShowsFault db wal journal e = (size : ℕ) × (d : Database) × Views size db wal journal d × IsFaulty d size e

-- What a crash may leave of an engine's log, and which database that shows with the file (own).
use Rattle.std.specs.Prelude.{ℕ, List}
use Rattle.sqval.specs.Database.{Database, IsFile}
use Rattle.recovery.specs.Logs.{LogKind}

-- a file of the pages of d shows d with the log
abbrev pub Repeats : LogKind → (size : ℕ) (d : Database) → List ℕ → Type 0
Repeats kind size d w = (db : List ℕ) → IsFile size db d → kind.Show size db w d

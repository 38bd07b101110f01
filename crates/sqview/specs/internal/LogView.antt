-- The database that a file and the log beside it show.
use Rattle.std.specs.Prelude.{ℕ, List}
use Rattle.sqval.specs.Limits.{usual}
use Rattle.sqview.specs.declared.view.View.{View}
use Rattle.sqview.specs.LogView.{IsShownWithin}

abbrev pub IsShown : {F : Type 0} → (bytes : F → List ℕ) → (db wal journal : List ℕ) → View F → Type 0
IsShown bytes db wal journal v = IsShownWithin usual bytes db wal journal v

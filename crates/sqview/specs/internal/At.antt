-- The database that a file and its log define at a commit (fileformat2, 4.5).
use Rattle.std.specs.Prelude.{ℕ, List}
use Rattle.sqval.specs.Limits.{usual}
use Rattle.sqview.specs.declared.view.View.{View}
use Rattle.sqview.specs.At.{IsShownAtWithin}

abbrev pub IsShownAt : {F : Type 0} → (bytes : F → List ℕ) → (m : ℕ) (db wal journal : List ℕ) → View F → Type 0
IsShownAt bytes m db wal journal v = IsShownAtWithin usual bytes m db wal journal v

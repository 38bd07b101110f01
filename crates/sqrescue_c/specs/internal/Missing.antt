-- Which pages of a view are missing, by what flags ask for.
use Rattle.std.specs.Prelude.{◌↔◌, ℕ, ◌≤◌, List}
use Rattle.sqview.specs.declared.view.View.{View}
use Rattle.sqdeepjudge.specs.Missing.{IsMissing, IsMissingOf}
use Rattle.sqrescue_c.specs.Asked.{HasPage}

-- a page of the view is missing exactly if the log that is asked for doesn't have it, and the file hasn't all of it
abbrev pub AreMissing : {F : Type 0} → (flags m : ℕ) (wal journal : List ℕ) → View F → Type 0
AreMissing flags m wal journal v = (long p : ℕ) → 1 ≤ p → p ≤ v.count
    → IsMissingOf v long p ↔ IsMissing (HasPage flags m v.page_size wal journal) v.page_size long p

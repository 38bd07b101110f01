-- What was written so far, as far as what comes behind depends on it (own).
use Rattle.std.specs.Prelude.{◌≡◌, ◌||◌, ℤ, Bool, false}
use Rattle.std.specs.HashSet.{contains}
use Rattle.std.specs.Ordering.{int_eq}
use Rattle.cli_show_salvage.specs.declared.book.Book.{Book}

-- the table has a row of this rowid
abbrev pub has_rowid : Book → ℤ → Bool
has_rowid book id = contains int_eq book.rowids id

-- The table has one more of this rowid, and all else is as before.
pub record Adds (id : ℤ) (old new : Book) : Type 0 where
  pub rows : (q : ℤ) → has_rowid new q ≡ int_eq id q || has_rowid old q
  pub width : new.width ≡ old.width
  pub objects : new.objects ≡ old.objects

-- The table has no row, and all else is as before.
pub record IsEmptied (old new : Book) : Type 0 where
  pub none : (q : ℤ) → has_rowid new q ≡ false
  pub width : new.width ≡ old.width
  pub objects : new.objects ≡ old.objects

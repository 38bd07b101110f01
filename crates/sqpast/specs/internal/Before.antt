-- What is found of a file before the first commit of its log (own).
use Rattle.std.specs.Prelude.{◌≡◌, ◌≢◌, ◌⊎◌, ℕ, ◌*◌, ◌<◌, ◌≤◌, IsTrue, Bool, List}
use Rattle.sqval.specs.Bytes.{AreBytes}
use Rattle.sqval.specs.Database.{file_page, file_pages}
use Rattle.sqwal.specs.Header.{named_size}
use Rattle.history.specs.Past.{valid_count, first_count}
use Rattle.history.specs.Known.{IsKnown, IsLost}
use Rattle.sqpast.specs.declared.before.Start.{Start}

-- how many pages the file has by its length, and by its first page
pub record IsStart (size : ℕ) (file : List ℕ) (s : Start) : Type 0 where
  pub long : s.long ≡ file_pages size file
  pub valid : s.valid ≡ valid_count (file_page size file 1)

-- how many pages its own database has
abbrev pub own_count : (size : ℕ) → List ℕ → ℕ
own_count size file = first_count (file_pages size file) (file_page size file 1)

-- whether its own database may not be the one that was there before the first commit
pub record IsJudgedBefore (size : ℕ) (w : List ℕ) (front : ℕ) (file : List ℕ) (lost : Bool) : Type 0 where
  pub yes : IsTrue lost → AreBytes file × IsLost size w front file 0 (own_count size file)
  pub no : ¬ IsTrue lost → IsKnown size w front file 0 (own_count size file)

-- The same of a log that has a commit. It isn't judged if it has more bytes than so many.
pub record IsChanged (most : ℕ) (w : List ℕ) (front : ℕ) (file : List ℕ) (changed : Bool) : Type 0 where
  pub yes : IsTrue changed → (1 ≤ front) × AreBytes file × IsLost (named_size w) w front file 0 (own_count (named_size w) file)
  pub no : ¬ IsTrue changed → 1 ≤ front
      → IsKnown (named_size w) w front file 0 (own_count (named_size w) file) ⊎ (most < own_count (named_size w) file * named_size w)

-- whether a log that has a commit has pages of another size
pub record IsOtherSize (w : List ℕ) (front size : ℕ) (other : Bool) : Type 0 where
  pub yes : IsTrue other → (1 ≤ front) × (size ≢ named_size w)
  pub no : ¬ IsTrue other → 1 ≤ front → size ≡ named_size w

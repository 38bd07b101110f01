-- Databases as lists of pages, the pages of a file (fileformat2, 1.2), and what a commit makes of a database (own).
use Rattle.std.specs.Prelude.{◌≡◌, ℕ, zero, suc, ◌+◌, ◌-◌, ◌*◌, ◌/◌, ◌≤◌, cond, ◌==◌, List, [], ◌∷◌, ◌++◌, length, map, get_or, Option, Some, None, unwrap_or}
use Rattle.std.specs.List.{range_with_len}

-- the contents of its pages, page 1 first
abbrev pub Database : Type 0
Database = List (List ℕ)

-- pages by their numbers, as a commit hands them over
abbrev pub Pages : Type 0
Pages = List (ℕ × List ℕ)

-- page p of a database, from 1
unfoldable pub page : Database → (p : ℕ) → List ℕ
page d p = get_or d (p - 1) []

-- page p of a file, with zeros past the file's end
unfoldable pub file_page : (size : ℕ) → List ℕ → (p : ℕ) → List ℕ
file_page size file p = map (λ i. get_or file ((p - 1) * size + i) 0) (range_with_len 0 size)

-- how many pages a file has, a last one in part counted
unfoldable pub file_pages : (size : ℕ) → List ℕ → ℕ
file_pages size file = (length file + size - 1) / size

-- the pages of a file
pub record IsFile (size : ℕ) (file : List ℕ) (d : Database) : Type 0 where
  pub count : length d ≡ file_pages size file
  pub each : (p : ℕ) → 1 ≤ p → p ≤ length d → page d p ≡ file_page size file p

-- the content that a commit gives page p, where it names it
abbrev pub supplied : Pages → (p : ℕ) → Option (List ℕ)
supplied [] p = None
supplied (x ∷ pages) p = cond (x.0 == p) (Some x.1) (supplied pages p)

-- after a commit there are n pages: each is the one that is supplied, otherwise the database's
abbrev pub apply : Database → Pages → (n : ℕ) → Database
apply d pages zero = []
apply d pages (suc n) = apply d pages n ++ unwrap_or (supplied pages (suc n)) (page d (suc n)) ∷ []

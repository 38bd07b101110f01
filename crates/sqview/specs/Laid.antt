-- How a view holds its pages.
use Rattle.std.specs.Prelude.{ℕ, ◌+◌, ◌-◌, ◌==◌, cond, List, map, get_or}
use Rattle.std.specs.List.{range_with_len}
use Rattle.sqval.specs.Database.{Database, file_page}

-- so many bytes of a file from a place on, with zeros past the file's end
unfoldable pub part_or_zeros : (size at : ℕ) → (file : List ℕ) → List ℕ
part_or_zeros size at file = map (λ i. get_or file (at + i) 0) (range_with_len 0 size)

-- where page p's bytes begin in the log, 0 where the file's own count
abbrev pub place_of : (places : List ℕ) → (p : ℕ) → ℕ
place_of places p = get_or places (p - 1) 0

unfoldable pub laid_page : (size : ℕ) (file log places : List ℕ) → (p : ℕ) → List ℕ
laid_page size file log places p = cond (place_of places p == 0) (file_page size file p) (part_or_zeros size (place_of places p) log)

-- the pages of a file over which pages of a log are laid
unfoldable pub laid : (size count : ℕ) (file log places : List ℕ) → Database
laid size count file log places = map (laid_page size file log places) (range_with_len 1 count)

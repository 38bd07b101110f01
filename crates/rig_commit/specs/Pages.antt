-- The pages that are committed (own).
use Rattle.std.specs.Prelude.{ℕ, ◌+◌, ◌-◌, ◌==◌, if◌then◌else◌, List, [], ◌∷◌, ◌++◌, length, map, replicate, codes}
use Rattle.std.specs.List.{range_with_len}

-- the first bytes of a database of pages of 1024 bytes (fileformat2, 1.3)
abbrev pub header_bytes : List ℕ
header_bytes = codes "SQLite format 3" ++ 0 ∷ 4 ∷ 0 ∷ 1 ∷ 1 ∷ 0 ∷ 64 ∷ 32 ∷ 32 ∷ []

-- what a page begins with: page 1 as a database does, with zeros up to byte 100
abbrev pub page_front : (page : ℕ) → List ℕ
page_front page = if page == 1 then header_bytes ++ replicate 76 0 else []

-- what a page holds after the commit of this number
abbrev pub page_bytes : (page commit : ℕ) → List ℕ
page_bytes page commit = page_front page ++ replicate (1024 - length (page_front page)) commit

-- the pages from one to another with what they hold then
abbrev pub pages_between : (first last commit : ℕ) → List (ℕ × List ℕ)
pages_between first last commit = map {B = ℕ × List ℕ} (λ page. (page, page_bytes page commit)) (range_with_len first (last + 1 - first))

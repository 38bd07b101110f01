-- What the judging of a commit's pages answers (own).
use Rattle.std.specs.Prelude.{◌≡◌, ℕ, ◌*◌, ◌<◌, ◌≤◌, Bool, true, false, not, ◌==◌, nat_lt, List, [], ◌∷◌, map, length}
use Rattle.std.specs.List.{list_any}
use Rattle.sqval.specs.Database.{Pages}
use Rattle.sqval.specs.CommitFaults.{most_bytes, has_twice, has_hole}

-- what may be wrong with the number of each page alone
abbrev pub number_faults : Pages → (size : ℕ) → List (Bool × ℕ)
number_faults pages size =
    (length pages == 0, 2) ∷ (size == 0, 3) ∷ (list_any (λ x. x.0 == 0) pages, 4) ∷ (list_any (λ x. nat_lt size x.0) pages, 5) ∷ []

-- with all numbers
abbrev pub set_faults : (old_size : ℕ) → Pages → (size : ℕ) → List (Bool × ℕ)
set_faults old_size pages size = (has_twice pages, 6) ∷ (has_hole pages old_size size, 7) ∷ []

-- with contents and the size
abbrev pub size_faults : (page_size : ℕ) → Pages → (size : ℕ) → List (Bool × ℕ)
size_faults page_size pages size = (list_any (λ x. not (length x.1 == page_size)) pages, 8) ∷ (nat_lt most_bytes (size * page_size), 9) ∷ []

-- whether a number above the old size and up to the new one isn't there
abbrev pub Misses : (numbers : List ℕ) → (old_size size : ℕ) → Bool → Type 0
Misses numbers old_size size true = (p : ℕ) × (old_size < p) × (p ≤ size) × (list_any (λ q. q == p) numbers ≡ false)
Misses numbers old_size size false = (p : ℕ) → old_size < p → p ≤ size → list_any (λ q. q == p) numbers ≡ true

-- the pages' numbers
abbrev pub numbers_of : {X : Type 0} → List (ℕ × X) → List ℕ
numbers_of pages = map (λ x. x.0) pages

-- What may be wrong with the pages of a commit, whatever engine it is made by (own).
use Rattle.std.specs.Prelude.{ℕ, ◌+◌, ◌-◌, ◌*◌, Bool, false, cond, not, ◌||◌, ◌==◌, nat_lt, List, [], ◌∷◌, length, Option, Some, None, is_some}
use Rattle.std.specs.List.{list_any, range_with_len}
use Rattle.sqval.specs.Database.{Pages, supplied}

-- the most bytes of a database
abbrev pub most_bytes : ℕ
most_bytes = 1073741824

-- of some page two contents are given
abbrev pub has_twice : Pages → Bool
has_twice [] = false
has_twice (x ∷ pages) = is_some (supplied pages x.0) || has_twice pages

-- of some page above the old size and up to the new one no content is given
abbrev pub has_hole : Pages → (old_size size : ℕ) → Bool
has_hole pages old_size size = list_any (λ p. not (is_some (supplied pages p))) (range_with_len (old_size + 1) (size - old_size))

-- the number of the first condition that holds
abbrev pub first_true : List (Bool × ℕ) → Option ℕ
first_true [] = None
first_true (c ∷ cs) = cond c.0 (Some c.1) (first_true cs)

-- what may be wrong with the pages of a commit, in the order in which it is judged
abbrev pub page_faults : (old_size page_size : ℕ) → Pages → (size : ℕ) → List (Bool × ℕ)
page_faults old_size page_size pages size =
    (length pages == 0, 2)
    ∷ (size == 0, 3)
    ∷ (list_any (λ x. x.0 == 0) pages, 4)
    ∷ (list_any (λ x. nat_lt size x.0) pages, 5)
    ∷ (has_twice pages, 6)
    ∷ (has_hole pages old_size size, 7)
    ∷ (list_any (λ x. not (length x.1 == page_size)) pages, 8)
    ∷ (nat_lt most_bytes (size * page_size), 9)
    ∷ []

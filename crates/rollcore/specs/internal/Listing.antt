-- The changes of a commit, as they are listed (own).
use Rattle.std.specs.Prelude.{ℕ, zero, suc, ◌+◌, if◌then◌else◌, nat_le, List, [], ◌∷◌, ◌++◌, Some, None}
use Rattle.sqval.specs.Database.{Pages}
use Rattle.rollcore.specs.declared.changes.Change.{Change}

-- those of the pages that are there already, the first of the pages being number n
abbrev pub written : (old_size n : ℕ) → Pages → List Change
written old_size n [] = []
written old_size n (x ∷ pages) =
    if nat_le x.0 old_size then record { page = x.0; content = Some n } ∷ written old_size (n + 1) pages else written old_size (n + 1) pages

-- the n pages above a size are cut off
abbrev pub cut_off : (size n : ℕ) → List Change
cut_off size zero = []
cut_off size (suc n) = cut_off size n ++ record { page = size + suc n; content = None } ∷ []

-- The leaves of the freelist (fileformat2, 1.5).
use Rattle.std.specs.Prelude.{ℕ, zero, suc, List, [], ◌∷◌}
use Rattle.sqval.specs.Database.{Database, page}
use Rattle.sqpage.specs.Freelist.{leaf_count_in}

-- The leaves among pages of a freelist, each trunk before its leaves, of which so many at the front are leaves of a trunk that
-- came before.
abbrev pub leaves_of : Database → (left : ℕ) → List ℕ → List ℕ
leaves_of d left [] = []
leaves_of d zero (t ∷ pages) = leaves_of d (leaf_count_in (page d t)) pages
leaves_of d (suc left) (p ∷ pages) = p ∷ leaves_of d left pages

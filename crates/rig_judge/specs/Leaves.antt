-- The leaves of the freelist (fileformat2, 1.5).
use Rattle.std.specs.Prelude.{◌≡◌, ◌⊎◌, ℕ, List, [], length, flat_map}
use Rattle.sqval.specs.Database.{Database, page}
use Rattle.sqpage.specs.Freelist.{first_trunk, free_pages, leaves_in, pages_under, Leads, AreSound}

-- The trunks of a sound freelist, in order, from the one that the header names to one that names none. They and their leaves
-- are as many as the header says.
pub record AreTrunks (d : Database) (trunks : List ℕ) : Type 0 where
  pub last : ℕ
  pub linked : Leads d 1 (first_trunk d) trunks last 0
  pub sound : AreSound d trunks
  pub count : length (pages_under d trunks) ≡ free_pages d

-- the leaves of a sound freelist; none where it isn't sound
abbrev pub AreLeaves : Database → List ℕ → Type 0
AreLeaves d leaves =
    ((trunks : List ℕ) × AreTrunks d trunks × (leaves ≡ flat_map (λ t. leaves_in (page d t)) trunks))
    ⊎ (((trunks : List ℕ) → ¬ AreTrunks d trunks) × (leaves ≡ []))

-- The frame slots after the stop of a log, by the log that they are of (own; the salts are those of fileformat2, 4.1).
use Rattle.std.specs.Prelude.{◌≡◌, ◌≢◌, ◌⊎◌, ℕ, zero, suc, ◌+◌, ◌-◌, ◌<◌, ◌≤◌, List, [], ◌∷◌, codes}
use Rattle.sqval.specs.Bytes.{word}
use Rattle.sqwal.specs.Frames.{frame_at, size_of}
use Rattle.sqwal.specs.Slots.{Follows}
use Rattle.cli_words.specs.declared.requests.Style.{Style}
use Rattle.cli_text.specs.Facts.{number_text, object_text, salts_text}
use Rattle.cli_show.specs.declared.generations.Generation.{Generation}

-- the salts that stand in slot i
abbrev pub salts_in : (size : ℕ) → List ℕ → (i : ℕ) → ℕ × ℕ
salts_in size w i = (word w (frame_at size i + 8), word w (frame_at size i + 12))

-- After the first slot of a generation a commit ends, and each slot from its last one up to slot n, n left out, follows the
-- one before it. The first slot isn't judged, because the one before it is of another log.
abbrev pub IsJudgedTo : (size : ℕ) → List ℕ → (from n : ℕ) → Type 0
IsJudgedTo size w from n = (j : ℕ) × (from < j) × (j < n) × (size_of size w j ≢ 0) × ((i : ℕ) → j ≤ i → i < n → Follows size w i)

-- slot k ends a commit that is whole: each of its frames follows the one before it, and so does the end of the commit before it
abbrev pub EndsWhole : (size : ℕ) → List ℕ → (from k : ℕ) → Type 0
EndsWhole size w from k = (size_of size w k ≢ 0) × Follows size w k × IsJudgedTo size w from k

-- P holds of so many of the n numbers from one on
abbrev pub HoldsOf : (P : ℕ → Type 0) → (from n count : ℕ) → Type 0
HoldsOf P from zero count = count ≡ 0
HoldsOf P from (suc n) count = ((c : ℕ) × HoldsOf P from n c × P (from + n) × (count ≡ suc c)) ⊎ (HoldsOf P from n count × ¬ P (from + n))

-- slots with the same salts, and how many commits are whole in them
pub record IsGeneration (size : ℕ) (w : List ℕ) (g : Generation) : Type 0 where
  pub some : g.from ≤ g.to
  pub same : (i : ℕ) → g.from ≤ i → i ≤ g.to → salts_in size w i ≡ (g.salt1, g.salt2)
  pub commits : HoldsOf (EndsWhole size w g.from) g.from (suc g.to - g.from) g.commits

-- the slots from one up to another, that one left out, in generations as long as they can be
abbrev pub AreGenerations : (size : ℕ) → List ℕ → (from end : ℕ) → List Generation → Type 0
AreGenerations size w from end [] = from ≡ end
AreGenerations size w from end (g ∷ gs) = (g.from ≡ from) × IsGeneration size w g
    × ((suc g.to ≡ end) ⊎ (salts_in size w (suc g.to) ≢ salts_in size w g.to)) × AreGenerations size w (suc g.to) end gs

-- how one is printed
abbrev pub generation_text : Style → Generation → List ℕ
generation_text style g = object_text style (
    salts_text style (codes "generation") g.salt1 g.salt2
    ∷ number_text style (codes "from") g.from
    ∷ number_text style (codes "to") g.to
    ∷ number_text style (codes "whole commits") g.commits ∷ [])

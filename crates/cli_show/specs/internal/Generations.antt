-- The generations of slots that were read up to one (own).
use Rattle.std.specs.Prelude.{◌≡◌, ◌≢◌, ◌⊎◌, ◌↔◌, IsTrue, ℕ, suc, ◌-◌, List, [], ◌∷◌, ◌++◌, Option, None, Some}
use Rattle.cli_show.specs.Generations.{salts_in, AreGenerations, IsGeneration, IsJudgedTo}
use Rattle.cli_show.specs.declared.generations.Generation.{Generation}
use Rattle.cli_show.specs.declared.generations.Generations.{Generations}
use Rattle.cli_show.specs.declared.generations.Open.{Open}

-- one that goes on to slot n, which isn't one of its slots, and whether the commit of slot n can be judged
pub record IsOpen (size : ℕ) (w : List ℕ) (n : ℕ) (o : Open) : Type 0 where
  pub is : IsGeneration size w o.generation
  pub ends : suc o.generation.to ≡ n
  pub judged : IsTrue o.is_judged ↔ IsJudgedTo size w o.generation.from n

abbrev pub AreReadBefore : (size : ℕ) → List ℕ → (first n : ℕ) → List Generation → Option Open → Type 0
AreReadBefore size w first n closed None = (first ≡ n) × (closed ≡ [])
AreReadBefore size w first n closed (Some o) = IsOpen size w n o × AreGenerations size w first o.generation.from closed
    × ((closed ≡ []) ⊎ (salts_in size w o.generation.from ≢ salts_in size w (o.generation.from - 1)))

-- the slots from the first one up to slot n were read
abbrev pub AreRead : (size : ℕ) → List ℕ → (first n : ℕ) → Generations → Type 0
AreRead size w first n gens = AreReadBefore size w first n gens.closed.items gens.last

-- the last one with those before it
abbrev pub with_open : List Generation → Option Open → List Generation
with_open closed None = closed
with_open closed (Some o) = closed ++ o.generation ∷ []

abbrev pub all_of : Generations → List Generation
all_of gens = with_open gens.closed.items gens.last

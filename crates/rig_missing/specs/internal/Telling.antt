-- A call that isn't down is told, as far as that has come (own).
use Rattle.std.specs.Prelude.{◌≡◌, ◌⊎◌, ℕ, ◌<◌, List, [], ◌∷◌, ◌++◌, length}
use Rattle.rig_missing.specs.declared.change.Change.{Change}
use Rattle.rig_missing.specs.declared.missing.Missing.{Missing}

-- what is told of a call, with these sectors
pub record IsMade (c : Change) (ranges : List (ℕ × ℕ)) (m : Missing) : Type 0 where
  pub number : m.number ≡ c.number
  pub kind : m.kind ≡ c.kind
  pub subject : m.subject ≡ c.subject
  pub place : m.place ≡ c.place
  pub count : m.count ≡ c.count
  pub sectors : m.sectors.items ≡ ranges

-- it is told behind others, unless there are no sectors
abbrev pub Tells : Change → List (ℕ × ℕ) → (old new : List Missing) → Type 0
Tells c sectors old new =
    ((sectors ≡ []) × (new ≡ old)) ⊎ ((0 < length sectors) × ((m : Missing) × IsMade c sectors m × (new ≡ old ++ m ∷ [])))

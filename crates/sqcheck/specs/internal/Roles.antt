-- What the pages of a database are used for (fileformat2, 1.4 to 1.8).
use Rattle.std.specs.Prelude.{◌≡◌, ℕ, List, [], ◌∷◌}
use Rattle.sqval.specs.Database.{Database}
use Rattle.sqcheck.specs.declared.role.Role.{Role}
use Rattle.sqcheck.specs.Places.{Spot}
use Rattle.sqcheck.specs.Roles.{IsRoleOf}

-- The same of the places that name the pages. No public contract cites this word.
abbrev pub TellsOf : {A : Type 0} (saw : A → ℕ → Role → A → Type 0) → Database → (old : A) → List Spot → (new : A) → Type 0
TellsOf saw d old [] new = new ≡ old
TellsOf {A = A} saw d old (s ∷ spots) new = (next : A) × (role : Role) × IsRoleOf d s.page s.role role × saw old s.page role next × TellsOf saw d next spots new

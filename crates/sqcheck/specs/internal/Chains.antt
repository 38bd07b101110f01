-- Chains of overflow pages that are charted as those of their cells (own).
use Rattle.std.specs.Prelude.{◌≡◌, ℕ, ◌-◌, ◌<◌, ◌≤◌, List, [], ◌∷◌, length, Bool, true, false, get_or}
use Rattle.sqval.specs.Database.{Database}
use Rattle.sqpage.specs.declared.cell.Cell.{Cell}
use Rattle.sqpage.specs.Chain.{links}
use Rattle.sqpage.specs.Freelist.{Leads}
use Rattle.sqpage.specs.Lists.{Every, Apart}
use Rattle.sqcheck.specs.declared.role.Role.{Role}
use Rattle.sqcheck.specs.declared.role.Role.TheVariants.{Overflow}
use Rattle.sqcheck.specs.Surveys.{role_at}

-- whether page p is taken
abbrev pub is_taken : List Bool → (p : ℕ) → Bool
is_taken taken p = get_or taken (p - 1) false

-- those that were taken are
abbrev pub KeepsTaken : (old new : List Bool) → Type 0
KeepsTaken old new = (p : ℕ) → is_taken old p ≡ true → is_taken new p ≡ true

-- A page that is charted as an overflow page of this one was taken.
pub record TakesPage (roles : List Role) (owner : ℕ) (old new : List Bool) (p : ℕ) : Type 0 where
  pub charted : role_at roles p ≡ Overflow owner
  pub above : 0 < p
  pub was : is_taken old p ≡ false
  pub is : is_taken new p ≡ true
  pub kept : KeepsTaken old new

-- The pages of a cell's chain, as many as its payload needs, are charted as overflow pages of its own page, and were taken,
-- each once and none before.
pub record TakesChain (d : Database) (roles : List Role) (cell : Cell) (old new : List Bool) : Type 0 where
  pub pages : List ℕ
  pub last : ℕ
  pub next : ℕ
  pub leads : Leads d cell.page cell.overflow pages last next
  pub enough : length pages ≡ links cell
  pub charted : Every (λ p. role_at roles p ≡ Overflow cell.page) pages
  pub were : Every (λ p. is_taken old p ≡ false) pages
  pub are : Every (λ p. is_taken new p ≡ true) pages
  pub distinct : Apart pages
  pub kept : KeepsTaken old new

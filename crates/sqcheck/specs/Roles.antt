-- What the pages of a database are used for (fileformat2, 1.4 to 1.8).
use Rattle.std.specs.Prelude.{◌≡◌, ℕ, ◌⊎◌, List, [], ◌∷◌, length, map}
use Rattle.sqval.specs.Database.{Database}
use Rattle.sqpage.specs.declared.kind.Kind.{Kind}
use Rattle.sqpage.specs.Lists.{Every}
use Rattle.sqpage.specs.Freelist.{usable_size}
use Rattle.sqpage.specs.PointerMaps.{lock_byte_page, IsPointerMap}
use Rattle.sqcheck.specs.declared.role.Role.{Role}
use Rattle.sqcheck.specs.declared.role.Role.TheVariants.{Btree, Overflow, FreeTrunk, FreeLeaf, LockByte, PointerMap}
use Rattle.sqcheck.specs.Places as places
use Rattle.sqcheck.specs.Places.{trunk, free_leaf, link, node, Spot, HasKind}
use Rattle.sqcheck.specs.WellFormed.{IsReached, AreEachOnce, IsAutoVacuum, IsSetAside}

-- The role of page p, which is named as this. The kind of a page of a tree is that of its type byte.
abbrev pub IsRoleOf : Database → (p : ℕ) → places.Role → Role → Type 0
IsRoleOf d p trunk role = role ≡ FreeTrunk
IsRoleOf d p free_leaf role = role ≡ FreeLeaf
IsRoleOf d p (link owner needed) role = role ≡ Overflow owner
IsRoleOf d p (node x) role = (kind : Kind) × HasKind d kind p × (role ≡ Btree kind x.tree)

-- Page p has the role that a reached place names it in.
abbrev pub HasRole : Database → (p : ℕ) → Role → Type 0
HasRole d p role = (s : Spot) × IsReached d s × (s.page ≡ p) × IsRoleOf d p s.role role

-- the role of page p, which is set aside
abbrev pub IsRoleSetAside : Database → (size p : ℕ) → Role → Type 0
IsRoleSetAside d size p role =
    ((p ≡ lock_byte_page size) × (role ≡ LockByte))
    ⊎ (IsAutoVacuum d × IsPointerMap size (usable_size d) p × (role ≡ PointerMap))

-- a page and its role, as a visitor is told
pub record Visit : Type 0 where
  pub page : ℕ
  pub role : Role

-- A visitor is told of these, one after the other, and changes so.
abbrev pub Told : {A : Type 0} (saw : A → ℕ → Role → A → Type 0) → (old : A) → List Visit → (new : A) → Type 0
Told saw old [] new = new ≡ old
Told {A = A} saw old (v ∷ visits) new = (next : A) × saw old v.page v.role next × Told saw next visits new

-- They are of each page once but those set aside, and of the role that it has.
pub record AreRoles (d : Database) (size : ℕ) (visits : List Visit) : Type 0 where
  pub once : AreEachOnce (IsSetAside d size) (length d) (map (λ v. v.page) visits)
  pub roles : Every (λ v. HasRole d v.page v.role) visits

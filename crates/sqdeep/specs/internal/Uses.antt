-- What a check tells of each page, as far as trees go (own). No public contract cites these words.
use Rattle.std.specs.Prelude.{◌≡◌, ◌≢◌, ◌==◌, ◌<◌, ◌≤◌, ℕ, ◌-◌, Bool, true, false, if◌then◌else◌, List, length, get_or, set}
use Rattle.sqval.specs.Database.{Database}
use Rattle.sqpage.specs.declared.kind.Kind.{Kind}
use Rattle.sqpage.specs.Freelist.{IsPage, IsWithin}
use Rattle.sqcheck.specs.declared.role.Role.{Role}
use Rattle.sqcheck.specs.declared.role.Role.TheVariants.{Btree}
use Rattle.sqdeep.specs.declared.trees.Use.{Use}
use Rattle.sqcheck.specs.Roles.{HasRole}
use Rattle.sqdeep.specs.declared.trees.Use.TheVariants.{Aside, Other, Root, Below}
use Rattle.sqdeep.specs.Inside.{IsOfTree}

-- what page p is, of this role
abbrev pub use_of : (p : ℕ) → Role → Use
use_of p (Btree kind root) = if root == p then Root else Below
use_of p _ = Other

-- what page p is in a list by page, from 1
abbrev pub use_at : List Use → (p : ℕ) → Use
use_at uses p = get_or uses (p - 1) Aside

-- it has a role, and is no root
abbrev pub is_movable : Use → Bool
is_movable Other = true
is_movable Below = true
is_movable _ = false

-- no page up to this one has a role without being a root
abbrev pub AreFixed : List Use → (most : ℕ) → Type 0
AreFixed uses most = (p : ℕ) → 0 < p → p ≤ most → is_movable (use_at uses p) ≡ false

-- the first page that has a role and is no root, of so many
pub record IsFirstMovable (uses : List Use) (count m : ℕ) : Type 0 where
  pub above : 0 < m
  pub within : m ≤ count
  pub movable : is_movable (use_at uses m) ≡ true
  pub before : (p : ℕ) → 0 < p → p < m → is_movable (use_at uses p) ≡ false

-- no page behind this one is a root, up to that one
abbrev pub AreNoRoots : List Use → (behind most : ℕ) → Type 0
AreNoRoots uses behind most = (p : ℕ) → behind < p → p ≤ most → use_at uses p ≢ Root

-- A page's role is put down.
abbrev pub PutsDown : (old : List Use) → (p : ℕ) → Role → (new : List Use) → Type 0
PutsDown old p role new = (length new ≡ length old) × (IsWithin (length old) p → new ≡ set old (p - 1) (use_of p role))

-- Page p is the root of a tree, another page of one, of a chain or the freelist, or has no role.
abbrev pub IsUsed : Database → (p : ℕ) → Use → Type 0
IsUsed d p Aside = (role : Role) → ¬ HasRole d p role
IsUsed d p Other = ((kind : Kind) (root : ℕ) → ¬ IsOfTree d kind root p) × ((role : Role) × HasRole d p role)
IsUsed d p Root = (kind : Kind) × (root : ℕ) × IsOfTree d kind root p × (root ≡ p)
IsUsed d p Below = (kind : Kind) × (root : ℕ) × IsOfTree d kind root p × (root ≢ p)

-- They are what all pages are, by page from 1.
pub record AreUses (d : Database) (uses : List Use) : Type 0 where
  pub long : length uses ≡ length d
  pub each : (p : ℕ) → IsPage d p → IsUsed d p (use_at uses p)

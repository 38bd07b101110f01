-- What a survey finds through sound pages.
use Rattle.sqcheck.proofs.Between.{AreFoundRoles, AreRolesFound, AreSetDown, Bool, Btree, Cell, Chart, Charts, CheckError, Database, Err, Every, Fault, FreeLeaf, FreeTrunk, HasJudgedRole, HasKind, HasNoFree, IfErr, IfSome, InPageAs, InRow, InRowAs, IsBtreePage, IsCellAt, IsCellFound, IsFound, IsItemFound, IsItemOf, IsLeafFound, IsPage, IsPageFound, IsPayload, IsPointerMap, IsReserved, IsRoleIn, IsRoleOf, IsRoleSetAside, IsRootAt, IsSchemaLeaf, IsSetDown, IsSoundPage, IsSoundWith, IsWhole, Item, KeepsWalk, Kind, List, LockByte, Match, Node, None, Ok, Option, Page, PageRefused, Passes, PointerMap, PutsAside, Result, Role, Root, Some, Spot, StandsIn, TableLeaf, Tree, Unused, Walk, [], ap, arith, byte, cases_eq, code_of, every_append, every_weaker, false, free_leaf, get_or, get_or-set_other, get_or-set_same, head_at, inl, inr, kind_named, kind_once, length, link, lock_byte_page, names_table, node, page_as, refl, reverse, reverse-append, role_at, role_of, root_of_tree, set, stands_in_row, subst, suc, sym, trunk, used_in, zero, ℕ, ◌++◌, ◌-◌, ◌<◌, ◌∙◌, ◌∷◌, ◌≡◌, ◌≢◌, ◌≤◌, ◌⊎◌}
use Rattle.sqcheck.proofs.btree.FaultsOfTreePage.{page_refused}
use Rattle.sqpage.specs.declared.fault.Fault.TheVariants as faults
use Rattle.sqcheck.specs.declared.item.Task.TheVariants as tasks
use Rattle.sqcheck.specs.Places as places

-- An item of a found place was followed.
module _ (d : Database) (tree : Tree) (it : Item) (here : IsPage d it.page) (found : IsItemFound d tree it) (old new : Walk) (p : Passes d tree it old new) where
  abbrev pub s : Spot
  s = found.0

  abbrev is : IsItemOf tree it s
  is = found.2

  abbrev pub whole : IsWhole d s
  whole = record {
    named = subst (IsPage d) is.page here;
    sound_as = subst (λ r. IsSoundWith (IsSoundPage d) d s.page r) (sym is.role) (subst (λ q. IsSoundWith (IsSoundPage d) d q (role_of tree it.task)) is.page p.sound);
  }

  pub leads : (t : Spot) → InPageAs d it.page (role_of tree it.task) t → StandsIn d s t
  leads t h = (whole.named, subst (λ r. InPageAs d s.page r t) (sym is.role) (subst (λ q. InPageAs d q (role_of tree it.task) t) is.page h))

  pub leads_back : (t : Spot) → StandsIn d s t → InPageAs d it.page (role_of tree it.task) t
  leads_back t h = subst (λ q. InPageAs d q (role_of tree it.task) t) (sym is.page) (subst (λ r. InPageAs d s.page r t) is.role h.1)

-- the role of a page that was followed
pub role_in : (d : Database) (p : ℕ) (named : places.Role) (role : Role) → IsRoleOf d p named role → IsRoleIn d p named role
role_in d p trunk role h = h
role_in d p free_leaf role h = h
role_in d p (link owner needed) role h = h
role_in d p (node x) role h = inl h

pub in_row_as : (d : Database) (p : ℕ) (named : places.Role) (t : Spot) → IsSchemaLeaf d p named → InRow d p t → InRowAs d p named t
in_row_as d p (node x) t leaf row = (leaf.0, row)
in_row_as d p trunk t leaf row = absurd leaf
in_row_as d p free_leaf t leaf row = absurd leaf
in_row_as d p (link owner needed) t leaf row = absurd leaf

-- A root that a row of a found leaf names.
pub found_in_row : (d : Database) (p : ℕ) (t : Spot) → IsLeafFound d p → InRow d p t → IsFound d t
found_in_row d p t leaf row = stands_in_row leaf.1 leaf.2 (leaf.2.named, subst (λ q. InRowAs d q leaf.0.role t) (sym leaf.3) (in_row_as d p leaf.0.role t leaf.4 row))

abbrev pub cell_found : (d : Database) (b : Page) (i : ℕ) (cell : Cell) → IsPageFound d b → IsCellAt b i cell → IsCellFound d cell
cell_found d b i cell found at = (
  i,
  subst (IsLeafFound d) (sym at.1.page) found.0,
  subst (HasKind d TableLeaf) (sym at.1.page) found.1,
  subst (λ p. IsCellAt (page_as d TableLeaf p) i cell) (sym at.1.page) (subst (λ q. IsCellAt q i cell) found.2 at),
)

pub page_found : (d : Database) (p : ℕ) (b : Page) → IsLeafFound d p → b.number ≡ p → b ≡ page_as d TableLeaf b.number → IsBtreePage b → IsPageFound d b
page_found d p b leaf e same tree =
    (subst (IsLeafFound d) (sym e) leaf, subst (λ (q : Page). byte q.used (head_at b.number) ≡ code_of q.kind) same tree.kind, same)

sound_leaf : (d : Database) (p : ℕ) → IsLeafFound d p → (x : Node) × IsSoundPage d p x
sound_leaf d p leaf = go leaf.0.role leaf.4 leaf.2.sound_as
  where
    go : (r : places.Role) → IsSchemaLeaf d p r → IsSoundWith (IsSoundPage d) d leaf.0.page r → (x : Node) × IsSoundPage d p x
    go trunk k w = absurd k
    go free_leaf k w = absurd k
    go (link owner needed) k w = absurd k
    go (node x) k w = (x, subst (λ q. IsSoundPage d q x) leaf.3 w)

-- A leaf that was found is read as a page of a tree.
pub never_refused : {T : Type 0} (d : Database) (p : ℕ) (used : List ℕ) (r : Result T Fault) → IsLeafFound d p → used_in d p ≡ used → IfErr r (λ fault. PageRefused fault used p) → ((x : T) → r ≡ Ok x → ⊥) → ⊥
never_refused d p used (Ok x) leaf e refused other = other x refl
never_refused d p used (Err fault) leaf e refused other = go fault refused
  where
    is : IsSoundPage d p (sound_leaf d p leaf).0
    is = (sound_leaf d p leaf).1

    go : (fault : Fault) → PageRefused fault used p → ⊥
    go faults.Kind h = h is.kind (ap (λ l. byte l (head_at p)) (sym e) ∙ is.page_is.kind)
    go faults.CellOutside h =
        let r = page_refused (λ on. ⊥) d p used faults.CellOutside (sound_leaf d p leaf).0 e h in
        r.2 (subst (λ k. IsBtreePage (page_as d k p)) (kind_once d is.kind r.0 p is.page_is.kind r.1) is.page_is)
    go _ h = h

-- the item of a root's tree
pub root_item : (d : Database) (named : Root) (s : Spot) (table : Bool) → IsRootAt d named s → table ≡ names_table d named.page
    → IsItemOf (record { root = named.page; table = table; schema = false }) (record { holder = named.holder; page = named.page; task = tasks.Node 1 None None }) s
root_item d named s table is e = record {
  page = is.page;
  stands = is.stands;
  role = is.role ∙ ap (root_of_tree d) (sym is.page) ∙ ap (λ b. node (record { tree = named.page; table = b; schema = false; level = 1; low = None; high = None })) (sym e);
  proper = tt;
  kind = sym (ap (kind_named s.place) is.role);
}

-- The roles of a chart that began with those that are set aside.
module _ (d : Database) (size : ℕ) (first roles : List Role) (told : List CheckError) where
  kept_role : (reserved : Option ℕ) → IfSome reserved (IsReserved d size) → (p : ℕ) → IsSetDown size reserved p (role_at first p) → role_at roles p ≡ role_at first p
      → (role_at roles p ≡ Unused) ⊎ HasJudgedRole d roles told p (role_at roles p) ⊎ IsRoleSetAside d size p (role_at roles p)
  kept_role reserved known p down same = elim (cases_eq p (lock_byte_page size)) [
    | inl e ↦ inr (inr (inl (e, same ∙ down.lock e)))
    | inr ne ↦ by_maps reserved known (down.map ne) (down.plain ne)
  ]
    where
      by_maps : (reserved : Option ℕ) → IfSome reserved (IsReserved d size)
          → IfSome reserved (λ n. (IsPointerMap size (size - n) p × (role_at first p ≡ PointerMap)) ⊎ ((IsPointerMap size (size - n) p → ⊥) × (role_at first p ≡ Unused)))
          → (reserved ≡ None → role_at first p ≡ Unused) → (role_at roles p ≡ Unused) ⊎ HasJudgedRole d roles told p (role_at roles p) ⊎ IsRoleSetAside d size p (role_at roles p)
      by_maps None known map plain = inl (same ∙ plain refl)
      by_maps (Some n) known (inl is_map) plain = inr (inr (inr (known.0, subst (λ u. IsPointerMap size u p) known.1 is_map.0, same ∙ is_map.1)))
      by_maps (Some n) known (inr isnt) plain = inl (same ∙ isnt.1)

  pub judged_roles : (reserved : Option ℕ) → AreSetDown (length d) size reserved first → IfSome reserved (IsReserved d size) → AreRolesFound d first roles told
      → (p : ℕ) → IsPage d p → (role_at roles p ≡ Unused) ⊎ HasJudgedRole d roles told p (role_at roles p) ⊎ IsRoleSetAside d size p (role_at roles p)
  judged_roles reserved begun known found p is = elim (found.each p is) [
    | inl same ↦ kept_role reserved known p (begun.each p is) same
    | inr f ↦ inr (inl f)
  ]

  pub found_roles : (reserved : Option ℕ) → AreSetDown (length d) size reserved first → IfSome reserved (IsReserved d size) → AreRolesFound d first roles told → AreFoundRoles d size roles
  found_roles reserved begun known found = record {
    long = found.long;
    each = λ p is. elim (judged_roles reserved begun known found p is) [
      | inl none ↦ inl none
      | inr more ↦ elim more [ inl f ↦ inr (inl (f.0, f.1, f.2, f.3)) | inr aside ↦ inr (inr aside) ]
    ];
  }

-- What is set aside is no page of the freelist or of a tree.
pub none_free : (d : Database) (size : ℕ) (reserved : Option ℕ) (first : List Role) → AreSetDown (length d) size reserved first → HasNoFree d first
none_free d size reserved first begun = λ p is. (none_at p (begun.each p is), λ kind tree e. absurd (is_aside p (begun.each p is) kind tree e))
  where
    aside_by : (p : ℕ) (kind : Kind) (tree : ℕ) (reserved : Option ℕ) → IfSome reserved (λ n. (IsPointerMap size (size - n) p × (role_at first p ≡ PointerMap)) ⊎ ((IsPointerMap size (size - n) p → ⊥) × (role_at first p ≡ Unused)))
        → (reserved ≡ None → role_at first p ≡ Unused) → role_at first p ≢ Btree kind tree
    aside_by p kind tree None map plain e = let u = plain refl in let both : ◌≡◌ {A = Role} Unused (Btree kind tree) = sym u ∙ e in absurd (cc)
    aside_by p kind tree (Some n) (inl m) plain e = let both : ◌≡◌ {A = Role} PointerMap (Btree kind tree) = sym m.1 ∙ e in absurd (cc)
    aside_by p kind tree (Some n) (inr m) plain e = let both : ◌≡◌ {A = Role} Unused (Btree kind tree) = sym m.1 ∙ e in absurd (cc)

    is_aside : (p : ℕ) → IsSetDown size reserved p (role_at first p) → (kind : Kind) (tree : ℕ) → role_at first p ≢ Btree kind tree
    is_aside p down kind tree role = elim (cases_eq p (lock_byte_page size)) [
      | inl e ↦ (let both : ◌≡◌ {A = Role} LockByte (Btree kind tree) = sym (down.lock e) ∙ role in absurd (cc))
      | inr ne ↦ aside_by p kind tree reserved (down.map ne) (down.plain ne) role
    ]

    by_maps : (p : ℕ) (reserved : Option ℕ) → IfSome reserved (λ n. (IsPointerMap size (size - n) p × (role_at first p ≡ PointerMap)) ⊎ ((IsPointerMap size (size - n) p → ⊥) × (role_at first p ≡ Unused)))
        → (reserved ≡ None → role_at first p ≡ Unused) → ¬ ((role_at first p ≡ FreeTrunk) ⊎ (role_at first p ≡ FreeLeaf))
    by_maps p None map plain (inl e) = let u = plain refl in let both : ◌≡◌ {A = Role} Unused FreeTrunk = sym u ∙ e in absurd (cc)
    by_maps p None map plain (inr e) = let u = plain refl in let both : ◌≡◌ {A = Role} Unused FreeLeaf = sym u ∙ e in absurd (cc)
    by_maps p (Some n) (inl m) plain (inl e) = let both : ◌≡◌ {A = Role} PointerMap FreeTrunk = sym m.1 ∙ e in absurd (cc)
    by_maps p (Some n) (inl m) plain (inr e) = let both : ◌≡◌ {A = Role} PointerMap FreeLeaf = sym m.1 ∙ e in absurd (cc)
    by_maps p (Some n) (inr m) plain (inl e) = let both : ◌≡◌ {A = Role} Unused FreeTrunk = sym m.1 ∙ e in absurd (cc)
    by_maps p (Some n) (inr m) plain (inr e) = let both : ◌≡◌ {A = Role} Unused FreeLeaf = sym m.1 ∙ e in absurd (cc)

    none_at : (p : ℕ) → IsSetDown size reserved p (role_at first p) → ¬ ((role_at first p ≡ FreeTrunk) ⊎ (role_at first p ≡ FreeLeaf))
    none_at p down role = elim (cases_eq p (lock_byte_page size)) [
      | inl e ↦ elim role [
        | inl f ↦ (let both : ◌≡◌ {A = Role} LockByte FreeTrunk = sym (down.lock e) ∙ f in absurd (cc))
        | inr f ↦ (let both : ◌≡◌ {A = Role} LockByte FreeLeaf = sym (down.lock e) ∙ f in absurd (cc))
      ]
      | inr ne ↦ by_maps p reserved (down.map ne) (down.plain ne) role
    ]

-- the same pages
pub along_reserved : (d e : Database) (n m : ℕ) (reserved : Option ℕ) → e ≡ d → m ≡ n → IfSome reserved (IsReserved d n) → IfSome reserved (IsReserved e m)
along_reserved d e n m reserved same size h = subst (λ k. IfSome reserved (IsReserved e k)) (sym size) (subst (λ (q : Database). IfSome reserved (IsReserved q n)) (sym same) h)

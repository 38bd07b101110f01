-- The faults that a survey names, by what it found.
use Rattle.sqcheck.proofs.Between.{ArePutDown, AreToldFound, Bool, Btree, Cell, Chart, CheckError, Database, EntryRefused, Err, Every, Fault, FollowRefusedBy, FreeLeaf, FreeTrunk, HasFoundLeaf, HasFreeCount, HasKind, HasSoundHeader, HeaderFault, IfErr, In, IsAsideWith, IsBtreePage, IsCellAt, IsCellFound, IsEntryPlace, IsFaultOf, IsFound, IsFoundFault, IsFreeCount, IsHeaderNamed, IsItemFound, IsItemOf, IsLevelFound, IsNamedFault, IsPage, IsPayload, IsPutDown, IsRootFound, IsRow, IsSchemaLeaf, IsSchemaRow, IsSoundPage, IsSoundWith, IsTrue, IsWhole, IsWithin, IsWrongAt, Item, Kind, LevelAfter, LevelAt, LinkFits, LinksOn, List, LockByte, MarkRefused, Names, Node, NodeRefusedBy, Option, Overflow, PageWrongBy, PointerMap, Result, Root, Some, Spot, TableLeaf, Task, TellsFound, TellsRow, Tree, Unused, [], ap, append-nil, append_assoc, arith, cases_lt, every_append, every_weaker, false, free_leaf, get_or, holder, in_left, in_right, inl, inr, is_interior, is_link, is_marked, is_of_header, kind_once, length, length-append, link, most_faults, node, node_in, overflow, page, page_as, refl, refused_by, role_at, role_of, subst, suc, sym, take, true, trunk, unused_fault, unused_faults, usable_size, zero, ℕ, ℤ, ◌++◌, ◌+◌, ◌-◌, ◌<◌, ◌∙◌, ◌∷◌, ◌≡◌, ◌≢◌, ◌≤◌, ◌⊎◌}
use Rattle.sqcheck.specs.Places.{Role}
use Rattle.sqcheck.proofs.visit.StepsOfWalk.{says_entry}
use Rattle.sqpage.specs.declared.fault.Fault.TheVariants as faults
use Rattle.sqcheck.specs.declared.item.Task.TheVariants as tasks
use Rattle.sqcheck.specs.declared.role.Role as uses

-- What is wrong with a page of a tree that was found.
node_found : (maps : Bool) (d : Database) (size : ℕ) (s : Spot) (p : ℕ) (x : Node) (fault : Fault) → IsFound d s → s.page ≡ p → IsPage d p → s.role ≡ node x → NodeRefusedBy (HasFoundLeaf d x.tree) d fault p x → IsFoundFault maps d size fault p
node_found maps d size s p x faults.Depth found e page role h = (s, x, found, e, page, role, h)
node_found maps d size s p x faults.Kind found e page role h = (s, x, found, e, page, role, h)
node_found maps d size s p x faults.CellOutside found e page role h = (s, x, found, e, page, role, h)
node_found maps d size s p x faults.Overlap found e page role h = (s, x, found, e, page, role, h)
node_found maps d size s p x faults.Freeblock found e page role h = (s, x, found, e, page, role, h)
node_found maps d size s p x faults.Fragments found e page role h = (s, x, found, e, page, role, h)
node_found maps d size s p x faults.KeyOrder found e page role h = (s, x, found, e, page, role, h)
node_found maps d size s p x faults.SchemaRecord found e page role h = (s, x, found, e, page, role, h)
node_found maps d size s p x _ found e page role h = absurd h

-- An item of a found place that isn't followed.
module _ (maps : Bool) (d : Database) (size : ℕ) (tree : Tree) (it : Item) (found : IsItemFound d tree it) where
  abbrev s : Spot
  s = found.0

  abbrev is : IsItemOf tree it s
  is = found.2

  wrong : (role : Role) (fault : Fault) → s.role ≡ role → IsPage d it.page → PageWrongBy (HasFoundLeaf d) d it.page role fault → IsFoundFault maps d size fault it.page
  wrong trunk fault e page h = subst (λ f. IsFoundFault maps d size f it.page) (sym h.0) (s, found.1, sym is.page, page, e, h.1)
  wrong free_leaf fault e page h = absurd h
  wrong (link owner needed) fault e page h = subst (λ f. IsFoundFault maps d size f it.page) (sym h.0) (s, owner, found.1, sym is.page, page, e ∙ ap (link owner) h.1, h.2)
  wrong (node x) fault e page h = node_found maps d size s it.page x fault found.1 (sym is.page) page e h

  link_named : (task : Task) → LinksOn task it.page → IsTrue (is_link (role_of tree task)) → it.page ≢ 0
  link_named (tasks.Link o n first) h l = h
  link_named tasks.Trunk h l = absurd (cc)
  link_named tasks.Leaf h l = absurd (cc)
  link_named (tasks.Node level low high) h l = absurd (cc)

  -- Another place names the page, or nothing may.
  abbrev IsAlsoNamed : Type 0
  IsAlsoNamed = ((v : Spot) × IsFound d v × (v.place ≢ s.place) × (v.page ≡ s.page)) ⊎ IsAsideWith maps d size s.page

  not_taken : (marks : List Bool) (fault : Fault) (at : ℕ) → length marks ≡ length d → (IsPage d s.page → is_marked marks s.page ≡ true → IsAlsoNamed) → LinksOn it.task it.page → MarkRefused marks it.holder it.page fault at
      → IsFoundFault maps d size fault at
  not_taken marks faults.PageOutside at len both links h = (
    s,
    found.1,
    sym is.stands ∙ sym h.0,
    (λ page. h.1 (subst (λ n. IsWithin n it.page) (sym len) (subst (IsPage d) (sym is.page) page))),
    (λ l z. link_named it.task links (subst (λ role. IsTrue (is_link role)) is.role l) (is.page ∙ z)),
  )
  not_taken marks faults.PageTwice at len both links h =
      let page : IsPage d it.page = subst (λ n. IsWithin n it.page) len (h.1, h.2) in
      subst (IsFoundFault maps d size faults.PageTwice) (sym h.0) (
        page,
        elim (both (subst (IsPage d) is.page page) (subst (λ n. is_marked marks n ≡ true) is.page h.3)) [
          | inl v ↦ inl (v.0, s, v.1, found.1, v.2, v.3 ∙ sym is.page, sym is.page)
          | inr aside ↦ inr (subst (IsAsideWith maps d size) (sym is.page) aside, s, found.1, sym is.page)
        ],
      )
  not_taken marks _ at len both links h = absurd h

  -- A chain is cut.
  cut : (owner needed at : ℕ) → LinkFits d s → s.role ≡ link owner needed → holder s.place ≡ at → (it.page ≡ 0) ⊎ (length d < needed) → IsFoundFault maps d size faults.ChainCut at
  cut owner needed at fits role holds (inl none) = (s, owner, needed, found.1, role, holds, inl (sym is.page ∙ none))
  cut owner needed at fits role holds (inr more) = elim (fits owner needed role) [
    | inl o ↦ (s, owner, needed, found.1, role, holds, inr (o.0, o.1 ∙ ap (λ p. overflow p o.0) holds, more))
    | inr le ↦ absurd (omega (arith, le, more))
  ]

  pub refusal_found : (level : Option ℕ) (marks : List Bool) (fault : Fault) (at : ℕ) → length marks ≡ length d → LinkFits d s → (IsPage d s.page → is_marked marks s.page ≡ true → IsAlsoNamed) → IsLevelFound d tree.root level
      → fault ≢ faults.NoMemory → FollowRefusedBy (IsPutDown level) d tree it marks fault at → IsFoundFault maps d size fault at
  refusal_found level marks fault at len fits both known some h = go (refused_by (IsPutDown level) (HasFoundLeaf d) d tree it marks fault at known h)
    where
      go : FollowRefusedBy (HasFoundLeaf d) d tree it marks fault at → IsFoundFault maps d size fault at
      go (inl h) = not_taken marks fault at len both h.0 h.1
      go (inr (inl h)) = subst (IsFoundFault maps d size fault) (sym h.0) (wrong (role_of tree it.task) fault is.role h.1 h.2)
      go (inr (inr (inl h))) = subst (λ f. IsFoundFault maps d size f at) (sym h.0) (cut h.2 h.3 at fits (is.role ∙ ap (role_of tree) h.5) (sym is.stands ∙ sym h.1) h.6)
      go (inr (inr (inr h))) = absurd (some h)

  -- Its fault is one of its place.
  pub refusal_of : (level : Option ℕ) (marks : List Bool) (e : CheckError) → length marks ≡ length d → IsLevelFound d tree.root level → e.fault ≢ faults.NoMemory → e.fault ≢ faults.SchemaRecord
      → FollowRefusedBy (IsPutDown level) d tree it marks e.fault e.page → IsWrongAt d s e ⊎ (((is_marked marks s.page ≡ true) ⊎ ¬ IsPage d s.page) × IsFaultOf d s e)
  refusal_of level marks e len known some row h = go (refused_by (IsPutDown level) (HasFoundLeaf d) d tree it marks e.fault e.page known h)
    where
      mark : (f : Fault) → e.fault ≡ f → MarkRefused marks it.holder it.page f e.page → IsWrongAt d s e ⊎ (((is_marked marks s.page ≡ true) ⊎ ¬ IsPage d s.page) × IsFaultOf d s e)
      mark faults.PageOutside f h =
          let none : ¬ IsPage d s.page = λ page. h.1 (subst (λ n. IsWithin n it.page) (sym len) (subst (IsPage d) (sym is.page) page)) in
          inr (inr none, inr (inr (h.0 ∙ is.stands, none, inl f)))
      mark faults.PageTwice f h = inr (inl (subst (λ n. is_marked marks n ≡ true) is.page h.3), inr (inl (h.0 ∙ is.page, f)))
      mark _ f h = absurd h

      go : FollowRefusedBy (HasFoundLeaf d) d tree it marks e.fault e.page → IsWrongAt d s e ⊎ (((is_marked marks s.page ≡ true) ⊎ ¬ IsPage d s.page) × IsFaultOf d s e)
      go (inl h) = mark e.fault refl h.1
      go (inr (inl h)) = inl (inl (h.0 ∙ is.page, row, subst (λ r. PageWrongBy (HasFoundLeaf d) d s.page r e.fault) (sym is.role) (subst (λ p. PageWrongBy (HasFoundLeaf d) d p (role_of tree it.task) e.fault) is.page h.2)))
      go (inr (inr (inl h))) = by h.6
        where
          by : (it.page ≡ 0) ⊎ (length d < h.3) → IsWrongAt d s e ⊎ (((is_marked marks s.page ≡ true) ⊎ ¬ IsPage d s.page) × IsFaultOf d s e)
          by (inl none) =
              let outside : ¬ IsPage d s.page = λ page. let above : 0 < s.page = page.0 in let same = is.page in absurd (omega (arith, above, same, none)) in
              inr (inr outside, inr (inr (h.1 ∙ is.stands, outside, inr h.0)))
          by (inr more) = inl (inr (h.1 ∙ is.stands, h.0, h.2, h.3, is.role ∙ ap (role_of tree) h.5, more))
      go (inr (inr (inr h))) = absurd (some h)

  -- The level of leaves, after it was followed or not.
  pub level_found : (old new : Option ℕ) → LevelAfter d it old new → IsLevelFound d tree.root old → IsLevelFound d tree.root new
  level_found old new (inl same) known = subst (IsLevelFound d tree.root) (sym same) known
  level_found old new (inr (level, low, high, task, inl same)) known = subst (IsLevelFound d tree.root) (sym same) known
  level_found old new (inr (level, low, high, task, inr (kind, has, leaf, put))) known = λ on e.
      let both : ◌≡◌ {A = Option ℕ} (Some level) (Some on) = sym put ∙ e in
      let at : level ≡ on = cc in
      (s, node_in tree level low high, kind, found.1, is.role ∙ ap (role_of tree) task, refl, at, subst (HasKind d kind) is.page has, leaf)

-- More faults are told.
pub names_more : (Is : CheckError → Type 0) (old more new : List CheckError) → new ≡ old ++ more → Names old Is → Names new Is
names_more Is old more new e (inl full) = inl (omega (arith, full, ap (λ (l : List CheckError). length l) e, length-append old more))
names_more Is old more new e (inr (x, i, is)) = inr (x, subst (In x) (sym e) (in_left x old more i), is)

pub names_weaker : (P Q : CheckError → Type 0) (told : List CheckError) → ((e : CheckError) → P e → Q e) → Names told P → Names told Q
names_weaker P Q told f (inl full) = inl full
names_weaker P Q told f (inr (e, i, is)) = inr (e, i, f e is)

-- A fault is put down, or there is no room for it.
pub put_down_is : (e : CheckError) (old new : List CheckError) → ArePutDown old (e ∷ []) new → ((new ≡ old ++ e ∷ []) ⊎ (most_faults ≤ length old)) × (more : List CheckError) × (new ≡ old ++ more) × ((more ≡ []) ⊎ (more ≡ e ∷ []))
put_down_is e old new down = elim (cases_lt (length old) most_faults) [
  | inl lt ↦
      let room : most_faults - length old ≡ suc (most_faults - length old - 1) = omega (arith, lt) in
      let all : take (most_faults - length old) (e ∷ []) ≡ e ∷ [] = ap (λ n. take n (e ∷ [])) room ∙ ap (λ l. e ∷ l) (take_none (most_faults - length old - 1)) in
      let is : new ≡ old ++ e ∷ [] = down ∙ ap (λ l. old ++ l) all in
      (inl is, e ∷ [], is, inr refl)
  | inr ge ↦
      let room : most_faults - length old ≡ 0 = omega (arith, ge) in
      let is : new ≡ old ++ [] = down ∙ ap (λ n. old ++ take n (e ∷ [])) room in
      (inr ge, [], is, inl refl)
]
  where
    take_none : (n : ℕ) → ◌≡◌ {A = List CheckError} (take n []) []
    take_none zero = refl
    take_none (suc n) = refl

pub names_down : (Is : CheckError → Type 0) (e : CheckError) (old new : List CheckError) → ArePutDown old (e ∷ []) new → Is e → Names new Is
names_down Is e old new down is =
    let p = put_down_is e old new down in
    elim p.0 [
      | inl put ↦ inr (e, subst (In e) (sym put) (in_right e old (e ∷ []) (inl refl)), is)
      | inr full ↦ inl (omega (arith, full, ap (λ (l : List CheckError). length l) p.2, length-append old p.1))
    ]

pub grown : (first before more old new : List CheckError) → old ≡ first ++ before → new ≡ old ++ more → new ≡ first ++ (before ++ more)
grown first before more old new e is = is ∙ ap (λ l. l ++ more) e ∙ append_assoc first before more

-- What is wrong with a header is told as such.
pub header_kind : (maps : Bool) (fault : Fault) (size : ℕ) (b : List ℕ) → HeaderFault maps fault size b → (is_of_header fault ≡ true) ⊎ (fault ≡ faults.PointerMap)
header_kind maps faults.Magic size b h = inl refl
header_kind maps faults.PageSize size b h = inl refl
header_kind maps faults.Fraction size b h = inl refl
header_kind maps faults.Reserved size b h = inl refl
header_kind maps faults.AutoVacuum size b h = inl refl
header_kind maps faults.PointerMap size b h = inr refl
header_kind maps _ size b h = absurd h

module _ (maps : Bool) (d : Database) (size : ℕ) where
  abbrev Found : CheckError → Type 0
  Found e = IsFoundFault maps d size e.fault e.page

  pub tells_nothing : (old new : List CheckError) → new ≡ old → TellsFound maps d size old new
  tells_nothing old new e = record { more = []; is = e ∙ sym (append-nil old); found = tt }

  pub tells_one : (e : CheckError) (old new : List CheckError) → ArePutDown old (e ∷ []) new → Found e → TellsFound maps d size old new
  tells_one e old new down found =
      let p = put_down_is e old new down in
      record { more = p.1; is = p.2; found = elim p.3 [ inl none ↦ subst (Every Found) (sym none) tt | inr one ↦ subst (Every Found) (sym one) (found, tt) ] }

  pub tells_both : (old mid new : List CheckError) → TellsFound maps d size old mid → TellsFound maps d size mid new → TellsFound maps d size old new
  tells_both old mid new a b = record {
    more = a.more ++ b.more;
    is = b.is ∙ ap (λ l. l ++ b.more) a.is ∙ append_assoc old a.more b.more;
    found = every_append Found a.more b.more a.found b.found;
  }

  pub told_more : (old new : List CheckError) → TellsFound maps d size old new → AreToldFound maps d size old → AreToldFound maps d size new
  told_more old new t h = subst (Every Found) (sym t.is) (every_append Found old t.more h t.found)

  -- What is wrong with the header.
  pub header_found : (of : ℕ) (fault : Fault) → of ≡ size → HeaderFault maps fault of (page d 1) → IsFoundFault maps d size fault 1
  header_found of faults.Magic e h = (refl, h)
  header_found of faults.PageSize e h = (refl, inr (λ same. h.1 (same ∙ sym e)))
  header_found of faults.Fraction e h = (refl, h.2)
  header_found of faults.Reserved e h = (refl, h.3)
  header_found of faults.AutoVacuum e h = (refl, h.4, h.5)
  header_found of faults.PointerMap e h = (h.4, inr (refl, h.5, λ auto. auto h.6))
  header_found of _ e h = absurd h

  -- A root that is no page's.
  pub root_outside : (r : Root) → IsRootFound d r → ¬ IsPage d r.page → IsFoundFault maps d size faults.PageOutside r.holder
  root_outside r found none = (
    found.0,
    found.1,
    sym found.2.stands,
    (λ page. none (subst (IsPage d) (sym found.2.page) page)),
    (λ l. absurd (let is : IsTrue false = subst (λ role. IsTrue (is_link role)) found.2.role l in cc)),
  )

  -- A row of the schema that is none.
  pub row_found : (cell : Cell) (e : CheckError) → IsCellFound d cell → e.fault ≡ faults.SchemaRecord → e.page ≡ cell.page → (bytes : List ℕ) → IsPayload d cell bytes → ((r : ℕ) → ¬ IsSchemaRow bytes r) → Found e
  row_found cell e found is at bytes payload none =
      subst (λ f. IsFoundFault maps d size f e.page) (sym is) (subst (IsFoundFault maps d size faults.SchemaRecord) (sym at) (go s.role refl found.1.4))
    where
      s : Spot
      s = found.1.0

      go : (role : Role) → s.role ≡ role → IsSchemaLeaf d cell.page role → IsFoundFault maps d size faults.SchemaRecord cell.page
      go trunk e leaf = absurd leaf
      go free_leaf e leaf = absurd leaf
      go (link owner needed) e leaf = absurd leaf
      go (node x) e leaf =
          let whole : IsSoundPage d cell.page x = subst (λ p. IsSoundPage d p x) found.1.3 (subst (λ r. IsSoundWith (IsSoundPage d) d s.page r) e found.1.2.sound_as) in
          let same : whole.kind ≡ TableLeaf = kind_once d whole.kind TableLeaf cell.page whole.page_is.kind found.2 in
          let tree = subst (λ k. IsBtreePage (page_as d k cell.page)) same whole.page_is in
          (s, x, found.1.1, found.1.3, subst (IsPage d) found.1.3 found.1.2.named, e, (leaf.0, (TableLeaf, tree, (refl, found.0, bytes, record { cell = cell; is = found.3; payload = payload }, none))))

  -- An entry that doesn't say what names its page.
  pub entry_found : (tree : Tree) (it : Item) (e : CheckError) → maps ≡ true → length (page d 1) ≡ size → IsItemFound d tree it → EntryRefused d it e.fault e.page → Found e
  entry_found tree it e asked long found h =
      let here : IsEntryPlace size (usable_size d) found.0.page h.2 =
      subst (λ n. IsEntryPlace n (usable_size d) found.0.page h.2) long (subst (λ p. IsEntryPlace (length (page d 1)) (usable_size d) p h.2) found.2.page h.3) in
      subst (λ f. IsFoundFault maps d size f e.page) (sym h.0) (asked, inl (h.1, (found.0, h.2, found.1, here, h.4, λ says. h.5 (says_entry d tree it found.0 h.2 found.2 says))))

  -- What a row tells.
  pub row_told : (cell : Cell) (found : Result ℕ CheckError) (old new : List CheckError) → IsCellFound d cell
      → IfErr found (λ e. e.fault ≡ faults.SchemaRecord → (e.page ≡ cell.page) × (bytes : List ℕ) × IsPayload d cell bytes × ((r : ℕ) → ¬ IsSchemaRow bytes r)) → TellsRow found old new → TellsFound maps d size old new
  row_told cell found old new is wrong (inl same) = tells_nothing old new same
  row_told cell found old new is wrong (inr (e, err, fault, down)) =
      let h = subst (λ f. IfErr f (λ e. e.fault ≡ faults.SchemaRecord → (e.page ≡ cell.page) × (bytes : List ℕ) × IsPayload d cell bytes × ((r : ℕ) → ¬ IsSchemaRow bytes r))) err wrong fault in
      tells_one e old new down (row_found cell e is fault h.0 h.1 h.2 h.3)

abbrev pub unused_at : ℕ → CheckError
unused_at n = record { page = n; fault = faults.PageUnused }

pub every_take : (P : CheckError → Type 0) (n : ℕ) (xs : List CheckError) → Every P xs → Every P (take n xs)
every_take P zero xs h = tt
every_take P (suc n) [] h = tt
every_take P (suc n) (x ∷ xs) h = (h.0, every_take P n xs h.1)

in_take : (n : ℕ) (xs : List CheckError) (x : CheckError) → In x xs → (In x (take n xs)) ⊎ (length (take n xs) ≡ n)
in_take zero xs x i = inr refl
in_take (suc n) [] x i = absurd i
in_take (suc n) (y ∷ xs) x (inl e) = inl (inl e)
in_take (suc n) (y ∷ xs) x (inr i) = elim (in_take n xs x i) [ inl j ↦ inl (inr j) | inr full ↦ inr (ap suc full) ]

-- One of faults that were put down, as far as there was room.
pub taken : (old xs new : List CheckError) → ArePutDown old xs new → (x : CheckError) (Is : CheckError → Type 0) → In x xs → Is x → Names new Is
taken old xs new down x Is i is = elim (in_take (most_faults - length old) xs x i) [
  | inl j ↦ inr (x, subst (In x) (sym down) (in_right x old (take (most_faults - length old) xs) j), is)
  | inr full ↦ inl (omega (arith, full, ap (λ (l : List CheckError). length l) down, length-append old (take (most_faults - length old) xs)))
]

-- The faults in the end: those of the walk, and of each page that nothing has named.
module _ (maps : Bool) (d : Database) (size : ℕ) (roles : List uses.Role) (long : length roles ≡ length d) where
  abbrev OfHeader : CheckError → Type 0
  OfHeader e = (e.page ≡ 1) × ((is_of_header e.fault ≡ true) ⊎ (e.fault ≡ faults.PointerMap))

  abbrev Unnamed : CheckError → Type 0
  Unnamed e = IsNamedFault maps d size roles e

  pub unnamed : (p : ℕ) (rs : List uses.Role) → ((i : ℕ) → i < length rs → get_or rs i Unused ≡ role_at roles (p + i)) → 0 < p → p + length rs ≡ suc (length d) → Every Unnamed (unused_faults p rs)
  unnamed p [] at pos all = tt
  unnamed p (r ∷ rs) at pos all =
      let here : r ≡ role_at roles p = at 0 (let z : 0 < suc (length rs) = omega arith in z) ∙ ap (role_at roles) (let z : p + 0 ≡ p = omega arith in z) in
      let page : IsPage d p = (pos, (let z : p ≤ length d = omega (arith, all) in z)) in
      every_append Unnamed (unused_fault p r) (unused_faults (suc p) rs) (one r here page)
      (unnamed (suc p) rs (λ i lt. at (suc i) (let z : suc i < suc (length rs) = omega (arith, lt) in z) ∙ ap (role_at roles) (let z : p + suc i ≡ suc p + i = omega arith in z)) (let z : 0 < suc p = omega arith in z) (let z : suc p + length rs ≡ suc (length d) = omega (arith, all) in z))
    where
      one : (q : uses.Role) → q ≡ role_at roles p → IsPage d p → Every Unnamed (unused_fault p q)
      one Unused e page = (inl (refl, page, sym e), tt)
      one (Btree k t) e page = tt
      one (Overflow o) e page = tt
      one FreeTrunk e page = tt
      one FreeLeaf e page = tt
      one LockByte e page = tt
      one PointerMap e page = tt

  pub told_unused : (p : ℕ) (rs : List uses.Role) (i : ℕ) → i < length rs → get_or rs i Unused ≡ Unused → In (unused_at (p + i)) (unused_faults p rs)
  told_unused p [] i lt e = absurd (omega (arith, lt))
  told_unused p (r ∷ rs) zero lt e =
      in_left (unused_at (p + 0)) (unused_fault p r) (unused_faults (suc p) rs)
      (subst (λ q. In (unused_at (p + 0)) (unused_fault p q)) (sym e) (inl (ap unused_at (let z : p + 0 ≡ p = omega arith in z))))
  told_unused p (r ∷ rs) (suc i) lt e =
      in_right (unused_at (p + suc i)) (unused_fault p r) (unused_faults (suc p) rs)
      (subst (λ n. In (unused_at n) (unused_faults (suc p) rs)) (let z : suc p + i ≡ p + suc i = omega arith in z) (told_unused (suc p) rs i (let z : i < length rs = omega (arith, lt) in z) e))

-- Pages of trees: their keys, and the places in them.
use Rattle.sqcheck.proofs.Below.{Apart, Bool, Cell, Database, Every, FirstLeaf, FourBytes, HasKeyOutOfOrder, InCell, InCellFrom, IsAtMost, IsBefore, IsCell, IsCellAt, IsChild, IsInOrder, IsItemOf, IsKeyBefore, IsRightChild, IsTrue, Item, KeysRise, LeadsOn, Link, List, Match, Node, Option, Page, Pushes, Spot, Task, TopLeads, Tree, [], ap, apart_append, append_assoc, arith, below, bytes_beyond, cases_eq, cases_lt, cell_count, cell_once, child, cond, div-lt_iff_lt-mul, eqb, every_append, every_map, every_weaker, false, first_child, head_at, if_present, in_left, in_right, inl, inr, is_interior, length, link, links, map, map_append, node_in, overflow, pointer, refl, reverse, reverse-append, spot, subst, suc, sym, true, unwrap_or, word, ℕ, ℤ, ⊎_elim, ◌*◌, ◌++◌, ◌+◌, ◌-◌, ◌<◌, ◌↔◌, ◌∙◌, ◌∷◌, ◌≡◌, ◌≢◌, ◌≤◌, ◌⊎◌}
use Rattle.sqcheck.specs.declared.item.Task.TheVariants as tasks

pub key_before_once : (b : Page) (x : Node) (i : ℕ) (k m : Option ℤ) → IsKeyBefore b x i k → IsKeyBefore b x i m → k ≡ m
key_before_once b x i k m (inl h) (inl g) = h.1 ∙ sym g.1
key_before_once b x i k m (inl h) (inr (inl g)) = absurd (let z : i ≡ 0 = h.0 in let s : i ≡ suc g.0 = g.2 in omega arith)
key_before_once b x i k m (inl h) (inr (inr g)) = absurd (let z : i ≡ 0 = h.0 in let s : i ≡ suc g.0 = g.1 in omega arith)
key_before_once b x i k m (inr (inl h)) (inl g) = absurd (let z : i ≡ 0 = g.0 in let s : i ≡ suc h.0 = h.2 in omega arith)
key_before_once b x i k m (inr (inr h)) (inl g) = absurd (let z : i ≡ 0 = g.0 in let s : i ≡ suc h.0 = h.1 in omega arith)
key_before_once b x i k m (inr (inl h)) (inr (inr g)) =
    let same : h.0 ≡ g.0 = (let s : i ≡ suc g.0 = g.1 in let r : i ≡ suc h.0 = h.2 in omega arith) in
    absurd (g.2 h.1 (subst (λ j. IsCellAt b j h.1) same h.3))
key_before_once b x i k m (inr (inr h)) (inr (inl g)) =
    let same : g.0 ≡ h.0 = (let s : i ≡ suc g.0 = g.2 in let r : i ≡ suc h.0 = h.1 in omega arith) in
    absurd (h.2 g.1 (subst (λ j. IsCellAt b j g.1) same g.3))
key_before_once b x i k m (inr (inr h)) (inr (inr g)) = h.3 ∙ sym g.3
key_before_once b x i k m (inr (inl h)) (inr (inl g)) =
    let same : g.0 ≡ h.0 = (let s : i ≡ suc g.0 = g.2 in let r : i ≡ suc h.0 = h.2 in omega arith) in
    let c = cell_once b h.0 h.1 g.1 h.3.1 (subst (λ j. IsCell b j g.1) same g.3.1) in
    h.4 ∙ c.rowid ∙ sym g.4

-- The keys of the first cells rise, and this is the last of them.
pub record Rising (b : Page) (low high : Option ℤ) (i : ℕ) (before : Option ℤ) : Type 0 where
  pub key : (x : Node) → x.low ≡ low → IsKeyBefore b x i before
  pub rise : (x : Node) → x.low ≡ low → x.high ≡ high → (k : ℕ) (cell : Cell) (q : Option ℤ) → k < i → IsCellAt b k cell → IsKeyBefore b x k q → IsInOrder x q cell

pub rise_begins : (b : Page) (low high : Option ℤ) → Rising b low high 0 low
rise_begins b low high = record { key = λ x e. inl (refl, sym e); rise = λ x e f k cell q lt. absurd (omega (arith, lt)) }

pub rise_goes_on : (b : Page) (low high : Option ℤ) (i : ℕ) (before : Option ℤ) (cell : Cell) → Rising b low high i before → IsCellAt b i cell → IsBefore before cell.rowid → IsAtMost high cell.rowid → Rising b low high (i + 1) cell.rowid
rise_goes_on b low high i before cell r is behind most = record {
  key = λ x e. inr (inl (i, cell, (let s : i + 1 ≡ suc i = omega arith in s), is, refl));
  rise = λ x e f k c q lt has key. elim (cases_eq k i) [
    | inl same ↦
        let c' = cell_once b i c cell (subst (λ j. IsCell b j c) same has.1) is.1 in
        let q' = key_before_once b x i q before (subst (λ j. IsKeyBefore b x j q) same key) (r.key x e) in
        (subst (IsBefore q) (sym c'.rowid) (subst (λ z. IsBefore z cell.rowid) (sym q') behind), subst (IsAtMost x.high) (sym c'.rowid) (subst (λ z. IsAtMost z cell.rowid) (sym f) most))
    | inr ne ↦ r.rise x e f k c q (omega (arith, lt, ne)) has key
  ];
}

pub rise_ends : (b : Page) (low high : Option ℤ) (i : ℕ) (before : Option ℤ) (x : Node) → Rising b low high i before → cell_count b ≤ i → x.low ≡ low → x.high ≡ high → KeysRise b x
rise_ends b low high i before x r le e f k cell q has key = let lt : k < cell_count b = has.0 in r.rise x e f k cell q (omega arith) has key

pub rise_breaks : (b : Page) (low high : Option ℤ) (i : ℕ) (before : Option ℤ) (cell : Cell) (x : Node) → Rising b low high i before → IsCellAt b i cell → x.low ≡ low → x.high ≡ high
    → ¬ IsBefore before cell.rowid ⊎ ¬ IsAtMost high cell.rowid → HasKeyOutOfOrder b x
rise_breaks b low high i before cell x r is e f wrong = (i, cell, before, is, r.key x e, λ o. ⊎_elim (λ never. never o.0) (λ never. never (subst (λ z. IsAtMost z cell.rowid) f o.1)) wrong)

-- Items on the stack.
module _ (tree : Tree) (P Q : Spot → Type 0) (old mid : List Item) (p : Pushes tree P old mid) where
  pub push_one : (new : List Item) (it : Item) (s : Spot) → new ≡ mid ++ it ∷ [] → IsItemOf tree it s → Q s → ((t : Spot) → P t → Q t) → ((t : Spot) → Q t → (t ≡ s) ⊎ P t)
      → ((t : Spot) → P t → s.place ≢ t.place) → Pushes tree Q old new
  push_one new it s e is q wider either differ = record {
    items = it ∷ p.items;
    spots = s ∷ p.spots;
    pushed = ap reverse e ∙ reverse-append mid (it ∷ []) ∙ ap (λ l. it ∷ l) p.pushed;
    match = (is, p.match);
    only = (q, every_weaker P Q wider p.spots p.only);
    all = λ t h. ⊎_elim (λ e. inl e) (λ h. inr (p.all t h)) (either t h);
    distinct = (every_map (λ y. s.place ≡ y → ⊥) (λ t. t.place) p.spots (every_weaker P (λ t. s.place ≡ t.place → ⊥) differ p.spots p.only), p.distinct);
  }

  pub push_none : ((t : Spot) → P t → Q t) → ((t : Spot) → Q t → P t) → Pushes tree Q old mid
  push_none wider narrower = record {
    items = p.items;
    spots = p.spots;
    pushed = p.pushed;
    match = p.match;
    only = every_weaker P Q wider p.spots p.only;
    all = λ t h. p.all t (narrower t h);
    distinct = p.distinct;
  }

pub push_nothing : (tree : Tree) (P : Spot → Type 0) (old : List Item) → ((t : Spot) → ¬ P t) → Pushes tree P old old
push_nothing tree P old never = record { items = []; spots = []; pushed = refl; match = tt; only = tt; all = λ t h. never t h; distinct = tt }

-- a cell's payload needs pages where not all of it is local
pub needs : (cell : Cell) → 480 ≤ cell.usable → (0 < links cell → 0 < bytes_beyond cell) × (links cell ≡ 0 → bytes_beyond cell ≡ 0)
needs cell least =
    let room : 0 < cell.usable - 4 = omega arith in
    let i : (links cell < 1) ↔ (bytes_beyond cell + (cell.usable - 5) < 1 * (cell.usable - 4)) = div-lt_iff_lt-mul room in (
      (λ lt. elim (cases_lt 0 (bytes_beyond cell)) [
        | inl some ↦ some
        | inr none ↦ let few : bytes_beyond cell + (cell.usable - 5) < 1 * (cell.usable - 4) = omega (arith, none, least) in absurd (omega (arith, lt, i.1 few))
      ]),
      (λ e. let lt : links cell < 1 = omega (arith, e) in omega (arith, i.0 lt, least)),
    )

-- A chain more.
pub chain_more : (tree : Tree) (b : Page) (left : ℕ) (cell : Cell) (old mid new : List Item) (it : Item) → IsCellAt b left cell → 0 < bytes_beyond cell → 0 < links cell → it ≡ record { holder = b.number; page = cell.overflow; task = Link b.number (links cell) true }
    → new ≡ mid ++ it ∷ [] → Pushes tree (InCellFrom b (left + 1)) old mid → Pushes tree (InCellFrom b left) old new
chain_more tree b left cell old mid new it is some needed e pushed p =
    let s : Spot = spot (overflow b.number left) cell.overflow (link b.number (links cell)) in
    push_one tree (InCellFrom b (left + 1)) (InCellFrom b left) old mid p new it s pushed
    (rw e (record { page = refl; stands = refl; role = refl; proper = needed; kind = refl }))
    (left, cell, (let r : left ≤ left = omega arith in r), is, some, refl)
    (λ t h. (h.0, h.1, (let le : left + 1 ≤ h.0 = h.2 in let r : left ≤ h.0 = omega arith in r), h.3, h.4, h.5))
    (λ t h. elim (cases_eq h.0 left) [
      | inl same ↦
          let c = cell_once b left h.1 cell (subst (λ j. IsCell b j h.1) same h.3.1) is.1 in
          inl (h.5 ∙ ap (λ i. spot (overflow b.number i) h.1.overflow (link b.number (links h.1))) same ∙ ap (λ o. spot (overflow b.number left) o (link b.number (links h.1))) c.overflow
          ∙ ap (λ n. spot (overflow b.number left) cell.overflow (link b.number n)) (links_same h.1 cell c.usable c.payload (ap length c.local)))
      | inr ne ↦ inr (h.0, h.1, (let le : left ≤ h.0 = h.2 in let r : left + 1 ≤ h.0 = omega arith in r), h.3, h.4, h.5)
    ])
    (λ t h e. let le : left + 1 ≤ h.0 = h.2 in let same : overflow b.number left ≡ overflow b.number h.0 = e ∙ ap (λ (z : Spot). z.place) h.5 in let i : left ≡ h.0 = cc in absurd (omega arith))
  where
    links_same : (c e : Cell) → c.usable ≡ e.usable → c.payload ≡ e.payload → length c.local.now ≡ length e.local.now → links c ≡ links e
    links_same c e u p l = rw (u, p, l) refl

pub chain_not : (tree : Tree) (b : Page) (left : ℕ) (cell : Cell) (old mid : List Item) → IsCellAt b left cell → bytes_beyond cell ≡ 0 → Pushes tree (InCellFrom b (left + 1)) old mid → Pushes tree (InCellFrom b left) old mid
chain_not tree b left cell old mid is none p =
    push_none tree (InCellFrom b (left + 1)) (InCellFrom b left) old mid p
    (λ t h. (h.0, h.1, (let le : left + 1 ≤ h.0 = h.2 in let r : left ≤ h.0 = omega arith in r), h.3, h.4, h.5))
    (λ t h. elim (cases_eq h.0 left) [
      | inl same ↦
          let c = cell_once b left h.1 cell (subst (λ j. IsCell b j h.1) same h.3.1) is.1 in
          let some : 0 < bytes_beyond h.1 = h.4 in
          absurd (omega (arith, some, none, beyond_same h.1 cell c.payload (ap length c.local)))
      | inr ne ↦ (h.0, h.1, (let le : left ≤ h.0 = h.2 in let r : left + 1 ≤ h.0 = omega arith in r), h.3, h.4, h.5)
    ])
  where
    beyond_same : (c e : Cell) → c.payload ≡ e.payload → length c.local.now ≡ length e.local.now → bytes_beyond c ≡ bytes_beyond e
    beyond_same c e p l = rw (p, l) refl

pub chains_none : (tree : Tree) (b : Page) (old : List Item) → Pushes tree (InCellFrom b (cell_count b)) old old
chains_none tree b old = push_nothing tree (InCellFrom b (cell_count b)) old (λ t h. let lt : h.0 < cell_count b = h.3.0 in let le : cell_count b ≤ h.0 = h.2 in omega arith)

pub chains_all : (tree : Tree) (b : Page) (old new : List Item) → Pushes tree (InCellFrom b 0) old new → Pushes tree (InCell b) old new
chains_all tree b old new p = push_none tree (InCellFrom b 0) (InCell b) old new p (λ t h. (h.0, h.1, h.3, h.4, h.5)) (λ t h. (h.0, h.1, (let r : 0 ≤ h.0 = omega arith in r), h.2, h.3, h.4))

-- what a test says
pub says_yes : (b : Bool) (P : Type 0) → IsTrue b ↔ P → b ≡ true → P
says_yes true P i e = i.0 refl
says_yes false P i e = absurd (cc)

pub says_no : (b : Bool) (P : Type 0) → IsTrue b ↔ P → b ≡ false → ¬ P
says_no true P i e = absurd (cc)
says_no false P i e = λ p. absurd (let both : false ≡ true = i.1 p in cc)

-- An item on the stack that is no page of a tree leaves the tree's next page the one that it was.
abbrev pub IsNoNode : Task → Type 0
IsNoNode (tasks.Node level low high) = ⊥
IsNoNode _ = Unit {0}

passes : (d : Database) (root p : ℕ) (task : Task) (further : Type 0) → IsNoNode task → further → LeadsOn d root p task further
passes d root p tasks.Trunk further h f = f
passes d root p tasks.Leaf further h f = f
passes d root p (tasks.Link o n first) further h f = f
passes d root p (tasks.Node level low high) further h f = absurd h

pub free_leads : (d : Database) (root : ℕ) (mid new : List Item) (it : Item) (task : Task) → IsNoNode task → it.task ≡ task → new ≡ mid ++ it ∷ [] → TopLeads d root (reverse mid) → TopLeads d root (reverse new)
free_leads d root mid new it task none same e leads =
    let top : reverse new ≡ it ∷ reverse mid = ap reverse e ∙ reverse-append mid (it ∷ []) in
    subst (TopLeads d root) (sym top) (passes d root it.page it.task (TopLeads d root (reverse mid)) (subst IsNoNode (sym same) none) leads)

pub link_leads : (d : Database) (root : ℕ) (mid new : List Item) (it : Item) (owner needed : ℕ) (first : Bool) → it.task ≡ Link owner needed first → new ≡ mid ++ it ∷ [] → TopLeads d root (reverse mid) → TopLeads d root (reverse new)
link_leads d root mid new it owner needed first task e leads = free_leads d root mid new it (Link owner needed first) tt task e leads

-- The children of a page, from one on.
abbrev pub IsLeftAt : Page → Node → (i : ℕ) → Spot → Type 0
IsLeftAt b x i t = (cell : Cell) × (low : Option ℤ) × IsCellAt b i cell × IsKeyBefore b x i low × (t ≡ spot (child b.number i) (unwrap_or cell.child 0) (below x low cell.rowid))

abbrev pub IsChildAt : Page → Node → (i : ℕ) → Spot → Type 0
IsChildAt b x i t = IsLeftAt b x i t ⊎ ((i ≡ cell_count b) × IsRightChild b x t)

abbrev pub ChildFrom : Page → Node → (from : ℕ) → Spot → Type 0
ChildFrom b x from t = (i : ℕ) × (from ≤ i) × IsChildAt b x i t

-- the child that is put on the stack next, and the high bound of its keys
abbrev pub IsNext : Page → (high : Option ℤ) → (i p : ℕ) (key : Option ℤ) → Type 0
IsNext b high i p key = ((i ≡ cell_count b) × (p ≡ word b.used (head_at b.number + 8)) × (key ≡ high)) ⊎ ((cell : Cell) × IsCellAt b i cell × (p ≡ unwrap_or cell.child 0) × (key ≡ cell.rowid))

next_is : (b : Page) (x : Node) (i p : ℕ) (low key : Option ℤ) → IsNext b x.high i p key → IsKeyBefore b x i low → IsChildAt b x i (spot (child b.number i) p (below x low key))
next_is b x i p low key (inl h) before = inr (h.0, (low, subst (λ j. IsKeyBefore b x j low) h.0 before, same))
  where
    same : spot (child b.number i) p (below x low key) ≡ spot (child b.number (cell_count b)) (word b.used (head_at b.number + 8)) (below x low x.high)
    same = ap (λ j. spot (child b.number j) p (below x low key)) h.0 ∙ ap (λ q. spot (child b.number (cell_count b)) q (below x low key)) h.1 ∙ ap (λ k. spot (child b.number (cell_count b)) (word b.used (head_at b.number + 8)) (below x low k)) h.2
next_is b x i p low key (inr h) before = inl (h.0, low, h.1, before, ap (λ q. spot (child b.number i) q (below x low key)) h.2 ∙ ap (λ k. spot (child b.number i) (unwrap_or h.0.child 0) (below x low k)) h.3)

next_once : (b : Page) (x : Node) (i p : ℕ) (low key : Option ℤ) (t : Spot) → IsNext b x.high i p key → IsKeyBefore b x i low → IsChildAt b x i t → t ≡ spot (child b.number i) p (below x low key)
next_once b x i p low key t (inl h) before (inl g) = absurd (let lt : i < cell_count b = g.2.0 in let e : i ≡ cell_count b = h.0 in omega arith)
next_once b x i p low key t (inl h) before (inr g) =
    let l = key_before_once b x (cell_count b) g.1.0 low g.1.1 (subst (λ j. IsKeyBefore b x j low) h.0 before) in
    g.1.2 ∙ ap (λ m. spot (child b.number (cell_count b)) (word b.used (head_at b.number + 8)) (below x m x.high)) l
    ∙ sym (ap (λ j. spot (child b.number j) p (below x low key)) h.0 ∙ ap (λ q. spot (child b.number (cell_count b)) q (below x low key)) h.1 ∙ ap (λ k. spot (child b.number (cell_count b)) (word b.used (head_at b.number + 8)) (below x low k)) h.2)
next_once b x i p low key t (inr h) before (inl g) =
    let c = cell_once b i g.0 h.0 g.2.1 h.1.1 in
    let l = key_before_once b x i g.1 low g.3 before in
    g.4 ∙ ap (λ o. spot (child b.number i) (unwrap_or o 0) (below x g.1 g.0.rowid)) c.child ∙ ap (λ o. spot (child b.number i) (unwrap_or h.0.child 0) (below x g.1 o)) c.rowid
    ∙ ap (λ m. spot (child b.number i) (unwrap_or h.0.child 0) (below x m h.0.rowid)) l ∙ ap (λ q. spot (child b.number i) q (below x low h.0.rowid)) (sym h.2) ∙ ap (λ k. spot (child b.number i) p (below x low k)) (sym h.3)
next_once b x i p low key t (inr h) before (inr g) = absurd (let lt : i < cell_count b = h.1.0 in let e : i ≡ cell_count b = g.0 in omega arith)

child_place : (b : Page) (x : Node) (i : ℕ) (t : Spot) → IsChildAt b x i t → t.place ≡ child b.number i
child_place b x i t (inl h) = ap (λ (z : Spot). z.place) h.4
child_place b x i t (inr h) = ap (λ (z : Spot). z.place) h.1.2 ∙ ap (child b.number) (sym h.0)

-- A child more.
pub child_more : (tree : Tree) (b : Page) (level below_it i p : ℕ) (low high before key : Option ℤ) (old mid new : List Item) (it : Item)
    → IsNext b high i p key → IsKeyBefore b (node_in tree level low high) i before → below_it ≡ suc level → it ≡ record { holder = b.number; page = p; task = tasks.Node below_it before key }
    → new ≡ mid ++ it ∷ [] → Pushes tree (ChildFrom b (node_in tree level low high) (i + 1)) old mid → Pushes tree (ChildFrom b (node_in tree level low high) i) old new
child_more tree b level below_it i p low high before key old mid new it next is_before deeper e pushed pushes =
    let x : Node = node_in tree level low high in
    let s : Spot = spot (child b.number i) p (below x before key) in
    push_one tree (ChildFrom b x (i + 1)) (ChildFrom b x i) old mid pushes new it s pushed
    (rw (e, deeper) (record { page = refl; stands = refl; role = refl; proper = tt; kind = refl }))
    (i, (let r : i ≤ i = omega arith in r), next_is b x i p before key next is_before)
    (λ t h. (h.0, (let le : i + 1 ≤ h.0 = h.1 in let r : i ≤ h.0 = omega arith in r), h.2))
    (λ t h. elim (cases_eq h.0 i) [
      | inl same ↦ inl (next_once b x i p before key t next is_before (subst (λ j. IsChildAt b x j t) same h.2))
      | inr ne ↦ inr (h.0, (let le : i ≤ h.0 = h.1 in let r : i + 1 ≤ h.0 = omega arith in r), h.2)
    ])
    (λ t h e. let le : i + 1 ≤ h.0 = h.1 in let same : child b.number i ≡ child b.number h.0 = e ∙ child_place b x h.0 t h.2 in let j : i ≡ h.0 = cc in absurd (omega arith))

pub children_none : (tree : Tree) (b : Page) (level : ℕ) (low high : Option ℤ) (old : List Item) → Pushes tree (ChildFrom b (node_in tree level low high) (cell_count b + 1)) old old
children_none tree b level low high old = push_nothing tree (ChildFrom b (node_in tree level low high) (cell_count b + 1)) old (λ t h. go h.0 t h.1 h.2)
  where
    go : (i : ℕ) (t : Spot) → cell_count b + 1 ≤ i → IsChildAt b (node_in tree level low high) i t → ⊥
    go i t le (inl h) = let lt : i < cell_count b = h.2.0 in omega arith
    go i t le (inr h) = let e : i ≡ cell_count b = h.0 in omega arith

pub children_all : (tree : Tree) (b : Page) (level : ℕ) (low high : Option ℤ) (old new : List Item) → Pushes tree (ChildFrom b (node_in tree level low high) 0) old new → Pushes tree (IsChild b (node_in tree level low high)) old new
children_all tree b level low high old new p = push_none tree (ChildFrom b (node_in tree level low high) 0) (IsChild b (node_in tree level low high)) old new p (λ t h. out h.0 t h.2) back
  where
    out : (i : ℕ) (t : Spot) → IsChildAt b (node_in tree level low high) i t → IsChild b (node_in tree level low high) t
    out i t (inl h) = inl (i, h.0, h.1, h.2, h.3, h.4)
    out i t (inr h) = inr h.1

    back : (t : Spot) → IsChild b (node_in tree level low high) t → ChildFrom b (node_in tree level low high) 0 t
    back t (inl h) = (h.0, (let r : 0 ≤ h.0 = omega arith in r), inl (h.1, h.2, h.3, h.4, h.5))
    back t (inr h) = (cell_count b, (let r : 0 ≤ cell_count b = omega arith in r), inr (refl, h))

-- The first child is the last that is put on the stack.
pub first_is : (b : Page) (high : Option ℤ) (p : ℕ) (key : Option ℤ) → is_interior b.kind ≡ true → IsNext b high 0 p key → p ≡ first_child b
first_is b high p key interior (inl h) = h.1 ∙ sym (ap (λ n. cond (eqb n 0) (word b.used (head_at b.number + 8)) (word b.used (pointer b 0))) (sym h.0))
first_is b high p key interior (inr h) = h.2 ∙ named ∙ sym (chosen (cell_count b) h.1.0)
  where
    chosen : (n : ℕ) → 0 < n → cond (eqb n 0) (word b.used (head_at b.number + 8)) (word b.used (pointer b 0)) ≡ word b.used (pointer b 0)
    chosen n lt = let e : eqb n 0 ≡ false = grind arith in ap (λ z. cond z (word b.used (head_at b.number + 8)) (word b.used (pointer b 0))) e

    named : unwrap_or h.0.child 0 ≡ word b.used (pointer b 0)
    named =
        let is = h.1.1 in
        let f : FourBytes true b.used (pointer b 0) is.has.after_child is.parts.child = subst (λ z. FourBytes z b.used (pointer b 0) is.has.after_child is.parts.child) interior is.has.child in
        ap (λ o. unwrap_or o 0) (is.child ∙ ap (λ z. if_present z is.parts.child) interior) ∙ f.1

pub node_leads : (d : Database) (root p : ℕ) (mid new : List Item) (it : Item) (level deeper : ℕ) (low high : Option ℤ) → it.task ≡ tasks.Node deeper low high → deeper ≡ suc level → it.page ≡ p → new ≡ mid ++ it ∷ []
    → ((on : ℕ) → FirstLeaf d p (suc level) on → FirstLeaf d root 1 on) → TopLeads d root (reverse new)
node_leads d root p mid new it level deeper low high task e q pushed leads =
    let top : reverse new ≡ it ∷ reverse mid = ap reverse pushed ∙ reverse-append mid (it ∷ []) in
    subst (TopLeads d root) (sym top) (subst (λ t. LeadsOn d root it.page t (TopLeads d root (reverse mid))) (sym task)
    (λ on f. leads on (subst (λ n. FirstLeaf d p n on) e (subst (λ n. FirstLeaf d n deeper on) q f))))

pub match_append : (tree : Tree) (xs ys : List Item) (ss ts : List Spot) → Match tree xs ss → Match tree ys ts → Match tree (xs ++ ys) (ss ++ ts)
match_append tree [] ys [] ts m n = n
match_append tree [] ys (s ∷ ss) ts m n = absurd m
match_append tree (x ∷ xs) ys [] ts m n = absurd m
match_append tree (x ∷ xs) ys (s ∷ ss) ts m n = (m.0, match_append tree xs ys ss ts m.1 n)

-- Some places are put on the stack, and then others.
pub push_both : (tree : Tree) (P Q R : Spot → Type 0) (old mid new : List Item) → Pushes tree P old mid → Pushes tree Q mid new → ((t : Spot) → P t → R t) → ((t : Spot) → Q t → R t) → ((t : Spot) → R t → P t ⊎ Q t)
    → ((s t : Spot) → Q s → P t → s.place ≢ t.place) → Pushes tree R old new
push_both tree P Q R old mid new p q from_p from_q either differ = record {
  items = q.items ++ p.items;
  spots = q.spots ++ p.spots;
  pushed = q.pushed ∙ ap (λ l. q.items ++ l) p.pushed ∙ sym (append_assoc q.items p.items (reverse old));
  match = match_append tree q.items p.items q.spots p.spots q.match p.match;
  only = every_append R q.spots p.spots (every_weaker Q R from_q q.spots q.only) (every_weaker P R from_p p.spots p.only);
  all = λ t h. ⊎_elim (λ a. in_right t q.spots p.spots (p.all t a)) (λ b. in_left t q.spots p.spots (q.all t b)) (either t h);
  distinct = subst Apart (sym (map_append (λ t. t.place) q.spots p.spots)) (apart_append (map (λ t. t.place) q.spots) (map (λ t. t.place) p.spots) q.distinct p.distinct
      (every_map (λ y. Every (λ z. y ≡ z → ⊥) (map (λ t. t.place) p.spots)) (λ t. t.place) q.spots (every_weaker Q (λ s. Every (λ z. s.place ≡ z → ⊥) (map (λ t. t.place) p.spots))
      (λ s h. every_map (λ z. s.place ≡ z → ⊥) (λ t. t.place) p.spots (every_weaker P (λ t. s.place ≡ t.place → ⊥) (λ t k. differ s t h k) p.spots p.only)) q.spots q.only)));
}

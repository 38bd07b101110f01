-- The rows of the schema of a well-formed database that is sound inside can be read.
use Rattle.std.proofs.Common.{◌≡◌, ◌∙◌, ℕ, zero, suc, ◌+◌, ◌<◌, ◌≤◌, List, [], ◌∷◌, ◌++◌, length, Bool, true, unwrap_or, refl, sym, ap, subst, inl, inr, arith}
use Rattle.std.specs.Prelude.{Option, None, IsSome, ℤ}
use Rattle.std.specs.Int.{cast_signed, w64}
use Rattle.std.proofs.lemmas.Bool.{cases_eq}
use Rattle.std.proofs.lemmas.List.{length-append, length-take}
use Rattle.sqval.specs.Bytes.{part, word}
use Rattle.sqval.specs.Database.{Database, page}
use Rattle.sqpage.specs.declared.cell.Cell.{Cell}
use Rattle.sqpage.specs.declared.cell.Parts.{Parts}
use Rattle.sqpage.specs.declared.kind.Kind.{Kind}
use Rattle.sqpage.specs.declared.kind.Kind.TheVariants.{TableLeaf, TableInterior, IndexLeaf, IndexInterior}
use Rattle.sqpage.specs.Lists.{In, Every, Apart, each_from}
use Rattle.sqpage.specs.Freelist.{IsPage, usable_size}
use Rattle.sqpage.specs.Page.{Page, is_interior, is_table, has_payload, head_at, cell_count, pointer, pointers_end_in, if_present, IsBtreePage}
use Rattle.sqpage.proofs.chain.ListsByRecursion.{every_in, every_append}
use Rattle.sqcheck.specs.declared.role.Role.TheVariants.{Btree}
use Rattle.sqcheck.specs.Places.{child, holder, Node, node, Spot, spot, used_in, page_as, IsCellAt, IsKeyBefore, InPageAs, first, stands_in, first_root_spot}
use Rattle.sqcheck.specs.Roles.{IsRoleOf}
use Rattle.sqcheck.specs.WellFormed.{IsReached, IsSound, IsSoundAs, IsSoundPage, WellFormedWith}
use Rattle.sqcheck.proofs.checks.ListsByRecursion.{every_weaker, apart_append, no_more}
use Rattle.sqrows.specs.Trees.{Entry, entry_of, IsChild, step_of, Along, Lists}
use Rattle.sqrows.specs.Rows.{Row, IsRowIn, AreRows, HasRows}
use Rattle.sqdeep.specs.Inside.{IsOfTree, IsSoundInside}
use Rattle.sqdeep.proofs.SoundTrees.{same_spot, sound_trees}

-- a page of a b-tree has each of its cells
cell_there : (b : Page) (i : ℕ) → IsBtreePage b → i < cell_count b → (cell : Cell) × IsCellAt b i cell
cell_there b i is lt =
    let has = is.cells i lt in
    let parts : Parts = has.0 in
    let cell : Cell = record {
      page = b.number;
      usable = length b.used;
      at = pointer b i;
      child = if_present (is_interior b.kind) parts.child;
      rowid = if_present (is_table b.kind) (cast_signed w64 parts.rowid);
      payload = if_present (has_payload b.kind) parts.payload;
      local = record { ref_ptr = (0, 0); now = part b.used parts.body parts.local };
      overflow = parts.overflow;
    } in
    (cell, (lt, record { parts = parts; has = has.1; page = refl; usable = refl; at = refl; child = refl; rowid = refl; payload = refl; local = refl; overflow = refl }))

-- a key, or none, comes before each cell
key_there : (b : Page) (x : Node) (i : ℕ) → IsBtreePage b → i ≤ cell_count b → (low : Option ℤ) × IsKeyBefore b x i low
key_there b x zero is le = (x.low, inl (refl, refl))
key_there b x (suc j) is le = let c = cell_there b j is (omega (arith, le)) in (c.0.rowid, inr (inl (j, c.0, refl, c.1, refl)))

-- page q is named as one on level n of a tree
abbrev IsOn : Database → (q n : ℕ) → Type 0
IsOn d q n = (s : Spot) × (x : Node) × IsReached d s × (s.page ≡ q) × (s.role ≡ node x) × (x.level ≡ n)

-- places lead from page a to page q, over k pages
abbrev Under : Database → (k a q : ℕ) → Type 0
Under d zero a q = a ≡ q
Under d (suc k) a q = (s : Spot) × IsReached d s × (s.page ≡ q) × Under d k a (holder s.place)

-- a page under page p, which is on level n, or page p itself
abbrev IsBelow : Database → (p n q : ℕ) → Type 0
IsBelow d p n q = (k : ℕ) × IsPage d q × Under d k p q × IsOn d q (k + n)

-- the same of a child of page p from one on
abbrev IsBelowChild : Database → (p from n q : ℕ) → Type 0
IsBelowChild d p from n q = (i : ℕ) × (t : Spot) × (from ≤ i) × IsReached d t × (t.place ≡ child p i) × IsBelow d t.page n q

abbrev HasRow : Database → Entry → Type 0
HasRow d e = (row : Row) × IsRowIn d e row

-- The cells of a tree of a table below page p, which is on level n, and the pages there.
record Listed (d : Database) (levels p n : ℕ) : Type 0 where
  pub count : ℕ
  pub cells : List Entry
  pub lists : Lists d true levels p count cells
  pub pages : List ℕ
  pub counted : length pages ≡ count
  pub apart : Apart pages
  pub are : Every (IsBelow d p n) pages
  pub rows : Every (HasRow d) cells

-- The same of its m children from child i on, which are on level n.
record Children (d : Database) (levels p n i m : ℕ) : Type 0 where
  pub count : ℕ
  pub cells : List Entry
  pub along : Along (Lists d true levels) (page_as d TableInterior p) (each_from i m (step_of TableInterior)) count cells
  pub pages : List ℕ
  pub counted : length pages ≡ count
  pub apart : Apart pages
  pub are : Every (IsBelowChild d p i n) pages
  pub rows : Every (HasRow d) cells

-- Child i of the page that s names.
record ChildOf (d : Database) (s : Spot) (x : Node) (i : ℕ) : Type 0 where
  pub t : Spot
  pub y : Node
  pub reached : IsReached d t
  pub place : t.place ≡ child s.page i
  pub role : t.role ≡ node y
  pub table : y.table ≡ x.table
  pub level : y.level ≡ suc x.level
  pub is : IsChild (page_as d TableInterior s.page) i t.page

-- numbers in a row
in_range : (i n q : ℕ) → i ≤ q → q < i + n → In q (each_from i n (λ j. j))
in_range i zero q le lt = absurd (omega (arith, le, lt))
in_range i (suc n) q le lt = elim (cases_eq q i) [
  | inl e ↦ inl e
  | inr ne ↦ inr (in_range (suc i) n q (omega (arith, le, ne)) (omega (arith, lt)))
]

long_range : (i n : ℕ) → length (each_from i n (λ j. j)) ≡ n
long_range i zero = refl
long_range i (suc n) = ap suc (long_range (suc i) n)

rows_of : (d : Database) (xs : List Entry) → Every (HasRow d) xs → (rows : List Row) × AreRows d xs rows
rows_of d [] h = ([], refl)
rows_of d (e ∷ xs) h = let more = rows_of d xs h.1 in (h.0.0 ∷ more.0, (h.0.0, more.0, h.0.1, more.1, refl))

-- the pointers lie in the usable part
pointers_in : (d : Database) (kind : Kind) (p : ℕ) → IsBtreePage (page_as d kind p) → pointers_end_in kind (used_in d p) p ≤ usable_size d
pointers_in d kind p is = let le : pointers_end_in kind (used_in d p) p ≤ length (used_in d p) = is.pointers in omega (arith, le, length-take (usable_size d) (page d p))

module _ (maps : Bool) (d : Database) (size : ℕ) (w : WellFormedWith maps d size) where
  sound : (s : Spot) → IsReached d s → IsSound d s
  sound s r = every_in (IsSound d) s w.places w.sound (w.all s r)

  sound_page : (s : Spot) (x : Node) → IsReached d s → s.role ≡ node x → IsSoundPage d s.page x
  sound_page s x r role = (subst (IsSoundAs d s.page) role (sound s r).sound_as).page

  -- a page is on one level
  one_on : (q n m : ℕ) → IsOn d q n → IsOn d q m → n ≡ m
  one_on q n m (s, x, r, e, role, l) (t, y, u, f, also, k) =
      let same : s ≡ t = same_spot maps d size w s t r u (e ∙ sym f) in
      let nodes : node x ≡ node y = sym role ∙ ap (λ (z : Spot). z.role) same ∙ also in
      let one : x ≡ y = cc in
      sym l ∙ ap (λ (z : Node). z.level) one ∙ k

  -- and under one page that lies so far above it
  one_under : (k a b q : ℕ) → Under d k a q → Under d k b q → a ≡ b
  one_under zero a b q u v = u ∙ sym v
  one_under (suc k) a b q (s, r, e, u) (t, h, f, v) =
      let same : s ≡ t = same_spot maps d size w s t r h (e ∙ sym f) in
      one_under k a b (holder s.place) u (subst (λ (z : Spot). Under d k b (holder z.place)) (sym same) v)

  above : (k a b q : ℕ) (t : Spot) → IsReached d t → t.page ≡ b → holder t.place ≡ a → Under d k b q → Under d (suc k) a q
  above zero a b q t r e h u = (t, r, e ∙ u, sym h)
  above (suc k) a b q t r e h (s, q_r, f, u) = (s, q_r, f, above k a b (holder s.place) t r e h u)

  -- no page lies under two children
  off : (p n i : ℕ) (t : Spot) → IsReached d t → t.place ≡ child p i → (q o : ℕ) → IsBelow d t.page n q → IsBelowChild d p (suc i) n o → q ≡ o → ⊥
  off p n i t r place q o (k, is, u, on) (j, v, le, r', place', (k', is', u', on')) e =
      let on_q : IsOn d q (k' + n) = subst (λ z. IsOn d z (k' + n)) (sym e) on' in
      let levels : k + n ≡ k' + n = one_on q (k + n) (k' + n) on on_q in
      let steps : k' ≡ k = omega (arith, levels) in
      let under : Under d k v.page q = subst (λ z. Under d k v.page z) (sym e) (subst (λ z. Under d z v.page o) steps u') in
      let spots : t ≡ v = same_spot maps d size w t v r r' (one_under k t.page v.page q u under) in
      let places : child p i ≡ child p j = sym place ∙ ap (λ (z : Spot). z.place) spots ∙ place' in
      let index : i ≡ j = cc in
      omega (arith, le, index)

  right_there : (s : Spot) (x : Node) (i : ℕ) → IsReached d s → s.role ≡ node x → IsBtreePage (page_as d TableInterior s.page) → i ≡ cell_count (page_as d TableInterior s.page) → ChildOf d s x i
  right_there s x i r role is e =
      let b : Page = page_as d TableInterior s.page in
      let k = key_there b x (cell_count b) is (let r : cell_count b ≤ cell_count b = omega arith in r) in
      let y : Node = record { tree = x.tree; table = x.table; schema = x.schema; level = suc x.level; low = k.0; high = x.high } in
      let t : Spot = spot (child s.page (cell_count b)) (word b.used (head_at b.number + 8)) (node y) in
      record {
        t = t;
        y = y;
        reached = stands_in r (sound s r) ((sound s r).named, subst (λ z. InPageAs d s.page z t) (sym role) (TableInterior, is.kind, inr (refl, inr (k.0, k.1, refl))));
        place = ap (child s.page) (sym e);
        role = refl;
        table = refl;
        level = refl;
        is = inr (e, refl);
      }

  left_there : (s : Spot) (x : Node) (i : ℕ) → IsReached d s → s.role ≡ node x → IsBtreePage (page_as d TableInterior s.page) → i < cell_count (page_as d TableInterior s.page) → ChildOf d s x i
  left_there s x i r role is lt =
      let b : Page = page_as d TableInterior s.page in
      let c = cell_there b i is lt in
      let k = key_there b x i is (omega (arith, lt)) in
      let y : Node = record { tree = x.tree; table = x.table; schema = x.schema; level = suc x.level; low = k.0; high = c.0.rowid } in
      let t : Spot = spot (child s.page i) (unwrap_or c.0.child 0) (node y) in
      record {
        t = t;
        y = y;
        reached = stands_in r (sound s r) ((sound s r).named, subst (λ z. InPageAs d s.page z t) (sym role) (TableInterior, is.kind, inr (refl, inl (i, c.0, k.0, c.1, k.1, refl))));
        place = refl;
        role = refl;
        table = refl;
        level = refl;
        is = inl (c.0, c.1, refl);
      }

  child_there : (s : Spot) (x : Node) (i : ℕ) → IsReached d s → s.role ≡ node x → IsBtreePage (page_as d TableInterior s.page) → i ≤ cell_count (page_as d TableInterior s.page) → ChildOf d s x i
  child_there s x i r role is le = elim (cases_eq i (cell_count (page_as d TableInterior s.page))) [
    | inl e ↦ right_there s x i r role is e
    | inr ne ↦ left_there s x i r role is (omega (arith, le, ne))
  ]

  children : (levels : ℕ) (s : Spot) (x : Node)
      → ((t : Spot) (y : Node) → IsReached d t → t.role ≡ node y → y.table ≡ true → levels + y.level ≡ 21 → Listed d levels t.page y.level)
      → IsReached d s → s.role ≡ node x → x.table ≡ true → suc levels + x.level ≡ 21 → IsBtreePage (page_as d TableInterior s.page)
      → (i m : ℕ) → i + m ≡ suc (cell_count (page_as d TableInterior s.page)) → Children d levels s.page (suc x.level) i m
  children levels s x lower r role table deep is i zero e = record { count = 0; cells = []; along = (refl, refl); pages = []; counted = refl; apart = tt; are = tt; rows = tt }
  children levels s x lower r role table deep is i (suc m) e =
      let p : ℕ = s.page in
      let n : ℕ = suc x.level in
      let c = child_there s x i r role is (omega (arith, e)) in
      let l : c.y.level ≡ suc x.level = c.level in
      let f : Listed d levels c.t.page n = subst (Listed d levels c.t.page) l (lower c.t c.y c.reached c.role (c.table ∙ table) (omega (arith, deep, l))) in
      let more = children levels s x lower r role table deep is (suc i) m (omega (arith, e)) in
      record {
        count = f.count + more.count;
        cells = f.cells ++ more.cells;
        along = (c.t.page, f.count, more.count, f.cells, more.cells, c.is, f.lists, more.along, refl, refl);
        pages = f.pages ++ more.pages;
        counted = (let a = f.counted in let b = more.counted in omega (arith, a, b, length-append f.pages more.pages));
        apart = apart_append f.pages more.pages f.apart more.apart (every_weaker (IsBelow d c.t.page n) (λ q. Every (λ o. q ≡ o → ⊥) more.pages)
            (λ q h. every_weaker (IsBelowChild d p (suc i) n) (λ o. q ≡ o → ⊥) (λ o g. off p n i c.t c.reached c.place q o h g) more.pages more.are) f.pages f.are);
        are = every_append (IsBelowChild d p i n) f.pages more.pages
            (every_weaker (IsBelow d c.t.page n) (IsBelowChild d p i n) (λ q h. (i, c.t, (let r : i ≤ i = omega arith in r), c.reached, c.place, h)) f.pages f.are)
            (every_weaker (IsBelowChild d p (suc i) n) (IsBelowChild d p i n) (λ q h. (h.0, h.1, (let le : suc i ≤ h.0 = h.2 in let r : i ≤ h.0 = omega (arith, le) in r), h.3, h.4, h.5)) more.pages more.are);
        rows = every_append (HasRow d) f.cells more.cells f.rows more.rows;
      }

  module _ (inside : IsSoundInside d) where
    row_there : (p root i : ℕ) (cell : Cell) → IsOfTree d TableLeaf root p → IsCellAt (page_as d TableLeaf p) i cell → HasRow d (entry_of i cell)
    row_there p root i cell of_tree at =
        let has = (inside.cells TableLeaf root p i cell of_tree at).holds (subst IsSome (sym at.1.payload) refl) in (
          record { rowid = cell.rowid; values = has.values },
          record { bytes = has.bytes; payload = record { cell = cell; is = refl; payload = has.payload }; read = has.read; rowid = refl },
        )

    leaf_cells : (Lower : (p k : ℕ) → List Entry → Type 0) (p root : ℕ) → IsBtreePage (page_as d TableLeaf p) → IsOfTree d TableLeaf root p
        → (i m : ℕ) → i + m ≡ cell_count (page_as d TableLeaf p) → (xs : List Entry) × Along Lower (page_as d TableLeaf p) (each_from i m (step_of TableLeaf)) 0 xs × Every (HasRow d) xs
    leaf_cells Lower p root is of_tree i zero e = ([], (refl, refl), tt)
    leaf_cells Lower p root is of_tree i (suc m) e =
        let c = cell_there (page_as d TableLeaf p) i is (omega (arith, e)) in
        let more = leaf_cells Lower p root is of_tree (suc i) m (omega (arith, e)) in
        (entry_of i c.0 ∷ more.0, (c.0, more.0, c.1, refl, more.1), (row_there p root i c.0 of_tree c.1, more.2))

    node_listed : (levels : ℕ) (s : Spot) (x : Node)
        → ((t : Spot) (y : Node) → IsReached d t → t.role ≡ node y → y.table ≡ true → levels + y.level ≡ 21 → Listed d levels t.page y.level)
        → IsReached d s → s.role ≡ node x → x.table ≡ true → suc levels + x.level ≡ 21
        → (kind : Kind) → IsBtreePage (page_as d kind s.page) → is_table kind ≡ true → Listed d (suc levels) s.page x.level
    node_listed levels s x lower r role table deep TableLeaf is t =
        let named : IsPage d s.page = (sound s r).named in
        let of_tree : IsOfTree d TableLeaf x.tree s.page = (s, r, refl, subst (λ z. IsRoleOf d s.page z (Btree TableLeaf x.tree)) (sym role) (TableLeaf, is.kind, refl)) in
        let c = leaf_cells (Lists d true levels) s.page x.tree is of_tree 0 (cell_count (page_as d TableLeaf s.page)) (omega arith) in
        record {
          count = suc 0;
          cells = c.0;
          lists = (TableLeaf, 0, named, is.kind, refl, pointers_in d TableLeaf s.page is, refl, c.1);
          pages = s.page ∷ [];
          counted = refl;
          apart = (tt, tt);
          are = ((0, named, refl, (s, x, r, refl, role, omega arith)), tt);
          rows = c.2;
        }
    node_listed levels s x lower r role table deep TableInterior is t =
        let p : ℕ = s.page in
        let named : IsPage d p = (sound s r).named in
        let b : Page = page_as d TableInterior p in
        let c = children levels s x lower r role table deep is 0 (cell_count b + 1) (omega arith) in
        record {
          count = suc c.count;
          cells = c.cells;
          lists = (TableInterior, c.count, named, is.kind, refl, pointers_in d TableInterior p is, refl, c.along);
          pages = p ∷ c.pages;
          counted = ap suc c.counted;
          apart = (
            every_weaker (IsBelowChild d p 0 (suc x.level)) (λ q. p ≡ q → ⊥) (λ q h e.
                let k : ℕ = h.5.0 in
                let level : x.level ≡ k + suc x.level = one_on q x.level (k + suc x.level) (s, x, r, e, role, refl) h.5.3 in
                omega (arith, level)) c.pages c.are,
            c.apart,
          );
          are = (
            (0, named, refl, (s, x, r, refl, role, omega arith)),
            every_weaker (IsBelowChild d p 0 (suc x.level)) (IsBelow d p x.level) (λ q h.
                let k : ℕ = h.5.0 in
                let level : k + suc x.level ≡ suc k + x.level = omega arith in
                (suc k, h.5.1, above k p h.1.page q h.1 h.3 refl (ap holder h.4) h.5.2, subst (IsOn d q) level h.5.3)) c.pages c.are,
          );
          rows = c.rows;
        }
    node_listed levels s x lower r role table deep IndexLeaf is t = absurd (cc)
    node_listed levels s x lower r role table deep IndexInterior is t = absurd (cc)

    listed : (levels : ℕ) (s : Spot) (x : Node) → IsReached d s → s.role ≡ node x → x.table ≡ true → levels + x.level ≡ 21 → Listed d levels s.page x.level
    listed zero s x r role table deep = absurd (let shallow : x.level ≤ 20 = (sound_page s x r role).shallow in omega (arith, shallow, deep))
    listed (suc levels) s x r role table deep =
        let h = sound_page s x r role in
        node_listed levels s x (listed levels) r role table deep h.kind h.page_is (h.same ∙ table)

    -- The schema has rows.
    pub schema_rows : (rows : List Row) × HasRows d 1 rows
    schema_rows =
        let x : Node = record { tree = 1; table = true; schema = true; level = 1; low = None; high = None } in
        let l : Listed d 20 1 1 = listed 20 first_root_spot x (first (inr refl)) refl refl refl in
        let rows = rows_of d l.cells l.rows in
        let few : length l.pages ≤ length (each_from 1 (length d) (λ j. j)) =
        no_more l.pages (each_from 1 (length d) (λ j. j)) l.apart (λ q i.
        let h : IsPage d q = (every_in (IsBelow d 1 1) q l.pages l.are i).1 in
        let low : 0 < q = h.0 in
        let high : q ≤ length d = h.1 in
        in_range 1 (length d) q (omega (arith, low)) (omega (arith, high))) in
        let all = l.counted in (
          rows.0,
          (
            l.cells,
            record { table = true; pages = l.count; room = (sound_trees maps d size w).room; within = omega (arith, few, all, long_range 1 (length d)); lists = l.lists },
            rows.1,
          ),
        )

-- The rows of the schema.
use Rattle.sqcheck.proofs.Below.{AllSchemaRows, Apart, AreSchemaRows, Bool, Cell, ChainRefused, Database, Every, Fault, Finds, HasKind, In, InRow, InRowAt, InRowBelow, InRowsOf, IsCellAt, IsPayload, IsReached, IsRootAt, IsRow, IsRowsPage, IsSchemaRow, IsSound, KeepsFound, Leads, List, Page, Root, RootsMatch, SameCell, Spot, StandsBy, TableLeaf, [], ap, apart_append, append-nil, append_assoc, arith, cases_eq, cases_lt, cell_count, cell_once, contents, drop, every_append, every_map, every_weaker, false, flat_map, in_cases, in_left, in_right, inl, inr, length, length-append, length-take-le, links, map, map_append, next_in, page, page_as, payload_size, refl, root, root_of_tree, spot, subst, suc, sym, take, take-append-le, take_all, true, zero, ℕ, ⊎_elim, ◌++◌, ◌+◌, ◌-◌, ◌/◌, ◌<◌, ◌∙◌, ◌∷◌, ◌≡◌, ◌≢◌, ◌≤◌, ◌⊎◌}
use Rattle.sqpage.specs.declared.fault.Fault.TheVariants as faults

-- a fault that can't be another than want of memory
pub is_no_memory : (fault : Fault) → ((fault ≢ faults.NoMemory) → ⊥) → fault ≡ faults.NoMemory
is_no_memory faults.PointerMap h = absurd (h (λ e. cc))
is_no_memory faults.Magic h = absurd (h (λ e. cc))
is_no_memory faults.PageSize h = absurd (h (λ e. cc))
is_no_memory faults.Fraction h = absurd (h (λ e. cc))
is_no_memory faults.Reserved h = absurd (h (λ e. cc))
is_no_memory faults.AutoVacuum h = absurd (h (λ e. cc))
is_no_memory faults.Kind h = absurd (h (λ e. cc))
is_no_memory faults.CellOutside h = absurd (h (λ e. cc))
is_no_memory faults.Overlap h = absurd (h (λ e. cc))
is_no_memory faults.Freeblock h = absurd (h (λ e. cc))
is_no_memory faults.Fragments h = absurd (h (λ e. cc))
is_no_memory faults.ChainCut h = absurd (h (λ e. cc))
is_no_memory faults.ChainLong h = absurd (h (λ e. cc))
is_no_memory faults.PageTwice h = absurd (h (λ e. cc))
is_no_memory faults.PageOutside h = absurd (h (λ e. cc))
is_no_memory faults.PageUnused h = absurd (h (λ e. cc))
is_no_memory faults.KeyOrder h = absurd (h (λ e. cc))
is_no_memory faults.Depth h = absurd (h (λ e. cc))
is_no_memory faults.FreeCount h = absurd (h (λ e. cc))
is_no_memory faults.Source h = absurd (h (λ e. cc))
is_no_memory faults.NoMemory h = refl
is_no_memory faults.SchemaRecord h = absurd (h (λ e. cc))

-- A chain is refused by no fault of a row.
pub no_row_fault : (d : Database) (cell : Cell) (fault : Fault) (at : ℕ) → fault ≡ faults.SchemaRecord → ¬ ChainRefused d cell fault at
no_row_fault d cell fault at is h = go (subst (λ f. ChainRefused d cell f at) is h)
  where
    go : ¬ ChainRefused d cell faults.SchemaRecord at
    go (inl cut) = absurd (let both : ◌≡◌ {A = Fault} faults.SchemaRecord faults.ChainCut = cut.0 in cc)
    go (inr broken) = broken.1

pages_once : (d : Database) (h k a at to : ℕ) (ps qs : List ℕ) → Leads d h a ps at 0 → Leads d k a qs to 0 → length ps ≡ length qs → ps ≡ qs
pages_once d h k a at to [] [] l m e = refl
pages_once d h k a at to [] (q ∷ qs) l m e = absurd (omega (arith, e))
pages_once d h k a at to (p ∷ ps) [] l m e = absurd (omega (arith, e))
pages_once d h k a at to (p ∷ ps) (q ∷ qs) l m e =
    let same : p ≡ q = sym l.0 ∙ m.0 in
    let n : length ps ≡ length qs = omega (arith, e) in
    let rest : ps ≡ qs = pages_once d p q (next_in (page d p)) at to ps qs l.2 (subst (λ z. Leads d q (next_in (page d z)) qs to 0) (sym same) m.2) n in
    ap (λ z. z ∷ ps) same ∙ ap (λ l. q ∷ l) rest

pub links_same : (c e : Cell) → SameCell c e → links c ≡ links e
links_same c e s = let u = s.usable in let p = s.payload in let l : length c.local.now ≡ length e.local.now = ap length s.local in rw (u, p, l) refl

payload_once : (d : Database) (c e : Cell) (x y : List ℕ) → SameCell c e → IsPayload d c x → IsPayload d e y → x ≡ y
payload_once d c e x y s f g =
    let n : length f.pages ≡ length g.pages = f.enough ∙ links_same c e s ∙ sym g.enough in
    let pages : f.pages ≡ g.pages = pages_once d c.page e.page c.overflow f.last g.last f.pages g.pages f.follows.linked (subst (λ o. Leads d e.page o g.pages g.last 0) (sym s.overflow) g.follows.linked) n in
    f.content_is ∙ ap (λ o. take (Rattle.std.proofs.Common.unwrap_or o 0) (c.local.now ++ contents d c.usable f.pages)) s.payload
    ∙ ap (λ l. take (payload_size e) (l ++ contents d c.usable f.pages)) s.local ∙ ap (λ u. take (payload_size e) (e.local.now ++ contents d u f.pages)) s.usable
    ∙ ap (λ ps. take (payload_size e) (e.local.now ++ contents d e.usable ps)) pages ∙ sym g.content_is

-- the payload of a cell is that of the same cell
pub payload_as : (d : Database) (c e : Cell) (x : List ℕ) → SameCell c e → IsPayload d c x → IsPayload d e x
payload_as d c e x s f = record {
  pages = f.pages;
  last = f.last;
  enough = f.enough ∙ links_same c e s;
  follows = record { linked = subst (λ h. Leads d h e.overflow f.pages f.last 0) s.page (subst (λ o. Leads d c.page o f.pages f.last 0) s.overflow f.follows.linked); distinct = f.follows.distinct };
  content_is = f.content_is ∙ ap (λ o. take (Rattle.std.proofs.Common.unwrap_or o 0) (c.local.now ++ contents d c.usable f.pages)) s.payload
      ∙ ap (λ l. take (payload_size e) (l ++ contents d c.usable f.pages)) s.local ∙ ap (λ u. take (payload_size e) (e.local.now ++ contents d u f.pages)) s.usable;
}

-- a row's bytes are determined
pub row_once : (d : Database) (b : Page) (i : ℕ) (x y : List ℕ) → IsRow d b i x → IsRow d b i y → x ≡ y
row_once d b i x y f g = payload_once d f.cell g.cell x y (cell_once b i f.cell g.cell f.is.1 g.is.1) f.payload g.payload

pub roots_append : (d : Database) (xs ys : List Root) (ss ts : List Spot) → RootsMatch d xs ss → RootsMatch d ys ts → RootsMatch d (xs ++ ys) (ss ++ ts)
roots_append d [] ys [] ts m n = n
roots_append d [] ys (s ∷ ss) ts m n = absurd m
roots_append d (x ∷ xs) ys [] ts m n = absurd m
roots_append d (x ∷ xs) ys (s ∷ ss) ts m n = (m.0, roots_append d xs ys ss ts m.1 n)

-- Roots are found, and then others.
find_both : (d : Database) (P Q R : Spot → Type 0) (old mid new : List Root) → Finds d P old mid → Finds d Q mid new → ((t : Spot) → P t → R t) → ((t : Spot) → Q t → R t) → ((t : Spot) → R t → P t ⊎ Q t)
    → ((s t : Spot) → P s → Q t → s.place ≢ t.place) → Finds d R old new
find_both d P Q R old mid new p q from_p from_q either differ = record {
  roots = p.roots ++ q.roots;
  spots = p.spots ++ q.spots;
  added = q.added ∙ ap (λ l. l ++ q.roots) p.added ∙ append_assoc old p.roots q.roots;
  match = roots_append d p.roots q.roots p.spots q.spots p.match q.match;
  only = every_append R p.spots q.spots (every_weaker P R from_p p.spots p.only) (every_weaker Q R from_q q.spots q.only);
  all = λ t h. ⊎_elim (λ a. in_left t p.spots q.spots (p.all t a)) (λ b. in_right t p.spots q.spots (q.all t b)) (either t h);
  distinct = subst Apart (sym (map_append (λ t. t.place) p.spots q.spots)) (apart_append (map (λ t. t.place) p.spots) (map (λ t. t.place) q.spots) p.distinct q.distinct
      (every_map (λ y. Every (λ z. y ≡ z → ⊥) (map (λ t. t.place) q.spots)) (λ t. t.place) p.spots (every_weaker P (λ s. Every (λ z. s.place ≡ z → ⊥) (map (λ t. t.place) q.spots))
      (λ s h. every_map (λ z. s.place ≡ z → ⊥) (λ t. t.place) q.spots (every_weaker Q (λ t. s.place ≡ t.place → ⊥) (λ t k. differ s t h k) q.spots q.only)) p.spots p.only)));
}

find_nothing : (d : Database) (P : Spot → Type 0) (old : List Root) → ((t : Spot) → ¬ P t) → Finds d P old old
find_nothing d P old never = record { roots = []; spots = []; added = sym (append-nil old); match = tt; only = tt; all = λ t h. never t h; distinct = tt }

find_as : (d : Database) (P Q : Spot → Type 0) (old new : List Root) → Finds d P old new → ((t : Spot) → P t → Q t) → ((t : Spot) → Q t → P t) → Finds d Q old new
find_as d P Q old new p out back = record { roots = p.roots; spots = p.spots; added = p.added; match = p.match; only = every_weaker P Q out p.spots p.only; all = λ t h. p.all t (back t h); distinct = p.distinct }

find_one : (d : Database) (P : Spot → Type 0) (old new : List Root) (found : Root) (s : Spot) → new ≡ old ++ found ∷ [] → IsRootAt d found s → P s → ((t : Spot) → P t → t ≡ s) → Finds d P old new
find_one d P old new found s e is p once = record { roots = found ∷ []; spots = s ∷ []; added = e; match = (is, tt); only = (p, tt); all = λ t h. inl (once t h); distinct = (tt, tt) }

keep_both : (d : Database) (P Q R : Spot → Type 0) (old mid new : List Root) → KeepsFound d P old mid → KeepsFound d Q mid new → ((t : Spot) → P t → R t) → ((t : Spot) → Q t → R t) → ((t : Spot) → R t → P t ⊎ Q t)
    → ((s t : Spot) → P s → Q t → s.place ≢ t.place) → KeepsFound d R old new
keep_both d P Q R old mid new p q from_p from_q either differ = λ all are. let a = p all are in let b = q a.0 a.2 in (b.0, find_both d P Q R all a.0 b.0 a.1 b.1 from_p from_q either differ, b.2)

pub keep_nothing : (d : Database) (P : Spot → Type 0) (old : List Root) → ((t : Spot) → ¬ P t) → KeepsFound d P old old
keep_nothing d P old never = λ all are. (all, find_nothing d P all never, are)

keep_as : (d : Database) (P Q : Spot → Type 0) (old new : List Root) → KeepsFound d P old new → ((t : Spot) → P t → Q t) → ((t : Spot) → Q t → P t) → KeepsFound d Q old new
keep_as d P Q old new p out back = λ all are. let a = p all are in (a.0, find_as d P Q all a.0 a.1 out back, a.2)

-- what is kept of a list with an element more
kept_more : (n : ℕ) (all old new : List Root) (x : Root) → old ≡ take (suc n) all → (n < length old → new ≡ old) → (length old ≤ n → new ≡ old ++ x ∷ []) → new ≡ take (suc n) (all ++ x ∷ [])
kept_more n all old new x are full room = ⊎_elim many few (cases_lt n (length all))
  where
    few : length all ≤ n → new ≡ take (suc n) (all ++ x ∷ [])
    few le =
        let same : old ≡ all = are ∙ take_all (suc n) all (omega (arith, le)) in
        let short : length old ≤ n = omega (arith, le, ap length same) in
        let whole : take (suc n) (all ++ x ∷ []) ≡ all ++ x ∷ [] = take_all (suc n) (all ++ x ∷ []) (omega (arith, le, length-append all (x ∷ []))) in
        room short ∙ ap (λ l. l ++ x ∷ []) same ∙ sym whole

    many : n < length all → new ≡ take (suc n) (all ++ x ∷ [])
    many lt =
        let is : length (take (suc n) all) ≡ suc n = length-take-le (suc n) all (omega (arith, lt)) in
        let long : n < length old = omega (arith, is, ap length are) in
        full long ∙ are ∙ sym (take-append-le (suc n) all (x ∷ []) (omega (arith, lt)))

keep_one : (d : Database) (P : Spot → Type 0) (old new : List Root) (found : Root) (s : Spot) → (length d < length old → new ≡ old) → (length old ≤ length d → new ≡ old ++ found ∷ []) → IsRootAt d found s → P s → ((t : Spot) → P t → t ≡ s) → KeepsFound d P old new
keep_one d P old new found s full room is p once = λ all are. (all ++ found ∷ [], find_one d P all (all ++ found ∷ []) found s refl is p once, kept_more (length d) all old new found are full room)

-- A row more.
pub row_more : (d : Database) (p n r : ℕ) (bytes : List ℕ) (cell : Cell) (old mid new : List Root) → IsCellAt (page_as d TableLeaf p) n cell → IsPayload d cell bytes → IsSchemaRow bytes r → ((q : ℕ) → IsSchemaRow bytes q → q ≡ r)
    → (r ≡ 0 → new ≡ mid) → (length d < length mid → new ≡ mid) → (r ≢ 0 → length mid ≤ length d → new ≡ mid ++ record { holder = p; page = r } ∷ []) → KeepsFound d (InRowBelow d p n) old mid → AreSchemaRows d p n
    → KeepsFound d (InRowBelow d p (n + 1)) old new × AreSchemaRows d p (n + 1)
row_more d p n r bytes cell old mid new is payload row once zero' full found finds rows = (
  keep_both d (InRowBelow d p n) (InRowAt d p n) (InRowBelow d p (n + 1)) old mid new finds here
      (λ t h. (h.0, h.1, h.2, (let lt : h.0 < n = h.3 in let k : h.0 < n + 1 = omega arith in k), h.4, h.5, h.6, h.7))
      (λ t h. (n, h.0, h.1, (let k : n < n + 1 = omega arith in k), h.2, h.3, h.4, h.5))
      (λ t h. elim (cases_eq h.0 n) [
        | inl same ↦ inr (h.1, h.2, subst (λ i. IsRow d (page_as d TableLeaf p) i h.1) same h.4, h.5, h.6, h.7 ∙ ap (λ i. spot (root p i) h.2 (root_of_tree d h.2)) same)
        | inr ne ↦ inl (h.0, h.1, h.2, (let lt : h.0 < n + 1 = h.3 in let k : h.0 < n = omega arith in k), h.4, h.5, h.6, h.7)
      ])
      (λ s t a b e. let lt : a.0 < n = a.3 in let both : root p a.0 ≡ root p n = sym (ap (λ (z : Spot). z.place) a.7) ∙ e ∙ ap (λ (z : Spot). z.place) b.5 in let i : a.0 ≡ n = cc in absurd (omega arith)),
  (λ i x lt is_row. elim (cases_eq i n) [
    | inl same ↦ (r, subst (λ b. IsSchemaRow b r) (row_once d (page_as d TableLeaf p) n bytes x this (subst (λ j. IsRow d (page_as d TableLeaf p) j x) same is_row)) row)
    | inr ne ↦ rows i x (omega (arith, lt, ne)) is_row
  ]),
)
  where
    this : IsRow d (page_as d TableLeaf p) n bytes
    this = record { cell = cell; is = is; payload = payload }

    only : (t : Spot) → (h : InRowAt d p n t) → h.1 ≡ r
    only t h = once h.1 (subst (λ b. IsSchemaRow b h.1) (row_once d (page_as d TableLeaf p) n h.0 bytes h.2 this) h.3)

    here : KeepsFound d (InRowAt d p n) mid new
    here = elim (cases_eq r 0) [
      | inl z ↦ subst (KeepsFound d (InRowAt d p n) mid) (sym (zero' z)) (keep_nothing d (InRowAt d p n) mid (λ t h. h.4 (only t h ∙ z)))
      | inr nz ↦ keep_one d (InRowAt d p n) mid new (record { holder = p; page = r }) (spot (root p n) r (root_of_tree d r)) full (found nz) (record { page = refl; stands = refl; role = refl }) (bytes, r, this, row, nz, refl)
          (λ t h. h.5 ∙ ap (λ q. spot (root p n) q (root_of_tree d q)) (only t h))
    ]

-- A row that is none of the schema.
pub row_stands : (d : Database) (maps : Bool) (size p n : ℕ) (bytes : List ℕ) (cell : Cell) → IsRowsPage d p → IsCellAt (page_as d TableLeaf p) n cell → IsPayload d cell bytes → ((r : ℕ) → ¬ IsSchemaRow bytes r) → StandsBy (IsReached d) (IsSound d) maps d size faults.SchemaRecord p
row_stands d maps size p n bytes cell w is payload never =
    (w.spot, w.x, w.reached, w.names, w.page, w.role, (w.schema, (TableLeaf, w.page_is, (refl, n, bytes, record { cell = cell; is = is; payload = payload }, never))))

-- All rows of a page.
pub all_rows : (d : Database) (p n : ℕ) (old new : List Root) → HasKind d TableLeaf p → n ≡ cell_count (page_as d TableLeaf p) → KeepsFound d (InRowBelow d p n) old new × AreSchemaRows d p n → KeepsFound d (InRow d p) old new × AllSchemaRows d p
all_rows d p n old new has e both = (
  keep_as d (InRowBelow d p n) (InRow d p) old new both.0
      (λ t h. (has, h.0, h.1, h.2, h.4, h.5, h.6, h.7))
      (λ t h. (h.1, h.2, h.3, (let lt : h.1 < cell_count (page_as d TableLeaf p) = h.4.is.0 in subst (λ m. h.1 < m) (sym e) lt), h.4, h.5, h.6, h.7)),
  (λ i bytes row. both.1 i bytes (let lt : i < cell_count (page_as d TableLeaf p) = row.is.0 in subst (λ m. i < m) (sym e) lt) row),
)

-- A page of rows more.
pub page_more : (d : Database) (pages : List ℕ) (p : ℕ) (old mid new : List Root) → ¬ In p pages → KeepsFound d (InRowsOf d pages) old mid → KeepsFound d (InRow d p) mid new → KeepsFound d (InRowsOf d (pages ++ p ∷ [])) old new
page_more d pages p old mid new fresh a b =
    keep_both d (InRowsOf d pages) (InRow d p) (InRowsOf d (pages ++ p ∷ [])) old mid new a b
    (λ t h. (h.0, in_left h.0 pages (p ∷ []) h.1, h.2))
    (λ t h. (p, in_right p pages (p ∷ []) (inl refl), h))
    (λ t h. ⊎_elim (λ was. inl (h.0, was, h.2)) (λ one. elim one [ inl e ↦ inr (subst (λ q. InRow d q t) e h.2) | inr none ↦ absurd none ]) (in_cases h.0 pages (p ∷ []) h.1))
    (λ s t x y e. let both : root x.0 x.2.1 ≡ root p y.1 = sym (ap (λ (z : Spot). z.place) x.2.7) ∙ e ∙ ap (λ (z : Spot). z.place) y.7 in let q : x.0 ≡ p = cc in fresh (subst (λ z. In z pages) q x.1))

pub pages_none : (d : Database) (old : List Root) → KeepsFound d (InRowsOf d []) old old
pages_none d old = keep_nothing d (InRowsOf d []) old (λ t h. h.1)

-- an element is not among those before it
pub not_before : (xs : List ℕ) (i x : ℕ) → i < length xs → x ≡ Rattle.std.proofs.Common.get_or xs i 0 → Apart xs → ¬ In x (take i xs)
not_before [] i x lt e a h = absurd (omega (arith, lt))
not_before (y ∷ xs) zero x lt e a h = h
not_before (y ∷ xs) (suc i) x lt e a h = ⊎_elim (λ same. every_at xs i x (omega (arith, lt)) e a.0 (sym same)) (λ more. not_before xs i x (omega (arith, lt)) e a.1 more) h
  where
    every_at : (ys : List ℕ) (i x : ℕ) → i < length ys → x ≡ Rattle.std.proofs.Common.get_or ys i 0 → Every (λ z. y ≡ z → ⊥) ys → y ≡ x → ⊥
    every_at [] i x lt e h f = absurd (omega (arith, lt))
    every_at (z ∷ ys) zero x lt e h f = h.0 (f ∙ e)
    every_at (z ∷ ys) (suc i) x lt e h f = every_at ys i x (omega (arith, lt)) e h.1 f

pub every_index : (P : ℕ → Type 0) (xs : List ℕ) (i x : ℕ) → i < length xs → x ≡ Rattle.std.proofs.Common.get_or xs i 0 → Every P xs → P x
every_index P [] i x lt e h = absurd (omega (arith, lt))
every_index P (y ∷ xs) zero x lt e h = subst P (sym e) h.0
every_index P (y ∷ xs) (suc i) x lt e h = every_index P xs i x (omega (arith, lt)) e h.1

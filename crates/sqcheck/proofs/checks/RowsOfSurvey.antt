-- The roots that a survey finds in the rows of the schema.
use Rattle.sqcheck.proofs.Between.{AddsRoot, AddsRoots, Apart, Cell, CheckError, Database, Err, Every, HasKind, IfErr, IfOk, In, InRow, InRowAt, InRowBelow, InRowsOf, IsCellAt, IsCellFound, IsFound, IsInShortRow, IsPayload, IsRootAt, IsRow, IsSchemaRow, List, Ok, Result, Root, RootsMatch, Spot, TableLeaf, [], ap, apart_append, append-nil, append_assoc, arith, bytes_beyond, cases_eq, cell_count, cell_once, every_append, every_map, every_weaker, in_cases, in_left, in_right, inl, inr, length, length-append, links, map, map_append, page_as, refl, root, root_of_tree, roots_append, row_once, spot, subst, suc, sym, ℕ, ⊎_elim, ◌++◌, ◌+◌, ◌-◌, ◌/◌, ◌<◌, ◌∙◌, ◌∷◌, ◌≡◌, ◌≢◌, ◌≤◌, ◌⊎◌}
use Rattle.sqpage.specs.declared.fault.Fault.TheVariants as faults

pub adds_nothing : (d : Database) (P : Spot → Type 0) (old new : List Root) → new ≡ old → ((t : Spot) → P t → ¬ IsInShortRow d t) → AddsRoots d P old new
adds_nothing d P old new e never = record { more = []; spots = []; added = e ∙ sym (append-nil old); match = tt; only = tt; all = λ t p short. absurd (never t p short); distinct = tt }

adds_full : (d : Database) (P : Spot → Type 0) (old new : List Root) → new ≡ old → length d < length old → AddsRoots d P old new
adds_full d P old new e full = record {
  more = [];
  spots = [];
  added = e ∙ sym (append-nil old);
  match = tt;
  only = tt;
  all = λ t p short. inr (let n = ap (λ (l : List Root). length l) e in omega (arith, n, full));
  distinct = tt;
}

adds_one : (d : Database) (P : Spot → Type 0) (old new : List Root) (found : Root) (s : Spot) → new ≡ old ++ found ∷ [] → IsRootAt d found s → P s → ((t : Spot) → P t → t ≡ s) → AddsRoots d P old new
adds_one d P old new found s e is p once = record { more = found ∷ []; spots = s ∷ []; added = e; match = (is, tt); only = (p, tt); all = λ t h short. inl (inl (once t h)); distinct = (tt, tt) }

-- Roots are added, and then others.
pub adds_both : (d : Database) (P Q R : Spot → Type 0) (old mid new : List Root) → AddsRoots d P old mid → AddsRoots d Q mid new → ((t : Spot) → P t → R t) → ((t : Spot) → Q t → R t) → ((t : Spot) → R t → P t ⊎ Q t)
    → ((s t : Spot) → P s → Q t → s.place ≢ t.place) → AddsRoots d R old new
adds_both d P Q R old mid new p q from_p from_q either differ = record {
  more = p.more ++ q.more;
  spots = p.spots ++ q.spots;
  added = q.added ∙ ap (λ l. l ++ q.more) p.added ∙ append_assoc old p.more q.more;
  match = roots_append d p.more q.more p.spots q.spots p.match q.match;
  only = every_append R p.spots q.spots (every_weaker P R from_p p.spots p.only) (every_weaker Q R from_q q.spots q.only);
  all = λ t h short. ⊎_elim (λ a. ⊎_elim (λ i. inl (in_left t p.spots q.spots i)) (λ full. inr (longer full)) (p.all t a short))
      (λ b. ⊎_elim (λ i. inl (in_right t p.spots q.spots i)) (λ full. inr full) (q.all t b short)) (either t h);
  distinct = subst Apart (sym (map_append (λ t. t.place) p.spots q.spots)) (apart_append (map (λ t. t.place) p.spots) (map (λ t. t.place) q.spots) p.distinct q.distinct
      (every_map (λ y. Every (λ z. y ≡ z → ⊥) (map (λ t. t.place) q.spots)) (λ t. t.place) p.spots (every_weaker P (λ s. Every (λ z. s.place ≡ z → ⊥) (map (λ t. t.place) q.spots))
      (λ s h. every_map (λ z. s.place ≡ z → ⊥) (λ t. t.place) q.spots (every_weaker Q (λ t. s.place ≡ t.place → ⊥) (λ t k. differ s t h k) q.spots q.only)) p.spots p.only)));
}
  where
    longer : length d < length mid → length d < length new
    longer full = omega (arith, full, ap (λ (l : List Root). length l) q.added, length-append mid q.more)

pub adds_as : (d : Database) (P Q : Spot → Type 0) (old new : List Root) → AddsRoots d P old new → ((t : Spot) → P t → Q t) → ((t : Spot) → Q t → P t) → AddsRoots d Q old new
adds_as d P Q old new p out back = record { more = p.more; spots = p.spots; added = p.added; match = p.match; only = every_weaker P Q out p.spots p.only; all = λ t h short. p.all t (back t h) short; distinct = p.distinct }

-- The row in a cell.
pub row_adds : (d : Database) (count : ℕ) (cell : Cell) (found : Result ℕ CheckError) (old new : List Root) → (c : IsCellFound d cell) → count ≡ length d
    → IfOk found (λ r. (bytes : List ℕ) × IsPayload d cell bytes × IsSchemaRow bytes r × ((q : ℕ) → IsSchemaRow bytes q → q ≡ r))
    → ((bytes : List ℕ) → IsPayload d cell bytes → IfErr found (λ e. e.fault ≢ faults.Source → (e.fault ≡ faults.NoMemory) ⊎ ((e.fault ≡ faults.SchemaRecord)
    × (e.page ≡ cell.page) × (bytes : List ℕ) × IsPayload d cell bytes × ((r : ℕ) → ¬ IsSchemaRow bytes r))))
    → AddsRoot count cell.page found old new → AddsRoots d (InRowAt d cell.page c.0) old new
row_adds d count cell (Err e) old new c same ok err (none, going) = adds_nothing d (InRowAt d cell.page c.0) old new none never
  where
    this : (bytes : List ℕ) → IsPayload d cell bytes → IsRow d (page_as d TableLeaf cell.page) c.0 bytes
    this bytes payload = record { cell = cell; is = c.3; payload = payload }

    never : (t : Spot) → InRowAt d cell.page c.0 t → ¬ IsInShortRow d t
    never t (bytes, r, row, is, some, eq) short =
        let payload = payload_of row in
        elim (err bytes payload (λ f. going (inl f))) [
          | inl memory ↦ going (inr memory)
          | inr wrong ↦ wrong.4 r (subst (λ b. IsSchemaRow b r) (row_once d (page_as d TableLeaf cell.page) c.0 bytes wrong.2 row (this wrong.2 wrong.3)) is)
        ]
      where
        payload_of : IsRow d (page_as d TableLeaf cell.page) c.0 bytes → IsPayload d cell bytes
        payload_of row = Rattle.sqcheck.proofs.checks.RowsOfSchema.payload_as d row.cell cell bytes (cell_once (page_as d TableLeaf cell.page) c.0 row.cell cell row.is.1 c.3.1) row.payload
row_adds d count cell (Ok r) old new c same ok err adds = elim adds [
  | inl zero' ↦ adds_nothing d (InRowAt d cell.page c.0) old new zero'.1 (λ t h short. h.4 (only t h ∙ zero'.0))
  | inr more ↦ elim more [
    | inl one ↦ adds_one d (InRowAt d cell.page c.0) old new (record { holder = cell.page; page = r }) (spot (root cell.page c.0) r (root_of_tree d r)) one.1 (record { page = refl; stands = refl; role = refl })
        (ok.0, r, this, ok.2, one.0, refl) (λ t h. h.5 ∙ ap (λ q. spot (root cell.page c.0) q (root_of_tree d q)) (only t h))
    | inr full ↦ adds_full d (InRowAt d cell.page c.0) old new full.0 (subst (λ n. n < length old) same full.1)
  ]
]
  where
    this : IsRow d (page_as d TableLeaf cell.page) c.0 ok.0
    this = record { cell = cell; is = c.3; payload = ok.1 }

    only : (t : Spot) → (h : InRowAt d cell.page c.0 t) → h.1 ≡ r
    only t h = ok.3 h.1 (subst (λ b. IsSchemaRow b h.1) (row_once d (page_as d TableLeaf cell.page) c.0 h.0 ok.0 h.2 this) h.3)

-- A cell whose chain isn't its own has one.
pub chain_adds : (d : Database) (cell : Cell) (old : List Root) → (c : IsCellFound d cell) → (bytes_beyond cell ≢ 0) → AddsRoots d (InRowAt d cell.page c.0) old old
chain_adds d cell old c some = adds_nothing d (InRowAt d cell.page c.0) old old refl (λ t h short.
    let both : root cell.page c.0 ≡ root short.0 short.1 = sym (ap (λ (z : Spot). z.place) h.5) ∙ short.2 in
    let p : short.0 ≡ cell.page = cc in
    let i : short.1 ≡ c.0 = cc in
    some (short.3 cell (subst (λ q. IsCellAt (page_as d TableLeaf q) short.1 cell) (sym p) (subst (λ j. IsCellAt (page_as d TableLeaf cell.page) j cell) (sym i) c.3))))

-- A row more of a page.
pub rows_add : (d : Database) (p n : ℕ) (old mid new : List Root) → AddsRoots d (InRowBelow d p n) old mid → AddsRoots d (InRowAt d p n) mid new → AddsRoots d (InRowBelow d p (n + 1)) old new
rows_add d p n old mid new a b = adds_both d (InRowBelow d p n) (InRowAt d p n) (InRowBelow d p (n + 1)) old mid new a b
    (λ t h. (h.0, h.1, h.2, (let lt : h.0 < n = h.3 in let k : h.0 < n + 1 = omega arith in k), h.4, h.5, h.6, h.7))
    (λ t h. (n, h.0, h.1, (let k : n < n + 1 = omega arith in k), h.2, h.3, h.4, h.5))
    (λ t h. elim (cases_eq h.0 n) [
      | inl same ↦ inr (h.1, h.2, subst (λ i. IsRow d (page_as d TableLeaf p) i h.1) same h.4, h.5, h.6, h.7 ∙ ap (λ i. spot (root p i) h.2 (root_of_tree d h.2)) same)
      | inr ne ↦ inl (h.0, h.1, h.2, (let lt : h.0 < n + 1 = h.3 in let k : h.0 < n = omega arith in k), h.4, h.5, h.6, h.7)
    ])
    (λ s t x y e. let lt : x.0 < n = x.3 in let both : root p x.0 ≡ root p n = sym (ap (λ (z : Spot). z.place) x.7) ∙ e ∙ ap (λ (z : Spot). z.place) y.5 in let i : x.0 ≡ n = cc in absurd (omega arith))

pub none_below : (d : Database) (p : ℕ) (old : List Root) → AddsRoots d (InRowBelow d p 0) old old
none_below d p old = adds_nothing d (InRowBelow d p 0) old old refl (λ t h short. let lt : h.0 < 0 = h.3 in absurd (omega arith))

-- All rows of a page.
pub page_adds : (d : Database) (p n : ℕ) (old new : List Root) → HasKind d TableLeaf p → n ≡ cell_count (page_as d TableLeaf p) → AddsRoots d (InRowBelow d p n) old new → AddsRoots d (InRow d p) old new
page_adds d p n old new has e adds = adds_as d (InRowBelow d p n) (InRow d p) old new adds
    (λ t h. (has, h.0, h.1, h.2, h.4, h.5, h.6, h.7))
    (λ t h. (h.1, h.2, h.3, (let lt : h.1 < cell_count (page_as d TableLeaf p) = h.4.is.0 in subst (λ m. h.1 < m) (sym e) lt), h.4, h.5, h.6, h.7))

-- A page of rows more.
pub pages_add : (d : Database) (pages : List ℕ) (p : ℕ) (old mid new : List Root) → ¬ In p pages → AddsRoots d (InRowsOf d pages) old mid → AddsRoots d (InRow d p) mid new → AddsRoots d (InRowsOf d (pages ++ p ∷ [])) old new
pages_add d pages p old mid new fresh a b = adds_both d (InRowsOf d pages) (InRow d p) (InRowsOf d (pages ++ p ∷ [])) old mid new a b
    (λ t h. (h.0, in_left h.0 pages (p ∷ []) h.1, h.2))
    (λ t h. (p, in_right p pages (p ∷ []) (inl refl), h))
    (λ t h. ⊎_elim (λ was. inl (h.0, was, h.2)) (λ one. elim one [ inl e ↦ inr (subst (λ q. InRow d q t) e h.2) | inr none ↦ absurd none ]) (in_cases h.0 pages (p ∷ []) h.1))
    (λ s t x y e. let both : root x.0 x.2.1 ≡ root p y.1 = sym (ap (λ (z : Spot). z.place) x.2.7) ∙ e ∙ ap (λ (z : Spot). z.place) y.7 in let q : x.0 ≡ p = cc in fresh (subst (λ z. In z pages) q x.1))

pub none_of : (d : Database) (old : List Root) → AddsRoots d (InRowsOf d []) old old
none_of d old = adds_nothing d (InRowsOf d []) old old refl (λ t h short. h.1)

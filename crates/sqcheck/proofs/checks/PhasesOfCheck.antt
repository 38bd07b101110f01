-- The phases of a check: the freelist, the schema's tree, its rows, the other trees, and the end.
use Rattle.sqcheck.proofs.Between.{Agenda, AllSchemaRows, Apart, AreCounted, AreEachOnce, AreMapped, Bool, Cell, Counts, Database, Every, Finds, FourBytes, HasEntry, HasKind, HasSoundHeader, HasSoundRows, In, InLink, InPageAs, InRow, InRowAs, InRowsOf, IndexInterior, IndexLeaf, IsAside, IsAsideWith, IsAutoVacuum, IsBtreePage, IsCell, IsCellAt, IsFirst, IsHome, IsLargestRoot, IsPage, IsPageSize, IsPayload, IsReached, IsReport, IsRootAt, IsRowsPage, IsSchemaLeaf, IsSetAside, IsSound, IsSoundAs, IsSoundPage, IsWithin, Kind, Leads, LinkFits, List, MarksAside, Node, NotRoot, NotSchema, Off, Page, Place, Report, Root, RootsMatch, Spot, StandsBy, StandsIn, StandsInRow, Stood, TableInterior, TableLeaf, WellFormedWith, [], ap, arith, bytes_beyond, cases_lt, child, cond, contents, count_by-le-length, drop, drop_all, either, every_from_in, every_in, every_weaker, false, first, first_root, first_root_spot, first_sized, first_trunk, first_trunk_place, first_trunk_spot, free_leaf, free_pages, get_or, has_payload, holder, home, if_present, in_left, in_map, in_right, inl, inr, is_free, is_interior, is_marked, is_table, kind_once, leaf, length, length-take-le, link, links, local_size, nat_lt, needs, next, next_in, no_more, node, not, numbers, overflow, page, page_as, passing, payload_size, places, refl, root, root_of_tree, spot, stands_in, stands_in_row, subst, suc, sym, take, take-append-drop, true, trunk, unwrap_or, usable_size, used_in, word, zero, ℕ, ⊎_elim, ◌++◌, ◌+◌, ◌-◌, ◌<◌, ◌∙◌, ◌∷◌, ◌≡◌, ◌≢◌, ◌≤◌, ◌⊎◌}
use Rattle.sqcheck.specs.Places.{Role}
use Rattle.sqpage.specs.declared.fault.Fault.TheVariants as faults

-- A record of the pages of a chain, whose links were all visited.
record Chained (d : Database) (visited : List Spot) (h from n : ℕ) : Type 0 where
  pub pages : List ℕ
  pub last : ℕ
  pub count : length pages ≡ n
  pub leads : Leads d h from pages last 0
  pub distinct : Apart pages
  pub named : Every (λ p. (v : Spot) × In v visited × (v.page ≡ p) × (o m : ℕ) × (v.role ≡ link o m) × (m ≤ n)) pages

one_place : (ss : List Spot) (s t : Spot) → Apart (numbers ss) → In s ss → In t ss → s.page ≡ t.page → s ≡ t
one_place [] s t h i j e = absurd i
one_place (x ∷ ss) s t h (inl f) (inl g) e = f ∙ sym g
one_place (x ∷ ss) s t h (inl f) (inr j) e = absurd (every_in (λ y. x.page ≡ y → ⊥) t.page (numbers ss) h.0 (in_map (λ z. z.page) t ss j) (ap (λ (z : Spot). z.page) (sym f) ∙ e))
one_place (x ∷ ss) s t h (inr i) (inl g) e = absurd (every_in (λ y. x.page ≡ y → ⊥) s.page (numbers ss) h.0 (in_map (λ z. z.page) s ss i) (ap (λ (z : Spot). z.page) (sym g) ∙ sym e))
one_place (x ∷ ss) s t h (inr i) (inr j) e = one_place ss s t h.1 i j e

-- a kind of a table's leaf
table_leaf : (kind : Kind) → is_table kind ≡ true → is_interior kind ≡ false → kind ≡ TableLeaf
table_leaf TableLeaf t i = refl
table_leaf TableInterior t i = absurd (cc)
table_leaf IndexLeaf t i = absurd (cc)
table_leaf IndexInterior t i = absurd (cc)

-- the schema's tree is a table
abbrev pub IsTableIfSchema : Role → Type 0
IsTableIfSchema (node x) = x.schema ≡ true → x.table ≡ true
IsTableIfSchema _ = Unit {0}

schema_table : (d : Database) {s : Spot} → IsReached d s → IsTableIfSchema s.role
schema_table d (first (inl h)) = subst (λ (z : Spot). IsTableIfSchema z.role) (sym h.1) tt
schema_table d (first (inr h)) = subst (λ (z : Spot). IsTableIfSchema z.role) (sym h) (λ e. refl)
schema_table d (stands_in {s = s} {t = t} r ok h) = go s.role t h.1 (schema_table d r)
  where
    go : (role : Role) (t : Spot) → InPageAs d s.page role t → IsTableIfSchema role → IsTableIfSchema t.role
    go trunk t (inl i) k = subst (λ (z : Spot). IsTableIfSchema z.role) (sym i.3) tt
    go trunk t (inr i) k = subst (λ (z : Spot). IsTableIfSchema z.role) (sym i.1) tt
    go free_leaf t i k = absurd i
    go (link o n) t i k = subst (λ (z : Spot). IsTableIfSchema z.role) (sym i.1) tt
    go (node x) t (kind, has, inl i) k = subst (λ (z : Spot). IsTableIfSchema z.role) (sym i.4) tt
    go (node x) t (kind, has, inr (int, inl i)) k = subst (λ (z : Spot). IsTableIfSchema z.role) (sym i.5) k
    go (node x) t (kind, has, inr (int, inr i)) k = subst (λ (z : Spot). IsTableIfSchema z.role) (sym i.2) k
schema_table d (stands_in_row {s = s} {t = t} r ok h) = go s.role h.1
  where
    go : (role : Role) → InRowAs d s.page role t → IsTableIfSchema t.role
    go trunk i = absurd i
    go free_leaf i = absurd i
    go (link o n) i = absurd i
    go (node x) i = subst (λ (z : Spot). IsTableIfSchema z.role) (sym i.1.7) (λ e. absurd (let both : false ≡ true = e in cc))

-- what a part of a cell's overflow says
no_overflow : (b : Page) (i : ℕ) (cell : Cell) → IsCell b i cell → bytes_beyond cell ≡ 0 → cell.overflow ≡ 0
no_overflow b i cell is none = is.overflow ∙ go (nat_lt is.parts.local is.parts.payload) refl is.has.overflow
  where
    len : length cell.local.now ≡ is.parts.local
    len =
        let end = Rattle.sqpage.proofs.btree.PartsOfCells.local_end b.kind b.used (Rattle.sqpage.specs.Page.pointer b i) is.parts is.has in
        let room : is.parts.local ≤ length (drop is.parts.body b.used) = omega (arith, end, Rattle.std.proofs.lemmas.List.length-drop is.parts.body b.used) in
        ap length is.local ∙ length-take-le is.parts.local (drop is.parts.body b.used) room

    size : (k : Bool) → has_payload b.kind ≡ k → payload_size cell ≡ cond k is.parts.payload 0
    size true e = ap (λ o. unwrap_or o 0) (is.payload ∙ ap (λ z. if_present z is.parts.payload) e)
    size false e = ap (λ o. unwrap_or o 0) (is.payload ∙ ap (λ z. if_present z is.parts.payload) e)

    payload_zero : (k : Bool) → has_payload b.kind ≡ k → k ≡ false → is.parts.payload ≡ 0
    payload_zero k e f = (subst (λ z. Rattle.sqpage.specs.Page.VarintAt z b.used is.has.after_child is.has.after_size is.parts.payload) (e ∙ f) is.has.payload).1

    few : is.parts.payload ≤ is.parts.local
    few = elim (either (has_payload b.kind)) [
      | inl e ↦ let z = size true e in omega (arith, z, none, len)
      | inr e ↦ let z = payload_zero (has_payload b.kind) refl e in omega (arith, z)
    ]

    go : (l : Bool) → nat_lt is.parts.local is.parts.payload ≡ l → FourBytes l b.used (is.parts.body + is.parts.local) is.parts.end is.parts.overflow → is.parts.overflow ≡ 0
    go true e f = absurd (let lt : is.parts.local < is.parts.payload = grind arith in omega (arith, lt, few))
    go false e f = f.1

module _ (d : Database) (visited : List Spot) (sound : Every (IsSound d) visited) (closed : (s t : Spot) → In s visited → StandsIn d s t → In t visited) (once : Apart (numbers visited)) where
  chain : (n : ℕ) (o h : ℕ) (s : Spot) → In s visited → s.role ≡ link o (suc n) → Chained d visited h s.page (suc n)
  chain zero o h s i role =
      let is : IsSound d s = every_in (IsSound d) s visited sound i in
      record {
        pages = s.page ∷ [];
        last = s.page;
        count = refl;
        leads = (refl, is.named, (refl, (subst (IsSoundAs d s.page) role is.sound_as).1 refl));
        distinct = (tt, tt);
        named = ((s, i, refl, o, 1, role, (let r : 1 ≤ 1 = omega arith in r)), tt);
      }
  chain (suc n) o h s i role =
      let is : IsSound d s = every_in (IsSound d) s visited sound i in
      let t : Spot = spot (next s.page) (next_in (page d s.page)) (link o (suc n)) in
      let same : suc (suc n) - 1 ≡ suc n = omega arith in
      let stands : StandsIn d s t = (is.named, subst (λ r. InPageAs d s.page r t) (sym role) ((let r : 1 < suc (suc n) = omega arith in r), ap (λ m. spot (next s.page) (next_in (page d s.page)) (link o m)) (sym same))) in
      let c = chain n o s.page t (closed s t i stands) refl in
      record {
        pages = s.page ∷ c.pages;
        last = c.last;
        count = ap suc c.count;
        leads = (refl, is.named, c.leads);
        distinct = (
          every_weaker (λ p. (v : Spot) × In v visited × (v.page ≡ p) × (o m : ℕ) × (v.role ≡ link o m) × (m ≤ suc n)) (λ p. s.page ≡ p → ⊥) (λ p k e.
              let v = one_place visited k.0 s once k.1 i (k.2 ∙ sym e) in
              let r : link k.3 k.4 ≡ link o (suc (suc n)) = sym k.5 ∙ ap (λ (z : Spot). z.role) v ∙ role in
              let m : k.4 ≡ suc (suc n) = cc in
              let le : k.4 ≤ suc n = k.6 in omega arith) c.pages c.named,
          c.distinct,
        );
        named = (
          (s, i, refl, o, suc (suc n), role, (let r : suc (suc n) ≤ suc (suc n) = omega arith in r)),
          every_weaker (λ p. (v : Spot) × In v visited × (v.page ≡ p) × (o m : ℕ) × (v.role ≡ link o m) × (m ≤ suc n)) (λ p. (v : Spot) × In v visited × (v.page ≡ p) × (o m : ℕ) × (v.role ≡ link o m) × (m ≤ suc (suc n)))
              (λ p k. (k.0, k.1, k.2, k.3, k.4, k.5, (let le : k.4 ≤ suc n = k.6 in let r : k.4 ≤ suc (suc n) = omega arith in r))) c.pages c.named,
        );
      }

  -- A cell of a page that was visited has a payload.
  pub payload_there : (s : Spot) (x : Node) (kind : Kind) → In s visited → s.role ≡ node x → HasKind d kind s.page → 480 ≤ length (used_in d s.page) → (i : ℕ) (cell : Cell) → IsCellAt (page_as d kind s.page) i cell
      → (content : List ℕ) × IsPayload d cell content
  payload_there s x kind here role has least i cell at = go (links cell) refl
    where
      named : IsPage d s.page
      named = (every_in (IsSound d) s visited sound here).named

      room : 480 ≤ cell.usable
      room = let u = at.1.usable in omega (arith, u, least)

      go : (n : ℕ) → n ≡ links cell → (content : List ℕ) × IsPayload d cell content
      go zero e =
          let none : bytes_beyond cell ≡ 0 = (needs cell room).1 (sym e) in (
            take (payload_size cell) (cell.local.now ++ contents d cell.usable []),
            record {
              pages = [];
              last = cell.page;
              enough = e;
              follows = record { linked = (refl, no_overflow (page_as d kind s.page) i cell at.1 none); distinct = tt };
              content_is = refl;
            },
          )
      go (suc n) e =
          let some : 0 < bytes_beyond cell = (needs cell room).0 (omega (arith, e)) in
          let t : Spot = spot (overflow s.page i) cell.overflow (link s.page (links cell)) in
          let stands : StandsIn d s t = (named, subst (λ r. InPageAs d s.page r t) (sym role) (kind, has, inl (i, cell, at, some, refl))) in
          let c = chain n s.page cell.page t (closed s t here stands) (ap (link s.page) (sym e)) in (
            take (payload_size cell) (cell.local.now ++ contents d cell.usable c.pages),
            record {
              pages = c.pages;
              last = c.last;
              enough = c.count ∙ e;
              follows = record { linked = c.leads; distinct = c.distinct };
              content_is = refl;
            },
          )

list_long : (u : ℕ) (l : List (List ℕ)) (i : ℕ) → i < length l → Every (λ b. u ≤ length b) l → u ≤ length (get_or l i [])
list_long u [] i lt h = absurd (omega (arith, lt))
list_long u (b ∷ l) zero lt h = h.0
list_long u (b ∷ l) (suc i) lt h = list_long u l i (omega (arith, lt)) h.1

page_long : (d : Database) (u p : ℕ) → IsPage d p → Every (λ b. u ≤ length b) d → u ≤ length (page d p)
unfolding page
page_long d u p is h = list_long u d (p - 1) (omega (arith, is.0, is.1)) h

-- The pages that were put aside are pages of rows.
pub rows_pages : (d : Database) (marks : List Bool) (visited : List Spot) (rows : List ℕ) (counts : Counts) → 480 ≤ usable_size d → Every (λ b. usable_size d ≤ length b) d → Stood d false visited [] marks rows counts → Every (IsRowsPage d) rows
rows_pages d marks visited rows counts least long w = every_weaker _ (IsRowsPage d) one rows w.rows.only
  where
    closed : (s t : Spot) → In s visited → StandsIn d s t → In t visited
    closed s t i h = ⊎_elim (λ v. v) (λ none. absurd none) (w.agenda.closed s t i h)

    used_long : (p : ℕ) → IsPage d p → 480 ≤ length (used_in d p)
    used_long p is =
        let le : usable_size d ≤ length (page d p) = page_long d (usable_size d) p is long in
        let e : length (used_in d p) ≡ usable_size d = length-take-le (usable_size d) (page d p) le in
        omega (arith, e, least)

    one : (p : ℕ) → (s : Spot) × In s visited × (s.page ≡ p) × IsSchemaLeaf d p s.role → IsRowsPage d p
    one p k = at k.0.role refl k.3
      where
        s : Spot
        s = k.0

        i : In s visited
        i = k.1

        e : s.page ≡ p
        e = k.2

        at : (role : Role) → s.role ≡ role → IsSchemaLeaf d p role → IsRowsPage d p
        at trunk r l = absurd l
        at free_leaf r l = absurd l
        at (link o n) r l = absurd l
        at (node x) r l =
            let schema = l.0 in
            let kind : Kind = l.1 in
            let has = l.2 in
            let flat = l.3 in
            let is = every_in (IsSound d) s visited w.agenda.sound i in
            let reached = every_in (IsReached d) s visited w.agenda.tour.reached i in
            let n : IsSoundPage d s.page x = (subst (IsSoundAs d s.page) r is.sound_as).page in
            let table : x.table ≡ true = subst IsTableIfSchema r (schema_table d reached) schema in
            let kind_is : n.kind ≡ kind = kind_once d n.kind kind s.page n.page_is.kind (subst (λ q. HasKind d kind q) (sym e) has) in
            let leaf_kind : n.kind ≡ TableLeaf = table_leaf n.kind (n.same ∙ table) (ap is_interior kind_is ∙ flat) in
            let b : IsBtreePage (page_as d TableLeaf s.page) = subst (λ k. IsBtreePage (page_as d k s.page)) leaf_kind n.page_is in
            record {
              spot = s;
              x = x;
              reached = reached;
              names = e;
              page = subst (IsPage d) e is.named;
              role = r;
              schema = schema;
              page_is = subst (λ q. IsBtreePage (page_as d TableLeaf q)) e b;
              payloads = subst (λ q. (i : ℕ) (cell : Cell) → IsCellAt (page_as d TableLeaf q) i cell → (content : List ℕ) × IsPayload d cell content) e
                  (payload_there d visited w.agenda.sound closed w.agenda.tour.taken.distinct s x TableLeaf i r b.kind (used_long s.page is.named));
            }

-- A root that a row of the schema names stands in a row of a visited page.
row_from : (d : Database) (marks : List Bool) (visited : List Spot) (rows : List ℕ) (counts : Counts) → Stood d false visited [] marks rows counts → (t : Spot) → (h : InRowsOf d rows t)
    → (s : Spot) × In s visited × StandsInRow d s t × (s.page ≡ h.0)
row_from d marks visited rows counts w t h =
    let k = every_in (λ p. (s : Spot) × In s visited × (s.page ≡ p) × IsSchemaLeaf d p s.role) h.0 rows w.rows.only h.1 in
    (k.0, k.1, ((every_in (IsSound d) k.0 visited w.agenda.sound k.1).named, in_role k.0.page h.0 k.0.role k.3 (subst (λ q. InRow d q t) (sym k.2) h.2)), k.2)
  where
    in_role : (q p : ℕ) (role : Role) → IsSchemaLeaf d p role → InRow d q t → InRowAs d q role t
    in_role q p trunk l i = absurd l
    in_role q p free_leaf l i = absurd l
    in_role q p (link o n) l i = absurd l
    in_role q p (node x) l i = (l.0, i)

-- The roots that the rows name come next.
pub becomes_late : (d : Database) (marks : List Bool) (visited : List Spot) (rows : List ℕ) (counts : Counts) (roots : List Root) → Stood d false visited [] marks rows counts → (f : Finds d (InRowsOf d rows) [] roots) → Every (AllSchemaRows d) rows
    → Stood d true visited f.spots marks rows counts
becomes_late d marks visited rows counts roots w f sound_rows = record {
  agenda = record {
    tour = record {
      sized = a.tour.sized;
      taken = a.tour.taken;
      reached = a.tour.reached;
      waiting = every_weaker (InRowsOf d rows) (IsReached d) (λ t h. let s = row_from d marks visited rows counts w t h in stands_in_row (every_in (IsReached d) s.0 visited a.tour.reached s.1) (every_in (IsSound d) s.0 visited a.sound s.1) s.2) f.spots f.only;
      apart = f.distinct;
      off = every_weaker (λ v. NotRoot v.place) (λ v. Off v.place f.spots) (λ v n. every_weaker (InRowsOf d rows) (λ t. t.place ≡ v.place → ⊥) (λ t h e. subst NotRoot (sym e ∙ ap (λ (z : Spot). z.place) h.2.7) n) f.spots f.only) visited (a.early refl).0;
      homes = a.tour.homes;
      waiting_homes = every_weaker (InRowsOf d rows) (λ t. IsHome marks t.place) (λ t h.
          let s = row_from d marks visited rows counts w t h in
          let place : home t.place ≡ s.0.page = ap (λ (z : Spot). home z.place) h.2.7 ∙ sym s.3 in
          let taken : In s.0.page (numbers visited) = in_map (λ z. z.page) s.0 visited s.1 in
          inr (subst (IsWithin (length marks)) (sym place) (every_in (λ p. IsWithin (length marks) p × ¬ IsAside d p) s.0.page (numbers visited) a.tour.taken.within taken).0, ap (is_marked marks) place ∙ a.tour.taken.all s.0.page taken)) f.spots f.only;
      fits = every_weaker (InRowsOf d rows) (LinkFits d) (λ t h. subst (LinkFits d) (sym h.2.7) (λ o n e. absurd (cc))) f.spots f.only;
    };
    room = a.room;
    sound = a.sound;
    starts = λ s h. ⊎_elim (λ v. inl v) (λ none. absurd none) (a.starts s h);
    closed = λ s t i h. ⊎_elim (λ v. inl v) (λ none. absurd none) (a.closed s t i h);
    early = λ e. absurd (let both : true ≡ false = e in cc);
    rooted = λ e s t i h. inr (in_rows s t i h);
    plain = λ e. every_weaker (InRowsOf d rows) (λ t. NotSchema t.role) (λ t h. subst (λ (z : Spot). NotSchema z.role) (sym h.2.7) refl) f.spots f.only;
    read = λ e. every_from_in (λ v. HasSoundRows d v.page v.role) visited (λ v i. sound_at v i v.role refl);
  };
  rows = w.rows;
  counted = w.counted;
  entered = w.entered;
}
  where
    a : Agenda d false marks visited []
    a = w.agenda

    in_rows : (s t : Spot) → In s visited → StandsInRow d s t → In t f.spots
    in_rows s t i h = go s.role refl h.1
      where
        go : (role : Role) → s.role ≡ role → InRowAs d s.page role t → In t f.spots
        go trunk r h = absurd h
        go free_leaf r h = absurd h
        go (link o n) r h = absurd h
        go (node x) r h = f.all t (s.page, w.rows.all s i (subst (IsSchemaLeaf d s.page) (sym r) (h.0, TableLeaf, h.1.0, refl)), h.1)

    sound_at : (v : Spot) → In v visited → (role : Role) → v.role ≡ role → HasSoundRows d v.page role
    sound_at v i trunk r = tt
    sound_at v i free_leaf r = tt
    sound_at v i (link o n) r = tt
    sound_at v i (node x) r = λ schema kind has flat k bytes row.
        let is = every_in (IsSound d) v visited a.sound i in
        let n : IsSoundPage d v.page x = (subst (IsSoundAs d v.page) r is.sound_as).page in
        let table : x.table ≡ true = subst IsTableIfSchema r (schema_table d (every_in (IsReached d) v visited a.tour.reached i)) schema in
        let kind_is : n.kind ≡ kind = kind_once d n.kind kind v.page n.page_is.kind has in
        let leaf_kind : kind ≡ TableLeaf = table_leaf kind (ap is_table (sym kind_is) ∙ n.same ∙ table) flat in
        let there : In v.page rows = w.rows.all v i (subst (IsSchemaLeaf d v.page) (sym r) (schema, kind, has, flat)) in
        every_in (AllSchemaRows d) v.page rows sound_rows there k bytes (subst (λ m. Rattle.sqcheck.specs.Places.IsRow d (page_as d m v.page) k bytes) leaf_kind row)

-- the page is one of the schema's tree
abbrev pub IsOfSchema : Role → Type 0
IsOfSchema (node x) = x.schema ≡ true
IsOfSchema _ = ⊥

not_pending : (d : Database) (marks : List Bool) (visited rest : List Spot) (s : Spot) → Agenda d true marks visited rest → IsOfSchema s.role → In s visited ⊎ In s rest → In s visited
not_pending d marks visited rest s a h (inl v) = v
not_pending d marks visited rest s a h (inr p) = absurd (go s.role h (every_in (λ z. NotSchema z.role) s rest (a.plain refl) p))
  where
    go : (role : Role) → IsOfSchema role → NotSchema role → ⊥
    go trunk h k = h
    go free_leaf h k = h
    go (link o n) h k = h
    go (node x) h k = let both : true ≡ false = sym h ∙ k in cc

-- While roots are followed, all pages of the schema's tree are visited.
schema_visited : (d : Database) (marks : List Bool) (visited rest : List Spot) → Agenda d true marks visited rest → {s : Spot} → IsReached d s → IsOfSchema s.role → In s visited
schema_visited d marks visited rest a (first f) h = not_pending d marks visited rest _ a h (a.starts _ f)
schema_visited d marks visited rest a (stands_in {s = s} {t = t} r ok i) h = not_pending d marks visited rest t a h (a.closed s t (go s.role i.1 (λ e. schema_visited d marks visited rest a r e)) i)
  where
    of : (u : Spot) → t ≡ u → IsOfSchema u.role
    of u e = subst (λ (z : Spot). IsOfSchema z.role) e h

    go : (role : Role) → InPageAs d s.page role t → (IsOfSchema role → In s visited) → In s visited
    go trunk (inl i) before = absurd (of _ i.3)
    go trunk (inr i) before = absurd (of _ i.1)
    go free_leaf i before = absurd i
    go (link o n) i before = absurd (of _ i.1)
    go (node x) (kind, has, inl i) before = absurd (of _ i.4)
    go (node x) (kind, has, inr (int, inl i)) before = before (of _ i.5)
    go (node x) (kind, has, inr (int, inr i)) before = before (of _ i.2)
schema_visited d marks visited rest a (stands_in_row {s = s} {t = t} r ok i) h = absurd (go s.role i.1)
  where
    go : (role : Role) → InRowAs d s.page role t → ⊥
    go trunk k = k
    go free_leaf k = k
    go (link o n) k = k
    go (node x) k = let both : false ≡ true = subst (λ (z : Spot). IsOfSchema z.role) k.1.7 h in cc

-- So all roots in the schema's rows are visited or pending.
root_visited : (d : Database) (marks : List Bool) (visited rest : List Spot) (s t : Spot) → Agenda d true marks visited rest → IsReached d s → StandsInRow d s t → In t visited ⊎ In t rest
root_visited d marks visited rest s t a r h = a.rooted refl s t (schema_visited d marks visited rest a r (go s.role h.1)) h
  where
    go : (role : Role) → InRowAs d s.page role t → IsOfSchema role
    go trunk k = k
    go free_leaf k = k
    go (link o n) k = k
    go (node x) k = k.0

-- Spots of which a part is left, at places that are apart.
not_left : (xs ys : List Spot) (t : Spot) → Apart (places (xs ++ ys)) → In t xs → In t ys → ⊥
not_left [] ys t h i j = i
not_left (x ∷ xs) ys t h (inl e) j = every_in (λ q. x.place ≡ q → ⊥) t.place (places (xs ++ ys)) h.0 (in_map (λ z. z.place) t (xs ++ ys) (in_right t xs ys j)) (ap (λ (z : Spot). z.place) (sym e))
not_left (x ∷ xs) ys t h (inr i) j = not_left xs ys t h.1 i j

first_apart : (xs ys : List Spot) → Apart (places (xs ++ ys)) → Apart xs
first_apart [] ys h = tt
first_apart (x ∷ xs) ys h = (
  every_from_in (λ y. x ≡ y → ⊥) xs (λ y i e. every_in (λ q. x.place ≡ q → ⊥) y.place (places (xs ++ ys)) h.0 (in_map (λ z. z.place) y (xs ++ ys) (in_left y xs ys i)) (ap (λ (z : Spot). z.place) e)),
  first_apart xs ys h.1,
)

-- One root more than there are pages can't be followed: so none was left out.
pub none_left : (d : Database) (marks after : List Bool) (visited done : List Spot) (rows kept : List ℕ) (counts counted : Counts) (roots : List Root) → Stood d false visited [] marks rows counts → (f : Finds d (InRowsOf d rows) [] roots)
    → Stood d true done (drop (suc (length d)) f.spots) after kept counted → Stood d true done [] after kept counted
none_left d marks after visited done rows kept counts counted roots w f all =
    subst (λ l. Stood d true done l after kept counted) (drop_all n f.spots (⊎_elim (λ lt. absurd (too_many lt)) (λ le. le) (cases_lt n (length f.spots)))) all
  where
    n : ℕ
    n = suc (length d)

    whole : take n f.spots ++ drop n f.spots ≡ f.spots
    whole = take-append-drop n f.spots

    apart : Apart (places (take n f.spots ++ drop n f.spots))
    apart = subst (λ l. Apart (places l)) (sym whole) f.distinct

    followed : (t : Spot) → In t (take n f.spots) → In t done
    followed t i =
        let h = every_in (InRowsOf d rows) t f.spots f.only (subst (In t) whole (in_left t (take n f.spots) (drop n f.spots) i)) in
        let s = row_from d marks visited rows counts w t h in
        ⊎_elim (λ v. v) (λ left. absurd (not_left (take n f.spots) (drop n f.spots) t apart i left))
        (root_visited d after done (drop n f.spots) s.0 t all.agenda (every_in (IsReached d) s.0 visited w.agenda.tour.reached s.1) s.2)

    too_many : n < length f.spots → ⊥
    too_many lt =
        let is : length (take n f.spots) ≡ n = length-take-le n f.spots (omega (arith, lt)) in
        let few : length (take n f.spots) ≤ length done = no_more (take n f.spots) done (first_apart (take n f.spots) (drop n f.spots) apart) followed in
        omega (arith, is, few, all.agenda.room)

-- At the start nothing was visited.
pub begins : (d : Database) (marks : List Bool) (pending : List Spot) (counts : Counts) (rows : List ℕ) → length marks ≡ length d → MarksAside d marks → rows ≡ []
    → counts.trees ≡ 0 → counts.btree ≡ 0 → counts.overflow ≡ 0 → counts.free ≡ 0 → counts.largest_root ≡ 0
    → ((s : Spot) → IsFirst d s → In s pending) → Every (IsFirst d) pending → Apart (places pending) → Stood d false [] pending marks rows counts
begins d marks pending counts rows sized none rows_none trees btree over free largest all firsts apart = record {
  agenda = record {
    tour = record {
      sized = sized;
      taken = record {
        only = λ p is m. inr ((none p is).0 m);
        all = λ p i. absurd i;
        aside = λ p is a. (none p is).1 a;
        within = tt;
        distinct = tt;
      };
      reached = tt;
      waiting = every_weaker (IsFirst d) (IsReached d) (λ s h. first h) pending firsts;
      apart = apart;
      off = tt;
      homes = tt;
      waiting_homes = every_weaker (IsFirst d) (λ s. IsHome marks s.place) (λ s h. inl (⊎_elim (λ k. ap (λ (z : Spot). home z.place) k.1) (λ k. ap (λ (z : Spot). home z.place) k) h)) pending firsts;
      fits = every_weaker (IsFirst d) (LinkFits d) (λ s h. ⊎_elim (λ k. subst (LinkFits d) (sym k.1) (λ o n e. absurd (cc))) (λ k. subst (LinkFits d) (sym k) (λ o n e. absurd (cc))) h) pending firsts;
    };
    room = (let c = count_by-le-length not marks in omega (arith, c, sized));
    sound = tt;
    starts = λ s h. inr (all s h);
    closed = λ s t i h. absurd i;
    early = λ e. (tt, every_weaker (IsFirst d) (λ s. NotRoot s.place) (λ s h. ⊎_elim (λ k. subst (λ (z : Spot). NotRoot z.place) (sym k.1) tt) (λ k. subst (λ (z : Spot). NotRoot z.place) (sym k) tt) h) pending firsts);
    rooted = λ e s t i h. absurd i;
    plain = λ e. absurd (let both : false ≡ true = e in cc);
    read = λ e. tt;
  };
  rows = record { all = λ s i leaf. absurd i; only = subst (Every _) (sym rows_none) tt; distinct = subst Apart (sym rows_none) tt };
  counted = record { trees = trees; btree = btree; overflow = over; free = free; most = λ s i root. absurd i; one = inl largest };
  entered = λ auto. tt;
}

pub begins_trunk : (d : Database) (marks : List Bool) (counts : Counts) (rows : List ℕ) → length marks ≡ length d → MarksAside d marks → rows ≡ []
    → counts.trees ≡ 0 → counts.btree ≡ 0 → counts.overflow ≡ 0 → counts.free ≡ 0 → counts.largest_root ≡ 0 → first_trunk d ≢ 0 → Stood d false [] (first_trunk_spot d ∷ first_root_spot ∷ []) marks rows counts
begins_trunk d marks counts rows sized none rows_none trees btree over free largest some =
    begins d marks (first_trunk_spot d ∷ first_root_spot ∷ []) counts rows sized none rows_none trees btree over free largest
    (λ s h. ⊎_elim (λ k. inl k.1) (λ k. inr (inl k)) h) (inl (some, refl), (inr refl, tt)) (((λ e. cc), tt), (tt, tt))

pub begins_root : (d : Database) (marks : List Bool) (counts : Counts) (rows : List ℕ) → length marks ≡ length d → MarksAside d marks → rows ≡ []
    → counts.trees ≡ 0 → counts.btree ≡ 0 → counts.overflow ≡ 0 → counts.free ≡ 0 → counts.largest_root ≡ 0 → first_trunk d ≡ 0 → Stood d false [] (first_root_spot ∷ []) marks rows counts
begins_root d marks counts rows sized none rows_none trees btree over free largest zero' =
    begins d marks (first_root_spot ∷ []) counts rows sized none rows_none trees btree over free largest
    (λ s h. ⊎_elim (λ k. absurd (k.0 zero')) (λ k. inl k) h) (inr refl, tt) (tt, tt)

-- Once the freelist was walked over, its places are the visited ones.
pub free_visited : (d : Database) (marks : List Bool) (visited : List Spot) → Agenda d false marks visited (first_root_spot ∷ []) → {s : Spot} → IsReached d s → is_free s.role ≡ true → In s visited
free_visited d marks visited a (first h) free = ⊎_elim (λ v. v) (λ p. elim p [ inl e ↦ absurd (let both : false ≡ true = sym (ap (λ (z : Spot). is_free z.role) e) ∙ free in cc) | inr none ↦ absurd none ]) (a.starts _ h)
free_visited d marks visited a (stands_in {s = s} {t = t} r ok h) free = go s.role refl h.1 (λ e. free_visited d marks visited a r e)
  where
    on : In s visited → In t visited
    on i = ⊎_elim (λ v. v) (λ p. elim p [ inl e ↦ absurd (let both : false ≡ true = sym (ap (λ (z : Spot). is_free z.role) e) ∙ free in cc) | inr none ↦ absurd none ]) (a.closed s t i h)

    never : (u : Spot) → t ≡ u → is_free u.role ≡ false → ⊥
    never u e f = let both : true ≡ false = sym free ∙ ap (λ (z : Spot). is_free z.role) e ∙ f in cc

    go : (role : Role) → s.role ≡ role → InPageAs d s.page role t → (is_free s.role ≡ true → In s visited) → In t visited
    go trunk e i before = on (before (ap is_free e))
    go free_leaf e i before = absurd i
    go (link o n) e i before = absurd (never _ i.1 refl)
    go (node x) e (kind, has, inl i) before = absurd (never _ i.4 refl)
    go (node x) e (kind, has, inr (int, inl i)) before = absurd (never _ i.5 refl)
    go (node x) e (kind, has, inr (int, inr i)) before = absurd (never _ i.2 refl)
free_visited d marks visited a (stands_in_row {s = s} {t = t} r ok h) free = absurd (go s.role h.1)
  where
    go : (role : Role) → InRowAs d s.page role t → ⊥
    go trunk i = i
    go free_leaf i = i
    go (link o n) i = i
    go (node x) i = let both : true ≡ false = sym free ∙ ap (λ (z : Spot). is_free z.role) i.1.7 in cc

apart_of : (ss : List Spot) → Apart (numbers ss) → Apart ss
apart_of [] h = tt
apart_of (s ∷ ss) h = (go ss h.0, apart_of ss h.1)
  where
    go : (ts : List Spot) → Every (λ y. s.page ≡ y → ⊥) (numbers ts) → Every (λ y. s ≡ y → ⊥) ts
    go [] h = tt
    go (t ∷ ts) h = ((λ e. h.0 (ap (λ (z : Spot). z.page) e)), go ts h.1)

-- The freelist isn't as long as the header says.
pub free_count_stands : (d : Database) (maps : Bool) (size : ℕ) (visited : List Spot) (counts : Counts) (said : ℕ) → said ≡ free_pages d → AreCounted visited counts → Apart (numbers visited) → Every (IsReached d) visited → Every (IsSound d) visited
    → ((s : Spot) → IsReached d s → is_free s.role ≡ true → In s visited) → counts.free ≢ said → StandsBy (IsReached d) (IsSound d) maps d size faults.FreeCount 1
free_count_stands d maps size visited counts said e c apart reached sound all ne =
    let p = passing (λ (s : Spot). is_free s.role) visited (apart_of visited apart) in
    inr (
      refl,
      p.0,
      record {
        all = λ s r f. p.4 s (all s r f) f;
        reached = every_from_in (λ s. IsReached d s × (is_free s.role ≡ true)) p.0 (λ s i. (every_in (IsReached d) s visited reached (p.3 s i).0, (p.3 s i).1));
        distinct = p.1;
        known = every_from_in (IsSound d) p.0 (λ s i. every_in (IsSound d) s visited sound (p.3 s i).0);
      },
      λ same. ne (c.free ∙ sym p.2 ∙ same ∙ sym e),
    )

-- At the end all reached places were visited.
pub all_visited : (d : Database) (marks : List Bool) (visited : List Spot) → Agenda d true marks visited [] → {s : Spot} → IsReached d s → In s visited
all_visited d marks visited a (first h) = ⊎_elim (λ v. v) (λ none. absurd none) (a.starts _ h)
all_visited d marks visited a (stands_in {s = s} {t = t} r ok h) = ⊎_elim (λ v. v) (λ none. absurd none) (a.closed s t (all_visited d marks visited a r) h)
all_visited d marks visited a (stands_in_row {s = s} {t = t} r ok h) = ⊎_elim (λ v. v) (λ none. absurd none) (a.rooted refl s t (all_visited d marks visited a r) h)

-- What nothing may name is set aside.
plainly : (maps : Bool) (d : Database) (size p : ℕ) → IsAsideWith maps d size p → IsSetAside d size p
plainly maps d size p (inl lock) = inl lock
plainly maps d size p (inr map) = inr (map.1, map.2)

pub unused_stands : (d : Database) (maps : Bool) (size : ℕ) → length (page d 1) ≡ size → (marks : List Bool) (visited : List Spot) (p : ℕ) → Agenda d true marks visited [] → IsWithin (length marks) p → is_marked marks p ≡ false → StandsBy (IsReached d) (IsSound d) maps d size faults.PageUnused p
unused_stands d maps size same marks visited p a is free = (
  subst (λ n. IsWithin n p) a.tour.sized is,
  (λ aside. let m : is_marked marks p ≡ true = a.tour.taken.aside p is (subst (λ n. IsSetAside d n p) (sym same) (plainly maps d size p aside)) in let both : true ≡ false = sym m ∙ free in cc),
  λ s r. (every_in (IsSound d) s visited a.sound (all_visited d marks visited a r), λ e. absurd (let m : is_marked marks p ≡ true = a.tour.taken.all p (subst (λ q. In q (numbers visited)) e (in_map (λ z. z.page) s visited (all_visited d marks visited a r))) in let both : true ≡ false = sym m ∙ free in cc)),
)

-- Each page was visited once.
pub each_once : (d : Database) (marks : List Bool) (visited : List Spot) → Agenda d true marks visited [] → ((p : ℕ) → IsWithin (length marks) p → is_marked marks p ≡ true) → AreEachOnce (IsAside d) (length d) (numbers visited)
each_once d marks visited a all = record {
  within = subst (λ n. Every (λ p. IsWithin n p × ¬ IsAside d p) (numbers visited)) a.tour.sized a.tour.taken.within;
  distinct = a.tour.taken.distinct;
  each = λ p is off. let is' = subst (λ n. IsWithin n p) (sym a.tour.sized) is in ⊎_elim (λ i. i) (λ aside. absurd (off aside)) (a.tour.taken.only p is' (all p is'));
}

-- The first page is one of the visited ones.
first_long : (d : Database) (size : ℕ) (marks : List Bool) (visited : List Spot) → Every (λ b. length b ≡ size) d → Agenda d true marks visited [] → length (page d 1) ≡ size
first_long d size marks visited sized a = first_sized d size (length d) refl (λ none. let is = (every_in (IsSound d) first_root_spot visited a.sound (all_visited d marks visited a (first (inr refl)))).named in omega (arith, is.0, is.1, none)) sized

pub once_of : (d : Database) (size : ℕ) (marks : List Bool) (visited : List Spot) → Every (λ b. length b ≡ size) d → Agenda d true marks visited [] → ((p : ℕ) → IsWithin (length marks) p → is_marked marks p ≡ true)
    → AreEachOnce (IsSetAside d size) (length d) (numbers visited)
once_of d size marks visited sized a all = subst (λ n. AreEachOnce (IsSetAside d n) (length d) (numbers visited)) (first_long d size marks visited sized a) (each_once d marks visited a all)

-- A root is the largest of the visited ones, which are all.
largest_of : (d : Database) (marks : List Bool) (visited : List Spot) (counts : Counts) → Agenda d true marks visited [] → AreCounted visited counts → IsLargestRoot (IsReached d) counts.largest_root
largest_of d marks visited counts a c = (
  (λ s r root. c.most s (all_visited d marks visited a r) root),
  ⊎_elim
      (λ none. absurd (let le : 1 ≤ counts.largest_root = c.most first_root_spot (all_visited d marks visited a (first (inr refl))) refl in omega (arith, le, none)))
      (λ k. (k.0, every_in (IsReached d) k.0 visited a.tour.reached k.1, k.2, k.3)) c.one,
)

-- The header says another.
pub largest_stands : (d : Database) (maps : Bool) (size : ℕ) (marks : List Bool) (visited : List Spot) (counts : Counts) (said : ℕ) → said ≡ word (page d 1) 52 → IsAutoVacuum d → Agenda d true marks visited [] → AreCounted visited counts
    → counts.largest_root ≢ said → maps ≡ true → StandsBy (IsReached d) (IsSound d) maps d size faults.PointerMap 1
largest_stands d maps size marks visited counts said e auto a c ne asked = (
  asked,
  inl (
    auto,
    inr (
      refl,
      (λ s r. every_in (IsSound d) s visited a.sound (all_visited d marks visited a r)),
      λ l.
          let most = largest_of d marks visited counts a c in
          let up : word (page d 1) 52 ≤ counts.largest_root = (let r = most.0 l.1.0 l.1.1 l.1.2 in let at = l.1.3 in omega (arith, r, at)) in
          let down : counts.largest_root ≤ word (page d 1) 52 = (let r = l.0 most.1.0 most.1.1 most.1.2 in let at = most.1.3 in omega (arith, r, at)) in
          ne (omega (arith, up, down, e)),
    ),
  ),
)

-- With auto-vacuum the maps and the largest root are right.
pub mapped_of : (d : Database) (size : ℕ) (marks : List Bool) (visited : List Spot) (rows : List ℕ) (counts : Counts) (said : ℕ) → said ≡ word (page d 1) 52 → Every (λ b. length b ≡ size) d → Stood d true visited [] marks rows counts
    → (IsAutoVacuum d → counts.largest_root ≡ said) → IsAutoVacuum d → AreMapped d size
mapped_of d size marks visited rows counts said e sized w largest auto = record {
  entries = λ s r. subst (λ n. HasEntry d n s) (first_long d size marks visited sized w.agenda) (every_in (HasEntry d (length (page d 1))) s visited (w.entered auto) (all_visited d marks visited w.agenda r));
  largest = subst (IsLargestRoot (IsReached d)) (largest auto ∙ e) (largest_of d marks visited counts w.agenda w.counted);
}

pub concludes : (maps : Bool) (d : Database) (size : ℕ) (marks : List Bool) (visited : List Spot) (rows : List ℕ) (counts : Counts) → IsPageSize size → Every (λ b. length b ≡ size) d → HasSoundHeader maps d size → Stood d true visited [] marks rows counts
    → ((p : ℕ) → IsWithin (length marks) p → is_marked marks p ≡ true) → counts.free ≡ free_pages d → (IsAutoVacuum d → AreMapped d size) → (report : Report) → IsReport d visited report → (w : WellFormedWith maps d size) × IsReport d w.places report
concludes maps d size marks visited rows counts size_is sized header w all free mapped report r = (
  record {
    size_is = size_is;
    sized = sized;
    header = header;
    places = visited;
    all = λ s r. all_visited d marks visited w.agenda r;
    reached = w.agenda.tour.reached;
    once = once_of d size marks visited sized w.agenda all;
    sound = w.agenda.sound;
    rows = w.agenda.read refl;
    free = sym w.counted.free ∙ free;
    mapped = mapped;
  },
  r,
)

pub is_long : (d : Database) (size usable : ℕ) → usable ≤ size → Every (λ b. length b ≡ size) d → Every (λ b. usable ≤ length b) d
is_long d size usable le h = every_weaker (λ (b : List ℕ). length b ≡ size) (λ b. usable ≤ length b) (λ b e. omega (arith, e, le)) d h

pub reported : (d : Database) (visited : List Spot) (counts : Counts) (report : Report) → AreCounted visited counts → report.pages ≡ length d → report.trees ≡ counts.trees → report.btree ≡ counts.btree → report.overflow ≡ counts.overflow → report.free ≡ counts.free
    → IsReport d visited report
reported d visited counts report c p t b o f = record { pages = p; trees = t ∙ c.trees; btree = b ∙ c.btree; overflow = o ∙ c.overflow; free = f ∙ c.free }

-- Roots that match, one by one.
pub first_root_at : (d : Database) (roots : List Root) (found : Root) (more : List Root) (spots : List Spot) → roots ≡ found ∷ more → RootsMatch d roots spots → (s : Spot) × (rest : List Spot) × (spots ≡ s ∷ rest) × IsRootAt d found s × RootsMatch d more rest
first_root_at d roots found more spots e m = go spots (subst (λ l. RootsMatch d l spots) e m)
  where
    go : (spots : List Spot) → RootsMatch d (found ∷ more) spots → (s : Spot) × (rest : List Spot) × (spots ≡ s ∷ rest) × IsRootAt d found s × RootsMatch d more rest
    go [] m = absurd m
    go (s ∷ rest) m = (s, rest, refl, m.0, m.1)

pub last_root : (d : Database) (roots : List Root) (spots : List Spot) → roots ≡ [] → RootsMatch d roots spots → spots ≡ []
last_root d roots spots e m = go spots (subst (λ l. RootsMatch d l spots) e m)
  where
    go : (spots : List Spot) → RootsMatch d [] spots → spots ≡ []
    go [] m = refl
    go (s ∷ rest) m = absurd m

pub first_roots : (d : Database) (n : ℕ) (roots : List Root) (spots : List Spot) → RootsMatch d roots spots → RootsMatch d (take n roots) (take n spots)
first_roots d zero roots spots m = tt
first_roots d (suc n) [] [] m = tt
first_roots d (suc n) [] (s ∷ spots) m = absurd m
first_roots d (suc n) (found ∷ roots) [] m = absurd m
first_roots d (suc n) (found ∷ roots) (s ∷ spots) m = (m.0, first_roots d n roots spots m.1)

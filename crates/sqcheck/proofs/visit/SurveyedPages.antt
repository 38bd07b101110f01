-- What a survey has of all pages: how it begins, counts the freelist, goes on with the roots, and ends.
use Rattle.sqcheck.proofs.Facts.{AddsRoots, Apart, AreFreePages, AreLeaves, AreMarked, ArePutDown, AreRolesFound, AreToldFound, Begins, Bool, Btree, Chart, CheckError, Database, Every, FreeDiffers, FreeLeaf, FreeTrunk, HasFreeCount, HasJudgedRole, HasKind, HasManyRoots, HasNoFree, HasSoundHeader, In, InRow, InRowAs, InRowsOf, IsAboveOf, IsAutoVacuum, IsBarred, IsDealtWith, IsFaultOf, IsFirst, IsFound, IsFoundFault, IsFreeCount, IsHeaderNamed, IsHome, IsInShortRow, IsJudged, IsLargestFault, IsLargestIn, IsLeafFound, IsLookedAt, IsLookedThrough, IsNamed, IsNamedFault, IsPage, IsProperRoot, IsRoleIn, IsRootAt, IsRootIn, IsSchemaLeaf, IsSurveyed, IsThrough, IsToldBy, IsWhole, IsWithin, IsWrongAt, Kind, LinkFits, List, Mapped, Names, Node, NotRoot, NotSchema, Off, Overflow, Place, Role, Root, RootsMatch, Spot, StandsIn, StandsInRow, TableLeaf, TellsFound, TellsLargest, Tour, Unused, Uses, Walk, [], ap, append-nil, arith, cases_eq, child, cond, count_by, either, every_append, every_from_in, every_in, every_take, every_weaker, false, first, first_root, first_root_spot, first_trunk, first_trunk_place, first_trunk_spot, found_in_row, free_leaf, free_pages, from_map, get_or, home, in_left, in_map, in_right, inl, inr, is_free, is_interior, is_marked, is_root, judged_by, leaf, length, link, map, most_faults, names_down, names_more, next, no_more, node, node_found_so, numbers, overflow, page, put_down_is, refl, role_at, root, subst, suc, sum_by-cons, sym, take, taken, told_unused, true, trunk, unnamed, unused_at, unused_faults, word, ℕ, ◌++◌, ◌+◌, ◌-◌, ◌<◌, ◌==◌, ◌∙◌, ◌∷◌, ◌≡◌, ◌≢◌, ◌≤◌, ◌⊎◌}
use Rattle.sqcheck.specs.Places as places
use Rattle.sqcheck.specs.internal.Agenda as agenda

-- How it begins, with these places.
begun : (maps : Bool) (d : Database) (size : ℕ) (chart : Chart) (uses : Uses) (walk : Walk) (pending : List Spot) → Begins maps d size uses walk chart → Every (IsFound d) pending → Apart (agenda.places pending)
    → Every (λ s. home s.place ≡ 0) pending → Every (LinkFits d) pending → ((s : Spot) → IsFirst d s → In s pending) → Every (λ s. NotRoot s.place) pending → Every (IsAboveOf []) pending
    → Mapped maps d size chart uses.marks.items false false [] pending uses walk.rows.items chart.roles.items chart.faults.items
begun maps d size chart uses walk pending b found apart homes fits firsts plain above = record {
  tour = record {
    sized = b.sized;
    taken = record { only = λ p w is. inr is; all = λ p i. absurd i; aside = λ p w is. is; within = tt; distinct = tt };
    reached = tt;
    waiting = found;
    apart = apart;
    off = tt;
    homes = tt;
    waiting_homes = every_weaker (λ s. home s.place ≡ 0) (λ s. IsHome uses.marks.items s.place) (λ s h. inl h) pending homes;
    fits = fits;
  };
  barred = b.barred;
  long = b.long;
  roles = tt;
  others = λ p is none. refl;
  counts = b.counts;
  starts = λ s is. inl (inr (firsts s is));
  judged = tt;
  leaves = record { only = subst (Every (λ p. (s : Spot) × In s [] × IsWhole d s × (s.page ≡ p) × IsSchemaLeaf d p s.role)) (sym b.rows) tt; distinct = subst Apart (sym b.rows) tt };
  early = λ e. (tt, plain);
  plain = λ e. absurd (let both : false ≡ true = e in cc);
  more = [];
  grows = sym (append-nil chart.faults.items);
  trees = above;
  proper = tt;
  only = every_weaker (λ e. IsFoundFault maps d size e.fault e.page) (IsToldBy maps d size false []) (λ e h. inl h) chart.faults.items b.told;
  free = λ e. absurd (let both : false ≡ true = e in cc);
}

above_root : IsAboveOf [] first_root_spot
above_root x e = inl (ap (λ (r : places.Role). level_in r) (sym e))
  where
    level_in : places.Role → ℕ
    level_in trunk = 0
    level_in free_leaf = 0
    level_in (link o n) = 0
    level_in (node x) = x.level

-- With a freelist, and without.
pub begun_trunk : (maps : Bool) (d : Database) (size : ℕ) (chart : Chart) (uses : Uses) (walk : Walk) → Begins maps d size uses walk chart → first_trunk d ≢ 0
    → Mapped maps d size chart uses.marks.items false false [] (first_trunk_spot d ∷ (first_root_spot ∷ [])) uses walk.rows.items chart.roles.items chart.faults.items
begun_trunk maps d size chart uses walk b some =
    begun maps d size chart uses walk (first_trunk_spot d ∷ (first_root_spot ∷ [])) b (first (inl (some, refl)), (first (inr refl), tt)) (((λ e. cc), tt), (tt, tt)) (refl, (refl, tt))
    ((λ o n e. absurd (cc)), ((λ o n e. absurd (cc)), tt)) (λ s is. elim is [ inl t ↦ inl t.1 | inr r ↦ inr (inl r) ]) (tt, (tt, tt)) ((λ x e. absurd (let both : trunk ≡ node x = e in cc)), (above_root, tt))

pub begun_root : (maps : Bool) (d : Database) (size : ℕ) (chart : Chart) (uses : Uses) (walk : Walk) → Begins maps d size uses walk chart → first_trunk d ≡ 0
    → Mapped maps d size chart uses.marks.items false false [] (first_root_spot ∷ []) uses walk.rows.items chart.roles.items chart.faults.items
begun_root maps d size chart uses walk b none =
    begun maps d size chart uses walk (first_root_spot ∷ []) b (first (inr refl), tt) (tt, tt) (refl, tt) ((λ o n e. absurd (cc)), tt) (λ s is. elim is [ inl t ↦ absurd (t.0 none) | inr r ↦ inl r ]) (tt, tt) (above_root, tt)

-- The freelist is counted.
pub free_counted : (maps : Bool) (d : Database) (size : ℕ) (chart : Chart) (bars : List Bool) (visited pending : List Spot) (uses : Uses) (rows : List ℕ) (charted : List Role) (old new : List CheckError) (said : ℕ) → said ≡ free_pages d
    → Every (λ s. is_free s.role ≡ false) pending
    → ((uses.counts.free ≡ said) × (new ≡ old)) ⊎ ((e : CheckError) × (uses.counts.free ≢ said) × IsFreeCount e × ArePutDown old (e ∷ []) new)
    → Mapped maps d size chart bars false false visited pending uses rows charted old → Mapped maps d size chart bars true false visited pending uses rows charted new
free_counted maps d size chart bars visited pending uses rows charted old new said is none told m = go told
  where
    counted : uses.counts.free ≡ count_by (λ (s : Spot). is_free s.role) visited
    counted = m.counts.free

    with_more : (more : List CheckError) → new ≡ old ++ more → Every (λ e. IsFreeCount e × FreeDiffers d visited) more → (FreeDiffers d visited → Names new IsFreeCount)
        → Mapped maps d size chart bars true false visited pending uses rows charted new
    with_more more e all named = record {
      tour = m.tour;
      barred = m.barred;
      long = m.long;
      roles = m.roles;
      others = m.others;
      counts = m.counts;
      starts = λ s h. dealt s (m.starts s h);
      judged = every_weaker (IsJudged d false visited pending old rows) (IsJudged d false visited pending new rows)
          (λ v h. judged_by d false visited pending visited pending old new rows rows v dealt (λ p i. i) (names_more (IsWrongAt d v) old more new e) h) visited m.judged;
      leaves = m.leaves;
      early = m.early;
      plain = m.plain;
      more = m.more ++ more;
      grows = Rattle.sqcheck.proofs.visit.FaultsFound.grown chart.faults.items m.more more old new m.grows e;
      trees = m.trees;
      proper = m.proper;
      only = subst (Every (IsToldBy maps d size true visited)) (sym e) (every_append (IsToldBy maps d size true visited) old more
          (every_weaker (IsToldBy maps d size false visited) (IsToldBy maps d size true visited) (λ x h. elim h [ inl found ↦ inl found | inr c ↦ absurd (let both : false ≡ true = c.1 in cc) ]) old m.only)
          (every_weaker (λ x. IsFreeCount x × FreeDiffers d visited) (IsToldBy maps d size true visited) (λ x h. inr (h.0, refl, h.1)) more all));
      free = λ _. (none, named);
    }
      where
        dealt : (s : Spot) → IsDealtWith d visited pending old s → IsDealtWith d visited pending new s
        dealt s (inl i) = inl i
        dealt s (inr h) = inr (names_more (IsFaultOf d s) old more new e h)

    go : ((uses.counts.free ≡ said) × (new ≡ old)) ⊎ ((e : CheckError) × (uses.counts.free ≢ said) × IsFreeCount e × ArePutDown old (e ∷ []) new) → Mapped maps d size chart bars true false visited pending uses rows charted new
    go (inl same) = with_more [] (same.1 ∙ sym (append-nil old)) tt (λ differs. absurd (differs (sym counted ∙ same.0 ∙ is)))
    go (inr (e, ne, count, down)) =
        let p = put_down_is e old new down in
        let differs : FreeDiffers d visited = λ same. ne (counted ∙ same ∙ sym is) in
        with_more p.1 p.2 (elim p.3 [ inl none ↦ subst (Every (λ x. IsFreeCount x × FreeDiffers d visited)) (sym none) tt | inr one ↦ subst (Every (λ x. IsFreeCount x × FreeDiffers d visited)) (sym one) ((count, differs), tt) ])
        (λ h. names_down IsFreeCount e old new down count)

abbrev level_of : places.Role → ℕ
level_of trunk = 0
level_of free_leaf = 0
level_of (link o n) = 0
level_of (node x) = x.level

match_length : (d : Database) (roots : List Root) (spots : List Spot) → RootsMatch d roots spots → length roots ≡ length spots
match_length d [] [] m = refl
match_length d [] (s ∷ ss) m = absurd m
match_length d (r ∷ rs) [] m = absurd m
match_length d (r ∷ rs) (s ∷ ss) m = ap suc (match_length d rs ss m.1)

-- The roots are to be followed next.
module _ (maps : Bool) (d : Database) (size : ℕ) (chart : Chart) (bars : List Bool) (visited : List Spot) (uses : Uses) (rows : List ℕ) (charted : List Role) (told : List CheckError) (m : Mapped maps d size chart bars true false visited [] uses rows charted told) where
  -- The leaves that were put aside were found.
  pub leaves_found : Every (IsLeafFound d) rows
  leaves_found = every_weaker (λ p. (s : Spot) × In s visited × IsWhole d s × (s.page ≡ p) × IsSchemaLeaf d p s.role) (IsLeafFound d) (λ p h. (h.0, every_in (IsFound d) h.0 visited m.tour.reached h.1, h.2, h.3, h.4)) rows m.leaves.only

  module _ (roots : List Root) (adds : AddsRoots d (InRowsOf d rows) [] roots) where
    abbrev spots : List Spot
    spots = adds.spots

    found_of : (t : Spot) → InRowsOf d rows t → IsFound d t
    found_of t h = found_in_row d h.0 t (every_in (IsLeafFound d) h.0 rows leaves_found h.1) h.2

    at_home : (t : Spot) → InRowsOf d rows t → IsHome uses.marks.items t.place
    at_home t h =
        let v = every_in (λ p. (s : Spot) × In s visited × IsWhole d s × (s.page ≡ p) × IsSchemaLeaf d p s.role) h.0 rows m.leaves.only h.1 in
        let i : In h.0 (numbers visited) = subst (λ q. In q (numbers visited)) v.3 (in_map (λ (z : Spot). z.page) v.0 visited v.1) in
        let within = every_in (λ p. IsWithin (length uses.marks.items) p × ¬ IsBarred bars p) h.0 (numbers visited) m.tour.taken.within i in
        subst (λ (z : Spot). IsHome uses.marks.items z.place) (sym h.2.7) (inr (within.0, m.tour.taken.all h.0 i))

    off_roots : (v : Spot) → NotRoot v.place → Off v.place spots
    off_roots v n = every_weaker (InRowsOf d rows) (λ t. t.place ≡ v.place → ⊥) (λ t h e. subst NotRoot (sym e ∙ ap (λ (z : Spot). z.place) h.2.7) n) spots adds.only

    dealt : (t : Spot) → IsDealtWith d visited [] told t → IsDealtWith d visited spots told t
    dealt t (inl (inl i)) = inl (inl i)
    dealt t (inl (inr i)) = absurd i
    dealt t (inr n) = inr n

    in_rows : (v t : Spot) → (IsSchemaLeaf d v.page v.role → In v.page rows) → StandsInRow d v t → InRowsOf d rows t
    in_rows v t aside h = go v.role aside h.1
      where
        go : (r : places.Role) → (IsSchemaLeaf d v.page r → In v.page rows) → InRowAs d v.page r t → InRowsOf d rows t
        go trunk aside k = absurd k
        go free_leaf aside k = absurd k
        go (link o n) aside k = absurd k
        go (node x) aside k = (v.page, aside (k.0, TableLeaf, k.1.0, refl), k.1)

    many : length d < length roots → HasManyRoots d
    many full = (
      spots,
      every_weaker (InRowsOf d rows) (λ s. IsFound d s × (is_root s.role ≡ true)) (λ t h. (found_of t h, ap (λ (z : Spot). is_root z.role) h.2.7)) spots adds.only,
      adds.distinct,
      (let n = match_length d adds.more spots adds.match in let l = ap (λ (r : List Root). length r) adds.added in omega (arith, n, l, full)),
    )

    through : (v : Spot) → IsJudged d false visited [] told rows v → IsJudged d true visited spots told rows v
    through v (inr wrong) = inr wrong
    through v (inl h) = inl (record {
      whole = h.whole;
      pages = λ t k. dealt t (h.pages t k);
      aside = h.aside;
      roots = λ e t row short. elim (adds.all t (in_rows v t h.aside row) short) [ inl i ↦ inl (inl (inr i)) | inr full ↦ inr (many full) ];
    })

    pub rooted : Mapped maps d size chart bars true true visited spots uses rows charted told
    rooted = record {
      tour = record {
        sized = m.tour.sized;
        taken = m.tour.taken;
        reached = m.tour.reached;
        waiting = every_weaker (InRowsOf d rows) (IsFound d) found_of spots adds.only;
        apart = adds.distinct;
        off = every_weaker (λ v. NotRoot v.place) (λ v. Off v.place spots) off_roots visited (m.early refl).0;
        homes = m.tour.homes;
        waiting_homes = every_weaker (InRowsOf d rows) (λ t. IsHome uses.marks.items t.place) at_home spots adds.only;
        fits = every_weaker (InRowsOf d rows) (LinkFits d) (λ t h. subst (LinkFits d) (sym h.2.7) (λ o n e. absurd (cc))) spots adds.only;
      };
      barred = m.barred;
      long = m.long;
      roles = m.roles;
      others = m.others;
      counts = m.counts;
      starts = λ s is. dealt s (m.starts s is);
      judged = every_weaker (IsJudged d false visited [] told rows) (IsJudged d true visited spots told rows) through visited m.judged;
      leaves = m.leaves;
      early = λ e. absurd (let both : true ≡ false = e in cc);
      plain = λ e. every_weaker (InRowsOf d rows) (λ s. NotSchema s.role) (λ t h. subst (λ (z : Spot). NotSchema z.role) (sym h.2.7) refl) spots adds.only;
      more = m.more;
      grows = m.grows;
      trees = every_weaker (InRowsOf d rows) (IsAboveOf visited) (λ t h x e. inl (ap (λ (r : places.Role). level_of r) (sym e) ∙ ap (λ (z : Spot). level_of z.role) h.2.7)) spots adds.only;
      proper = m.proper;
      only = m.only;
      free = λ e. (every_weaker (InRowsOf d rows) (λ s. is_free s.role ≡ false) (λ t h. ap (λ (z : Spot). is_free z.role) h.2.7) spots adds.only, (m.free e).1);
    }

-- the pages of the visited places of the freelist
pub record FreePagesOf (visited : List Spot) : Type 0 where
  pub pages : List ℕ
  pub distinct : Apart pages
  pub counted : length pages ≡ count_by (λ (s : Spot). is_free s.role) visited
  pub only : (p : ℕ) → In p pages → (v : Spot) × In v visited × (v.page ≡ p) × (is_free v.role ≡ true)
  pub all : (v : Spot) → In v visited → is_free v.role ≡ true → In v.page pages

free_pages_of : (visited : List Spot) → Apart (numbers visited) → FreePagesOf visited
free_pages_of [] a = record { pages = []; distinct = tt; counted = refl; only = λ p i. absurd i; all = λ v i e. absurd i }
free_pages_of (s ∷ ss) a =
    let r = free_pages_of ss a.1 in
    elim (either (is_free s.role)) [
      | inl e ↦ record {
        pages = s.page ∷ r.pages;
        distinct = (every_from_in (λ y. s.page ≡ y → ⊥) r.pages (λ y i. let v = r.only y i in every_in (λ z. s.page ≡ z → ⊥) y (numbers ss) a.0 (subst (λ q. In q (numbers ss)) v.2 (in_map (λ (z : Spot). z.page) v.0 ss v.1))), r.distinct);
        counted = (let one : ◌≡◌ {A = ℕ} (cond (is_free s.role) 1 0) 1 = ap (λ b. cond b 1 0) e in let n = r.counted in omega (arith, n, one, sum_by-cons (λ (z : Spot). cond (is_free z.role) 1 0) s ss));
        only = λ p i. elim i [ inl f ↦ (s, inl refl, sym f, e) | inr j ↦ (let v = r.only p j in (v.0, inr v.1, v.2, v.3)) ];
        all = λ v i f. elim i [ inl g ↦ inl (ap (λ (z : Spot). z.page) g) | inr j ↦ inr (r.all v j f) ];
      }
      | inr e ↦ record {
        pages = r.pages;
        distinct = r.distinct;
        counted = (let none : ◌≡◌ {A = ℕ} (cond (is_free s.role) 1 0) 0 = ap (λ b. cond b 1 0) e in let n = r.counted in omega (arith, n, none, sum_by-cons (λ (z : Spot). cond (is_free z.role) 1 0) s ss));
        only = λ p i. let v = r.only p i in (v.0, inr v.1, v.2, v.3);
        all = λ v i f. elim i [ inl g ↦ absurd (let both : true ≡ false = sym f ∙ ap (λ (z : Spot). is_free z.role) g ∙ e in cc) | inr j ↦ r.all v j f ];
      }
    ]

abbrev IsFreeRole : Role → Type 0
IsFreeRole role = (role ≡ FreeTrunk) ⊎ (role ≡ FreeLeaf)

-- the role of a page of the freelist, and of no other
free_role : (d : Database) (p : ℕ) (named : places.Role) (role : Role) → IsRoleIn d p named role → is_free named ≡ true → IsFreeRole role
free_role d p trunk role h e = inl h
free_role d p free_leaf role h e = inr h
free_role d p (link o n) role h e = absurd (cc)
free_role d p (node x) role h e = absurd (cc)

free_named : (d : Database) (p : ℕ) (named : places.Role) (role : Role) → IsRoleIn d p named role → IsFreeRole role → is_free named ≡ true
free_named d p trunk role h e = refl
free_named d p free_leaf role h e = refl
free_named d p (link o n) role h (inl e) = absurd (let both : ◌≡◌ {A = Role} (Overflow o) FreeTrunk = sym h ∙ e in cc)
free_named d p (link o n) role h (inr e) = absurd (let both : ◌≡◌ {A = Role} (Overflow o) FreeLeaf = sym h ∙ e in cc)
free_named d p (node x) role (inl h) (inl e) = absurd (let both : ◌≡◌ {A = Role} (Btree h.0 x.tree) FreeTrunk = sym h.2 ∙ e in cc)
free_named d p (node x) role (inl h) (inr e) = absurd (let both : ◌≡◌ {A = Role} (Btree h.0 x.tree) FreeLeaf = sym h.2 ∙ e in cc)
free_named d p (node x) role (inr h) (inl e) = absurd (let both : ◌≡◌ {A = Role} (Btree (Rattle.sqcheck.specs.Found.leaf_of x.table) x.tree) FreeTrunk = sym h.1 ∙ e in cc)
free_named d p (node x) role (inr h) (inr e) = absurd (let both : ◌≡◌ {A = Role} (Btree (Rattle.sqcheck.specs.Found.leaf_of x.table) x.tree) FreeLeaf = sym h.1 ∙ e in cc)

-- The end: nothing is left to be followed.
module _ (maps : Bool) (d : Database) (size : ℕ) (chart : Chart) (bars : List Bool) (visited : List Spot) (uses : Uses) (rows : List ℕ) (charted : List Role) (told : List CheckError) (m : Mapped maps d size chart bars true true visited [] uses rows charted told) where
  looked : (t : Spot) → IsDealtWith d visited [] told t → IsLookedAt d charted told t
  looked t (inl (inl i)) =
      let inside = every_in (λ p. IsWithin (length uses.marks.items) p × ¬ IsBarred bars p) t.page (numbers visited) m.tour.taken.within (in_map (λ (z : Spot). z.page) t visited i) in
      inl (subst (λ n. IsWithin n t.page) m.tour.sized inside.0, every_in (λ v. IsRoleIn d v.page v.role (role_at charted v.page)) t visited m.roles i)
  looked t (inl (inr i)) = absurd i
  looked t (inr n) = inr n

  -- whether a place names the page that was visited
  named : (p : ℕ) → IsPage d p → ((v : Spot) × In v visited × (v.page ≡ p)) ⊎ (role_at charted p ≡ role_at chart.roles.items p)
  named p is = elim (either (is_marked uses.marks.items p)) [
    | inl e ↦ elim (m.tour.taken.only p (subst (λ n. IsWithin n p) (sym m.tour.sized) is) e) [
      | inl i ↦ inl (let v = from_map (λ (z : Spot). z.page) p visited i in (v.0, v.1, sym v.2))
      | inr bar ↦ inr (m.others p is (λ i. (every_in (λ p. IsWithin (length uses.marks.items) p × ¬ IsBarred bars p) p (numbers visited) m.tour.taken.within i).1 bar))
    ]
    | inr e ↦ inr (m.others p is (λ i. let t = m.tour.taken.all p i in let both : true ≡ false = sym t ∙ e in cc))
  ]

  judged : (v : Spot) → In v visited → HasJudgedRole d charted told v.page (role_at charted v.page)
  judged v i = (
    v,
    every_in (IsFound d) v visited m.tour.reached i,
    refl,
    every_in (λ v. IsRoleIn d v.page v.role (role_at charted v.page)) v visited m.roles i,
    elim (every_in (IsJudged d true visited [] told rows) v visited m.judged i) [
      | inl h ↦ inl (record { whole = h.whole; pages = λ t k. looked t (h.pages t k); roots = λ t row short. elim (h.roots refl t row short) [ inl k ↦ inl (looked t k) | inr many ↦ inr many ] })
      | inr wrong ↦ inr wrong
    ],
  )

  pub roles_found : AreRolesFound d chart.roles.items charted told
  roles_found = record {
    long = m.long;
    starts = λ s is. looked s (m.starts s is);
    each = λ p is. elim (named p is) [ inl v ↦ inr (subst (λ q. HasJudgedRole d charted told q (role_at charted q)) v.2 (judged v.0 v.1)) | inr same ↦ inl same ];
  }

  module _ (none : HasNoFree d chart.roles.items) where
    free : FreePagesOf visited
    free = free_pages_of visited m.tour.taken.distinct

    are_free : AreFreePages d charted free.pages
    are_free = record {
      all = λ p is role. elim (named p is) [
        | inl v ↦ subst (λ q. In q free.pages) v.2 (free.all v.0 v.1 (free_named d v.0.page v.0.role (role_at charted v.0.page) (every_in (λ v. IsRoleIn d v.page v.role (role_at charted v.page)) v.0 visited m.roles v.1)
            (subst (λ q. IsFreeRole (role_at charted q)) (sym v.2) role)))
        | inr same ↦ absurd ((none p is).0 (subst IsFreeRole same role))
      ];
      only = every_from_in (λ p. IsPage d p × IsFreeRole (role_at charted p)) free.pages (λ p i.
          let v = free.only p i in
          let inside = every_in (λ p. IsWithin (length uses.marks.items) p × ¬ IsBarred bars p) v.0.page (numbers visited) m.tour.taken.within (in_map (λ (z : Spot). z.page) v.0 visited v.1) in
          subst (λ q. IsPage d q × IsFreeRole (role_at charted q)) v.2 (
            subst (λ n. IsWithin n v.0.page) m.tour.sized inside.0,
            free_role d v.0.page v.0.role (role_at charted v.0.page) (every_in (λ v. IsRoleIn d v.page v.role (role_at charted v.page)) v.0 visited m.roles v.1) v.3,
          ));
      distinct = free.distinct;
    }

    no_count : FreeDiffers d visited → ¬ HasFreeCount d charted
    no_count differs h =
        let more = no_more h.0 free.pages h.1.distinct (λ p i. let k = every_in (λ p. IsPage d p × IsFreeRole (role_at charted p)) p h.0 h.1.only i in are_free.all p k.0 k.1) in
        let less = no_more free.pages h.0 free.distinct (λ p i. let k = every_in (λ p. IsPage d p × IsFreeRole (role_at charted p)) p free.pages are_free.only i in h.1.all p k.0 k.1) in
        let n = free.counted in
        let said = h.2 in
        differs (omega (arith, more, less, n, said))

    pub only_named : Every (IsNamedFault maps d size charted) told
    only_named = every_weaker (IsToldBy maps d size true visited) (IsNamedFault maps d size charted) (λ e h. elim h [ inl found ↦ inr (inr (inr found)) | inr count ↦ inr (inl (count.0.1, count.0.0, no_count count.2)) ]) told m.only

    pub free_named_too : (¬ HasFreeCount d charted) → Names told IsFreeCount
    free_named_too differs = (m.free refl).1 (λ same. differs (free.pages, are_free, free.counted ∙ same))

    -- The role of a page that was visited as a root, and of no other.
    root_charted : (v : Spot) → In v visited → is_root v.role ≡ true → IsRootIn charted v.page
    root_charted v i one = go v.role refl one (every_in (λ v. IsRoleIn d v.page v.role (role_at charted v.page)) v visited m.roles i)
      where
        go : (r : places.Role) → v.role ≡ r → is_root r ≡ true → IsRoleIn d v.page r (role_at charted v.page) → IsRootIn charted v.page
        go trunk e is h = absurd (let both : false ≡ true = is in cc)
        go free_leaf e is h = absurd (let both : false ≡ true = is in cc)
        go (link o n) e is h = absurd (let both : false ≡ true = is in cc)
        go (node x) e is h =
            let one : x.level ≡ 1 = Rattle.std.proofs.lemmas.Bool.eqb-true x.level 1 is in
            let tree : x.tree ≡ v.page = (node_found_so d v (every_in (IsFound d) v visited m.tour.reached i) x e).root one in
            elim h [ inl k ↦ (k.0, k.2 ∙ ap (Btree k.0) tree) | inr k ↦ (Rattle.sqcheck.specs.Found.leaf_of x.table, k.1 ∙ ap (Btree (Rattle.sqcheck.specs.Found.leaf_of x.table)) tree) ]

    charted_root : (p : ℕ) → IsPage d p → IsRootIn charted p → (v : Spot) × In v visited × (v.page ≡ p) × (is_root v.role ≡ true)
    charted_root p is (kind, role) = elim (named p is) [
      | inr same ↦ absurd ((none p is).1 kind p (sym same ∙ role))
      | inl v ↦ (v.0, v.1, v.2, go v.0 v.1 v.2 v.0.role refl (subst (λ q. IsRoleIn d v.0.page v.0.role (role_at charted q)) v.2 (every_in (λ v. IsRoleIn d v.page v.role (role_at charted v.page)) v.0 visited m.roles v.1)))
    ]
      where
        tree_in : Role → ℕ
        tree_in (Btree k t) = t
        tree_in _ = 0

        go : (v : Spot) → In v visited → v.page ≡ p → (r : places.Role) → v.role ≡ r → IsRoleIn d v.page v.role (role_at charted p) → is_root r ≡ true
        go v i at trunk e h = absurd (let k : role_at charted p ≡ FreeTrunk = subst (λ r. IsRoleIn d v.page r (role_at charted p)) e h in let both : ◌≡◌ {A = Role} (Btree kind p) FreeTrunk = sym role ∙ k in cc)
        go v i at free_leaf e h = absurd (let k : role_at charted p ≡ FreeLeaf = subst (λ r. IsRoleIn d v.page r (role_at charted p)) e h in let both : ◌≡◌ {A = Role} (Btree kind p) FreeLeaf = sym role ∙ k in cc)
        go v i at (link o n) e h = absurd (let k : role_at charted p ≡ Overflow o = subst (λ r. IsRoleIn d v.page r (role_at charted p)) e h in let both : ◌≡◌ {A = Role} (Btree kind p) (Overflow o) = sym role ∙ k in cc)
        go v i at (node x) e h =
            let k : IsRoleIn d v.page (node x) (role_at charted p) = subst (λ r. IsRoleIn d v.page r (role_at charted p)) e h in
            let tree : x.tree ≡ p = elim k [ inl a ↦ ap tree_in (sym a.2 ∙ role) | inr b ↦ ap tree_in (sym b.1 ∙ role) ] in
            let one : x.level ≡ 1 = every_in IsProperRoot v visited m.proper i x e (tree ∙ sym at) in
            ap (λ n. n == 1) one

    inside : (v : Spot) → In v visited → IsPage d v.page
    inside v i = subst (λ n. IsWithin n v.page) m.tour.sized (every_in (λ p. IsWithin (length uses.marks.items) p × ¬ IsBarred bars p) v.page (numbers visited) m.tour.taken.within (in_map (λ (z : Spot). z.page) v visited i)).0

    abbrev pub said : ℕ
    said = word (page d 1) 52

    -- The largest root that was counted is the largest charted one.
    pub largest_is : (maps ≡ true → IsAutoVacuum d → uses.counts.largest_root ≡ said) → IsLargestIn maps d charted said
    largest_is same asked auto =
        let e = same asked auto in
        elim m.counts.one [
          | inl zero' ↦ absurd (auto (sym e ∙ zero'))
          | inr s ↦
              let at : s.0.page ≡ said = s.3 ∙ e in (
                subst (IsPage d) at (inside s.0 s.1),
                subst (IsRootIn charted) at (root_charted s.0 s.1 s.2),
                (λ p is one. let v = charted_root p is one in let most = m.counts.most v.0 v.1 v.3 in let here = v.2 in let r : p ≤ said = omega (arith, most, here, e) in r),
              )
        ]

    pub largest_not : maps ≡ true → IsAutoVacuum d → uses.counts.largest_root ≢ said → ¬ IsLargestIn maps d charted said
    largest_not asked auto ne is =
        let h = is asked auto in
        let v = charted_root said h.0 h.1 in
        let most = m.counts.most v.0 v.1 v.3 in
        let here = v.2 in
        elim m.counts.one [
          | inl zero' ↦ (let above : 0 < said = h.0.0 in absurd (omega (arith, above, most, here, zero')))
          | inr s ↦ (let least = h.2 s.0.page (inside s.0 s.1) (root_charted s.0 s.1 s.2) in let at = s.3 in ne (omega (arith, least, at, most, here)))
        ]

-- A place was looked at, with more faults.
looked_more : (d : Database) (charted : List Role) (old more new : List CheckError) (t : Spot) → new ≡ old ++ more → IsLookedAt d charted old t → IsLookedAt d charted new t
looked_more d charted old more new t e (inl h) = inl h
looked_more d charted old more new t e (inr h) = inr (names_more (IsFaultOf d t) old more new e h)

roles_more : (d : Database) (firsts charted : List Role) (old more new : List CheckError) → new ≡ old ++ more → AreRolesFound d firsts charted old → AreRolesFound d firsts charted new
roles_more d firsts charted old more new e h = record {
  long = h.long;
  starts = λ s is. looked_more d charted old more new s e (h.starts s is);
  each = λ p is. elim (h.each p is) [ inl same ↦ inl same | inr k ↦ inr (k.0, k.1, k.2, k.3, by k.0 k.4) ];
}
  where
    by : (s : Spot) → IsLookedThrough d charted old s ⊎ Names old (IsWrongAt d s) → IsLookedThrough d charted new s ⊎ Names new (IsWrongAt d s)
    by s (inr wrong) = inr (names_more (IsWrongAt d s) old more new e wrong)
    by s (inl through) = inl (record {
      whole = through.whole;
      pages = λ t k. looked_more d charted old more new t e (through.pages t k);
      roots = λ t row short. elim (through.roots t row short) [ inl k ↦ inl (looked_more d charted old more new t e k) | inr many ↦ inr many ];
    })

-- The largest root is told, and then the faults of pages that nothing has named, behind those of the walk.
pub surveyed : (maps : Bool) (d : Database) (size : ℕ) (begins : Chart) (bars : List Bool) (visited : List Spot) (uses : Uses) (rows : List ℕ) (charted : List Role) (old told new : List CheckError)
    → Mapped maps d size begins bars true true visited [] uses rows charted old → TellsLargest maps d uses old told → HasNoFree d begins.roles.items → ArePutDown told (unused_faults 1 charted) new
    → ((¬ HasSoundHeader maps d size) → IsHeaderNamed begins.faults.items) → IsSurveyed maps d size begins.roles.items charted new
surveyed maps d size begins bars visited uses rows charted old told new m largest none down header = go largest
  where
    OfHeader : CheckError → Type 0
    OfHeader e = (e.page ≡ 1) × ((Rattle.sqcheck.specs.Stands.is_of_header e.fault ≡ true) ⊎ (e.fault ≡ Rattle.sqpage.specs.declared.fault.Fault.TheVariants.PointerMap))

    Named : CheckError → Type 0
    Named = IsNamedFault maps d size charted

    said : ℕ
    said = word (page d 1) 52

    with_more : (more : List CheckError) → told ≡ old ++ more → Every Named more → ((¬ IsLargestIn maps d charted said) → Names told IsLargestFault) → IsSurveyed maps d size begins.roles.items charted new
    with_more more e all_named named =
        let room : ℕ = most_faults - length told in
        let all = unused_faults 1 charted in
        let each = unnamed maps d size charted m.long 1 charted (λ i lt. ap (λ n. get_or charted n Unused) (let z : i ≡ 1 + i - 1 = omega arith in z)) (let z : 0 < 1 = omega arith in z) (let long = m.long in let z : 1 + length charted ≡ suc (length d) = omega (arith, long) in z) in
        let walked = only_named maps d size begins bars visited uses rows charted old m none in
        record {
          charted = roles_more d begins.roles.items charted told (take room all) new down (roles_more d begins.roles.items charted old more told e (roles_found maps d size begins bars visited uses rows charted old m));
          only = subst (Every Named) (sym down) (every_append Named told (take room all) (subst (Every Named) (sym e) (every_append Named old more walked all_named)) (every_take Named room all each));
          header = λ unsound. names_more OfHeader told (take room all) new down (names_more OfHeader old more told e (names_more OfHeader begins.faults.items m.more old m.grows (header unsound)));
          unused = λ p is unnamed.
              let long = m.long in
              let lt : p - 1 < length charted = (let a : 0 < p = is.0 in let b : p ≤ length d = is.1 in omega (arith, long, a, b)) in
              let i = told_unused maps d size charted m.long 1 charted (p - 1) lt unnamed in
              let back : 1 + (p - 1) ≡ p = (let a : 0 < p = is.0 in omega arith) in
              taken told all new down (unused_at (1 + (p - 1))) (λ e. (e.page ≡ p) × (e.fault ≡ Rattle.sqpage.specs.declared.fault.Fault.TheVariants.PageUnused)) i (back, refl);
          free = λ wrong. names_more IsFreeCount told (take room all) new down (names_more IsFreeCount old more told e (free_named_too maps d size begins bars visited uses rows charted old m none wrong));
          largest = λ wrong. names_more IsLargestFault told (take room all) new down (named wrong);
        }

    go : TellsLargest maps d uses old told → IsSurveyed maps d size begins.roles.items charted new
    go (inl same) = with_more [] (same.1 ∙ sym (append-nil old)) tt (λ isnt. absurd (isnt (largest_is maps d size begins bars visited uses rows charted old m none same.0)))
    go (inr (e, is, asked, auto, ne, put)) =
        let p = put_down_is e old told put in
        let wrong : Named e = inr (inr (inl (is.1, is.0, largest_not maps d size begins bars visited uses rows charted old m none asked auto ne))) in
        with_more p.1 p.2 (elim p.3 [ inl nothing ↦ subst (Every Named) (sym nothing) tt | inr one ↦ subst (Every Named) (sym one) (wrong, tt) ]) (λ isnt. names_down IsLargestFault e old told put is)

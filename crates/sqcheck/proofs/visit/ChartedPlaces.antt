-- What a survey has charted and told, step by step.
use Rattle.sqcheck.proofs.Between.{AddsItem, Apart, AreCounted, AreLeaves, AreMarked, Bool, Chart, Charts, CheckError, Database, Every, FreeDiffers, HasManyRoots, In, InPageAs, InRowAs, IsAboveOf, IsAsideWith, IsBarred, IsDealtWith, IsFaultOf, IsFirst, IsFound, IsFoundFault, IsFreeCount, IsInShortRow, IsItemOf, IsJudged, IsNamed, IsPage, IsProperRoot, IsRoleIn, IsSchemaLeaf, IsThrough, IsToldBy, IsWhole, IsWithin, IsWrongAt, Item, LinkFits, List, Mapped, Marks, Names, Node, None, NotRoot, NotSchema, PutsAside, Role, Spot, StandsIn, StandsInRow, TellsFound, Tour, Tree, Unused, Uses, [], ap, apart_snoc, arith, cases_eq, cond, count_by, drops, every_append, every_from_in, every_in, every_weaker, false, first, first_root_spot, free_leaf, free_pages, fresh_marked, get_or, get_or-set_other, get_or-set_same, in_cases, in_left, in_map, in_right, inl, inr, is_free, is_marked, length, link, names_table, node, numbers, places, refl, role_at, root, root_of_tree, set, spot, stands_in, stands_in_row, subst, suc, sum_by-append, sym, tours, true, trunk, twice, under_it, ℕ, ◌++◌, ◌+◌, ◌-◌, ◌<◌, ◌∙◌, ◌∷◌, ◌≡◌, ◌≢◌, ◌≤◌, ◌⊎◌}
use Rattle.sqcheck.proofs.visit.FaultsFound.{names_more, grown}
use Rattle.sqcheck.proofs.visit.StepsOfWalk.{counted_more}
use Rattle.sqcheck.specs.Places as places

-- What stands in a page that isn't of the freelist isn't either.
unfree_under : (d : Database) (s t : Spot) → StandsIn d s t → is_free s.role ≡ false → is_free t.role ≡ false
unfree_under d s t h none = go s.page s.role none h.1
  where
    go : (p : ℕ) (r : places.Role) → is_free r ≡ false → InPageAs d p r t → is_free t.role ≡ false
    go p trunk none k = absurd (cc)
    go p free_leaf none k = absurd k
    go p (link o n) none k = ap (λ (z : Spot). is_free z.role) k.1
    go p (node x) none (kind, has, inl k) = ap (λ (z : Spot). is_free z.role) k.4
    go p (node x) none (kind, has, inr (i, inl k)) = ap (λ (z : Spot). is_free z.role) k.5
    go p (node x) none (kind, has, inr (i, inr k)) = ap (λ (z : Spot). is_free z.role) k.2

-- Another page than one of the schema's tree has no rows of the schema.
no_rows_in : (d : Database) (p : ℕ) (r : places.Role) (t : Spot) → NotSchema r → ¬ InRowAs d p r t
no_rows_in d p trunk t n h = h
no_rows_in d p free_leaf t n h = h
no_rows_in d p (link o k) t n h = h
no_rows_in d p (node x) t n h = let both : true ≡ false = sym h.0 ∙ n in absurd (cc)

-- A root is the page that its tree has its name from.
pub record IsNodeFound (s : Spot) (x : Node) : Type 0 where
  pub least : 0 < x.level
  pub root : x.level ≡ 1 → x.tree ≡ s.page

node_of : (s t : Spot) (y x : Node) → t ≡ s → s.role ≡ node y → IsNodeFound s y → t.role ≡ node x → IsNodeFound t x
node_of s t y x same e h f =
    let both : node y ≡ node x = sym e ∙ ap (λ (z : Spot). z.role) (sym same) ∙ f in
    let is : y ≡ x = cc in
    subst (λ z. IsNodeFound z x) (sym same) (subst (IsNodeFound s) is h)

below_found : (d : Database) (s t : Spot) (x : Node) → ((y : Node) → s.role ≡ node y → IsNodeFound s y) → t.role ≡ node x → InPageAs d s.page s.role t → IsNodeFound t x
below_found d s t x was e h = go s.page s.role refl h
  where
    deeper : (y w : Node) → s.role ≡ node y → w.level ≡ suc y.level → t.role ≡ node w → IsNodeFound t x
    deeper y w same l f =
        let both : node w ≡ node x = sym f ∙ e in
        let is : w ≡ x = cc in
        let least = (was y same).least in
        let level : x.level ≡ suc y.level = ap (λ (z : Node). z.level) (sym is) ∙ l in
        record { least = omega (arith, level); root = λ one. absurd (omega (arith, level, least, one)) }

    go : (p : ℕ) (r : places.Role) → s.role ≡ r → InPageAs d p r t → IsNodeFound t x
    go p trunk same (inl k) = absurd (let both : free_leaf ≡ node x = sym (ap (λ (z : Spot). z.role) k.3) ∙ e in cc)
    go p trunk same (inr k) = absurd (let both : trunk ≡ node x = sym (ap (λ (z : Spot). z.role) k.1) ∙ e in cc)
    go p free_leaf same k = absurd k
    go p (link o n) same k = absurd (let both : link o (n - 1) ≡ node x = sym (ap (λ (z : Spot). z.role) k.1) ∙ e in cc)
    go p (node y) same (kind, has, inl k) = absurd (let both : link p (Rattle.sqpage.specs.Chain.links k.1) ≡ node x = sym (ap (λ (z : Spot). z.role) k.4) ∙ e in cc)
    go p (node y) same (kind, has, inr (i, inl k)) = deeper y _ same refl (ap (λ (z : Spot). z.role) k.5)
    go p (node y) same (kind, has, inr (i, inr k)) = deeper y _ same refl (ap (λ (z : Spot). z.role) k.2)

row_found_so : (d : Database) (p : ℕ) (r : places.Role) (t : Spot) (x : Node) → t.role ≡ node x → InRowAs d p r t → IsNodeFound t x
row_found_so d p trunk t x e k = absurd k
row_found_so d p free_leaf t x e k = absurd k
row_found_so d p (link o n) t x e k = absurd k
row_found_so d p (node y) t x e k = node_of (spot (root p k.1.1) k.1.3 (root_of_tree d k.1.3)) t (record { tree = k.1.3; table = names_table d k.1.3; schema = false; level = 1; low = None; high = None }) x k.1.7 refl (record { least = omega arith; root = λ one. refl }) e

pub node_found_so : (d : Database) (s : Spot) → IsFound d s → (x : Node) → s.role ≡ node x → IsNodeFound s x
node_found_so d s (first (inl h)) x e = absurd (let both : trunk ≡ node x = sym (ap (λ (z : Spot). z.role) h.1) ∙ e in cc)
node_found_so d s (first (inr h)) x e = node_of first_root_spot s (record { tree = 1; table = true; schema = true; level = 1; low = None; high = None }) x h refl (record { least = omega arith; root = λ one. refl }) e
node_found_so d t (stands_in {s = s} found whole h) x e = below_found d s t x (λ y same. node_found_so d s found y same) e h.1
node_found_so d t (stands_in_row {s = s} found whole h) x e = row_found_so d s.page s.role t x e h.1

-- What stands in a page of a tree is of the same tree.
tree_under : (d : Database) (visited : List Spot) (s t : Spot) → IsFound d s → IsAboveOf visited s → StandsIn d s t → IsAboveOf (visited ++ s ∷ []) t
tree_under d visited s t found above h x e = go s.page s.role refl h.1
  where
    mine : In s.page (numbers (visited ++ s ∷ []))
    mine = in_map (λ (z : Spot). z.page) s (visited ++ s ∷ []) (in_right s visited (s ∷ []) (inl refl))

    kept : (p : ℕ) → In p (numbers visited) → In p (numbers (visited ++ s ∷ []))
    kept p i = subst (In p) (sym (Rattle.sqcheck.proofs.checks.ListsByRecursion.map_append (λ (z : Spot). z.page) visited (s ∷ []))) (in_left p (numbers visited) (s.page ∷ []) i)

    below : (y w : Node) → s.role ≡ node y → w.tree ≡ y.tree → t.role ≡ node w → (x.level ≡ 1) ⊎ In x.tree (numbers (visited ++ s ∷ []))
    below y w of same f =
        let both : node w ≡ node x = sym f ∙ e in
        let is : w ≡ x = cc in
        let tree : x.tree ≡ y.tree = ap (λ (z : Node). z.tree) (sym is) ∙ same in
        inr (subst (λ q. In q (numbers (visited ++ s ∷ []))) (sym tree) (elim (above y of) [
          | inl one ↦ subst (λ q. In q (numbers (visited ++ s ∷ []))) (sym ((node_found_so d s found y of).root one)) mine
          | inr i ↦ kept y.tree i
        ]))

    go : (p : ℕ) (r : places.Role) → s.role ≡ r → InPageAs d p r t → (x.level ≡ 1) ⊎ In x.tree (numbers (visited ++ s ∷ []))
    go p trunk of (inl k) = absurd (let both : free_leaf ≡ node x = sym (ap (λ (z : Spot). z.role) k.3) ∙ e in cc)
    go p trunk of (inr k) = absurd (let both : trunk ≡ node x = sym (ap (λ (z : Spot). z.role) k.1) ∙ e in cc)
    go p free_leaf of k = absurd k
    go p (link o n) of k = absurd (let both : link o (n - 1) ≡ node x = sym (ap (λ (z : Spot). z.role) k.1) ∙ e in cc)
    go p (node y) of (kind, has, inl k) = absurd (let both : link p (Rattle.sqpage.specs.Chain.links k.1) ≡ node x = sym (ap (λ (z : Spot). z.role) k.4) ∙ e in cc)
    go p (node y) of (kind, has, inr (i, inl k)) = below y _ of refl (ap (λ (z : Spot). z.role) k.5)
    go p (node y) of (kind, has, inr (i, inr k)) = below y _ of refl (ap (λ (z : Spot). z.role) k.2)

-- What was judged is so with more places, faults and leaves.
pub judged_by : (d : Database) (late : Bool) (visited pending now then : List Spot) (old new : List CheckError) (rows leaves : List ℕ) (v : Spot) → ((t : Spot) → IsDealtWith d visited pending old t → IsDealtWith d now then new t)
    → ((p : ℕ) → In p rows → In p leaves) → (Names old (IsWrongAt d v) → Names new (IsWrongAt d v)) → IsJudged d late visited pending old rows v → IsJudged d late now then new leaves v
judged_by d late visited pending now then old new rows leaves v dealt kept named (inr h) = inr (named h)
judged_by d late visited pending now then old new rows leaves v dealt kept named (inl h) = inl (record {
  whole = h.whole;
  pages = λ t in_it. dealt t (h.pages t in_it);
  aside = λ leaf. kept v.page (h.aside leaf);
  roots = λ e t in_row short. elim (h.roots e t in_row short) [ inl k ↦ inl (dealt t k) | inr many ↦ inr many ];
})

-- a role more is charted
module _ (old new : List Role) (p : ℕ) (role : Role) (c : Charts old p role new) (above : 0 < p) (fits : p ≤ length old) where
  is_set : new ≡ set old (p - 1) role
  is_set = c.1 above fits

  pub charted_here : role_at new p ≡ role
  charted_here = ap (λ (l : List Role). get_or l (p - 1) Unused) is_set ∙ get_or-set_same old (p - 1) role Unused (omega (arith, above, fits))

  pub charted_other : (q : ℕ) → 0 < q → q ≢ p → role_at new q ≡ role_at old q
  charted_other q pos ne = ap (λ (l : List Role). get_or l (q - 1) Unused) is_set
      ∙ get_or-set_other old (p - 1) (q - 1) role Unused (λ e. ne (let r : q ≡ p = omega (arith, e, above, pos) in r))

module _ (maps : Bool) (d : Database) (size : ℕ) (first : Chart) (bars : List Bool) (counted late : Bool) where
  -- Faults are told.
  pub mapped_told : (visited pending : List Spot) (uses : Uses) (rows : List ℕ) (charted : List Role) (old new : List CheckError) → TellsFound maps d size old new
      → Mapped maps d size first bars counted late visited pending uses rows charted old → Mapped maps d size first bars counted late visited pending uses rows charted new
  mapped_told visited pending uses rows charted old new t m = record {
    tour = m.tour;
    barred = m.barred;
    long = m.long;
    roles = m.roles;
    others = m.others;
    counts = m.counts;
    starts = λ s is. dealt s (m.starts s is);
    judged = every_weaker (IsJudged d late visited pending old rows) (IsJudged d late visited pending new rows)
        (λ v h. judged_by d late visited pending visited pending old new rows rows v dealt (λ p i. i) (names_more (IsWrongAt d v) old t.more new t.is) h) visited m.judged;
    leaves = m.leaves;
    early = m.early;
    plain = m.plain;
    more = m.more ++ t.more;
    grows = grown first.faults.items m.more t.more old new m.grows t.is;
    trees = m.trees;
    proper = m.proper;
    only = subst (Every (IsToldBy maps d size counted visited)) (sym t.is) (every_append (IsToldBy maps d size counted visited) old t.more m.only
        (every_weaker (λ e. IsFoundFault maps d size e.fault e.page) (IsToldBy maps d size counted visited) (λ e h. inl h) t.more t.found));
    free = λ e. ((m.free e).0, λ differs. names_more IsFreeCount old t.more new t.is ((m.free e).1 differs));
  }
    where
      dealt : (s : Spot) → IsDealtWith d visited pending old s → IsDealtWith d visited pending new s
      dealt s (inl i) = inl i
      dealt s (inr named) = inr (names_more (IsFaultOf d s) old t.more new t.is named)

  -- The same is marked and counted.
  pub same_uses : (visited pending : List Spot) (uses new : Uses) (rows : List ℕ) (charted : List Role) (told : List CheckError) → new.marks.items ≡ uses.marks.items → new.counts ≡ uses.counts
      → Mapped maps d size first bars counted late visited pending uses rows charted told → Mapped maps d size first bars counted late visited pending new rows charted told
  same_uses visited pending uses new rows charted told marks counts m = record {
    tour = subst (λ l. Tour d (IsFound d) (IsBarred bars) l visited pending) (sym marks) m.tour;
    barred = m.barred;
    long = m.long;
    roles = m.roles;
    others = m.others;
    counts = subst (AreCounted visited) (sym counts) m.counts;
    starts = m.starts;
    judged = m.judged;
    leaves = m.leaves;
    early = m.early;
    plain = m.plain;
    more = m.more;
    grows = m.grows;
    trees = m.trees;
    proper = m.proper;
    only = m.only;
    free = m.free;
  }

  module _ (visited : List Spot) (s : Spot) (rest : List Spot) (uses : Uses) (rows : List ℕ) (charted : List Role) (told : List CheckError) (m : Mapped maps d size first bars counted late visited (s ∷ rest) uses rows charted told) where
    -- The next place isn't followed, and a fault of it is named.
    pub mapped_left : IsNamed d told s → Mapped maps d size first bars counted late visited rest uses rows charted told
    mapped_left named = record {
      tour = drops d (IsFound d) (IsBarred bars) uses.marks.items visited s rest m.tour;
      barred = m.barred;
      long = m.long;
      roles = m.roles;
      others = m.others;
      counts = m.counts;
      starts = λ t is. dealt t (m.starts t is);
      judged = every_weaker (IsJudged d late visited (s ∷ rest) told rows) (IsJudged d late visited rest told rows)
          (λ v h. judged_by d late visited (s ∷ rest) visited rest told told rows rows v dealt (λ p i. i) (λ n. n) h) visited m.judged;
      leaves = m.leaves;
      early = λ e. ((m.early e).0, (m.early e).1.1);
      plain = λ e. (m.plain e).1;
      more = m.more;
      grows = m.grows;
      trees = m.trees.1;
      proper = m.proper;
      only = m.only;
      free = λ e. ((m.free e).0.1, (m.free e).1);
    }
      where
        dealt : (t : Spot) → IsDealtWith d visited (s ∷ rest) told t → IsDealtWith d visited rest told t
        dealt t (inl (inl i)) = inl (inl i)
        dealt t (inl (inr (inl e))) = inr (subst (IsNamed d told) (sym e) named)
        dealt t (inl (inr (inr i))) = inl (inr i)
        dealt t (inr n) = inr n

    -- another place names its page too, or nothing may
    pub named_too : IsPage d s.page → is_marked uses.marks.items s.page ≡ true → ((v : Spot) × IsFound d v × (v.place ≢ s.place) × (v.page ≡ s.page)) ⊎ IsAsideWith maps d size s.page
    named_too page marked = elim (twice d (IsFound d) (IsBarred bars) uses.marks.items visited s rest m.tour page marked) [
      | inl v ↦ inl v
      | inr bar ↦ inr (m.barred s.page page bar)
    ]

    -- Its page is taken and charted, and what stands in it is to be followed next.
    module _ (new : Uses) (under : List Spot) (leaves : List ℕ) (role : Role) (now : List Role) (tree : Tree) (it : Item) (is : IsItemOf tree it s) (marks : Marks uses.marks.items new.marks.items s.page) (adds : AddsItem uses.counts new.counts it) (only : Every (StandsIn d s) under) (distinct : Apart (places under)) (found : Every (IsFound d) under) (fits : Every (LinkFits d) under) (has_role : IsRoleIn d s.page s.role role) (put : Charts charted s.page role now) where
      fresh : ¬ In s.page (numbers visited)
      fresh = fresh_marked (IsBarred bars) uses.marks.items new.marks.items (numbers visited) s.page m.tour.taken marks

      page : IsPage d s.page
      page = (marks.above, subst (λ n. s.page ≤ n) m.tour.sized marks.within)

      room : s.page ≤ length charted
      room = subst (λ n. s.page ≤ n) (sym m.long) page.1

      here : role_at now s.page ≡ role
      here = charted_here charted now s.page role put page.0 room

      other : (q : ℕ) → 0 < q → q ≢ s.page → role_at now q ≡ role_at charted q
      other = charted_other charted now s.page role put page.0 room

      pub dealt_on : (t : Spot) → IsDealtWith d visited (s ∷ rest) told t → IsDealtWith d (visited ++ s ∷ []) (under ++ rest) told t
      dealt_on t (inl (inl i)) = inl (inl (in_left t visited (s ∷ []) i))
      dealt_on t (inl (inr (inl e))) = inl (inl (in_right t visited (s ∷ []) (inl e)))
      dealt_on t (inl (inr (inr i))) = inl (inr (in_right t under rest i))
      dealt_on t (inr n) = inr n

      abbrev RoleNow : Spot → Type 0
      RoleNow v = IsRoleIn d v.page v.role (role_at now v.page)

      kept_roles : Every RoleNow visited
      kept_roles = every_from_in RoleNow visited (λ v i.
          let was = every_in (λ v. IsRoleIn d v.page v.role (role_at charted v.page)) v visited m.roles i in
          let inside = every_in (λ p. IsWithin (length uses.marks.items) p × ¬ IsBarred bars p) v.page (numbers visited) m.tour.taken.within (in_map (λ (z : Spot). z.page) v visited i) in
          let ne : v.page ≢ s.page = λ e. fresh (subst (λ p. In p (numbers visited)) e (in_map (λ (z : Spot). z.page) v visited i)) in
          subst (IsRoleIn d v.page v.role) (sym (other v.page inside.0.0 ne)) was)

      differs_same : is_free s.role ≡ false → count_by (λ (z : Spot). is_free z.role) (visited ++ s ∷ []) ≡ count_by (λ (z : Spot). is_free z.role) visited
      differs_same none =
          let e = sum_by-append (λ (z : Spot). cond (is_free z.role) 1 0) visited (s ∷ []) in
          let one : ◌≡◌ {A = ℕ} (cond (is_free s.role) 1 0) 0 = ap (λ b. cond b 1 0) none in
          omega (arith, e, one)

      told_on : (e : CheckError) → IsToldBy maps d size counted visited e → IsToldBy maps d size counted (visited ++ s ∷ []) e
      told_on e (inl h) = inl h
      told_on e (inr h) = inr (h.0, h.1, λ same. h.2 (sym (differs_same ((m.free h.1).0.0)) ∙ same))

      pub mapped_taken : AreLeaves d (visited ++ s ∷ []) leaves → ((p : ℕ) → In p rows → In p leaves) → IsJudged d late (visited ++ s ∷ []) (under ++ rest) told leaves s
          → Mapped maps d size first bars counted late (visited ++ s ∷ []) (under ++ rest) new leaves now told
      mapped_taken aside kept judged = record {
        tour = tours d (IsFound d) (IsBarred bars) uses.marks.items visited s rest m.tour new.marks.items under marks only distinct found fits;
        barred = m.barred;
        long = put.0 ∙ m.long;
        roles = every_append RoleNow visited (s ∷ []) kept_roles (subst (IsRoleIn d s.page s.role) (sym here) has_role, tt);
        others = λ p within none.
            let ne : p ≢ s.page = λ e. none (subst (λ q. In q (numbers (visited ++ s ∷ []))) (sym e) (in_map (λ (z : Spot). z.page) s (visited ++ s ∷ []) (in_right s visited (s ∷ []) (inl refl)))) in
            other p within.0 ne ∙ m.others p within (λ i. none (numbers_left p i));
        counts = counted_more tree visited s it uses.counts new.counts is.role is.page m.counts adds;
        starts = λ t is. dealt_on t (m.starts t is);
        judged = every_append (IsJudged d late (visited ++ s ∷ []) (under ++ rest) told leaves) visited (s ∷ [])
            (every_weaker (IsJudged d late visited (s ∷ rest) told rows) (IsJudged d late (visited ++ s ∷ []) (under ++ rest) told leaves)
            (λ v h. judged_by d late visited (s ∷ rest) (visited ++ s ∷ []) (under ++ rest) told told rows leaves v dealt_on kept (λ n. n) h) visited m.judged) (judged, tt);
        leaves = aside;
        early = λ e. let h = m.early e in (
          every_append (λ v. NotRoot v.place) visited (s ∷ []) h.0 (h.1.0, tt),
          every_append (λ v. NotRoot v.place) under rest (every_weaker (StandsIn d s) (λ t. NotRoot t.place) (λ t k. (under_it d s t k).no_root) under only) h.1.1,
        );
        plain = λ e. every_append (λ x. NotSchema x.role) under rest (every_weaker (StandsIn d s) (λ t. NotSchema t.role) (λ t k. (under_it d s t k).same_tree (m.plain e).0) under only) (m.plain e).1;
        more = m.more;
        grows = m.grows;
        trees = every_append (IsAboveOf (visited ++ s ∷ [])) under rest (every_weaker (StandsIn d s) (IsAboveOf (visited ++ s ∷ [])) (λ t h. tree_under d visited s t m.tour.waiting.0 m.trees.0 h) under only)
            (every_weaker (IsAboveOf visited) (IsAboveOf (visited ++ s ∷ [])) (λ t h x e. elim (h x e) [ inl one ↦ inl one | inr i ↦ inr (numbers_left x.tree i) ]) rest m.trees.1);
        proper = every_append IsProperRoot visited (s ∷ []) m.proper ((λ x e same. elim (m.trees.0 x e) [ inl one ↦ one | inr i ↦ absurd (fresh (subst (λ q. In q (numbers visited)) same i)) ]), tt);
        only = every_weaker (IsToldBy maps d size counted visited) (IsToldBy maps d size counted (visited ++ s ∷ [])) told_on told m.only;
        free = λ e. let h = m.free e in (
          every_append (λ x. is_free x.role ≡ false) under rest (every_weaker (StandsIn d s) (λ t. is_free t.role ≡ false) (λ t k. unfree_under d s t k h.0.0) under only) h.0.1,
          λ differs. h.1 (λ same. differs (differs_same h.0.0 ∙ same)),
        );
      }
        where
          numbers_left : (p : ℕ) → In p (numbers visited) → In p (numbers (visited ++ s ∷ []))
          numbers_left p i = subst (In p) (sym (Rattle.sqcheck.proofs.checks.ListsByRecursion.map_append (λ (z : Spot). z.page) visited (s ∷ []))) (in_left p (numbers visited) (s.page ∷ []) i)

      abbrev IsLeafOf : List Spot → ℕ → Type 0
      IsLeafOf vs p = (v : Spot) × In v vs × IsWhole d v × (v.page ≡ p) × IsSchemaLeaf d p v.role

      pub leaves_kept : AreLeaves d (visited ++ s ∷ []) rows
      leaves_kept = record {
        only = every_weaker (IsLeafOf visited) (IsLeafOf (visited ++ s ∷ [])) (λ p k. (k.0, in_left k.0 visited (s ∷ []) k.1, k.2, k.3, k.4)) rows m.leaves.only;
        distinct = m.leaves.distinct;
      }

      -- The leaves of the schema's tree, with it or without.
      pub leaves_more : IsWhole d s → PutsAside d s.page s.role rows leaves → AreLeaves d (visited ++ s ∷ []) leaves
      leaves_more whole (inr h) = subst (AreLeaves d (visited ++ s ∷ [])) (sym h.1) leaves_kept
      leaves_more whole (inl h) = subst (AreLeaves d (visited ++ s ∷ [])) (sym h.1) (record {
        only = every_append (IsLeafOf (visited ++ s ∷ [])) rows (s.page ∷ []) leaves_kept.only ((s, in_right s visited (s ∷ []) (inl refl), whole, refl, h.0), tt);
        distinct = apart_snoc rows s.page m.leaves.distinct (λ i.
            let k = every_in (IsLeafOf visited) s.page rows m.leaves.only i in
            fresh (subst (λ q. In q (numbers visited)) k.3 (in_map (λ (z : Spot). z.page) k.0 visited k.1)));
      })

      -- It is as its role wants it, and all that stands in it is to be followed.
      pub through : IsWhole d s → ((t : Spot) → StandsIn d s t → In t under) → (IsSchemaLeaf d s.page s.role → In s.page leaves) → IsThrough d late (visited ++ s ∷ []) (under ++ rest) told leaves s
      through whole all aside = record {
        whole = whole;
        pages = λ t h. inl (inr (in_left t under rest (all t h)));
        aside = aside;
        roots = λ e t row short. absurd (no_rows_in d s.page s.role t (m.plain e).0 row.1);
      }

-- The steps of the walk.
use Rattle.sqcheck.proofs.Between.{AddsItem, Agenda, Apart, AreCounted, AreEntered, AreMarked, Bool, Counts, Database, EntryPlace, EntryRefused, EntrySays, Every, Fault, FollowRefused, FollowRefusedBy, Follows, HasEntry, In, InPageAs, IsAside, IsAsideWith, IsAutoVacuum, IsEntryPlace, IsFirstLevel, IsItemOf, IsMapped, IsPage, IsProper, IsPutDown, IsReached, IsSchemaLeaf, IsSetAside, IsSound, IsSoundAs, IsTrue, IsWithin, Item, Knows, LinkFits, LinksOn, List, MarkRefused, Marks, Match, Node, NodeRefused, None, Option, PageWrong, PutsAside, RowsAre, SaysSo, Some, Spot, StandsAsked, StandsBy, StandsIn, Stems, Stood, Task, TopLeads, Tree, Uses, Walk, Walking, [], ap, apart_snoc, append-nil, append_assoc, arith, cond, either, every_append, every_in, every_weaker, false, follows, free_leaf, fresh_marked, holder, in_btree, in_cases, in_freelist, in_left, in_map, in_overflow, in_right, in_trees, inl, inr, is_free, is_link, is_marked, is_node, is_root, kind_code, kind_named, length, link, match_append, node, numbers, overflow, page, parent_by, refl, refused_by, reverse, reverse-append, role_of, root_in, subst, sum_by-append, sym, true, trunk, twice, usable_size, ℕ, ⊎_elim, ◌++◌, ◌<◌, ◌∙◌, ◌∷◌, ◌≡◌, ◌≢◌, ◌≤◌, ◌⊎◌}
use Rattle.sqcheck.specs.Places.{Role}
use Rattle.sqpage.specs.declared.fault.Fault.TheVariants as faults
use Rattle.sqcheck.specs.declared.item.Task.TheVariants as tasks

-- The item on top of the stack, with its place.
pub record Top (tree : Tree) (it : Item) (below : List Item) (pending : List Spot) : Type 0 where
  pub spot : Spot
  pub others : List Spot
  pub are : pending ≡ spot ∷ others
  pub is : IsItemOf tree it spot
  pub match : Match tree below others

pub top_of : (tree : Tree) (it : Item) (below : List Item) (pending : List Spot) → Match tree (it ∷ below) pending → Top tree it below pending
top_of tree it below [] m = absurd m
top_of tree it below (s ∷ ss) m = record { spot = s; others = ss; are = refl; is = m.0; match = m.1 }

pub popped_top : (tree : Tree) (stack popped : List Item) (it : Item) (pending : List Spot) → Match tree (reverse stack) pending → stack ≡ popped ++ it ∷ [] → Top tree it (reverse popped) pending
popped_top tree stack popped it pending m e = top_of tree it (reverse popped) pending (subst (λ l. Match tree l pending) (ap reverse e ∙ reverse-append popped (it ∷ [])) m)

-- What is wrong with a page of a tree stands at it.
pub node_stands : (Counts IsKnown : Spot → Type 0) (d : Database) (maps : Bool) (size : ℕ) (s : Spot) → Counts s → (p : ℕ) (x : Node) (fault : Fault) → s.page ≡ p → s.role ≡ node x → IsPage d p → NodeRefused d fault p x → StandsBy Counts IsKnown maps d size fault p
node_stands Counts IsKnown d maps size s r p x faults.Kind e role page h = (s, x, r, e, page, role, h)
node_stands Counts IsKnown d maps size s r p x faults.CellOutside e role page h = (s, x, r, e, page, role, h)
node_stands Counts IsKnown d maps size s r p x faults.Overlap e role page h = (s, x, r, e, page, role, h)
node_stands Counts IsKnown d maps size s r p x faults.Freeblock e role page h = (s, x, r, e, page, role, h)
node_stands Counts IsKnown d maps size s r p x faults.Fragments e role page h = (s, x, r, e, page, role, h)
node_stands Counts IsKnown d maps size s r p x faults.KeyOrder e role page h = (s, x, r, e, page, role, h)
node_stands Counts IsKnown d maps size s r p x faults.Depth e role page h = (s, x, r, e, page, role, h)
node_stands Counts IsKnown d maps size s r p x faults.SchemaRecord e role page h = (s, x, r, e, page, role, h)
node_stands Counts IsKnown d maps size s r p x _ e role page h = absurd h

-- What is said of a fault at a place that comes next.
module _ (Counts IsKnown : Spot → Type 0) (Aside : ℕ → Type 0) (d : Database) (maps : Bool) (size : ℕ) (aside_is : (p : ℕ) → Aside p → IsAsideWith maps d size p) (tree : Tree) (it : Item) (s : Spot) (is : IsItemOf tree it s) (r : Counts s) where
  wrong : (p : ℕ) (role : Role) (fault : Fault) → s.page ≡ p → s.role ≡ role → IsPage d p → PageWrong d p role fault → StandsBy Counts IsKnown maps d size fault p
  wrong p trunk fault e role page h = subst (λ f. StandsBy Counts IsKnown maps d size f p) (sym h.0) (inl (s, r, e, page, role, h.1))
  wrong p free_leaf fault e role page h = absurd h
  wrong p (link owner needed) fault e role page h = subst (λ f. StandsBy Counts IsKnown maps d size f p) (sym h.0) (s, owner, r, e, page, role ∙ ap (link owner) h.1, h.2)
  wrong p (node x) fault e role page h = node_stands Counts IsKnown d maps size s r p x fault e role page h

  link_named : (task : Task) → LinksOn task it.page → IsTrue (is_link (role_of tree task)) → it.page ≢ 0
  link_named (tasks.Link o n first) h l = h
  link_named tasks.Trunk h l = absurd (cc)
  link_named tasks.Leaf h l = absurd (cc)
  link_named (tasks.Node level low high) h l = absurd (cc)

  not_taken : (marks : List Bool) (fault : Fault) (at : ℕ) → length marks ≡ length d → LinksOn it.task it.page → MarkRefused marks it.holder it.page fault at
      → (IsWithin (length d) s.page → is_marked marks s.page ≡ true → ((v : Spot) × Counts v × (v.place ≢ s.place) × (v.page ≡ s.page)) ⊎ Aside s.page) → StandsBy Counts IsKnown maps d size fault at
  not_taken marks faults.PageOutside at len links h both = (
    s,
    r,
    sym is.stands ∙ sym h.0,
    (λ page. h.1 (subst (λ n. IsWithin n it.page) (sym len) (subst (IsPage d) (sym is.page) page))),
    (λ l z. link_named it.task links (subst (λ role. IsTrue (is_link role)) is.role l) (is.page ∙ z)),
  )
  not_taken marks faults.PageTwice at len links h both =
      let page : IsPage d it.page = subst (λ n. IsWithin n it.page) len (h.1, h.2) in
      subst (StandsBy Counts IsKnown maps d size faults.PageTwice) (sym h.0) (
        page,
        elim (both (subst (IsPage d) is.page page) (subst (λ n. is_marked marks n ≡ true) is.page h.3)) [
          | inl v ↦ inl (v.0, s, v.1, r, v.2, v.3 ∙ sym is.page, sym is.page)
          | inr aside ↦ inr (aside_is it.page (subst Aside (sym is.page) aside), s, r, sym is.page)
        ],
      )
  not_taken marks _ at len links h both = absurd h

  -- A chain is cut.
  cut : (owner needed at : ℕ) → LinkFits d s → s.role ≡ link owner needed → holder s.place ≡ at → (it.page ≡ 0) ⊎ (length d < needed) → StandsBy Counts IsKnown maps d size faults.ChainCut at
  cut owner needed at fits role holds (inl none) = (s, owner, needed, r, role, holds, inl (sym is.page ∙ none))
  cut owner needed at fits role holds (inr more) = elim (fits owner needed role) [
    | inl o ↦ (s, owner, needed, r, role, holds, inr (o.0, o.1 ∙ ap (λ p. overflow p o.0) holds, more))
    | inr le ↦ absurd (omega (arith, le, more))
  ]

  pub refusal_stands : (marks : List Bool) (fault : Fault) (at : ℕ) → length marks ≡ length d → LinkFits d s → FollowRefused d tree it marks fault at
      → (IsWithin (length d) s.page → is_marked marks s.page ≡ true → ((v : Spot) × Counts v × (v.place ≢ s.place) × (v.page ≡ s.page)) ⊎ Aside s.page) → StandsBy Counts IsKnown maps d size fault at
  refusal_stands marks fault at len fits (inl h) both = not_taken marks fault at len h.0 h.1 both
  refusal_stands marks fault at len fits (inr (inl h)) both = subst (StandsBy Counts IsKnown maps d size fault) (sym h.0) (wrong it.page (role_of tree it.task) fault (sym is.page) is.role h.1 h.2)
  refusal_stands marks fault at len fits (inr (inr (inl h))) both =
      subst (λ f. StandsBy Counts IsKnown maps d size f at) (sym h.0) (cut h.2 h.3 at fits (is.role ∙ ap (role_of tree) h.5) (sym is.stands ∙ sym h.1) h.6)
  refusal_stands marks fault at len fits (inr (inr (inr h))) both = subst (λ f. StandsBy Counts IsKnown maps d size f at) (sym h) tt

-- With pointer maps asked for, a page that is set aside is one that nothing may name.
pub aside_asked : (d : Database) (maps : Bool) (size : ℕ) → length (page d 1) ≡ size → (IsAutoVacuum d → maps ≡ true) → (p : ℕ) → IsAside d p → IsAsideWith maps d size p
aside_asked d maps size same asked p h = ⊎_elim (λ lock. inl lock) (λ map. inr (asked map.0, map.0, map.1)) (subst (λ n. IsSetAside d n p) same h)

-- The pages put aside, after one more place was visited.
rows_more : (d : Database) (marks : List Bool) (new_marks : List Bool) (visited : List Spot) (s : Spot) (old new : List ℕ) → AreMarked (IsAside d) marks (numbers visited) → Marks marks new_marks s.page → RowsAre d visited old → PutsAside d s.page s.role old new
    → RowsAre d (visited ++ s ∷ []) new
rows_more d marks new_marks visited s old new taken m rows (inr h) = record {
  all = λ t i leaf. elim (in_cases t visited (s ∷ []) i) [
    | inl was ↦ subst (In t.page) (sym h.1) (rows.all t was leaf)
    | inr one ↦ elim one [ inl e ↦ absurd (h.0 (subst (λ z. IsSchemaLeaf d z.page z.role) e leaf)) | inr none ↦ absurd none ]
  ];
  only = subst (Every _) (sym h.1) (every_weaker _ _ (λ p k. (k.0, in_left k.0 visited (s ∷ []) k.1, k.2, k.3)) old rows.only);
  distinct = subst Apart (sym h.1) rows.distinct;
}
rows_more d marks new_marks visited s old new taken m rows (inl h) = record {
  all = λ t i leaf. elim (in_cases t visited (s ∷ []) i) [
    | inl was ↦ subst (In t.page) (sym h.1) (in_left t.page old (s.page ∷ []) (rows.all t was leaf))
    | inr one ↦ elim one [ inl e ↦ subst (In t.page) (sym h.1) (in_right t.page old (s.page ∷ []) (inl (ap (λ (z : Spot). z.page) e))) | inr none ↦ absurd none ]
  ];
  only = subst (Every _) (sym h.1) (every_append _ old (s.page ∷ []) (every_weaker _ _ (λ p k. (k.0, in_left k.0 visited (s ∷ []) k.1, k.2, k.3)) old rows.only)
      ((s, in_right s visited (s ∷ []) (inl refl), refl, h.0), tt));
  distinct = subst Apart (sym h.1) (apart_snoc old s.page rows.distinct (λ i.
      let k = every_in (λ p. (t : Spot) × In t visited × (t.page ≡ p) × IsSchemaLeaf d p t.role) s.page old rows.only i in
      fresh_marked (IsAside d) marks new_marks (numbers visited) s.page taken m (subst (λ q. In q (numbers visited)) k.2 (in_map (λ z. z.page) k.0 visited k.1))));
}

pub counted_more : (tree : Tree) (visited : List Spot) (s : Spot) (it : Item) (old new : Counts) → s.role ≡ role_of tree it.task → it.page ≡ s.page → AreCounted visited old → AddsItem old new it → AreCounted (visited ++ s ∷ []) new
counted_more tree visited s it old new role page c a = record {
  trees = a.trees ∙ (let e = sum_by-append (λ (z : Spot). cond (is_root z.role) 1 0) visited (s ∷ []) in omega (arith, e, c.trees, root_adds));
  btree = a.btree ∙ (let e = sum_by-append (λ (z : Spot). cond (is_node z.role) 1 0) visited (s ∷ []) in omega (arith, e, c.btree, node_adds));
  overflow = a.overflow ∙ (let e = sum_by-append (λ (z : Spot). cond (is_link z.role) 1 0) visited (s ∷ []) in omega (arith, e, c.overflow, link_adds));
  free = a.free ∙ (let e = sum_by-append (λ (z : Spot). cond (is_free z.role) 1 0) visited (s ∷ []) in omega (arith, e, c.free, free_adds));
  most = λ t i is. elim (in_cases t visited (s ∷ []) i) [
    | inl was ↦ (let below : t.page ≤ old.largest_root = c.most t was is in let kept : old.largest_root ≤ new.largest_root = a.kept in let r : t.page ≤ new.largest_root = omega arith in r)
    | inr one ↦ elim one [
      | inl e ↦
          let root : is_root (role_of tree it.task) ≡ true = ap is_root (sym role) ∙ ap (λ (z : Spot). is_root z.role) (sym e) ∙ is in
          let same : root_in it.task it.page ≡ t.page = root_page it.task it.page root ∙ page ∙ ap (λ (z : Spot). z.page) (sym e) in
          subst (λ n. n ≤ new.largest_root) same a.above
      | inr none ↦ absurd none
    ]
  ];
  one = elim a.one [
    | inl same ↦ elim c.one [ inl zero' ↦ inl (same ∙ zero') | inr k ↦ inr (k.0, in_left k.0 visited (s ∷ []) k.1, k.2, k.3 ∙ sym same) ]
    | inr last ↦ elim (either (is_root (role_of tree it.task))) [
      | inl root ↦ inr (s, in_right s visited (s ∷ []) (inl refl), ap is_root role ∙ root, sym (last ∙ root_page it.task it.page root ∙ page))
      | inr none ↦ inl (last ∙ no_root it.task it.page none)
    ]
  ];
}
  where
    root_page : (t : Task) (p : ℕ) → is_root (role_of tree t) ≡ true → root_in t p ≡ p
    root_page tasks.Trunk p is = absurd (cc)
    root_page tasks.Leaf p is = absurd (cc)
    root_page (tasks.Link o n first) p is = absurd (cc)
    root_page (tasks.Node l a b) p is = ap (λ z. cond z p 0) is

    no_root : (t : Task) (p : ℕ) → is_root (role_of tree t) ≡ false → root_in t p ≡ 0
    no_root tasks.Trunk p is = refl
    no_root tasks.Leaf p is = refl
    no_root (tasks.Link o n first) p is = refl
    no_root (tasks.Node l a b) p is = ap (λ z. cond z p 0) is

    root_of_task : (t : Task) → ◌≡◌ {A = ℕ} (cond (is_root (role_of tree t)) 1 0) (in_trees t)
    root_of_task tasks.Trunk = refl
    root_of_task tasks.Leaf = refl
    root_of_task (tasks.Link o n first) = refl
    root_of_task (tasks.Node l a b) = refl

    root_adds : ◌≡◌ {A = ℕ} (cond (is_root s.role) 1 0) (in_trees it.task)
    root_adds = ap (λ r. cond (is_root r) 1 0) role ∙ root_of_task it.task

    node_of_task : (t : Task) → ◌≡◌ {A = ℕ} (cond (is_node (role_of tree t)) 1 0) (in_btree t)
    node_of_task tasks.Trunk = refl
    node_of_task tasks.Leaf = refl
    node_of_task (tasks.Link o n first) = refl
    node_of_task (tasks.Node l a b) = refl

    link_of_task : (t : Task) → ◌≡◌ {A = ℕ} (cond (is_link (role_of tree t)) 1 0) (in_overflow t)
    link_of_task tasks.Trunk = refl
    link_of_task tasks.Leaf = refl
    link_of_task (tasks.Link o n first) = refl
    link_of_task (tasks.Node l a b) = refl

    free_of_task : (t : Task) → ◌≡◌ {A = ℕ} (cond (is_free (role_of tree t)) 1 0) (in_freelist t)
    free_of_task tasks.Trunk = refl
    free_of_task tasks.Leaf = refl
    free_of_task (tasks.Link o n first) = refl
    free_of_task (tasks.Node l a b) = refl

    node_adds : ◌≡◌ {A = ℕ} (cond (is_node s.role) 1 0) (in_btree it.task)
    node_adds = ap (λ r. cond (is_node r) 1 0) role ∙ node_of_task it.task

    link_adds : ◌≡◌ {A = ℕ} (cond (is_link s.role) 1 0) (in_overflow it.task)
    link_adds = ap (λ r. cond (is_link r) 1 0) role ∙ link_of_task it.task

    free_adds : ◌≡◌ {A = ℕ} (cond (is_free s.role) 1 0) (in_freelist it.task)
    free_adds = ap (λ r. cond (is_free r) 1 0) role ∙ free_of_task it.task

-- The entry of an item's page is that of the place's.
entry_says : (d : Database) (tree : Tree) (it : Item) (s : Spot) (entry : EntryPlace) → IsItemOf tree it s → EntrySays d entry it → SaysSo d entry s.place s.role
entry_says d tree it s entry is h = (h.0 ∙ ap kind_code is.kind, h.1 ∙ ap (λ k. parent_by k it.holder) is.kind ∙ ap (parent_by (kind_named s.place s.role)) is.stands)

pub says_entry : (d : Database) (tree : Tree) (it : Item) (s : Spot) (entry : EntryPlace) → IsItemOf tree it s → SaysSo d entry s.place s.role → EntrySays d entry it
says_entry d tree it s entry is h =
    (h.0 ∙ ap kind_code (sym is.kind), h.1 ∙ sym (ap (λ k. parent_by k it.holder) is.kind ∙ ap (parent_by (kind_named s.place s.role)) is.stands))

entered_more : (d : Database) (tree : Tree) (visited : List Spot) (it : Item) (s : Spot) → IsItemOf tree it s → IsMapped d it → AreEntered d visited → AreEntered d (visited ++ s ∷ [])
entered_more d tree visited it s is mapped entered = λ auto. every_append (HasEntry d (length (page d 1))) visited (s ∷ []) (entered auto)
    ((λ entry at. entry_says d tree it s entry is (mapped auto entry (subst (λ p. IsEntryPlace (length (page d 1)) (usable_size d) p entry) (sym is.page) at))), tt)

module _ (d : Database) (late : Bool) (tree : Tree) (visited rest : List Spot) (uses : Uses) (walk popped : Walk) (it : Item) (w : Walking d late tree visited rest uses walk)
    (e : walk.stack.items ≡ popped.stack.items ++ it ∷ []) (rows : popped.rows.items ≡ walk.rows.items) (level : popped.leaf_level ≡ walk.leaf_level) where
  top : Top tree it (reverse popped.stack.items) w.pending
  top = popped_top tree walk.stack.items popped.stack.items it w.pending w.match e

  agenda : Agenda d late uses.marks.items visited (top.spot ∷ (top.others ++ rest))
  agenda = subst (λ l. Agenda d late uses.marks.items visited (l ++ rest)) top.are w.agenda

  pub proper_top : IsProper it.task
  proper_top = top.is.proper

  pub knows_top : Knows d tree.root popped.leaf_level (it ∷ reverse popped.stack.items)
  knows_top = subst (λ n. Knows d tree.root n (it ∷ reverse popped.stack.items)) (sym level) (subst (Knows d tree.root walk.leaf_level) (ap reverse e ∙ reverse-append popped.stack.items (it ∷ [])) w.knows)

  -- The item is followed.
  pub walks_on : (new_uses : Uses) (new : Walk) → Follows d tree it uses new_uses popped new → IsMapped d it → (s : Spot) × IsItemOf tree it s × Walking d late tree (visited ++ s ∷ []) rest new_uses new
  walks_on new_uses new f mapped =
      let new_marks : List Bool = new_uses.marks.items in
      let s : Spot = top.spot in
      let m : Marks uses.marks.items new_marks s.page = subst (Marks uses.marks.items new_marks) top.is.page f.visits.marked in
      let p = f.visits.pushes in
      let here : (t : Spot) → InPageAs d it.page (role_of tree it.task) t → StandsIn d s t = λ t h.
      (subst (λ n. IsWithin n s.page) w.agenda.tour.sized (m.above, m.within), subst (λ r. InPageAs d s.page r t) (sym top.is.role) (subst (λ q. InPageAs d q (role_of tree it.task) t) top.is.page h)) in
      let stems : Stems d s p.spots = record {
        only = every_weaker (InPageAs d it.page (role_of tree it.task)) (StandsIn d s) here p.spots p.only;
        all = λ t h. p.all t (subst (λ q. InPageAs d q (role_of tree it.task) t) (sym top.is.page) (subst (λ r. InPageAs d s.page r t) top.is.role h.1));
        distinct = p.distinct;
      } in
      let sound : IsSound d s = record {
        named = subst (λ n. IsWithin n s.page) w.agenda.tour.sized (m.above, m.within);
        sound_as = subst (λ r. IsSoundAs d s.page r) (sym top.is.role) (subst (λ q. IsSoundAs d q (role_of tree it.task)) top.is.page f.visits.sound);
      } in (
        s,
        top.is,
        record {
          pending = p.spots ++ top.others;
          match = subst (λ l. Match tree l (p.spots ++ top.others)) (sym p.pushed) (match_append tree p.items (reverse popped.stack.items) p.spots top.others p.match top.match);
          agenda = subst (Agenda d late new_marks (visited ++ s ∷ [])) (sym (append_assoc p.spots top.others rest)) (follows d late uses.marks.items visited s (top.others ++ rest) agenda new_marks p.spots m sound stems);
          knows = f.knows;
          rows = rows_more d uses.marks.items new_marks visited s popped.rows.items new.rows.items w.agenda.tour.taken m (subst (RowsAre d visited) (sym rows) w.rows)
              (subst (λ r. PutsAside d s.page r popped.rows.items new.rows.items) (sym top.is.role) (subst (λ q. PutsAside d q (role_of tree it.task) popped.rows.items new.rows.items) top.is.page f.aside));
          counted = counted_more tree visited s it uses.counts new_uses.counts top.is.role top.is.page w.counted f.counted;
          entered = entered_more d tree visited it s top.is mapped w.entered;
        },
      )

  -- Or it isn't.
  pub walk_refused : (fault : Fault) (at : ℕ) → FollowRefusedBy (IsPutDown popped.leaf_level) d tree it uses.marks.items fault at → StandsAsked d fault at
  walk_refused fault at h maps size same asked =
      let f : FollowRefused d tree it uses.marks.items fault at = refused_by (IsPutDown popped.leaf_level) (IsFirstLevel d) d tree it uses.marks.items fault at knows_top.level h in
      refusal_stands (IsReached d) (IsSound d) (IsAside d) d maps size (aside_asked d maps size same asked) tree it top.spot top.is (agenda.tour.waiting.0) uses.marks.items fault at w.agenda.tour.sized (agenda.tour.fits.0) f (twice d (IsReached d) (IsAside d) uses.marks.items visited top.spot (top.others ++ rest) agenda.tour)

  -- Or the entry of its page is wrong.
  pub entry_stands : (fault : Fault) (at : ℕ) → EntryRefused d it fault at → StandsAsked d fault at
  entry_stands fault at h maps size same asked =
      let here : IsEntryPlace size (usable_size d) top.spot.page h.2 =
      subst (λ n. IsEntryPlace n (usable_size d) top.spot.page h.2) same (subst (λ p. IsEntryPlace (length (page d 1)) (usable_size d) p h.2) top.is.page h.3) in
      subst (λ f. StandsBy (IsReached d) (IsSound d) maps d size f at) (sym h.0) (asked h.1, inl (h.1, inl (top.spot, h.2, agenda.tour.waiting.0, here, h.4, λ says. h.5 (says_entry d tree it top.spot h.2 top.is says))))

-- Nothing was on the stack.
pub nothing_popped : (d : Database) (late : Bool) (tree : Tree) (visited rest : List Spot) (uses : Uses) (walk popped : Walk) → Walking d late tree visited rest uses walk → walk.stack.items ≡ popped.stack.items ++ []
    → popped.rows.items ≡ walk.rows.items → popped.leaf_level ≡ walk.leaf_level → Walking d late tree visited rest uses popped
nothing_popped d late tree visited rest uses walk popped w e rows level =
    let same : walk.stack.items ≡ popped.stack.items = e ∙ append-nil popped.stack.items in
    record {
      pending = w.pending;
      match = subst (λ l. Match tree (reverse l) w.pending) same w.match;
      agenda = w.agenda;
      knows = subst (λ n. Knows d tree.root n (reverse popped.stack.items)) (sym level) (subst (λ l. Knows d tree.root walk.leaf_level (reverse l)) same w.knows);
      rows = subst (RowsAre d visited) (sym rows) w.rows;
      counted = w.counted;
      entered = w.entered;
    }

-- A place is put on an empty stack.
pub starts_walk : (d : Database) (late : Bool) (tree : Tree) (visited rest : List Spot) (s : Spot) (uses : Uses) (aside : List ℕ) (walk : Walk) (it : Item) → Stood d late visited (s ∷ rest) uses.marks.items aside uses.counts
    → IsItemOf tree it s → TopLeads d tree.root (it ∷ []) → walk.stack.items ≡ it ∷ [] → walk.rows.items ≡ aside → walk.leaf_level ≡ None → Walking d late tree visited rest uses walk
starts_walk d late tree visited rest s uses aside walk it w is leads stack rows level = record {
  pending = s ∷ [];
  match = subst (λ l. Match tree (reverse l) (s ∷ [])) (sym stack) (is, tt);
  agenda = w.agenda;
  knows = record {
    level = λ on e. absurd (let both : ◌≡◌ {A = Option ℕ} None (Some on) = sym level ∙ e in cc);
    leads = λ e. subst (λ l. TopLeads d tree.root (reverse l)) (sym stack) leads;
  };
  rows = subst (RowsAre d visited) (sym rows) w.rows;
  counted = w.counted;
  entered = w.entered;
}

-- Nothing is left on the stack.
pub ends_walk : (d : Database) (late : Bool) (tree : Tree) (visited rest : List Spot) (uses : Uses) (walk : Walk) → walk.stack.items ≡ [] → Walking d late tree visited rest uses walk → Stood d late visited rest uses.marks.items walk.rows.items uses.counts
ends_walk d late tree visited rest uses walk empty w = go w.pending (subst (λ l. Match tree (reverse l) w.pending) empty w.match) w.agenda
  where
    go : (pending : List Spot) → Match tree [] pending → Agenda d late uses.marks.items visited (pending ++ rest) → Stood d late visited rest uses.marks.items walk.rows.items uses.counts
    go [] m a = record { agenda = a; rows = w.rows; counted = w.counted; entered = w.entered }
    go (s ∷ ss) m a = absurd m

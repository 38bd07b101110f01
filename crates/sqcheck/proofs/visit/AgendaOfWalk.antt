-- A walk with an agenda: the places whose pages it has taken, and those that are still to be followed.
use Rattle.sqcheck.proofs.Below.{Agenda, Apart, AreMarked, Bool, Database, Every, HasSoundRows, In, IsAside, IsFirst, IsHome, IsReached, IsSound, IsSoundNode, IsSoundWith, IsWithin, LinkFits, List, Marks, Node, NotRoot, NotSchema, Off, Place, Spot, StandsIn, StandsInRow, Stems, Tour, [], ap, apart_append, apart_snoc, arith, cases_eq, child, count_by, every_append, every_in, every_map, every_weaker, false, fewer_unmarked, first_root, first_trunk_place, free_leaf, from_map, get_or-set_other, get_or-set_same, home, in_cases, in_left, in_right, inl, inr, is_marked, leaf, length, length-append, length_marked, link, map, map_append, next, node, not, numbers, overflow, places, refl, root, stands_in, subst, suc, sym, true, trunk, ℕ, ◌++◌, ◌+◌, ◌-◌, ◌<◌, ◌∙◌, ◌∷◌, ◌≡◌, ◌≢◌, ◌≤◌, ◌⊎◌}
use Rattle.sqcheck.specs.Places.{Role}

-- what every place in a page has
pub record Under (s t : Spot) : Type 0 where
  pub at_home : home t.place ≡ s.page
  pub no_root : NotRoot t.place
  pub same_tree : NotSchema s.role → NotSchema t.role

pub under_it : (d : Database) (s t : Spot) → StandsIn d s t → Under s t
under_it d s t h = go s.place s.page s.role h.1
  where
    at : Place → ℕ → Role → Spot
    at q p r = record { place = q; page = p; role = r }

    moved : (q : Place) (p : ℕ) (r : Role) (u : Spot) → t ≡ u → Under (at q p r) u → Under (at q p r) t
    moved q p r u e h = subst (Under (at q p r)) (sym e) h

    go : (q : Place) (p : ℕ) (r : Role) → Rattle.sqcheck.specs.Places.InPageAs d p r t → Under (at q p r) t
    go q p trunk (inl h) = moved q p trunk _ h.3 (record { at_home = refl; no_root = tt; same_tree = λ n. tt })
    go q p trunk (inr h) = moved q p trunk _ h.1 (record { at_home = refl; no_root = tt; same_tree = λ n. tt })
    go q p free_leaf h = absurd h
    go q p (link o n) h = moved q p (link o n) _ h.1 (record { at_home = refl; no_root = tt; same_tree = λ n. tt })
    go q p (node x) (kind, has, inl h) = moved q p (node x) _ h.4 (record { at_home = refl; no_root = tt; same_tree = λ n. tt })
    go q p (node x) (kind, has, inr (i, inl h)) = moved q p (node x) _ h.5 (record { at_home = refl; no_root = tt; same_tree = λ n. n })
    go q p (node x) (kind, has, inr (i, inr h)) = moved q p (node x) _ h.2 (record { at_home = refl; no_root = tt; same_tree = λ n. n })

-- A page of a chain needs one page less than the one before.
pub fits_under : (IsNode : ℕ → Node → Type 0) (d : Database) (s t : Spot) → IsSoundWith IsNode d s.page s.role → StandsIn d s t → LinkFits d t
fits_under IsNode d s t sound h = go s.page s.role sound h.1
  where
    go : (p : ℕ) (r : Role) → IsSoundWith IsNode d p r → Rattle.sqcheck.specs.Places.InPageAs d p r t → LinkFits d t
    go p trunk is (inl h) = subst (LinkFits d) (sym h.3) (λ o n e. absurd (cc))
    go p trunk is (inr h) = subst (LinkFits d) (sym h.1) (λ o n e. absurd (cc))
    go p free_leaf is h = absurd h
    go p (link o n) is h = subst (LinkFits d) (sym h.1) (λ w m e. inr (let same : n - 1 ≡ m = cc in let le : n ≤ length d = is.0 in omega arith))
    go p (node x) is (kind, has, inl h) = subst (LinkFits d) (sym h.4) (λ o n e. inl (h.0, refl))
    go p (node x) is (kind, has, inr (i, inl h)) = subst (LinkFits d) (sym h.5) (λ o n e. absurd (cc))
    go p (node x) is (kind, has, inr (i, inr h)) = subst (LinkFits d) (sym h.2) (λ o n e. absurd (cc))

-- A page more is marked.
pub now_marked : (old new : List Bool) (p : ℕ) → Marks old new p → is_marked new p ≡ true
now_marked old new p m =
    let above : 0 < p = m.above in
    let within : p ≤ length old = m.within in
    let lt : p - 1 < length old = omega arith in
    ap (λ l. Rattle.std.proofs.Common.get_or l (p - 1) false) m.now_marked ∙ get_or-set_same old (p - 1) true false lt

still_marked : (old new : List Bool) (p q : ℕ) → Marks old new p → 0 < q → q ≢ p → is_marked old q ≡ true → is_marked new q ≡ true
still_marked old new p q m pos ne is =
    let above : 0 < p = m.above in
    let ne' : q - 1 ≢ p - 1 = omega arith in
    ap (λ l. Rattle.std.proofs.Common.get_or l (q - 1) false) m.now_marked ∙ get_or-set_other old (p - 1) (q - 1) true false ne' ∙ is

home_kept : (old new : List Bool) (p : ℕ) → Marks old new p → (q : Place) → IsHome old q → IsHome new q
home_kept old new p m q (inl e) = inl e
home_kept old new p m q (inr h) =
    let len = length_marked old new p m in
    let within : IsWithin (length new) (home q) = subst (λ n. IsWithin n (home q)) (sym len) h.0 in
    elim (cases_eq (home q) p) [
      | inl e ↦ inr (within, ap (is_marked new) e ∙ now_marked old new p m)
      | inr ne ↦ inr (within, still_marked old new p (home q) m (h.0.0) ne h.1)
    ]

-- A place at home among the pages taken before stands in no page that is taken now.
not_home : (old new : List Bool) (p : ℕ) → Marks old new p → (q : Place) → IsHome old q → home q ≡ p → ⊥
not_home old new p m q (inl e) same = let above : 0 < p = m.above in absurd (omega (arith, e, same))
not_home old new p m q (inr h) same =
    let both : false ≡ true = sym m.was ∙ ap (is_marked old) (sym same) ∙ h.1 in
    absurd (cc)

-- A page that is marked now was none of the marked ones.
pub fresh_marked : (Aside : ℕ → Type 0) (old new : List Bool) (ps : List ℕ) (p : ℕ) → AreMarked Aside old ps → Marks old new p → ¬ In p ps
fresh_marked Aside old new ps p a m = λ i. let e = a.all p i in let w = m.was in cc

module _ (Aside : ℕ → Type 0) (old new : List Bool) (ps : List ℕ) (p : ℕ) (a : AreMarked Aside old ps) (m : Marks old new p) where
  len : length new ≡ length old
  len = length_marked old new p m

  other : (q : ℕ) → 0 < q → q ≢ p → is_marked old q ≡ is_marked new q
  other q pos ne =
      let above : 0 < p = m.above in
      let ne' : q - 1 ≢ p - 1 = omega arith in
      sym (ap (λ l. Rattle.std.proofs.Common.get_or l (q - 1) false) m.now_marked ∙ get_or-set_other old (p - 1) (q - 1) true false ne')

  abbrev Inside : ℕ → Type 0
  Inside q = IsWithin (length old) q × ¬ Aside q

  not_aside : ¬ Aside p
  not_aside aside = let e = a.aside p (m.above, m.within) aside in let w = m.was in cc

  -- A page more is marked.
  pub marks_more : AreMarked Aside new (ps ++ p ∷ [])
  marks_more = record {
    only = λ q w is. elim (cases_eq q p) [
      | inl e ↦ inl (in_right q ps (p ∷ []) (inl e))
      | inr ne ↦ elim (a.only q (w.0, subst (λ n. q ≤ n) len w.1) (other q w.0 ne ∙ is)) [ inl i ↦ inl (in_left q ps (p ∷ []) i) | inr aside ↦ inr aside ]
    ];
    all = λ q i. elim (in_cases q ps (p ∷ []) i) [
      | inl before ↦ elim (cases_eq q p) [
        | inl e ↦ ap (is_marked new) e ∙ now_marked old new p m
        | inr ne ↦ still_marked old new p q m (every_in Inside q ps a.within before).0.0 ne (a.all q before)
      ]
      | inr one ↦ elim one [ inl e ↦ ap (is_marked new) e ∙ now_marked old new p m | inr none ↦ absurd none ]
    ];
    aside = λ q w aside. elim (cases_eq q p) [
      | inl e ↦ ap (is_marked new) e ∙ now_marked old new p m
      | inr ne ↦ still_marked old new p q m w.0 ne (a.aside q (w.0, subst (λ n. q ≤ n) len w.1) aside)
    ];
    within = subst (λ n. Every (λ q. IsWithin n q × ¬ Aside q) (ps ++ p ∷ [])) (sym len) (every_append Inside ps (p ∷ []) a.within (((m.above, m.within), not_aside), tt));
    distinct = apart_snoc ps p a.distinct (fresh_marked Aside old new ps p a m);
  }

module _ (d : Database) (Counts : Spot → Type 0) (Aside : ℕ → Type 0) (marks : List Bool) (visited : List Spot) (s : Spot) (rest : List Spot) (a : Tour d Counts Aside marks visited (s ∷ rest)) where
  -- The next place is visited: its page is taken, and these places in it come first.
  pub tours : (new : List Bool) (under : List Spot) → Marks marks new s.page → Every (StandsIn d s) under → Apart (places under) → Every Counts under → Every (LinkFits d) under → Tour d Counts Aside new (visited ++ s ∷ []) (under ++ rest)
  tours new under m only distinct count fit = record {
    sized = length_marked marks new s.page m ∙ a.sized;
    taken = subst (AreMarked Aside new) (sym (map_append (λ x. x.page) visited (s ∷ []))) (marks_more Aside marks new (numbers visited) s.page a.taken m);
    reached = every_append Counts visited (s ∷ []) a.reached (a.waiting.0, tt);
    waiting = every_append Counts under rest count a.waiting.1;
    apart = subst Apart (sym (map_append (λ x. x.place) under rest))
        (apart_append (places under) (places rest) distinct a.apart.1
        (every_map (λ q. Every (λ r. q ≡ r → ⊥) (places rest)) (λ x. x.place) under (every_weaker (StandsIn d s) (λ t. Every (λ r. t.place ≡ r → ⊥) (places rest)) (λ t h.
        every_map (λ r. t.place ≡ r → ⊥) (λ x. x.place) rest (every_weaker (λ y. IsHome marks y.place) (λ y. t.place ≡ y.place → ⊥) (λ y k e.
        not_home marks new s.page m y.place k (ap home (sym e) ∙ (under_it d s t h).at_home)) rest a.waiting_homes.1)) under only)));
    off = every_append (λ v. Off v.place (under ++ rest)) visited (s ∷ [])
        (both visited a.homes a.off) (every_append (λ x. x.place ≡ s.place → ⊥) under rest (fresh s.place a.waiting_homes.0) others, tt);
    homes = every_append (λ v. IsHome new v.place) visited (s ∷ []) (every_weaker (λ v. IsHome marks v.place) (λ v. IsHome new v.place) (λ v h. home_kept marks new s.page m v.place h) visited a.homes)
        (home_kept marks new s.page m s.place a.waiting_homes.0, tt);
    waiting_homes = every_append (λ x. IsHome new x.place) under rest
        (every_weaker (StandsIn d s) (λ t. IsHome new t.place) (λ t h. inr (subst (IsWithin (length new)) (sym (under_it d s t h).at_home) within, ap (is_marked new) (under_it d s t h).at_home ∙ now_marked marks new s.page m)) under only)
        (every_weaker (λ v. IsHome marks v.place) (λ v. IsHome new v.place) (λ v h. home_kept marks new s.page m v.place h) rest a.waiting_homes.1);
    fits = every_append (LinkFits d) under rest fit a.fits.1;
  }
    where
      within : IsWithin (length new) s.page
      within = subst (λ n. IsWithin n s.page) (sym (length_marked marks new s.page m)) (m.above, m.within)

      fresh : (q : Place) → IsHome marks q → Off q under
      fresh q k = every_weaker (StandsIn d s) (λ t. t.place ≡ q → ⊥) (λ t h e. not_home marks new s.page m q k (ap home (sym e) ∙ (under_it d s t h).at_home)) under only

      others : Off s.place rest
      others = go rest a.apart.0
        where
          go : (ts : List Spot) → Every (λ y. s.place ≡ y → ⊥) (places ts) → Off s.place ts
          go [] h = tt
          go (t ∷ ts) h = ((λ e. h.0 (sym e)), go ts h.1)

      both : (vs : List Spot) → Every (λ v. IsHome marks v.place) vs → Every (λ v. Off v.place (s ∷ rest)) vs → Every (λ v. Off v.place (under ++ rest)) vs
      both [] h k = tt
      both (v ∷ vs) h k = (every_append (λ x. x.place ≡ v.place → ⊥) under rest (fresh v.place h.0) k.0.1, both vs h.1 k.1)

  -- Or it isn't: its page isn't taken.
  pub drops : Tour d Counts Aside marks visited rest
  drops = record {
    sized = a.sized;
    taken = a.taken;
    reached = a.reached;
    waiting = a.waiting.1;
    apart = a.apart.1;
    off = every_weaker (λ v. Off v.place (s ∷ rest)) (λ v. Off v.place rest) (λ v h. h.1) visited a.off;
    homes = a.homes;
    waiting_homes = a.waiting_homes.1;
    fits = a.fits.1;
  }

  -- The next place names a page that is marked: a visited place names it too, or it is set aside.
  pub twice : IsWithin (length d) s.page → is_marked marks s.page ≡ true → ((v : Spot) × Counts v × (v.place ≢ s.place) × (v.page ≡ s.page)) ⊎ Aside s.page
  twice within is = elim (a.taken.only s.page (subst (λ n. IsWithin n s.page) (sym a.sized) within) is) [
    | inr aside ↦ inr aside
    | inl i ↦ inl (also i)
  ]
    where
      also : In s.page (numbers visited) → (v : Spot) × Counts v × (v.place ≢ s.place) × (v.page ≡ s.page)
      also i =
          let v = from_map (λ x. x.page) s.page visited i in
          (v.0, every_in Counts v.0 visited a.reached v.1, (λ e. (every_in (λ v. Off v.place (s ∷ rest)) v.0 visited a.off v.1).0 (sym e)), sym v.2)

module _ (d : Database) (late : Bool) (marks : List Bool) (visited : List Spot) (s : Spot) (rest : List Spot) (a : Agenda d late marks visited (s ∷ rest)) where
  -- The next place is followed: its page is taken, and the places in it come first.
  pub follows : (new : List Bool) (under : List Spot) → Marks marks new s.page → IsSound d s → Stems d s under → Agenda d late new (visited ++ s ∷ []) (under ++ rest)
  follows new under m sound stems = record {
    tour = tours d (IsReached d) (IsAside d) marks visited s rest a.tour new under m stems.only stems.distinct
        (every_weaker (StandsIn d s) (IsReached d) (λ t h. stands_in a.tour.waiting.0 sound h) under stems.only)
        (every_weaker (StandsIn d s) (LinkFits d) (λ t h. fits_under (IsSoundNode d) d s t sound.sound_as h) under stems.only);
    room = omega (arith, a.room, fewer_unmarked marks new s.page m, length-append visited (s ∷ []));
    sound = every_append (IsSound d) visited (s ∷ []) a.sound (sound, tt);
    starts = λ t is. onward t (a.starts t is);
    closed = λ v t i h. elim (in_cases v visited (s ∷ []) i) [
      | inl old ↦ onward t (a.closed v t old h)
      | inr one ↦ elim one [
        | inl e ↦ inr (in_left t under rest (stems.all t (subst (λ z. StandsIn d z t) e h)))
        | inr none ↦ absurd none
      ]
    ];
    early = λ e. let h = a.early e in (
      every_append (λ v. NotRoot v.place) visited (s ∷ []) h.0 (h.1.0, tt),
      every_append (λ v. NotRoot v.place) under rest (every_weaker (StandsIn d s) (λ t. NotRoot t.place) (λ t k. (under_it d s t k).no_root) under stems.only) h.1.1,
    );
    rooted = λ e v t i h. elim (in_cases v visited (s ∷ []) i) [
      | inl old ↦ onward t (a.rooted e v t old h)
      | inr one ↦ elim one [
        | inl same ↦ absurd (no_rows s.page s.role t (a.plain e).0 (subst (λ z. StandsInRow d z t) same h).1)
        | inr none ↦ absurd none
      ]
    ];
    plain = λ e. every_append (λ x. NotSchema x.role) under rest (every_weaker (StandsIn d s) (λ t. NotSchema t.role) (λ t k. (under_it d s t k).same_tree (a.plain e).0) under stems.only) (a.plain e).1;
    read = λ e. every_append (λ v. HasSoundRows d v.page v.role) visited (s ∷ []) (a.read e) (plain_rows s.page s.role (a.plain e).0, tt);
  }
    where
      onward : (t : Spot) → In t visited ⊎ In t (s ∷ rest) → In t (visited ++ s ∷ []) ⊎ In t (under ++ rest)
      onward t (inl i) = inl (in_left t visited (s ∷ []) i)
      onward t (inr (inl e)) = inl (in_right t visited (s ∷ []) (inl e))
      onward t (inr (inr i)) = inr (in_right t under rest i)

      plain_rows : (p : ℕ) (r : Role) → NotSchema r → HasSoundRows d p r
      plain_rows p trunk n = tt
      plain_rows p free_leaf n = tt
      plain_rows p (link o k) n = tt
      plain_rows p (node x) n = λ schema. absurd (let both : true ≡ false = sym schema ∙ n in cc)

      no_rows : (p : ℕ) (r : Role) (t : Spot) → NotSchema r → Rattle.sqcheck.specs.Places.InRowAs d p r t → ⊥
      no_rows p trunk t n h = h
      no_rows p free_leaf t n h = h
      no_rows p (link o k) t n h = h
      no_rows p (node x) t n h = let both : true ≡ false = sym h.0 ∙ n in absurd (cc)

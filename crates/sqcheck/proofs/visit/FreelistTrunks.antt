-- Trunks of the freelist.
use Rattle.sqcheck.proofs.Between.{Bool, Database, InLink, InPageAs, InTrunk, IsLeafFrom, IsNextTrunk, IsSoundAs, Item, Leaf, Link, List, Marks, Pushes, Spot, Tree, Trunk, Visits, [], ap, arith, cases_eq, false, free_leaf, inl, inr, leaf, leaf_count_in, leaf_in, length, link, most_leaves, next, next_in, page, push_both, push_nothing, push_one, refl, role_of, spot, subst, sym, trunk, ℕ, ⊎_elim, ◌++◌, ◌+◌, ◌-◌, ◌<◌, ◌∙◌, ◌∷◌, ◌≡◌, ◌≢◌, ◌≤◌}

pub next_pushed : (tree : Tree) (b : List ℕ) (p n : ℕ) (old new : List Item) (it : Item) → n ≡ next_in b → n ≢ 0 → it ≡ record { holder = p; page = n; task = Trunk } → new ≡ old ++ it ∷ []
    → Pushes tree (IsNextTrunk b p) old new
next_pushed tree b p n old new it e nonzero is pushed =
    let none : Pushes tree (λ t. ⊥) old old = push_nothing tree (λ t. ⊥) old (λ t h. h) in
    push_one tree (λ t. ⊥) (IsNextTrunk b p) old old none new it (spot (next p) (next_in b) trunk) pushed
    (rw (is, e) (record { page = refl; stands = refl; role = refl; proper = tt; kind = refl })) ((λ z. nonzero (e ∙ z)), refl) (λ t h. absurd h) (λ t h. inl h.1) (λ t h e. h)

pub next_none : (tree : Tree) (b : List ℕ) (p n : ℕ) (old : List Item) → n ≡ next_in b → n ≡ 0 → Pushes tree (IsNextTrunk b p) old old
next_none tree b p n old e zero' = push_nothing tree (IsNextTrunk b p) old (λ t h. h.0 (sym e ∙ zero'))

pub leaf_more : (tree : Tree) (b : List ℕ) (p left n : ℕ) (old mid new : List Item) (it : Item) → left < leaf_count_in b → n ≡ leaf_in b left → it ≡ record { holder = p; page = n; task = Leaf } → new ≡ mid ++ it ∷ []
    → Pushes tree (IsLeafFrom b p (left + 1)) old mid → Pushes tree (IsLeafFrom b p left) old new
leaf_more tree b p left n old mid new it lt e is pushed pushes =
    push_one tree (IsLeafFrom b p (left + 1)) (IsLeafFrom b p left) old mid pushes new it (spot (leaf p left) (leaf_in b left) free_leaf) pushed
    (rw (is, e) (record { page = refl; stands = refl; role = refl; proper = tt; kind = refl }))
    (left, (let r : left ≤ left = omega arith in r), lt, refl)
    (λ t h. (h.0, (let le : left + 1 ≤ h.0 = h.1 in let r : left ≤ h.0 = omega arith in r), h.2, h.3))
    (λ t h. elim (cases_eq h.0 left) [
      | inl same ↦ inl (h.3 ∙ ap (λ i. spot (leaf p i) (leaf_in b i) free_leaf) same)
      | inr ne ↦ inr (h.0, (let le : left ≤ h.0 = h.1 in let r : left + 1 ≤ h.0 = omega arith in r), h.2, h.3)
    ])
    (λ t h e. let le : left + 1 ≤ h.0 = h.1 in let same : leaf p left ≡ leaf p h.0 = e ∙ ap (λ (z : Spot). z.place) h.3 in let i : left ≡ h.0 = cc in absurd (omega arith))

pub leaves_none : (tree : Tree) (b : List ℕ) (p : ℕ) (old : List Item) → Pushes tree (IsLeafFrom b p (leaf_count_in b)) old old
leaves_none tree b p old = push_nothing tree (IsLeafFrom b p (leaf_count_in b)) old (λ t h. let lt : h.0 < leaf_count_in b = h.2 in let le : leaf_count_in b ≤ h.0 = h.1 in omega arith)

-- The next trunk and the leaves are all places in a trunk.
pub trunk_pushed : (tree : Tree) (d : Database) (p : ℕ) (old mid new : List Item) → leaf_count_in (page d p) ≤ most_leaves d → Pushes tree (IsNextTrunk (page d p) p) old mid → Pushes tree (IsLeafFrom (page d p) p 0) mid new
    → Pushes tree (InTrunk d p) old new
trunk_pushed tree d p old mid new few a b =
    push_both tree (IsNextTrunk (page d p) p) (IsLeafFrom (page d p) p 0) (InTrunk d p) old mid new a b
    (λ t h. inr h) (λ t h. inl (few, h.0, h.2, h.3))
    (λ t h. ⊎_elim (λ l. inr (l.1, (let r : 0 ≤ l.1 = omega arith in r), l.2, l.3)) (λ n. inl n) h)
    (λ s t h k e. let same : leaf p h.0 ≡ next p = sym (ap (λ (z : Spot). z.place) h.3) ∙ e ∙ ap (λ (z : Spot). z.place) k.1 in cc)

pub trunk_visited : (d : Database) (tree : Tree) (it : Item) (marks new_marks : List Bool) (bytes : List ℕ) (old mid new : List Item) → it.task ≡ Trunk → Marks marks new_marks it.page → bytes ≡ page d it.page
    → leaf_count_in bytes ≤ most_leaves d → Pushes tree (IsNextTrunk bytes it.page) old mid → Pushes tree (IsLeafFrom bytes it.page 0) mid new → Visits d tree it marks new_marks old new
trunk_visited d tree it marks new_marks bytes old mid new task m e few a b =
    let few' : leaf_count_in (page d it.page) ≤ most_leaves d = subst (λ l. leaf_count_in l ≤ most_leaves d) e few in
    record {
      marked = m;
      sound = subst (λ t. IsSoundAs d it.page (role_of tree t)) (sym task) few';
      pushes = subst (λ t. Pushes tree (InPageAs d it.page (role_of tree t)) old new) (sym task)
          (trunk_pushed tree d it.page old mid new few' (subst (λ l. Pushes tree (IsNextTrunk l it.page) old mid) e a) (subst (λ l. Pushes tree (IsLeafFrom l it.page 0) mid new) e b));
    }

-- a leaf of the freelist
pub leaf_visited : (d : Database) (tree : Tree) (it : Item) (marks new_marks : List Bool) (old : List Item) → it.task ≡ Leaf → Marks marks new_marks it.page → Visits d tree it marks new_marks old old
leaf_visited d tree it marks new_marks old task m = record {
  marked = m;
  sound = subst (λ t. IsSoundAs d it.page (role_of tree t)) (sym task) tt;
  pushes = subst (λ t. Pushes tree (InPageAs d it.page (role_of tree t)) old old) (sym task) (push_nothing tree (λ t. ⊥) old (λ t h. h));
}

-- a link that isn't the last one, and the last one
pub link_visited : (d : Database) (tree : Tree) (it next_it : Item) (owner needed next_needed next_page : ℕ) (first : Bool) (marks new_marks : List Bool) (bytes : List ℕ) (old new : List Item) → it.task ≡ Link owner needed first → Marks marks new_marks it.page → bytes ≡ page d it.page
    → needed ≤ length d → 1 < needed → next_needed ≡ needed - 1 → next_page ≡ next_in bytes → next_it ≡ record { holder = it.page; page = next_page; task = Link owner next_needed false } → new ≡ old ++ next_it ∷ [] → Visits d tree it marks new_marks old new
link_visited d tree it next_it owner needed next_needed next_page first marks new_marks bytes old new task m e few more one named is pushed =
    let none : Pushes tree (λ t. ⊥) old old = push_nothing tree (λ t. ⊥) old (λ t h. h) in
    let named' : next_page ≡ next_in (page d it.page) = named ∙ ap next_in e in
    record {
      marked = m;
      sound = subst (λ t. IsSoundAs d it.page (role_of tree t)) (sym task) (few, λ last. absurd (omega (arith, last, more)));
      pushes = subst (λ t. Pushes tree (InPageAs d it.page (role_of tree t)) old new) (sym task)
          (push_one tree (λ t. ⊥) (InLink d it.page owner needed) old old none new next_it (spot (next it.page) (next_in (page d it.page)) (link owner (needed - 1))) pushed
          (rw (is, named', one) (record { page = refl; stands = refl; role = refl; proper = (let r : 0 < needed - 1 = omega (arith, more) in r); kind = refl })) (more, refl) (λ t h. absurd h) (λ t h. inl h.1) (λ t h f. h));
    }

pub last_visited : (d : Database) (tree : Tree) (it : Item) (owner needed : ℕ) (first : Bool) (marks new_marks : List Bool) (bytes : List ℕ) (old : List Item) → it.task ≡ Link owner needed first → Marks marks new_marks it.page → bytes ≡ page d it.page
    → needed ≤ length d → needed ≤ 1 → next_in bytes ≡ 0 → Visits d tree it marks new_marks old old
last_visited d tree it owner needed first marks new_marks bytes old task m e few last ends = record {
  marked = m;
  sound = subst (λ t. IsSoundAs d it.page (role_of tree t)) (sym task) (few, λ is. ap next_in (sym e) ∙ ends);
  pushes = subst (λ t. Pushes tree (InPageAs d it.page (role_of tree t)) old old) (sym task) (push_nothing tree (InLink d it.page owner needed) old (λ t h. let more : 1 < needed = h.0 in omega arith));
}

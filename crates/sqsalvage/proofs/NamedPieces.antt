-- Pieces that are named.
use Rattle.std.proofs.Common.{◌≡◌, ◌⊎◌, ℕ, ◌+◌, ◌<◌, ◌≤◌, List, [], ◌∷◌, ◌++◌, length, Bool, true, refl, sym, ap, subst, ◌∙◌, inl, inr, arith, append_assoc, append-nil}
use Rattle.std.proofs.lemmas.Bool.{cases_eq, cases_lt}
use Rattle.sqval.specs.Database.{Database}
use Rattle.sqpage.specs.Lists.{In}
use Rattle.sqpage.specs.Page.{Page, cell_count, has_payload}
use Rattle.sqpage.proofs.chain.ListsByRecursion.{in_left, in_right, in_cases}
use Rattle.sqcheck.specs.Places.{page_as}
use Rattle.sqrows.specs.Trees.{IsChild}
use Rattle.sqrows.proofs.moves.StepsOfPage.{child_once}
use Rattle.sqsalvage.specs.declared.cursor.Piece.{Piece}
use Rattle.sqsalvage.specs.declared.cursor.Piece.TheVariants.{Whole, Part}
use Rattle.sqsalvage.specs.Reached.{interior_kind, page_in, IsInterior, IsOfTree, IsPiece, NamesFrom}
use Rattle.sqsalvage.specs.SalvageCursor.{HasPlacesOnce, IsAhead, IsMarked, early_count}
use Rattle.sqsalvage.specs.internal.Taking.{Follows, IsChildNamed, IsPlaceNamed, IsUnread, NamesRest, page_count}
use Rattle.sqsalvage.proofs.CountsOfPlaces.{early_snoc, count_snoc}

-- what is the last one
pub whole_last : (q p : ℕ) → In (Whole q) (Whole p ∷ []) → q ≡ p
whole_last q p (inl e) = ap (λ (x : Piece). page_in x) e
whole_last q p (inr h) = absurd h

pub whole_part : (q p i : ℕ) → In (Whole q) (Part p i ∷ []) → ⊥
whole_part q p i (inl e) = cc
whole_part q p i (inr h) = h

pub part_whole : (q i p : ℕ) → In (Part q i) (Whole p ∷ []) → ⊥
part_whole q i p (inl e) = cc
part_whole q i p (inr h) = h

abbrev cell_of : Piece → ℕ
cell_of (Whole p) = 0
cell_of (Part p i) = i

part_last : (q j p i : ℕ) → In (Part q j) (Part p i ∷ []) → (q ≡ p) × (j ≡ i)
part_last q j p i (inl e) = (ap (λ (x : Piece). page_in x) e, ap (λ (x : Piece). cell_of x) e)
part_last q j p i (inr h) = absurd h

pub once_left : (xs ys : List Piece) → HasPlacesOnce (xs ++ ys) → HasPlacesOnce xs
once_left [] ys h = tt
once_left (Whole p ∷ xs) ys h = once_left xs ys h
once_left (Part p i ∷ xs) ys h = (λ k a. h.0 k (in_left (Part p k) xs ys a), once_left xs ys h.1)

pub once_append : (xs ys : List Piece) → HasPlacesOnce xs → HasPlacesOnce ys → ((p i k : ℕ) → In (Part p i) xs → In (Part p k) ys → ⊥) → HasPlacesOnce (xs ++ ys)
once_append [] ys h o off = o
once_append (Whole p ∷ xs) ys h o off = once_append xs ys h o (λ q i k a b. off q i k (inr a) b)
once_append (Part p i ∷ xs) ys h o off = (
  λ k a. elim (in_cases (Part p k) xs ys a) [ inl l ↦ h.0 k l | inr r ↦ off p i k (inl refl) r ],
  once_append xs ys h.1 o (λ q j k a b. off q j k (inr a) b),
)

pub once_last : (xs : List Piece) (p i k : ℕ) → HasPlacesOnce (xs ++ Part p i ∷ []) → In (Part p k) xs → ⊥
once_last [] p i k h a = a
once_last (Whole q ∷ xs) p i k h (inl e) = cc
once_last (Whole q ∷ xs) p i k h (inr a) = once_last xs p i k h a
once_last (Part q j ∷ xs) p i k h (inl e) =
    h.0 i (subst (λ (n : ℕ). In (Part n i) (xs ++ Part p i ∷ [])) (ap (λ (x : Piece). page_in x) e) (in_right (Part p i) xs (Part p i ∷ []) (inl refl)))
once_last (Part q j ∷ xs) p i k h (inr a) = once_last xs p i k h.1 a

-- a page has no child behind the right one
child_within : (b : Page) (m c : ℕ) → IsChild b m c → m ≤ cell_count b
child_within b m c (inl x) = let lt : m < cell_count b = x.1.0 in omega (arith, lt)
child_within b m c (inr x) = let e : m ≡ cell_count b = x.0 in omega (arith, e)

-- On the way: the same of children from child k on, the last of them child `last`.
pub record Names (b : Page) (marks : List Bool) (i k last : ℕ) (old new : List Piece) : Type 0 where
  pub items : List Piece
  pub behind : new ≡ old ++ items
  pub pages : (c : ℕ) → In (Whole c) items → (j : ℕ) × (i ≤ j) × IsChild b j c
  pub places : (p j : ℕ) → In (Part p j) items → (p ≡ b.number) × (i ≤ j)
  pub children : (m c : ℕ) → k ≤ m → IsChild b m c → IsUnread marks c → In (Whole c) items ⊎ ((j : ℕ) × (j < m) × In (Part b.number j) items)
  pub cells : (m : ℕ) → i ≤ m → m < cell_count b → has_payload b.kind ≡ true → (j : ℕ) × (j ≤ m) × In (Part b.number j) items
  pub once : HasPlacesOnce items
  pub count : page_count items + k ≤ last + 1
  pub early : (early_count items ≡ 0) ⊎ (early_count items + k ≤ last)

-- the place behind the last child that is named, and no child yet
pub names_place : (b : Page) (marks : List Bool) (i last : ℕ) (old new : List Piece) → i ≤ last → last ≤ cell_count b → (has_payload b.kind ≡ true → last ≡ i) → IsPlaceNamed b last old new
    → Names b marks i (last + 1) last old new
names_place b marks i last old new le within first (inl (lt, e)) = record {
  items = Part b.number last ∷ [];
  behind = e;
  pages = λ c h. absurd (whole_part c b.number last h);
  places = λ p j h. (let is = part_last p j b.number last h in (is.0, (let same : j ≡ last = is.1 in omega (arith, same, le))));
  children = λ m c more is un. inr (last, omega (arith, more), inl refl);
  cells = λ m more lt payload. (last, (let same : last ≡ i = first payload in omega (arith, same, more)), inl refl);
  once = (λ k a. a, tt);
  count = omega arith;
  early = inl refl;
}
names_place b marks i last old new le within first (inr (none, e)) = record {
  items = [];
  behind = e ∙ sym (append-nil old);
  pages = λ c h. absurd h;
  places = λ p j h. absurd h;
  children = λ m c more is un. (let low = child_within b m c is in absurd (omega (arith, more, low, none)));
  cells = λ m more lt payload. (let same : last ≡ i = first payload in absurd (omega (arith, same, more, lt, none)));
  once = tt;
  count = omega arith;
  early = inl refl;
}

-- a child before those that are named
pub names_child : (b : Page) (marks : List Bool) (i k j last : ℕ) (old mid new : List Piece) → k ≡ j + 1 → i ≤ j → Names b marks i k last old mid → IsChildNamed b marks j mid new → Names b marks i j last old new
names_child b marks i k j last old mid new step low n (inl (c, is, e)) = record {
  items = n.items ++ Whole c ∷ [];
  behind = e ∙ ap (λ l. l ++ Whole c ∷ []) n.behind ∙ append_assoc old n.items (Whole c ∷ []);
  pages = λ q h. elim (in_cases (Whole q) n.items (Whole c ∷ []) h) [
    | inl l ↦ n.pages q l
    | inr r ↦ (j, low, subst (λ (x : ℕ). IsChild b j x) (sym (whole_last q c r)) is)
  ];
  places = λ p m h. elim (in_cases (Part p m) n.items (Whole c ∷ []) h) [ inl l ↦ n.places p m l | inr r ↦ absurd (part_whole p m c r) ];
  children = λ m q more at un. elim (cases_eq m j) [
    | inl same ↦ inl (in_right (Whole q) n.items (Whole c ∷ []) (inl (ap (λ (x : ℕ). Whole x) (child_once b j q c (subst (λ (x : ℕ). IsChild b x q) same at) is))))
    | inr ne ↦ elim (n.children m q (omega (arith, more, ne, step)) at un) [
      | inl l ↦ inl (in_left (Whole q) n.items (Whole c ∷ []) l)
      | inr r ↦ inr (r.0, r.1, in_left (Part b.number r.0) n.items (Whole c ∷ []) r.2)
    ]
  ];
  cells = λ m more lt payload. (let x = n.cells m more lt payload in (x.0, x.1, in_left (Part b.number x.0) n.items (Whole c ∷ []) x.2));
  once = once_append n.items (Whole c ∷ []) n.once tt (λ p m q a r. part_whole p q c r);
  count = (let more = count_snoc n.items c in let count = n.count in omega (arith, more, count, step));
  early = inr (let same = early_snoc n.items (Whole c) in let count = n.count in omega (arith, same, count, step));
}
names_child b marks i k j last old mid new step low n (inr (e, none)) = record {
  items = n.items;
  behind = e ∙ n.behind;
  pages = n.pages;
  places = n.places;
  children = λ m q more at un. elim (cases_eq m j) [
    | inl same ↦ absurd (none q (subst (λ (x : ℕ). IsChild b x q) same at) un)
    | inr ne ↦ n.children m q (omega (arith, more, ne, step)) at un
  ];
  cells = n.cells;
  once = n.once;
  count = (let count = n.count in omega (arith, count, step));
  early = elim n.early [ inl none ↦ inl none | inr le ↦ inr (omega (arith, le, step)) ];
}

-- all of them, where no child before the first one is unread
pub names_rest : (b : Page) (marks : List Bool) (i first last : ℕ) (old new : List Piece) → ((m c : ℕ) → i ≤ m → m < first → IsChild b m c → ¬ IsUnread marks c)
    → (last ≡ first) ⊎ ((length old < 4096) × (last < first + 64)) → Names b marks i first last old new → NamesRest b marks i old new
names_rest b marks i first last old new none few n = record {
  items = n.items;
  behind = n.behind;
  pages = n.pages;
  places = n.places;
  children = children;
  cells = n.cells;
  once = n.once;
  few = elim n.early [
    | inl e ↦ inl e
    | inr le ↦ elim few [ inl same ↦ inl (omega (arith, le, same)) | inr x ↦ inr (x.0, (let lt : last < first + 64 = x.1 in omega (arith, le, lt))) ]
  ];
}
  where
    children : (m c : ℕ) → i ≤ m → IsChild b m c → IsUnread marks c → In (Whole c) n.items ⊎ ((j : ℕ) × (j < m) × In (Part b.number j) n.items)
    children m c low is un = elim (cases_lt m first) [ inl lt ↦ absurd (none m c low lt is un) | inr le ↦ n.children m c le is un ]

-- what follows on a page of the database
is_unread_page : (d : Database) (table : Bool) (marks : List Bool) (c : ℕ) → length marks ≡ length d → IsOfTree d table c → ¬ IsMarked marks c → IsUnread marks c
is_unread_page d table marks c size (inl leaf) un = ((leaf.0.0, (let le : c ≤ length d = leaf.0.1 in omega (arith, le, size))), un)
is_unread_page d table marks c size (inr interior) un = ((interior.0.0, (let le : c ≤ length d = interior.0.1 in omega (arith, le, size))), un)

pub follows_named : (d : Database) (table : Bool) (p i : ℕ) (marks : List Bool) (old new : List Piece) → length marks ≡ length d → IsInterior d table p
    → NamesRest (page_as d (interior_kind table) p) marks i old new → Follows d table p i marks old new
follows_named d table p i marks old new size interior n = record {
  items = n.items;
  behind = n.behind;
  pages = pages;
  named = named;
  cells = cells;
  told = λ k low piece. (let x = n.cells k low piece.2 piece.1 in (Part p x.0, x.2, (refl, x.1)));
  places = λ q k h. (n.places q k h).0;
  once = n.once;
  few = n.few;
}
  where
    pages : (c : ℕ) → IsAhead d table n.items (Whole c) → NamesFrom d table p i c
    pages c (Whole q, a, s) = let x = n.pages c (subst (λ (y : Piece). In y n.items) (sym s) a) in (interior, x.0, x.1, x.2)
    pages c (Part q j, a, s) =
        let x = n.places q j a in
        let t = subst (λ (m : ℕ). NamesFrom d table m (j + 1) c) x.0 s in
        (t.0, t.1, (let low : i ≤ j = x.1 in let more : j + 1 ≤ t.1 = t.2 in omega (arith, low, more)), t.3)

    named : (c : ℕ) → NamesFrom d table p i c → IsOfTree d table c → ¬ IsMarked marks c → IsAhead d table n.items (Whole c)
    named c names is un = elim (n.children names.1 c names.2 names.3 (is_unread_page d table marks c size is un)) [
      | inl l ↦ (Whole c, l, refl)
      | inr r ↦ (Part p r.0, r.2, (interior, names.1, (let lt : r.0 < names.1 = r.1 in omega (arith, lt)), names.3))
    ]

    cells : (q k : ℕ) → IsAhead d table n.items (Part q k) → (q ≡ p) × (i ≤ k)
    cells q k (Whole r, a, s) = cc
    cells q k (Part r j, a, s) =
        let x = n.places r j a in
        (s.0 ∙ x.0, (let low : i ≤ j = x.1 in let more : j ≤ k = s.1 in omega (arith, low, more)))

-- where nothing is on a page from there on
pub follows_none : (d : Database) (table : Bool) (p i : ℕ) (marks : List Bool) (rest : List Piece) → ((c : ℕ) → ¬ NamesFrom d table p i c) → ((k : ℕ) → i ≤ k → ¬ IsPiece d table (Part p k))
    → Follows d table p i marks rest rest
follows_none d table p i marks rest none no_cell = record {
  items = [];
  behind = sym (append-nil rest);
  pages = λ c h. absurd h.1;
  named = λ c names is un. absurd (none c names);
  cells = λ q k h. absurd h.1;
  told = λ k low piece. absurd (no_cell k low piece);
  places = λ q k h. absurd h;
  once = tt;
  few = inl refl;
}

pub follows_outside : (d : Database) (table : Bool) (p i : ℕ) (marks : List Bool) (rest : List Piece) → ¬ IsInterior d table p → Follows d table p i marks rest rest
follows_outside d table p i marks rest none = follows_none d table p i marks rest (λ c names. none names.0) (λ k low piece. none piece.0)

pub follows_past : (d : Database) (table : Bool) (p i : ℕ) (marks : List Bool) (rest : List Piece) → cell_count (page_as d (interior_kind table) p) < i → Follows d table p i marks rest rest
follows_past d table p i marks rest past = follows_none d table p i marks rest
    (λ c names. (let le = child_within (page_as d (interior_kind table) p) names.1 c names.3 in let low : i ≤ names.1 = names.2 in omega (arith, le, low, past)))
    (λ k low piece. (let lt : k < cell_count (page_as d (interior_kind table) p) = piece.2 in omega (arith, lt, low, past)))

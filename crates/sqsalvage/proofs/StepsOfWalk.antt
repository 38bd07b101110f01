-- What is to come, piece by piece.
use Rattle.std.proofs.Common.{◌≡◌, ◌↔◌, ◌⊎◌, ℕ, ◌+◌, ◌≤◌, List, [], ◌∷◌, ◌++◌, length, Bool, refl, sym, ap, subst, ◌∙◌, inl, inr, arith}
use Rattle.std.proofs.lemmas.Bool.{cases_eq}
use Rattle.sqval.specs.Database.{Database}
use Rattle.sqpage.specs.Lists.{In}
use Rattle.sqpage.proofs.chain.ListsByRecursion.{in_left, in_right, in_cases, every_from_in}
use Rattle.sqsalvage.specs.declared.cursor.Piece.{Piece}
use Rattle.sqsalvage.specs.declared.cursor.Piece.TheVariants.{Whole, Part}
use Rattle.sqsalvage.specs.Reached.{page_in, IsLeaf, IsOfTree, IsPiece, NamesChild, NamesFrom, IsReached, IsReachedFrom, at_first, at_child}
use Rattle.sqsalvage.specs.SalvageCursor.{IsMarked, ArePending, HasPlacesOnce, early_count, IsAhead, StandsFor, IsToCome, IsLeft, AreLeft}
use Rattle.sqsalvage.specs.internal.Taking.{Follows, Opens}
use Rattle.sqsalvage.proofs.CountsOfPlaces.{early_with, early_without, few_pending}
use Rattle.sqsalvage.proofs.NamedPieces.{part_whole, once_left, once_append, once_last}

-- places one behind the other
pub ahead_left : (d : Database) (table : Bool) (xs ys : List Piece) (x : Piece) → IsAhead d table xs x → IsAhead d table (xs ++ ys) x
ahead_left d table xs ys x h = (h.0, in_left h.0 xs ys h.1, h.2)

ahead_right : (d : Database) (table : Bool) (xs ys : List Piece) (x : Piece) → IsAhead d table ys x → IsAhead d table (xs ++ ys) x
ahead_right d table xs ys x h = (h.0, in_right h.0 xs ys h.1, h.2)

ahead_cases : (d : Database) (table : Bool) (xs ys : List Piece) (x : Piece) → IsAhead d table (xs ++ ys) x → IsAhead d table xs x ⊎ IsAhead d table ys x
ahead_cases d table xs ys x h = elim (in_cases h.0 xs ys h.1) [ inl l ↦ inl (h.0, l, h.2) | inr r ↦ inr (h.0, r, h.2) ]

pub ahead_last : (d : Database) (table : Bool) (y x : Piece) → IsAhead d table (y ∷ []) x → StandsFor d table y x
ahead_last d table y x (z, inl e, h) = subst (λ (w : Piece). StandsFor d table w x) e h
ahead_last d table y x (z, inr a, h) = absurd a

last_ahead : (d : Database) (table : Bool) (xs : List Piece) (y x : Piece) → StandsFor d table y x → IsAhead d table (xs ++ y ∷ []) x
last_ahead d table xs y x h = (y, in_right y xs (y ∷ []) (inl refl), h)

-- those that follow are behind the others
to_more : (d : Database) (table : Bool) (p i : ℕ) (marks : List Bool) (rest more : List Piece) (f : Follows d table p i marks rest more) (x : Piece) → IsAhead d table (rest ++ f.items) x → IsAhead d table more x
to_more d table p i marks rest more f x h = subst (λ (l : List Piece). IsAhead d table l x) (sym f.behind) h

from_more : (d : Database) (table : Bool) (p i : ℕ) (marks : List Bool) (rest more : List Piece) (f : Follows d table p i marks rest more) (x : Piece) → IsAhead d table more x
    → IsAhead d table rest x ⊎ IsAhead d table f.items x
from_more d table p i marks rest more f x h = ahead_cases d table rest f.items x (subst (λ (l : List Piece). IsAhead d table l x) f.behind h)

part_same : (q p k i : ℕ) → q ≡ p → k ≡ i → Part q k ≡ Part p i
part_same q p k i e f = ap (λ (n : ℕ). Part n k) e ∙ ap (λ (n : ℕ). Part p n) f

-- what is reached is a page of the tree that wasn't passed
pub reached_fresh : (d : Database) (table : Bool) (P F : ℕ → Type 0) → {q : ℕ} → IsReached d table P F q → IsOfTree d table q × ¬ P q
reached_fresh d table P F {q} (at_first f is un) = (is, un)
reached_fresh d table P F {q} (at_child h names is un) = (is, un)

-- what is reached from first ones that are reached
pub reached_through : (d : Database) (table : Bool) (P Q F G : ℕ → Type 0) → ((q : ℕ) → ¬ P q → ¬ Q q) → ((q : ℕ) → F q → IsOfTree d table q → ¬ P q → IsReached d table Q G q)
    → {q : ℕ} → IsReached d table P F q → IsReached d table Q G q
reached_through d table P Q F G un first {q} (at_first f is u) = first q f is u
reached_through d table P Q F G un first {q} (at_child h names is u) = at_child (reached_through d table P Q F G un first h) names is (un q u)

-- from first ones that are first ones too
pub reached_as : (d : Database) (table : Bool) (P F G : ℕ → Type 0) → ((q : ℕ) → F q → G q) → {q : ℕ} → IsReached d table P F q → IsReached d table P G q
reached_as d table P F G f h = reached_through d table P P F G (λ q u. u) (λ q g is u. at_first (f q g) is u) h

-- where a tree begins
pub begun_forth : (d : Database) (table : Bool) (marks : List Bool) (root : ℕ) → {q : ℕ} → IsToCome d table marks (Whole root ∷ []) q → IsReachedFrom d table (IsMarked marks) root q
begun_forth d table marks root h = reached_as d table (IsMarked marks) (λ q. IsAhead d table (Whole root ∷ []) (Whole q)) (λ q. q ≡ root)
    (λ q i. ap (λ (x : Piece). page_in x) (ahead_last d table (Whole root) (Whole q) i)) h

pub begun_back : (d : Database) (table : Bool) (marks : List Bool) (root : ℕ) → {q : ℕ} → IsReachedFrom d table (IsMarked marks) root q → IsToCome d table marks (Whole root ∷ []) q
begun_back d table marks root h = reached_as d table (IsMarked marks) (λ q. q ≡ root) (λ q. IsAhead d table (Whole root ∷ []) (Whole q)) (λ q e. (Whole root, inl refl, ap (λ (n : ℕ). Whole n) e)) h

pub begun_pending : (d : Database) (marks : List Bool) (root : ℕ) → length marks ≡ length d → ArePending d marks (Whole root ∷ [])
begun_pending d marks root size = record { sized = size; once = tt; marked = λ p i a. absurd (part_whole p i root a); early = omega arith; few = omega arith }

-- more is pending
come_more : (d : Database) (table : Bool) (marks : List Bool) (rest more : List Piece) → {q : ℕ} → IsToCome d table marks rest q → IsToCome d table marks (rest ++ more) q
come_more d table marks rest more h = reached_as d table (IsMarked marks) (λ q. IsAhead d table rest (Whole q)) (λ q. IsAhead d table (rest ++ more) (Whole q)) (λ q i. ahead_left d table rest more (Whole q) i) h

left_more : (d : Database) (table : Bool) (marks : List Bool) (rest more : List Piece) (y : Piece) → IsLeft d table marks rest y → IsLeft d table marks (rest ++ more) y
left_more d table marks rest more (Whole q) h = (h.0, come_more d table marks rest more h.1)
left_more d table marks rest more (Part q i) (piece, inl a) = (piece, inl (ahead_left d table rest more (Part q i) a))
left_more d table marks rest more (Part q i) (piece, inr c) = (piece, inr (come_more d table marks rest more c))

-- the last one is a page that is none of the tree, or that was marked
come_skipped : (d : Database) (table : Bool) (marks : List Bool) (rest : List Piece) (p : ℕ) → ¬ (IsOfTree d table p × ¬ IsMarked marks p)
    → {q : ℕ} → IsToCome d table marks (rest ++ Whole p ∷ []) q → IsToCome d table marks rest q
come_skipped d table marks rest p none h = reached_through d table (IsMarked marks) (IsMarked marks) (λ q. IsAhead d table (rest ++ Whole p ∷ []) (Whole q)) (λ q. IsAhead d table rest (Whole q)) (λ q u. u)
    (λ q a is u. elim (ahead_cases d table rest (Whole p ∷ []) (Whole q) a) [
      | inl l ↦ at_first l is u
      | inr r ↦ (let e : q ≡ p = ap (λ (x : Piece). page_in x) (ahead_last d table (Whole p) (Whole q) r) in
          absurd (none (subst (λ (n : ℕ). IsOfTree d table n × ¬ IsMarked marks n) e (is, u))))
    ]) h

are_pending : (d : Database) (marks : List Bool) (pending : List Piece) → length marks ≡ length d → HasPlacesOnce pending → ((p i : ℕ) → In (Part p i) pending → IsMarked marks p) → early_count pending ≤ 4160
    → ArePending d marks pending
are_pending d marks pending size once marked early = record { sized = size; once = once; marked = marked; early = early; few = few_pending d marks pending size once marked early }

pub drop_last : (d : Database) (marks : List Bool) (rest : List Piece) (x : Piece) → ArePending d marks (rest ++ x ∷ []) → ArePending d marks rest
drop_last d marks rest x a = are_pending d marks rest a.sized (once_left rest (x ∷ []) a.once) (λ p i b. a.marked p i (in_left (Part p i) rest (x ∷ []) b)) (early_without rest x a.early)

pub skipped : (d : Database) (table : Bool) (marks : List Bool) (rest : List Piece) (p : ℕ) → ¬ (IsOfTree d table p × ¬ IsMarked marks p)
    → (pieces : List Piece) → AreLeft d table marks rest pieces → AreLeft d table marks (rest ++ Whole p ∷ []) pieces
skipped d table marks rest p none pieces left = (left.0, λ y. (λ i. left_more d table marks rest (Whole p ∷ []) y ((left.1 y).0 i), λ h. (left.1 y).1 (same y h)))
  where
    same : (y : Piece) → IsLeft d table marks (rest ++ Whole p ∷ []) y → IsLeft d table marks rest y
    same (Whole q) h = (h.0, come_skipped d table marks rest p none h.1)
    same (Part q i) (piece, inl a) = (
      piece,
      inl (elim (ahead_cases d table rest (Whole p ∷ []) (Part q i) a) [ inl l ↦ l | inr r ↦ (let e : Part q i ≡ Whole p = ahead_last d table (Whole p) (Part q i) r in absurd cc) ]),
    )
    same (Part q i) (piece, inr c) = (piece, inr (come_skipped d table marks rest p none c))

-- the passed pages are the same
pub skipped_same : (d : Database) (table : Bool) (marks : List Bool) (rest : List Piece) (p : ℕ) → ¬ (IsOfTree d table p × ¬ IsMarked marks p)
    → (q : ℕ) → (IsMarked marks q ⊎ IsToCome d table marks (rest ++ Whole p ∷ []) q) ↔ (IsMarked marks q ⊎ IsToCome d table marks rest q)
skipped_same d table marks rest p none q = (
  λ h. elim h [ inl m ↦ inl m | inr c ↦ inr (come_skipped d table marks rest p none c) ],
  λ h. elim h [ inl m ↦ inl m | inr c ↦ inr (come_more d table marks rest (Whole p ∷ []) c) ],
)

-- The last one is a cell: what was to come comes from what follows on its page.
follow_forth : (d : Database) (table : Bool) (p i : ℕ) (marks : List Bool) (rest more : List Piece) → Follows d table p (i + 1) marks rest more
    → {q : ℕ} → IsToCome d table marks (rest ++ Part p i ∷ []) q → IsToCome d table marks more q
follow_forth d table p i marks rest more f h = reached_through d table (IsMarked marks) (IsMarked marks) (λ q. IsAhead d table (rest ++ Part p i ∷ []) (Whole q)) (λ q. IsAhead d table more (Whole q)) (λ q u. u)
    (λ q a is u. at_first (to_more d table p (i + 1) marks rest more f (Whole q) (elim (ahead_cases d table rest (Part p i ∷ []) (Whole q) a) [
      | inl l ↦ ahead_left d table rest f.items (Whole q) l
      | inr r ↦ ahead_right d table rest f.items (Whole q) (f.named q (ahead_last d table (Part p i) (Whole q) r) is u)
    ])) is u) h

follow_back : (d : Database) (table : Bool) (p i : ℕ) (marks : List Bool) (rest more : List Piece) → Follows d table p (i + 1) marks rest more
    → {q : ℕ} → IsToCome d table marks more q → IsToCome d table marks (rest ++ Part p i ∷ []) q
follow_back d table p i marks rest more f h = reached_as d table (IsMarked marks) (λ q. IsAhead d table more (Whole q)) (λ q. IsAhead d table (rest ++ Part p i ∷ []) (Whole q))
    (λ q a. elim (from_more d table p (i + 1) marks rest more f (Whole q) a) [
      | inl l ↦ ahead_left d table rest (Part p i ∷ []) (Whole q) l
      | inr r ↦ last_ahead d table rest (Part p i) (Whole q) (f.pages q r)
    ]) h

pub followed_same : (d : Database) (table : Bool) (p i : ℕ) (marks : List Bool) (rest more : List Piece) → Follows d table p (i + 1) marks rest more
    → (q : ℕ) → (IsMarked marks q ⊎ IsToCome d table marks (rest ++ Part p i ∷ []) q) ↔ (IsMarked marks q ⊎ IsToCome d table marks more q)
followed_same d table p i marks rest more f q = (
  λ h. elim h [ inl m ↦ inl m | inr c ↦ inr (follow_forth d table p i marks rest more f c) ],
  λ h. elim h [ inl m ↦ inl m | inr c ↦ inr (follow_back d table p i marks rest more f c) ],
)

pub followed_pending : (d : Database) (table : Bool) (p i : ℕ) (marks : List Bool) (rest more : List Piece) → ArePending d marks (rest ++ Part p i ∷ []) → Follows d table p (i + 1) marks rest more → ArePending d marks more
followed_pending d table p i marks rest more a f = are_pending d marks more a.sized
    (subst (λ (l : List Piece). HasPlacesOnce l) (sym f.behind) (once_append rest f.items (once_left rest (Part p i ∷ []) a.once) f.once off))
    (λ q k b. elim (in_cases (Part q k) rest f.items (subst (In (Part q k)) f.behind b)) [
      | inl l ↦ a.marked q k (in_left (Part q k) rest (Part p i ∷ []) l)
      | inr r ↦ subst (λ (n : ℕ). IsMarked marks n) (sym (f.places q k r)) (a.marked p i (in_right (Part p i) rest (Part p i ∷ []) (inl refl)))
    ])
    (subst (λ (l : List Piece). early_count l ≤ 4160) (sym f.behind) (early_with rest f.items (Part p i) a.early f.few))
  where
    off : (q j k : ℕ) → In (Part q j) rest → In (Part q k) f.items → ⊥
    off q j k l r = once_last rest p i j a.once (subst (λ (n : ℕ). In (Part n j) rest) (f.places q k r) l)

followed_forth : (d : Database) (table : Bool) (p i : ℕ) (marks : List Bool) (rest more : List Piece) → Follows d table p (i + 1) marks rest more
    → (y : Piece) → IsLeft d table marks more y → IsLeft d table marks (rest ++ Part p i ∷ []) y
followed_forth d table p i marks rest more f (Whole q) h = (h.0, follow_back d table p i marks rest more f h.1)
followed_forth d table p i marks rest more f (Part q k) (is, inl a) = elim (from_more d table p (i + 1) marks rest more f (Part q k) a) [
  | inl l ↦ (is, inl (ahead_left d table rest (Part p i ∷ []) (Part q k) l))
  | inr r ↦ (is, inl (last_ahead d table rest (Part p i) (Part q k) (let x = f.cells q k r in (x.0, (let le : i + 1 ≤ k = x.1 in omega (arith, le))))))
]
followed_forth d table p i marks rest more f (Part q k) (is, inr c) = (is, inr (follow_back d table p i marks rest more f c))

followed_back : (d : Database) (table : Bool) (p i : ℕ) (marks : List Bool) (rest more : List Piece) → Follows d table p (i + 1) marks rest more
    → (y : Piece) → IsLeft d table marks (rest ++ Part p i ∷ []) y → (y ≡ Part p i) ⊎ IsLeft d table marks more y
followed_back d table p i marks rest more f (Whole q) h = inr (h.0, follow_forth d table p i marks rest more f h.1)
followed_back d table p i marks rest more f (Part q k) (is, inl a) = elim (ahead_cases d table rest (Part p i ∷ []) (Part q k) a) [
  | inl l ↦ inr (is, inl (to_more d table p (i + 1) marks rest more f (Part q k) (ahead_left d table rest f.items (Part q k) l)))
  | inr r ↦ (let x = ahead_last d table (Part p i) (Part q k) r in elim (cases_eq k i) [
    | inl same ↦ inl (part_same q p k i x.0 same)
    | inr ne ↦ inr (
      is,
      inl (to_more d table p (i + 1) marks rest more f (Part q k) (ahead_right d table rest f.items (Part q k) (subst (λ (n : ℕ). IsAhead d table f.items (Part n k)) (sym x.0)
          (f.told k (let le : i ≤ k = x.1 in omega (arith, le, ne)) (subst (λ (n : ℕ). IsPiece d table (Part n k)) x.0 is))))),
    )
  ])
]
followed_back d table p i marks rest more f (Part q k) (is, inr c) = inr (is, inr (follow_forth d table p i marks rest more f c))

left_piece : (d : Database) (table : Bool) (marks : List Bool) (pending : List Piece) (y : Piece) → IsLeft d table marks pending y → IsPiece d table y
left_piece d table marks pending (Whole q) h = h.0
left_piece d table marks pending (Part q k) h = h.0

-- the cell is none of the tree's pieces, or one of them
pub cell_skipped : (d : Database) (table : Bool) (p i : ℕ) (marks : List Bool) (rest more : List Piece) → Follows d table p (i + 1) marks rest more → ¬ IsPiece d table (Part p i)
    → (pieces : List Piece) → AreLeft d table marks more pieces → AreLeft d table marks (rest ++ Part p i ∷ []) pieces
cell_skipped d table p i marks rest more f none pieces left = (
  left.0,
  λ y. (
    λ j. followed_forth d table p i marks rest more f y ((left.1 y).0 j),
    λ h. elim (followed_back d table p i marks rest more f y h) [
      | inl e ↦ absurd (none (subst (λ (z : Piece). IsPiece d table z) e (left_piece d table marks (rest ++ Part p i ∷ []) y h)))
      | inr k ↦ (left.1 y).1 k
    ],
  ),
)

-- a place on the page of the last one
no_place : (d : Database) (table : Bool) (p i : ℕ) (rest : List Piece) → HasPlacesOnce (rest ++ Part p i ∷ []) → IsAhead d table rest (Part p i) → ⊥
no_place d table p i rest once (Whole q, a, s) = cc
no_place d table p i rest once (Part q j, a, s) = once_last rest p i j once (subst (λ (n : ℕ). In (Part n j) rest) (sym s.0) a)

pub cell_taken : (d : Database) (table : Bool) (p i : ℕ) (marks : List Bool) (rest more : List Piece) → ArePending d marks (rest ++ Part p i ∷ []) → Follows d table p (i + 1) marks rest more
    → IsPiece d table (Part p i) → (pieces : List Piece) → AreLeft d table marks more pieces → AreLeft d table marks (rest ++ Part p i ∷ []) (Part p i ∷ pieces)
cell_taken d table p i marks rest more a f piece pieces left = (
  (every_from_in (λ y. Part p i ≡ y → ⊥) pieces (λ y j e. again ((left.1 (Part p i)).0 (subst (λ (z : Piece). In z pieces) (sym e) j))), left.0),
  λ y. (forth y, λ h. elim (followed_back d table p i marks rest more f y h) [ inl e ↦ inl e | inr k ↦ inr ((left.1 y).1 k) ]),
)
  where
    last : In (Part p i) (rest ++ Part p i ∷ [])
    last = in_right (Part p i) rest (Part p i ∷ []) (inl refl)

    again : IsLeft d table marks more (Part p i) → ⊥
    again (is, inl b) = elim (from_more d table p (i + 1) marks rest more f (Part p i) b) [
      | inl l ↦ no_place d table p i rest a.once l
      | inr r ↦ (let le : i + 1 ≤ i = (f.cells p i r).1 in omega (arith, le))
    ]
    again (is, inr c) = (reached_fresh d table (IsMarked marks) (λ q. IsAhead d table more (Whole q)) c).1 (a.marked p i last)

    forth : (y : Piece) → In y (Part p i ∷ pieces) → IsLeft d table marks (rest ++ Part p i ∷ []) y
    forth y (inl e) = subst (λ (z : Piece). IsLeft d table marks (rest ++ Part p i ∷ []) z) (sym e) (piece, inl (last_ahead d table rest (Part p i) (Part p i) (refl, omega arith)))
    forth y (inr j) = followed_forth d table p i marks rest more f y ((left.1 y).0 j)

-- A page of the tree is opened: what was to come is that page, or is still to come.
fresh_still : (d : Database) (table : Bool) (p : ℕ) (marks new : List Bool) (rest pending : List Piece) → Opens d table p marks new rest pending → (q : ℕ) → ¬ (q ≡ p) → ¬ IsMarked marks q → ¬ IsMarked new q
fresh_still d table p marks new rest pending o q ne un m = elim ((o.marked q).0 m) [ inl before ↦ un before | inr e ↦ ne e ]

names_first : (d : Database) (table : Bool) (p q : ℕ) → NamesChild d table p q → NamesFrom d table p 0 q
names_first d table p q n = (n.0, n.1, omega arith, n.2)

pub come_forth : (d : Database) (table : Bool) (p : ℕ) (marks new : List Bool) (rest pending : List Piece) → Opens d table p marks new rest pending
    → {q : ℕ} → IsToCome d table marks (rest ++ Whole p ∷ []) q → (q ≡ p) ⊎ IsToCome d table new pending q
come_forth d table p marks new rest pending o {q} (at_first f is un) = elim (cases_eq q p) [
  | inl e ↦ inl e
  | inr ne ↦ elim (ahead_cases d table rest (Whole p ∷ []) (Whole q) f) [
    | inl l ↦ inr (at_first (to_more d table p 0 new rest pending o.follows (Whole q) (ahead_left d table rest o.follows.items (Whole q) l)) is (fresh_still d table p marks new rest pending o q ne un))
    | inr r ↦ inl (ap (λ (x : Piece). page_in x) (ahead_last d table (Whole p) (Whole q) r))
  ]
]
come_forth d table p marks new rest pending o {q} (at_child {p = a} h names is un) = elim (cases_eq q p) [
  | inl e ↦ inl e
  | inr ne ↦ (let still = fresh_still d table p marks new rest pending o q ne un in elim (come_forth d table p marks new rest pending o h) [
    | inl e ↦ inr (at_first (to_more d table p 0 new rest pending o.follows (Whole q) (ahead_right d table rest o.follows.items (Whole q)
        (o.follows.named q (names_first d table p q (subst (λ (n : ℕ). NamesChild d table n q) e names)) is still))) is still)
    | inr k ↦ inr (at_child k names is still)
  ])
]

-- the page itself was to come
was_to_come : (d : Database) (table : Bool) (p : ℕ) (marks new : List Bool) (rest pending : List Piece) → Opens d table p marks new rest pending → IsToCome d table marks (rest ++ Whole p ∷ []) p
was_to_come d table p marks new rest pending o = at_first (last_ahead d table rest (Whole p) (Whole p) refl) o.fresh.0 o.fresh.1

pub come_back : (d : Database) (table : Bool) (p : ℕ) (marks new : List Bool) (rest pending : List Piece) → Opens d table p marks new rest pending
    → {q : ℕ} → IsToCome d table new pending q → IsToCome d table marks (rest ++ Whole p ∷ []) q
come_back d table p marks new rest pending o h =
    reached_through d table (IsMarked new) (IsMarked marks) (λ q. IsAhead d table pending (Whole q)) (λ q. IsAhead d table (rest ++ Whole p ∷ []) (Whole q)) unmarked first h
  where
    unmarked : (q : ℕ) → ¬ IsMarked new q → ¬ IsMarked marks q
    unmarked q un m = un ((o.marked q).1 (inl m))

    first : (q : ℕ) → IsAhead d table pending (Whole q) → IsOfTree d table q → ¬ IsMarked new q → IsToCome d table marks (rest ++ Whole p ∷ []) q
    first q i is un = elim (from_more d table p 0 new rest pending o.follows (Whole q) i) [
      | inl l ↦ at_first (ahead_left d table rest (Whole p ∷ []) (Whole q) l) is (unmarked q un)
      | inr r ↦ (let n = o.follows.pages q r in at_child (was_to_come d table p marks new rest pending o) (n.0, n.1, n.3) is (unmarked q un))
    ]

pub opened_pending : (d : Database) (table : Bool) (p : ℕ) (marks new : List Bool) (rest pending : List Piece) → ArePending d marks (rest ++ Whole p ∷ []) → Opens d table p marks new rest pending → ArePending d new pending
opened_pending d table p marks new rest pending a o = are_pending d new pending (o.sized ∙ a.sized)
    (subst (λ (l : List Piece). HasPlacesOnce l) (sym o.follows.behind) (once_append rest o.follows.items (once_left rest (Whole p ∷ []) a.once) o.follows.once off))
    (λ q i b. elim (in_cases (Part q i) rest o.follows.items (subst (In (Part q i)) o.follows.behind b)) [
      | inl l ↦ (o.marked q).1 (inl (before q i l))
      | inr r ↦ (o.marked q).1 (inr (o.follows.places q i r))
    ])
    (subst (λ (l : List Piece). early_count l ≤ 4160) (sym o.follows.behind) (early_with rest o.follows.items (Whole p) a.early o.follows.few))
  where
    before : (q i : ℕ) → In (Part q i) rest → IsMarked marks q
    before q i l = a.marked q i (in_left (Part q i) rest (Whole p ∷ []) l)

    off : (q j k : ℕ) → In (Part q j) rest → In (Part q k) o.follows.items → ⊥
    off q j k l r = o.fresh.1 (subst (λ (n : ℕ). IsMarked marks n) (o.follows.places q k r) (before q j l))

pub opened_same : (d : Database) (table : Bool) (p : ℕ) (marks new : List Bool) (rest pending : List Piece) → Opens d table p marks new rest pending
    → (q : ℕ) → (IsMarked marks q ⊎ IsToCome d table marks (rest ++ Whole p ∷ []) q) ↔ (IsMarked new q ⊎ IsToCome d table new pending q)
opened_same d table p marks new rest pending o q = (forth, back)
  where
    forth : IsMarked marks q ⊎ IsToCome d table marks (rest ++ Whole p ∷ []) q → IsMarked new q ⊎ IsToCome d table new pending q
    forth (inl m) = inl ((o.marked q).1 (inl m))
    forth (inr h) = elim (come_forth d table p marks new rest pending o h) [ inl e ↦ inl ((o.marked q).1 (inr e)) | inr k ↦ inr k ]

    back : IsMarked new q ⊎ IsToCome d table new pending q → IsMarked marks q ⊎ IsToCome d table marks (rest ++ Whole p ∷ []) q
    back (inl m) = elim ((o.marked q).0 m) [
      | inl before ↦ inl before
      | inr e ↦ inr (subst (λ (n : ℕ). IsToCome d table marks (rest ++ Whole p ∷ []) n) (sym e) (was_to_come d table p marks new rest pending o))
    ]
    back (inr h) = inr (come_back d table p marks new rest pending o h)

-- the pieces that are left
opened_forth : (d : Database) (table : Bool) (p : ℕ) (marks new : List Bool) (rest pending : List Piece) → Opens d table p marks new rest pending
    → (y : Piece) → IsLeft d table new pending y → IsLeft d table marks (rest ++ Whole p ∷ []) y
opened_forth d table p marks new rest pending o (Whole q) h = (h.0, come_back d table p marks new rest pending o h.1)
opened_forth d table p marks new rest pending o (Part q i) (is, inl a) = elim (from_more d table p 0 new rest pending o.follows (Part q i) a) [
  | inl l ↦ (is, inl (ahead_left d table rest (Whole p ∷ []) (Part q i) l))
  | inr r ↦ (is, inr (subst (λ (n : ℕ). IsToCome d table marks (rest ++ Whole p ∷ []) n) (sym (o.follows.cells q i r).0) (was_to_come d table p marks new rest pending o)))
]
opened_forth d table p marks new rest pending o (Part q i) (is, inr c) = (is, inr (come_back d table p marks new rest pending o c))

opened_back : (d : Database) (table : Bool) (p : ℕ) (marks new : List Bool) (rest pending : List Piece) → Opens d table p marks new rest pending
    → (y : Piece) → IsLeft d table marks (rest ++ Whole p ∷ []) y → (y ≡ Whole p) ⊎ IsLeft d table new pending y
opened_back d table p marks new rest pending o (Whole q) h = elim (come_forth d table p marks new rest pending o h.1) [ inl e ↦ inl (ap (λ (n : ℕ). Whole n) e) | inr k ↦ inr (h.0, k) ]
opened_back d table p marks new rest pending o (Part q i) (is, inl a) = elim (ahead_cases d table rest (Whole p ∷ []) (Part q i) a) [
  | inl l ↦ inr (is, inl (to_more d table p 0 new rest pending o.follows (Part q i) (ahead_left d table rest o.follows.items (Part q i) l)))
  | inr r ↦ (let e : Part q i ≡ Whole p = ahead_last d table (Whole p) (Part q i) r in absurd cc)
]
opened_back d table p marks new rest pending o (Part q i) (is, inr c) = elim (come_forth d table p marks new rest pending o c) [
  | inl e ↦ inr (
    is,
    inl (to_more d table p 0 new rest pending o.follows (Part q i) (ahead_right d table rest o.follows.items (Part q i)
        (subst (λ (n : ℕ). IsAhead d table o.follows.items (Part n i)) (sym e) (o.follows.told i (omega arith) (subst (λ (n : ℕ). IsPiece d table (Part n i)) e is))))),
  )
  | inr k ↦ inr (is, inr k)
]

pub opened : (d : Database) (table : Bool) (p : ℕ) (marks new : List Bool) (rest pending : List Piece) → Opens d table p marks new rest pending → ¬ IsLeaf d table p
    → (pieces : List Piece) → AreLeft d table new pending pieces → AreLeft d table marks (rest ++ Whole p ∷ []) pieces
opened d table p marks new rest pending o none pieces left = (
  left.0,
  λ y. (
    λ i. opened_forth d table p marks new rest pending o y ((left.1 y).0 i),
    λ h. elim (opened_back d table p marks new rest pending o y h) [
      | inl e ↦ absurd (none (subst (λ (z : Piece). IsLeft d table marks (rest ++ Whole p ∷ []) z) e h).0)
      | inr k ↦ (left.1 y).1 k
    ],
  ),
)

pub leaf_taken : (d : Database) (table : Bool) (p : ℕ) (marks new : List Bool) (rest pending : List Piece) → Opens d table p marks new rest pending → IsLeaf d table p
    → (pieces : List Piece) → AreLeft d table new pending pieces → AreLeft d table marks (rest ++ Whole p ∷ []) (Whole p ∷ pieces)
leaf_taken d table p marks new rest pending o leaf pieces left = (
  (every_from_in (λ y. Whole p ≡ y → ⊥) pieces (λ y j e. again ((left.1 (Whole p)).0 (subst (λ (z : Piece). In z pieces) (sym e) j))), left.0),
  λ y. (forth y, λ h. elim (opened_back d table p marks new rest pending o y h) [ inl e ↦ inl e | inr k ↦ inr ((left.1 y).1 k) ]),
)
  where
    again : IsLeft d table new pending (Whole p) → ⊥
    again h = (reached_fresh d table (IsMarked new) (λ q. IsAhead d table pending (Whole q)) h.1).1 ((o.marked p).1 (inr refl))

    forth : (y : Piece) → In y (Whole p ∷ pieces) → IsLeft d table marks (rest ++ Whole p ∷ []) y
    forth y (inl e) = subst (λ (z : Piece). IsLeft d table marks (rest ++ Whole p ∷ []) z) (sym e) (leaf, was_to_come d table p marks new rest pending o)
    forth y (inr j) = opened_forth d table p marks new rest pending o y ((left.1 y).0 j)

-- nothing is to come where nothing is pending
pub none_comes : (d : Database) (table : Bool) (marks : List Bool) (pending : List Piece) → pending ≡ [] → {q : ℕ} → IsToCome d table marks pending q → ⊥
none_comes d table marks pending empty {q} (at_first f is un) = absurd (subst (λ (l : List Piece). In f.0 l) empty f.1)
none_comes d table marks pending empty (at_child h names is un) = none_comes d table marks pending empty h

pub none_left : (d : Database) (table : Bool) (marks : List Bool) (pending : List Piece) → pending ≡ [] → (y : Piece) → IsLeft d table marks pending y → ⊥
none_left d table marks pending empty (Whole q) h = none_comes d table marks pending empty h.1
none_left d table marks pending empty (Part q i) (is, inl a) = absurd (subst (λ (l : List Piece). In a.0 l) empty a.1)
none_left d table marks pending empty (Part q i) (is, inr c) = none_comes d table marks pending empty c

pub left_none : (d : Database) (table : Bool) (marks : List Bool) (pending : List Piece) → pending ≡ [] → AreLeft d table marks pending []
left_none d table marks pending empty = (tt, λ y. (λ i. absurd i, λ h. absurd (none_left d table marks pending empty y h)))

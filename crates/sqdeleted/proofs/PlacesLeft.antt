-- The places that are left.
use Rattle.std.proofs.Common.{◌≡◌, ◌↔◌, ◌⊎◌, ℕ, ◌+◌, ◌<◌, ◌≤◌, List, [], ◌∷◌, length, min, inl, inr, refl, sym, subst, arith}
use Rattle.std.proofs.lemmas.Bool.{cases_eq, cases_lt}
use Rattle.sqpage.specs.Lists.{In}
use Rattle.sqpage.specs.declared.cell.Parts.{Parts}
use Rattle.sqpage.specs.declared.kind.Kind.{Kind}
use Rattle.sqpage.specs.Header.{half}
use Rattle.sqpage.specs.Page.{head_at, content_start_in, pointers_end_in}
use Rattle.sqpage.specs.Layout.{Span, IsFreeblock}
use Rattle.sqdeleted.specs.Deleted.{StandsBetween, IsLinked, IsGap, IsDeleted}
use Rattle.sqdeleted.specs.DeletedCursor.{Rise}
use Rattle.sqdeleted.proofs.LinkedFreeblocks.{linked_behind, linked_least, none_linked, linked_cases, linked_first, linked_more}
use Rattle.sqdeleted.proofs.CellsOfGaps.{cell_takes, between}

-- what is left, by the numbers that a cursor holds
abbrev pub Left : (used : List ℕ) → (at to least next : ℕ) → (place : ℕ) → Parts → Type 0
Left used at to least next place c =
    StandsBetween used at to place c
    ⊎ ((block : Span) × IsLinked used least next block × StandsBetween used (block.start + 4) (block.start + block.size) place c)

-- these are the places of such cells, in their order
abbrev pub Places : (L : ℕ → Parts → Type 0) → List ℕ → Type 0
Places L places = Rise 0 places × ((at : ℕ) → In at places ↔ ((c : Parts) × L at c))

rise_from : (a b : ℕ) (xs : List ℕ) → Rise a xs → ((y : ℕ) → In y xs → b ≤ y) → Rise b xs
rise_from a b [] h all = tt
rise_from a b (x ∷ xs) h all = (all x (inl refl), h.1)

pub no_places : (L : ℕ → Parts → Type 0) → ((p : ℕ) (c : Parts) → ¬ L p c) → Places L []
no_places L none = (tt, λ p. (λ i. absurd i, λ w. absurd (none p w.0 w.1)))

pub same_places : (L M : ℕ → Parts → Type 0) (places : List ℕ) → ((p : ℕ) (c : Parts) → L p c ↔ M p c) → Places M places → Places L places
same_places L M places same m = (m.0, λ p. (λ i. (let w = (m.1 p).0 i in (w.0, (same p w.0).1 w.1)), λ w. (m.1 p).1 (w.0, (same p w.0).0 w.1)))

-- A cell was found, the first one of its gap.
module _ (used : List ℕ) (at to least next place : ℕ) (c : Parts) (apart : to ≤ least) (stands : StandsBetween used at to place c)
    (none : (p : ℕ) (d : Parts) → p < place → ¬ StandsBetween used at to p d) where
  below : place < to
  below = let takes : place < c.end = cell_takes used place c stands.has in let within : c.end ≤ to = stands.before in omega (arith, takes, within)

  -- what is left now stands behind it
  later : (p : ℕ) (d : Parts) → Left used (place + 1) to least next p d → place + 1 ≤ p
  later p d (inl s) = s.after
  later p d (inr w) =
      let behind : least ≤ w.0.start = linked_behind used least next w.0 w.1 in
      let after : w.0.start + 4 ≤ p = w.2.after in
      omega (arith, below, behind, after, apart)

  was_left : (p : ℕ) (d : Parts) → Left used (place + 1) to least next p d → Left used at to least next p d
  was_left p d (inl s) =
      let first : at ≤ place = stands.after in
      let after : place + 1 ≤ p = s.after in
      inl (between used (place + 1) to at to p d (omega (arith, first, after)) s.before s)
  was_left p d (inr w) = inr w

  is_left : (p : ℕ) (d : Parts) → Left used at to least next p d → (p ≡ place) ⊎ Left used (place + 1) to least next p d
  is_left p d (inl s) = elim (cases_lt p place) [
    | inl less ↦ absurd (none p d less s)
    | inr more ↦ elim (cases_eq p place) [
      | inl same ↦ inl same
      | inr other ↦ inr (inl (between used at to (place + 1) to p d (omega arith) s.before s))
    ]
  ]
  is_left p d (inr w) = inr (inr w)

  pub first_place : (places : List ℕ) → Places (Left used (place + 1) to least next) places → Places (Left used at to least next) (place ∷ places)
  first_place places m = ((omega arith, rise_from 0 (place + 1) places m.0 (λ y i. (let w = (m.1 y).0 i in later y w.0 w.1))), λ p. (forth p, back p))
    where
      forth : (p : ℕ) → In p (place ∷ places) → (d : Parts) × Left used at to least next p d
      forth p (inl e) = (c, inl (subst (λ (q : ℕ). StandsBetween used at to q c) (sym e) stands))
      forth p (inr i) = let w = (m.1 p).0 i in (w.0, was_left p w.0 w.1)

      back : (p : ℕ) → (d : Parts) × Left used at to least next p d → In p (place ∷ places)
      back p w = elim (is_left p w.0 w.1) [
        | inl e ↦ inl e
        | inr l ↦ inr ((m.1 p).1 (w.0, l))
      ]

-- Where the rest of a gap has no cell.
module _ (used : List ℕ) (at to least next : ℕ) (none : (p : ℕ) (c : Parts) → ¬ StandsBetween used at to p c) where
  -- what is left is in the next freeblock and behind it
  module _ (first : Span) (starts : first.start ≡ next) (is : IsFreeblock used least first) where
    forth : (p : ℕ) (c : Parts) → Left used at to least next p c → Left used (first.start + 4) (first.start + first.size) (first.start + first.size) (half used first.start) p c
    forth p c (inl s) = absurd (none p c s)
    forth p c (inr w) = elim (linked_cases used least next first starts is w.0 w.1) [
      | inl same ↦ inl (subst (λ (b : Span). StandsBetween used (b.start + 4) (b.start + b.size) p c) same w.2)
      | inr l ↦ inr (w.0, l, w.2)
    ]

    back : (p : ℕ) (c : Parts) → Left used (first.start + 4) (first.start + first.size) (first.start + first.size) (half used first.start) p c → Left used at to least next p c
    back p c (inl s) = inr (first, linked_first used least next first starts is, s)
    back p c (inr w) = inr (w.0, linked_more used least next first starts is w.0 w.1, w.2)

    pub opened : (p : ℕ) (c : Parts) → Left used at to least next p c ↔ Left used (first.start + 4) (first.start + first.size) (first.start + first.size) (half used first.start) p c
    opened p c = (forth p c, back p c)

  -- and none is left where none follows
  pub ended : ((b : Span) → b.start ≡ next → ¬ IsFreeblock used least b) → (p : ℕ) (c : Parts) → ¬ Left used at to least next p c
  ended last p c (inl s) = none p c s
  ended last p c (inr w) = none_linked used least next w.0 last w.1

-- The gaps of a page are those that a cursor over it begins with.
module _ (kind : Kind) (used : List ℕ) (number at to least next : ℕ) (a : at ≡ pointers_end_in kind used number) (t : to ≡ min (content_start_in used number) (length used))
    (l : least ≡ content_start_in used number) (n : next ≡ half used (head_at number + 1)) where
  deleted : (p : ℕ) (c : Parts) → Left used at to least next p c → IsDeleted kind used number p c
  deleted p c (inl s) =
      let within : c.end ≤ to = s.before in
      let after : at ≤ p = s.after in
      (pointers_end_in kind used number, content_start_in used number, inl (refl, refl), between used at to _ _ p c (rw (← a) after) (omega (arith, within, t)) s)
  deleted p c (inr w) = (w.0.start + 4, w.0.start + w.0.size, inr (w.0, subst (λ (m : ℕ). IsLinked used m (half used (head_at number + 1)) w.0) l (subst (λ (m : ℕ). IsLinked used least m w.0) n w.1), refl, refl), w.2)

  gap_left : (from end p : ℕ) (c : Parts) → IsGap kind used number from end → StandsBetween used from end p c → Left used at to least next p c
  gap_left from end p c (inl e) s =
      let within : c.end ≤ end = s.before in
      let inside : c.end ≤ length used = s.has.within in
      let after : from ≤ p = s.after in
      let is : end ≡ content_start_in used number = e.1 in
      inl (between used from end at to p c (rw (a, ← e.0) after) (omega (arith, within, inside, is, t)) s)
  gap_left from end p c (inr w) s =
      inr (
        w.0,
        subst (λ (m : ℕ). IsLinked used m next w.0) (sym l) (subst (λ (m : ℕ). IsLinked used (content_start_in used number) m w.0) (sym n) w.1),
        subst (λ (f : ℕ). StandsBetween used f (w.0.start + w.0.size) p c) w.2 (subst (λ (f : ℕ). StandsBetween used from f p c) w.3 s),
      )

  pub begun : (p : ℕ) (c : Parts) → Left used at to least next p c ↔ IsDeleted kind used number p c
  begun p c = (deleted p c, λ w. gap_left w.0 w.1 p c w.2 w.3)

-- a free page has one gap
free_stands : (used : List ℕ) (p : ℕ) (c : Parts) → 0 < length used → Left used 0 (length used) (length used) 0 p c → StandsBetween used 0 (length used) p c
free_stands used p c some (inl s) = s
free_stands used p c some (inr w) = let none : length used ≤ 0 = linked_least used (length used) 0 w.0 w.1 in absurd (omega (arith, none, some))

pub free_left : (used : List ℕ) (p : ℕ) (c : Parts) → 0 < length used → Left used 0 (length used) (length used) 0 p c ↔ StandsBetween used 0 (length used) p c
free_left used p c some = (free_stands used p c some, λ s. inl s)

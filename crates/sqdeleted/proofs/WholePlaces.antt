-- Where deleted cells stand whole, one more of them.
use Rattle.std.proofs.Common.{◌≡◌, ◌≢◌, ◌↔◌, ◌∙◌, ◌⊎◌, ℕ, ◌+◌, ◌<◌, ◌≤◌, Bool, true, false, List, [], ◌∷◌, ◌++◌, Some, None, length, get_or, set, replicate, inl, inr, refl, sym, ap, subst, append_assoc, append-nil, arith}
use Rattle.std.proofs.lemmas.Bool.{cases_eq, cases_lt}
use Rattle.std.proofs.lemmas.List.{get_or-replicate, get_or_past, get_or-set_same, get_or-set_other, length-replicate, length-set}
use Rattle.sqpage.specs.declared.cell.Parts.{Parts}
use Rattle.sqpage.specs.declared.kind.Kind.TheVariants.{TableLeaf}
use Rattle.sqpage.specs.Lists.{In}
use Rattle.sqpage.specs.Page.{HasParts}
use Rattle.sqpage.proofs.btree.PartsOfCells.{parts_once}
use Rattle.sqpage.proofs.chain.ListsByRecursion.{in_left, in_right, in_cases}
use Rattle.sqdeleted.specs.Cut.{AreWholeOf, IsWhole}
use Rattle.sqdeleted.specs.DeletedCursor.{AreLeft, CellsMove, IsLeft}
use Rattle.sqdeleted.specs.declared.cell.DeletedCell.{DeletedCell}
use Rattle.sqdeleted.specs.declared.cursor.DeletedCells.{DeletedCells}
use Rattle.sqdeleted.specs.declared.whole.WholeCells.{WholeCells}
use Rattle.sqdeleted.proofs.CellsOfGaps.{cell_takes}

left_parts : (s : DeletedCells) (at : ℕ) (c : Parts) → IsLeft s at c → HasParts TableLeaf s.used.now at c
left_parts s at c (inl stands) = stands.has
left_parts s at c (inr w) = w.2.has

-- a cell lies in the bytes of its page
pub cell_within : (old new : DeletedCells) (cell : DeletedCell) → CellsMove old new (Some cell) → (cell.at < length old.used.now) × (cell.at + cell.size ≤ length old.used.now)
cell_within old new cell (at, c, left, is, behind) =
    let has : HasParts TableLeaf old.used.now at c = left_parts old at c left in
    let place : cell.at ≡ at = is.at in
    let size : cell.at + cell.size ≡ c.end = is.size in
    let within : c.end ≤ length old.used.now = has.within in
    let takes = cell_takes old.used.now at c has in
    (omega (arith, place, within, takes), omega (arith, size, within))

-- One more place is marked.
set_marks : (xs : List Bool) (i at : ℕ) → i < length xs → IsWhole (set xs i true) at ↔ (IsWhole xs at ⊎ (at ≡ i))
set_marks xs i at inside = elim (cases_eq at i) [
  | inl e ↦ (λ t. inr e, λ w. subst (λ (q : ℕ). IsWhole (set xs i true) q) (sym e) (get_or-set_same xs i true false inside))
  | inr other ↦ (λ t. inl (sym (get_or-set_other xs i at true false other) ∙ t), λ w. elim w [ inl was ↦ get_or-set_other xs i at true false other ∙ was | inr e ↦ absurd (other e) ])
]

-- the places that were marked so far
pub record MarkedTo (old new : List Bool) (from to : ℕ) : Type 0 where
  pub sized : length new ≡ length old
  pub marks : (at : ℕ) → IsWhole new at ↔ (IsWhole old at ⊎ ((from ≤ at) × (at < to)))

pub marked_none : (old : List Bool) (from to : ℕ) → to ≤ from → MarkedTo old old from to
marked_none old from to none = record { sized = refl; marks = λ at. (λ t. inl t, λ w. elim w [ inl was ↦ was | inr x ↦ absurd (omega (arith, x, none)) ]) }

pub marked_more : (old new : List Bool) (from to : ℕ) → MarkedTo old new from to → from ≤ to → to < length old → MarkedTo old (set new to true) from (to + 1)
marked_more old new from to m after within = record {
  sized = length-set new to true ∙ m.sized;
  marks = λ at. (forth at, back at);
}
  where
    inside : to < length new
    inside = (let sized : length new ≡ length old = m.sized in omega (arith, within, sized))

    forth : (at : ℕ) → IsWhole (set new to true) at → IsWhole old at ⊎ ((from ≤ at) × (at < to + 1))
    forth at t = elim ((set_marks new to at inside).0 t) [
      | inl was ↦ elim ((m.marks at).0 was) [ inl was ↦ inl was | inr x ↦ inr (x.0, omega (arith, x)) ]
      | inr e ↦ inr (omega (arith, e, after), omega (arith, e))
    ]

    back : (at : ℕ) → IsWhole old at ⊎ ((from ≤ at) × (at < to + 1)) → IsWhole (set new to true) at
    back at (inl was) = (set_marks new to at inside).1 (inl ((m.marks at).1 (inl was)))
    back at (inr x) = elim (cases_eq at to) [
      | inl e ↦ (set_marks new to at inside).1 (inr e)
      | inr other ↦ (set_marks new to at inside).1 (inl ((m.marks at).1 (inr (x.0, omega (arith, x, other)))))
    ]

-- The cells that were told are marked, before those that are left.
pub record Marking (start now : DeletedCells) (begin held : List Bool) : Type 0 where
  pub told : List ℕ
  pub used : now.used.now ≡ start.used.now
  pub sized : length begin ≡ length start.used.now
  pub sized_held : length held ≡ length start.used.now
  pub moves : (places : List ℕ) → AreLeft now places → AreLeft start (told ++ places)
  pub begins : (at : ℕ) → IsWhole begin at ↔ In at told
  pub holds : (at : ℕ) → IsWhole held at ↔ ((place : ℕ) × (c : Parts) × In place told × HasParts TableLeaf start.used.now place c × (place ≤ at) × (at < c.end))

none_marked : (n at : ℕ) → get_or (replicate n false) at false ≡ false
none_marked n at = elim (cases_lt at n) [
  | inl inside ↦ get_or-replicate n at false false inside
  | inr past ↦ get_or_past (replicate n false) at false (omega (arith, past, length-replicate n false))
]

untrue : (xs : List Bool) (n at : ℕ) → xs ≡ replicate n false → IsWhole xs at → ⊥
untrue xs n at e t = let no : get_or xs at false ≡ false = ap (λ (l : List Bool). get_or l at false) e ∙ none_marked n at in cc

pub marking_none : (start : DeletedCells) (begin held : List Bool) → begin ≡ replicate (length start.used.now) false → held ≡ replicate (length start.used.now) false → Marking start start begin held
marking_none start begin held e f = record {
  told = [];
  used = refl;
  sized = ap length e ∙ length-replicate (length start.used.now) false;
  sized_held = ap length f ∙ length-replicate (length start.used.now) false;
  moves = λ places left. left;
  begins = λ at. (λ t. absurd (untrue begin (length start.used.now) at e t), λ i. absurd i);
  holds = λ at. (λ t. absurd (untrue held (length start.used.now) at f t), λ w. absurd w.2);
}

module _ (start now new : DeletedCells) (begin held held_new : List Bool) (cell : DeletedCell) (m : Marking start now begin held) (moves : CellsMove now new (Some cell))
    (marks : (at : ℕ) → IsWhole held_new at ↔ (IsWhole held at ⊎ ((cell.at ≤ at) × (at < cell.at + cell.size)))) where
  c : Parts
  c = moves.1

  place : moves.0 ≡ cell.at
  place = sym moves.3.at

  end : cell.at + cell.size ≡ moves.1.end
  end = moves.3.size

  has : HasParts TableLeaf start.used.now cell.at moves.1
  has = subst (λ (u : List ℕ). HasParts TableLeaf u cell.at moves.1) m.used (subst (λ (p : ℕ). HasParts TableLeaf now.used.now p moves.1) place (left_parts now moves.0 moves.1 moves.2))

  inside : cell.at < length begin
  inside =
      let within = cell_within now new cell moves in
      let sized : length begin ≡ length start.used.now = m.sized in
      let same : length now.used.now ≡ length start.used.now = ap length m.used in
      omega (arith, within, sized, same)

  only : (p : ℕ) → In p (cell.at ∷ []) → p ≡ cell.at
  only p (inl e) = e
  only p (inr none) = absurd none

  begins : (p : ℕ) → IsWhole (set begin cell.at true) p ↔ In p (m.told ++ cell.at ∷ [])
  begins p = (
    λ t. elim ((set_marks begin cell.at p inside).0 t) [ inl was ↦ in_left p m.told (cell.at ∷ []) ((m.begins p).0 was) | inr e ↦ in_right p m.told (cell.at ∷ []) (inl e) ],
    λ i. (set_marks begin cell.at p inside).1 (elim (in_cases p m.told (cell.at ∷ []) i) [ inl before ↦ inl ((m.begins p).1 before) | inr last ↦ inr (only p last) ]),
  )

  holds_forth : (at : ℕ) → IsWhole held_new at
      → (p : ℕ) × (d : Parts) × In p (m.told ++ cell.at ∷ []) × HasParts TableLeaf start.used.now p d × (p ≤ at) × (at < d.end)
  holds_forth at t = elim ((marks at).0 t) [
    | inl was ↦ (let w = (m.holds at).0 was in (w.0, w.1, in_left w.0 m.told (cell.at ∷ []) w.2, w.3, w.4, w.5))
    | inr x ↦ (cell.at, moves.1, in_right cell.at m.told (cell.at ∷ []) (inl refl), has, x.0, omega (arith, x, end))
  ]

  holds_back : (at : ℕ) → (p : ℕ) × (d : Parts) × In p (m.told ++ cell.at ∷ []) × HasParts TableLeaf start.used.now p d × (p ≤ at) × (at < d.end) → IsWhole held_new at
  holds_back at w = elim (in_cases w.0 m.told (cell.at ∷ []) w.2) [
    | inl before ↦ (marks at).1 (inl ((m.holds at).1 (w.0, w.1, before, w.3, w.4, w.5)))
    | inr last ↦ (let e = only w.0 last in
        let there : HasParts TableLeaf start.used.now cell.at w.1 = subst (λ (p : ℕ). HasParts TableLeaf start.used.now p w.1) e w.3 in
        let same : w.1.end ≡ moves.1.end = ap (λ (d : Parts). d.end) (parts_once TableLeaf start.used.now cell.at w.1 moves.1 there has) in
        (marks at).1 (inr (omega (arith, e, w.4), omega (arith, same, end, w.5))))
  ]

  pub marking_more : new.used.now ≡ now.used.now → length held_new ≡ length held → Marking start new (set begin cell.at true) held_new
  marking_more used sized = record {
    told = m.told ++ cell.at ∷ [];
    used = used ∙ m.used;
    sized = length-set begin cell.at true ∙ m.sized;
    sized_held = sized ∙ m.sized_held;
    moves = λ places left.
        subst (λ (l : List ℕ). AreLeft start l) (sym (append_assoc m.told (cell.at ∷ []) places)) (m.moves (cell.at ∷ places) (subst (λ (n : ℕ). AreLeft now (n ∷ places)) place (moves.4 places left)));
    begins = begins;
    holds = λ at. (holds_forth at, holds_back at);
  }

pub marking_all : (start now new : DeletedCells) (w : WholeCells) → Marking start now w.begin.items w.held.items → CellsMove now new None → AreWholeOf start w
marking_all start now new w m moves = record {
  begin = λ at. (λ t. (all.1 at).0 ((m.begins at).0 t), λ x. (m.begins at).1 ((all.1 at).1 x));
  held = λ at. (forth at, back at);
}
  where
    all : AreLeft start m.told
    all = subst (λ (l : List ℕ). AreLeft start l) (append-nil m.told) (m.moves [] moves)

    forth : (at : ℕ) → IsWhole w.held.items at → (place : ℕ) × (c : Parts) × IsLeft start place c × (place ≤ at) × (at < c.end)
    forth at t =
        let x = (m.holds at).0 t in
        let left = (all.1 x.0).0 x.2 in
        let same : left.0 ≡ x.1 = parts_once TableLeaf start.used.now x.0 left.0 x.1 (left_parts start x.0 left.0 left.1) x.3 in
        (x.0, x.1, subst (λ (c : Parts). IsLeft start x.0 c) same left.1, x.4, x.5)

    back : (at : ℕ) → (place : ℕ) × (c : Parts) × IsLeft start place c × (place ≤ at) × (at < c.end) → IsWhole w.held.items at
    back at x = (m.holds at).1 (x.0, x.1, (all.1 x.0).1 (x.1, x.2), left_parts start x.0 x.1 x.2, x.3, x.4)

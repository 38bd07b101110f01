-- The places of cells that lost their first four bytes, and those that are left.
use Rattle.std.proofs.Common.{◌≡◌, ◌∙◌, ◌⊎◌, ℕ, ◌+◌, ◌<◌, ◌≤◌, Bool, List, [], ◌∷◌, ◌++◌, length, min, inl, inr, refl, sym, ap, subst, arith, append-nil}
use Rattle.std.proofs.lemmas.Bool.{cases_eq}
use Rattle.sqpage.specs.declared.kind.Kind.{Kind}
use Rattle.sqpage.specs.Header.{half}
use Rattle.sqpage.specs.Page.{head_at, content_start_in, pointers_end_in}
use Rattle.sqpage.specs.Layout.{Span, IsFreeblock}
use Rattle.sqdeleted.specs.Cut.{WasFreed, EndedAt, EndsHere, IsRest, IsRather, IsCut, IsFirstCut, IsCutCell, AreCutBetween, AreAllLinked, AreCutIn, AreCutFrom, AreCutOff}
use Rattle.sqdeleted.specs.declared.cut.CutCell.{CutCell}
use Rattle.sqdeleted.specs.declared.rest.Rest.{Rest}
use Rattle.sqdeleted.specs.declared.whole.WholeCells.{WholeCells}
use Rattle.sqdeleted.proofs.RestsOfCells.{rest_behind}

-- such a cell takes a byte at least
pub cut_takes : (used : List ℕ) (w : WholeCells) (from to at : ℕ) (rest : Rest) → IsCut used w from to at rest → (at < rest.end) × (rest.end ≤ to)
cut_takes used w from to at rest s =
    let b = rest_behind used w.begin.items to at rest s.left in
    let before : rest.end ≤ to = s.left.before in
    (omega (arith, b), before)

freed_within : (used : List ℕ) (at last : ℕ) → WasFreed used at last → (at ≤ last) × (last ≤ length used)
freed_within used at last w =
    let within : at + w.size ≤ length used = w.is.within in
    let ends : last ≡ at + w.size = w.ends in
    (omega (arith, ends), omega (arith, within, ends))

-- and ends in the page
pub cut_within : (used : List ℕ) (whole : List Bool) (to at : ℕ) (rest : Rest) → IsRest used whole to at rest → rest.end ≤ length used
cut_within used whole to at rest r = ends r.ends
  where
    freed : (at ≤ r.last) × (r.last ≤ length used)
    freed = freed_within used at r.last r.freed

    ends : EndsHere used whole r.last rest.end → rest.end ≤ length used
    ends (inl (inl e)) = omega (arith, e, freed.1)
    ends (inl (inr w)) = omega (arith, w.0, freed.1)
    ends (inr w) = let f = freed_within used rest.end w.0 w.1 in omega (arith, f)

-- the same between other places
rest_between : (used : List ℕ) (whole : List Bool) (to end at : ℕ) (rest : Rest) → rest.end ≤ end → IsRest used whole to at rest → IsRest used whole end at rest
rest_between used whole to end at rest before r = record {
  last = r.last;
  freed = r.freed;
  serials = r.serials;
  some = r.some;
  leads = r.leads;
  short = r.short;
  fills = r.fills;
  types = r.types;
  before = before;
  ends = r.ends;
}

-- the same from another place on
pub cut_from : (used : List ℕ) (w : WholeCells) (from to other at : ℕ) (rest : Rest) → other ≤ at → IsCut used w from to at rest → IsCut used w other to at rest
cut_from used w from to other at rest after s = record { after = after; apart = s.apart; left = s.left; first = s.first }

-- the same to another end, as far as the page
pub cut_to : (used : List ℕ) (w : WholeCells) (from to end at : ℕ) (rest : Rest) → min to (length used) ≡ min end (length used) → IsCut used w from to at rest → IsCut used w from end at rest
cut_to used w from to end at rest same s = record {
  after = s.after;
  apart = s.apart;
  left = rest_between used w.begin.items to end at rest (reaches to end same rest s.left) s.left;
  first = λ other r. s.first other (rest_between used w.begin.items end to at other (reaches end to (sym same) other r) r);
}
  where
    reaches : (one two : ℕ) → min one (length used) ≡ min two (length used) → (r : Rest) → IsRest used w.begin.items one at r → r.end ≤ two
    reaches one two e r left =
        let within = cut_within used w.begin.items one at r left in
        let before : r.end ≤ one = left.before in
        omega (arith, within, before, e)

pub cut_moved : (used : List ℕ) (w : WholeCells) (from to at place : ℕ) (rest : Rest) → place ≡ at → IsCut used w from to place rest → IsCut used w at to at rest
cut_moved used w from to at place rest e s =
    let same : IsCut used w from to at rest = subst (λ (p : ℕ). IsCut used w from to p rest) e s in
    cut_from used w from to at at rest (omega arith) same

-- one place more
pub cut_passes : (used : List ℕ) (w : WholeCells) (from to at : ℕ) → ((p : ℕ) (r : Rest) → p < at → ¬ IsCut used w from to p r) → ((r : Rest) → ¬ IsCut used w at to at r)
    → (p : ℕ) (r : Rest) → p < at + 1 → ¬ IsCut used w from to p r
cut_passes used w from to at before here p r below s = elim (cases_eq p at) [
  | inl same ↦ here r (cut_moved used w from to at p r same s)
  | inr other ↦ before p r (omega arith) s
]

-- behind the last place
pub cut_exhausted : (used : List ℕ) (w : WholeCells) (from to at : ℕ) → ((p : ℕ) (r : Rest) → p < at → ¬ IsCut used w from to p r) → to ≤ at
    → (p : ℕ) (r : Rest) → ¬ IsCut used w from to p r
cut_exhausted used w from to at before end p r s =
    let takes = cut_takes used w from to p r s in
    before p r (omega (arith, takes, end)) s

-- the same cells, to another end, as far as the page
pub between_to : (used : List ℕ) (w : WholeCells) (number from to end : ℕ) (cells : List CutCell) → min to (length used) ≡ min end (length used) → AreCutBetween used w number from to cells
    → AreCutBetween used w number from end cells
between_to used w number from to end [] same none = λ at rest s. none at rest (cut_to used w from end to at rest (sym same) s)
between_to used w number from to end (cell ∷ cells) same (at, rest, first, is, more) = (
  at,
  rest,
  (cut_to used w from to end at rest same first.0, λ place other less s. first.1 place other less (cut_to used w from end to place other (sym same) s)),
  is,
  between_to used w number rest.end to end cells same more,
)

-- One was found, the first one of its gap.
pub more_cut : (used : List ℕ) (w : WholeCells) (number from to least next at : ℕ) (rest : Rest) (cell : CutCell) (cells : List CutCell) → IsFirstCut used w from to at rest
    → IsCutCell used number at rest cell → AreCutFrom used w number rest.end to least next cells → AreCutFrom used w number from to least next (cell ∷ cells)
more_cut used w number from to least next at rest cell cells first is (blocks, own, more, between, linked, behind, e) =
    (blocks, cell ∷ own, more, (at, rest, first, is, between), linked, behind, ap (λ (l : List CutCell). cell ∷ l) e)

-- Where the rest of a gap has none, what is left is in the next freeblock and behind it.
pub next_cuts : (used : List ℕ) (w : WholeCells) (number from to least next : ℕ) (block : Span) (cells : List CutCell) → ((at : ℕ) (rest : Rest) → ¬ IsCut used w from to at rest)
    → block.start ≡ next → IsFreeblock used least block
    → AreCutFrom used w number block.start (block.start + block.size) (block.start + block.size) (half used block.start) cells → AreCutFrom used w number from to least next cells
next_cuts used w number from to least next block cells none starts is (blocks, own, more, between, linked, behind, e) =
    (block ∷ blocks, [], cells, none, (starts, is, linked), (own, more, between, behind, e), refl)

-- and none is left where none follows
pub no_cuts : (used : List ℕ) (w : WholeCells) (number from to least next : ℕ) → ((at : ℕ) (rest : Rest) → ¬ IsCut used w from to at rest)
    → ((block : Span) → block.start ≡ next → ¬ IsFreeblock used least block) → AreCutFrom used w number from to least next []
no_cuts used w number from to least next none last = ([], [], [], none, last, refl, refl)

-- The gaps of a page are those that a cursor over it begins with.
pub cuts_off : (kind : Kind) (used : List ℕ) (w : WholeCells) (number at to least next : ℕ) → at ≡ pointers_end_in kind used number → to ≡ min (content_start_in used number) (length used)
    → least ≡ content_start_in used number → next ≡ half used (head_at number + 1) → (cells : List CutCell) → AreCutFrom used w number at to least next cells → AreCutOff kind used w number cells
cuts_off kind used w number at to least next a t l n cells (blocks, own, more, between, linked, behind, e) = (
  blocks,
  own,
  more,
  between_to used w number (pointers_end_in kind used number) to (content_start_in used number) own (omega (arith, t)) (subst (λ (f : ℕ). AreCutBetween used w number f to own) a between),
  subst (λ (m : ℕ). AreAllLinked used m (half used (head_at number + 1)) blocks) l (subst (λ (m : ℕ). AreAllLinked used least m blocks) n linked),
  behind,
  e,
)

-- a free page has one gap
pub free_cuts : (used : List ℕ) (w : WholeCells) (number : ℕ) → 0 < length used → (cells : List CutCell) → AreCutFrom used w number 0 (length used) (length used) 0 cells
    → AreCutBetween used w number 0 (length used) cells
free_cuts used w number some cells ([], own, more, between, linked, behind, e) =
    subst (λ (l : List CutCell). AreCutBetween used w number 0 (length used) l) (sym (e ∙ ap (λ (l : List CutCell). own ++ l) behind ∙ append-nil own)) between
free_cuts used w number some cells (block ∷ blocks, own, more, between, linked, behind, e) =
    let after : length used ≤ block.start = linked.1.after in
    let starts : block.start ≡ 0 = linked.0 in
    absurd (omega (arith, after, starts, some))

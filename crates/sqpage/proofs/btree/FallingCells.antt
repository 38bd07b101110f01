-- Cells of which each ends in front of the one before it.
use Rattle.std.proofs.Common.{◌≡◌, ℕ, ◌+◌, ◌-◌, ◌<◌, ◌≤◌, ◌⊎◌, List, [], ◌∷◌, ◌++◌, Option, Some, None, length, cond, refl, ap, ◌∙◌, inl, inr, arith, length-append}
use Rattle.std.proofs.lemmas.Bool.{cases_lt}
use Rattle.std.proofs.lemmas.List.Sums.{sum_by_push}
use Rattle.std.specs.Prelude.{IfSome}
use Rattle.sqpage.specs.Header.{half}
use Rattle.sqpage.specs.Layout.{Span, covers, times_covered, ShareNone, IsCellSpan, AreCellSpans, PointersEndBefore}
use Rattle.sqpage.specs.Page.{Page, head_at, cell_count}
use Rattle.sqpage.specs.internal.Marking.{LieApart, TakesBytes, bytes_before, taken_before}
use Rattle.sqpage.proofs.btree.BareBytes.{all_before}
use Rattle.sqpage.proofs.btree.LayoutOfPage.{cells_more, either, one_more_covered}
use Rattle.sqpage.proofs.btree.MarksOnBytes.{not_covering}

-- The first i cells, of which the last one begins at a place.
pub record Falling (p : Page) (before i taken : ℕ) : Type 0 where
  pub cells : List Span
  pub are : AreCellSpans p 0 cells
  pub count : length cells ≡ i
  pub behind : (place : ℕ) → place < before → times_covered cells place ≡ 0
  pub apart : ShareNone cells
  pub taken_are : taken ≡ taken_before (length p.used) cells
  pub few : taken + before ≤ length p.used

pub falling_begins : (p : Page) (before : ℕ) → before ≡ length p.used → Falling p before 0 0
falling_begins p before e = record { cells = []; are = tt; count = refl; behind = λ place lt. refl; apart = λ place. omega arith; taken_are = refl; few = omega (arith, e) }

pub falling_goes_on : (p : Page) (before i at end taken : ℕ) → Falling p before i taken → i < cell_count p → IsCellSpan p i (record { start = at; size = end - at }) → at ≤ end → end ≤ before
    → Falling p at (i + 1) (taken + (end - at))
falling_goes_on p before i at end taken f below is rise fall = record {
  cells = f.cells ++ s ∷ [];
  are = let e : 0 + length f.cells ≡ i = omega (arith, f.count) in cells_more p 0 f.cells s f.are (rw e below) (rw e is);
  count = length-append f.cells (s ∷ []) ∙ ap (λ n. n + 1) f.count;
  behind = λ place lt. omega (arith, one_more_covered f.cells s place, f.behind place (omega (arith, lt, rise, fall)), none place (inl lt));
  apart = λ place. once place (cases_lt place before);
  taken_are = omega (arith, f.taken_are, sum_by_push (bytes_before (length p.used)) f.cells s, all_before (length p.used) at (end - at) (omega (arith, rise, fall, f.few)));
  few = omega (arith, f.few, rise, fall);
}
  where
    s : Span
    s = record { start = at; size = end - at }

    none : (place : ℕ) → (place < at) ⊎ (at + (end - at) ≤ place) → ◌≡◌ {A = ℕ} (cond (covers s place) 1 0) 0
    none place out = ap (λ b. cond b 1 0) (not_covering at (end - at) place out)

    once : (place : ℕ) → (place < before) ⊎ (before ≤ place) → times_covered (f.cells ++ s ∷ []) place ≤ 1
    once place (inl lt) = elim (either (covers s place)) [
      | inl e ↦ let one : ◌≡◌ {A = ℕ} (cond (covers s place) 1 0) 1 = ap (λ b. cond b 1 0) e in omega (arith, one_more_covered f.cells s place, f.behind place lt, one)
      | inr e ↦ let zero : ◌≡◌ {A = ℕ} (cond (covers s place) 1 0) 0 = ap (λ b. cond b 1 0) e in omega (arith, one_more_covered f.cells s place, f.behind place lt, zero)
    ]
    once place (inr ge) = omega (arith, one_more_covered f.cells s place, f.apart place, none place (inr (omega (arith, ge, rise, fall))))

pub falling_ends : (p : Page) (before i taken : ℕ) → Falling p before i taken → i ≡ cell_count p → LieApart p taken
falling_ends p before i taken f e = record { cells = f.cells; are = f.are; all = f.count ∙ e; apart = f.apart; taken_are = f.taken_are }

-- Without freeblocks they are all that takes bytes.
pub cells_take : (p : Page) (first : ℕ) (r : Option ℕ) → first ≡ half p.used (head_at p.number + 1) → first ≡ 0 → PointersEndBefore p → IfSome r (LieApart p) → IfSome r (TakesBytes p)
cells_take p first None is none before l = tt
cells_take p first (Some taken) is none before l = record {
  blocks = [];
  cells = l.cells;
  freeblocks = omega (arith, is, none);
  cells_are = l.are;
  all = l.all;
  pointers = before;
  apart = l.apart;
  taken_are = l.taken_are;
}

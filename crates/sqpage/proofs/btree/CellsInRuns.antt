-- Cells that are marked in runs, of which each cell ends where the one before it begins.
use Rattle.std.proofs.Common.{◌≡◌, ℕ, ◌+◌, ◌-◌, ◌<◌, ◌≤◌, ◌⊎◌, List, [], ◌∷◌, ◌++◌, length, cond, refl, sym, ap, subst, ◌∙◌, inl, inr, arith, append_assoc, append-nil, length-append, true, false}
use Rattle.std.proofs.lemmas.Bool.{cases_lt}
use Rattle.std.proofs.lemmas.List.Sums.{sum_by-append, sum_by_push}
use Rattle.sqpage.specs.Layout.{Span, covers, times_covered, ShareNone, IsCellSpan, AreCellSpans}
use Rattle.sqpage.specs.Page.{Page, cell_count}
use Rattle.sqpage.specs.internal.Marking.{mark_at, AreMarks, MarksSpan, IsTouched, TouchesCells, bytes_before, taken_before}
use Rattle.sqpage.proofs.btree.LayoutOfPage.{Marking, cells_more, either, one_more_covered}
use Rattle.sqpage.proofs.btree.MarksOnBytes.{not_covering}

-- some bytes of a page, from one place up to another
abbrev pub from_to : (low high : ℕ) → Span
from_to low high = record { start = low; size = high - low }

-- how many times the bytes of a span have a place
abbrev pub in_span : Span → (place : ℕ) → ℕ
in_span s place = cond (covers s place) 1 0

-- The first i cells: those that are marked, and behind them a run that isn't yet, from one place up to another.
pub record Running (p : Page) (old map : List ℕ) (low high i taken : ℕ) : Type 0 where
  pub cells : List Span
  pub run : List Span
  pub are : AreCellSpans p 0 (cells ++ run)
  pub count : length (cells ++ run) ≡ i
  pub marked : (spans : List Span) → AreMarks old spans → AreMarks map (spans ++ cells)
  pub once : (place : ℕ) → times_covered run place ≡ in_span (from_to low high) place
  pub taken_are : taken ≡ taken_before (length p.used) (cells ++ run)

no_bytes : (at place : ℕ) → in_span (from_to at at) place ≡ 0
no_bytes at place = ap (λ b. cond b 1 0) (not_covering at (at - at) place (elim (cases_lt place at) [ inl lt ↦ inl lt | inr ge ↦ inr (omega (arith, ge)) ]))

-- bytes in front of others
joined : (at low high place : ℕ) → at ≤ low → low ≤ high → in_span (from_to low high) place + in_span (from_to at low) place ≡ in_span (from_to at high) place
joined at low high place a b = grind arith

pub running_begins : (p : Page) (map : List ℕ) (at : ℕ) → Running p map map at at 0 0
running_begins p map at = record {
  cells = [];
  run = [];
  are = tt;
  count = refl;
  marked = λ spans a. subst (AreMarks map) (sym (append-nil spans)) a;
  once = λ place. sym (no_bytes at place);
  taken_are = refl;
}

module _ (p : Page) (old map : List ℕ) (low high i taken : ℕ) (r : Running p old map low high i taken) where
  -- A cell more is in the run.
  pub running_on : (at more : ℕ) → at ≤ low → low ≤ high → i < cell_count p → IsCellSpan p i (from_to at low) → more ≡ bytes_before (length p.used) (from_to at low) → Running p old map at high (i + 1) (taken + more)
  running_on at more rise order below is counted =
      let s : Span = from_to at low in
      let e : 0 + length (r.cells ++ r.run) ≡ i = omega (arith, r.count) in
      let assoc = append_assoc r.cells r.run (s ∷ []) in
      record {
        cells = r.cells;
        run = r.run ++ s ∷ [];
        are = subst (AreCellSpans p 0) assoc (cells_more p 0 (r.cells ++ r.run) s r.are (rw e below) (rw e is));
        count = sym (ap length assoc) ∙ length-append (r.cells ++ r.run) (s ∷ []) ∙ ap (λ n. n + 1) r.count;
        marked = r.marked;
        once = λ place. omega (arith, one_more_covered r.run s place, r.once place, joined at low high place rise order);
        taken_are = ap (λ n. taken + n) counted ∙ ap (λ n. n + bytes_before (length p.used) s) r.taken_are ∙ sym (sum_by_push (bytes_before (length p.used)) (r.cells ++ r.run) s) ∙ ap (taken_before (length p.used)) assoc;
      }

  -- The run is marked.
  pub run_marked : (new : List ℕ) → MarksSpan map new (from_to low high) → Marking p old new i taken
  run_marked new m = record {
    cells = r.cells ++ r.run;
    are = r.are;
    count = r.count;
    marked = λ spans a. subst (AreMarks new) (append_assoc spans r.cells r.run) (λ k. all spans a k (either (covers (from_to low high) k)));
    taken_are = r.taken_are;
  }
    where
      all : (spans : List Span) → AreMarks old spans → (k : ℕ) → (covers (from_to low high) k ≡ true) ⊎ (covers (from_to low high) k ≡ false)
          → times_covered ((spans ++ r.cells) ++ r.run) k ≡ mark_at new k
      all spans a k (inl e) =
          let one : ◌≡◌ {A = ℕ} (in_span (from_to low high) k) 1 = ap (λ b. cond b 1 0) e in
          omega (arith, sum_by-append (λ (x : Span). cond (covers x k) 1 0) (spans ++ r.cells) r.run, r.marked spans a k, r.once k, one, m.free k e, m.marked k e)
      all spans a k (inr e) =
          let none : ◌≡◌ {A = ℕ} (in_span (from_to low high) k) 0 = ap (λ b. cond b 1 0) e in
          omega (arith, sum_by-append (λ (x : Span). cond (covers x k) 1 0) (spans ++ r.cells) r.run, r.marked spans a k, r.once k, none, m.kept k e)

  -- A byte of the run is marked already.
  pub run_touches : IsTouched map (from_to low high) → TouchesCells p old
  run_touches t = record {
    cells = r.cells ++ r.run;
    are = r.are;
    shared = λ spans a. subst (λ l. ¬ ShareNone l) (append_assoc spans r.cells r.run) (λ none.
        let one : ◌≡◌ {A = ℕ} (in_span (from_to low high) t.place) 1 = ap (λ b. cond b 1 0) t.in_it in
        absurd (omega (arith, sum_by-append (λ (x : Span). cond (covers x t.place) 1 0) (spans ++ r.cells) r.run, r.marked spans a t.place, r.once t.place, one, t.marked, none t.place)));
  }

-- A run begins with a cell.
pub run_begins : (p : Page) (old map : List ℕ) (i taken at end more : ℕ) → Marking p old map i taken → at ≤ end → i < cell_count p → IsCellSpan p i (from_to at end) → more ≡ bytes_before (length p.used) (from_to at end)
    → Running p old map at end (i + 1) (taken + more)
run_begins p old map i taken at end more m rise below is counted =
    let s : Span = from_to at end in
    let e : 0 + length m.cells ≡ i = omega (arith, m.count) in
    record {
      cells = m.cells;
      run = s ∷ [];
      are = cells_more p 0 m.cells s m.are (rw e below) (rw e is);
      count = length-append m.cells (s ∷ []) ∙ ap (λ n. n + 1) m.count;
      marked = m.marked;
      once = λ place. let e : times_covered ([] ++ s ∷ []) place ≡ times_covered [] place + in_span s place = one_more_covered [] s place in omega (arith, e);
      taken_are = omega (arith, counted, m.taken_are, sum_by_push (bytes_before (length p.used)) m.cells s);
    }

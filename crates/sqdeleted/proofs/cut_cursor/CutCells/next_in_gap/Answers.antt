use Rattle.std.proofs.Common.{◌≡◌, ◌∙◌, ℕ, ◌+◌, ◌≤◌, arith, refl, sym, subst, List}
use Rattle.sqdeleted.specs.Cut.{IsCut, IsFirstCut, IsCutCell}
use Rattle.sqdeleted.specs.declared.cut.CutCell.{CutCell}
use Rattle.sqdeleted.specs.declared.cut_cursor.CutCells.{CutCells}
use Rattle.sqdeleted.specs.declared.rest.Rest.{Rest}
use Rattle.sqdeleted.specs.declared.whole.WholeCells.{WholeCells}
use Rattle.sqdeleted.specs.internal.Rests.{StaysCut}
use Rattle.sqdeleted.proofs.CutPlaces.{cut_from, cut_takes, cut_passes, cut_exhausted}
use Rattle.sqdeleted.proofs.cut_cursor.CutCells.next_in_gap.Goals as goal

-- the same bytes, marks and end
same : (P : List ℕ → WholeCells → ℕ → Type 0) (old now : CutCells) → StaysCut old now → P now.used.now now.whole.now now.to → P old.used.now old.whole.now old.to
same P old now s x =
    subst (λ (t : ℕ). P old.used.now old.whole.now t) s.to (subst (λ (w : WholeCells). P old.used.now w now.to) s.whole (subst (λ (u : List ℕ). P u now.whole.now now.to) s.used x))

back : (P : List ℕ → WholeCells → ℕ → Type 0) (old now : CutCells) → StaysCut old now → P old.used.now old.whole.now old.to → P now.used.now now.whole.now now.to
back P old now s x =
    subst (λ (t : ℕ). P now.used.now now.whole.now t) (sym s.to)
    (subst (λ (w : WholeCells). P now.used.now w old.to) (sym s.whole) (subst (λ (u : List ℕ). P u old.whole.now old.to) (sym s.used) x))

-- what is cut here, of the gap that the search began with
here : (old now : CutCells) (at : ℕ) (r : Rest) → StaysCut old now → old.at ≤ at → IsCut now.used.now now.whole.now at now.to at r → IsCut old.used.now old.whole.now old.at old.to at r
here old now at r stays after s = cut_from old.used.now old.whole.now at old.to old.at at r after (same (λ u w t. IsCut u w at t at r) old now stays s)

told : (old now : CutCells) (at : ℕ) (r : Rest) (cell : CutCell) → StaysCut old now → IsCutCell now.used.now now.number at r cell → IsCutCell old.used.now old.number at r cell
told old now at r cell stays is =
    subst (λ (n : ℕ). IsCutCell old.used.now n at r cell) stays.number (subst (λ (u : List ℕ). IsCutCell u now.number at r cell) stays.used is)

none_here : (old now : CutCells) (at : ℕ) → StaysCut old now → ((r : Rest) → ¬ IsCut now.used.now now.whole.now at now.to at r) → (r : Rest) → ¬ IsCut old.used.now old.whole.now at old.to at r
none_here old now at stays none r s = none r (back (λ u w t. IsCut u w at t at r) old now stays s)

pub overflow_add-self : goal.overflow_add-self
overflow_add-self c =
    let now : CutCells = c.places.self in
    let e = c.in-Some.ensures in
    let size : c.in-Some.cell.at + c.in-Some.cell.size ≡ e.0.end = e.2.size in
    let at : c.in-Some.cell.at ≡ now.at = e.2.at in
    let takes = cut_takes now.used.now now.whole.now now.at now.to now.at e.0 e.1 in
    omega (arith, size, at, takes, now.within, now.most)

pub returns-in-Some : goal.returns-in-Some
returns-in-Some c =
    let i = c.places.invariant in
    let old : CutCells = c.args.self.now in
    let now : CutCells = c.places.self in
    let e = c.in-Some.ensures in
    let size : c.in-Some.cell.at + c.in-Some.cell.size ≡ e.0.end = e.2.size in
    let at : c.in-Some.cell.at ≡ now.at = e.2.at in (
      record { used = i.stays.used; whole = i.stays.whole; number = i.stays.number; to = i.stays.to; next = i.stays.next; least = i.stays.least },
      (now.at, e.0, omega (arith, size, at), (here old now now.at e.0 i.stays i.behind e.1, i.passed), told old now now.at e.0 c.in-Some.cell i.stays e.2),
    )

pub places-preserved : goal.places-preserved
places-preserved c =
    let i = c.places.invariant in
    let old : CutCells = c.args.self.now in
    let now : CutCells = c.places.self in
    record {
      stays = record { used = i.stays.used; whole = i.stays.whole; number = i.stays.number; to = i.stays.to; next = i.stays.next; least = i.stays.least };
      behind = (let behind : old.at ≤ now.at = i.behind in omega (arith, behind));
      passed = cut_passes old.used.now old.whole.now old.at old.to now.at i.passed (none_here old now now.at i.stays c.in-None.ensures);
    }

pub returns : goal.returns
returns c =
    let i = c.places.invariant in
    let old : CutCells = c.args.self.now in
    let now : CutCells = c.places.self in
    let end : now.to ≤ now.at = c.places-test.false in
    (i.stays, cut_exhausted old.used.now old.whole.now old.at old.to now.at i.passed (subst (λ (t : ℕ). t ≤ now.at) i.stays.to end))

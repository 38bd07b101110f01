use Rattle.std.proofs.Common.{ℕ, ◌≤◌, arith, refl, sym, subst, List}
use Rattle.sqpage.specs.declared.cell.Parts.{Parts}
use Rattle.sqdeleted.specs.declared.cell.DeletedCell.{DeletedCell}
use Rattle.sqdeleted.specs.declared.cursor.DeletedCells.{DeletedCells}
use Rattle.sqdeleted.specs.Deleted.{StandsBetween, IsCellOf}
use Rattle.sqdeleted.specs.internal.Steps.{Stays}
use Rattle.sqdeleted.proofs.CellsOfGaps.{between, passes, exhausted}
use Rattle.sqdeleted.proofs.cursor.DeletedCells.next_in_gap.Goals as goal

-- what stands here, of the gap that the search began with
here : (old now : DeletedCells) (at : ℕ) (c : Parts) → Stays old now → old.at ≤ at → StandsBetween now.used.now at now.to at c → StandsBetween old.used.now old.at old.to at c
here old now at c stays after s =
    let one : StandsBetween old.used.now at now.to at c = subst (λ (u : List ℕ). StandsBetween u at now.to at c) stays.used s in
    let two : StandsBetween old.used.now at old.to at c = subst (λ (t : ℕ). StandsBetween old.used.now at t at c) stays.to one in
    between old.used.now at old.to old.at old.to at c after two.before two

told : (old now : DeletedCells) (at : ℕ) (c : Parts) (cell : DeletedCell) → Stays old now → IsCellOf now.used.now now.number at c cell → IsCellOf old.used.now old.number at c cell
told old now at c cell stays is =
    subst (λ (n : ℕ). IsCellOf old.used.now n at c cell) stays.number (subst (λ (u : List ℕ). IsCellOf u now.number at c cell) stays.used is)

none_here : (old now : DeletedCells) (at : ℕ) → Stays old now → ((c : Parts) → ¬ StandsBetween now.used.now at now.to at c) → (c : Parts) → ¬ StandsBetween old.used.now at old.to at c
none_here old now at stays none c s =
    none c (subst (λ (t : ℕ). StandsBetween now.used.now at t at c) (sym stays.to) (subst (λ (u : List ℕ). StandsBetween u at old.to at c) (sym stays.used) s))

pub returns-in-Some : goal.returns-in-Some
returns-in-Some c =
    let i = c.places.invariant in
    let old : DeletedCells = c.args.self.now in
    let now : DeletedCells = c.places.self in
    let e = c.in-Some.ensures in (
      record { used = i.stays.used; number = i.stays.number; to = i.stays.to; next = i.stays.next; least = i.stays.least },
      (c.places.self.at, e.0, refl, here old now c.places.self.at e.0 i.stays i.behind e.1, told old now c.places.self.at e.0 c.in-Some.cell i.stays e.2, i.passed),
    )

pub places-preserved : goal.places-preserved
places-preserved c =
    let i = c.places.invariant in
    let old : DeletedCells = c.args.self.now in
    let now : DeletedCells = c.places.self in
    record {
      stays = record { used = i.stays.used; number = i.stays.number; to = i.stays.to; next = i.stays.next; least = i.stays.least };
      behind = (let behind : old.at ≤ now.at = i.behind in omega (arith, behind));
      passed = passes old.used.now old.at old.to now.at i.passed (none_here old now now.at i.stays c.in-None.ensures);
    }

pub returns : goal.returns
returns c =
    let i = c.places.invariant in
    let old : DeletedCells = c.args.self.now in
    let now : DeletedCells = c.places.self in
    let end : now.to ≤ now.at = c.places-test.false in
    (i.stays, exhausted old.used.now old.at old.to now.at i.passed (subst (λ (t : ℕ). t ≤ now.at) i.stays.to end))

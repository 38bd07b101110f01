use Rattle.std.proofs.Common.{◌∙◌, refl}
use Rattle.sqdeleted.proofs.StepsOfWalk.{found_first, found_end, found_next}
use Rattle.sqdeleted.proofs.cursor.DeletedCells.next_cell.Goals as goal

pub returns-in-Some-clause-moves : goal.returns-in-Some-clause-moves
returns-in-Some-clause-moves c =
    let i = c.gaps.invariant in
    found_first c.args.self.now c.gaps.self i.left c.next_in_gap.new.self c.in-Some.cell i.used i.number c.in-Some.ensures

pub returns-then-not-open_freeblock-clause-moves : goal.returns-then-not-open_freeblock-clause-moves
returns-then-not-open_freeblock-clause-moves c =
    found_end c.args.self.now c.gaps.self c.gaps.invariant.left c.next_in_gap.new.self c.in_default.ensures (c.if-not-open_freeblock.ensures.not refl).0

pub gaps-preserved : goal.gaps-preserved
gaps-preserved c =
    let i = c.gaps.invariant in
    let f = c.in_default.ensures in
    let o = c.if-not-open_freeblock.ensures.yes refl in
    record {
      used = o.used ∙ f.0.used ∙ i.used;
      number = o.number ∙ f.0.number ∙ i.number;
      left = found_next c.args.self.now c.gaps.self i.left c.next_in_gap.new.self c.open_freeblock.new.self f o;
    }

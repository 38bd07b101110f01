use Rattle.std.proofs.Common.{◌∙◌, refl}
use Rattle.sqdeleted.proofs.CutSteps.{found_cut, found_filled, found_no_more, found_next_cuts}
use Rattle.sqdeleted.proofs.cut_cursor.CutCells.next_cell.Goals as goal

pub returns-in-Some-clause-moves : goal.returns-in-Some-clause-moves
returns-in-Some-clause-moves c = found_cut c.args.self.now c.gaps.self c.gaps.invariant.left c.next_in_gap.new.self c.in-Some.cell c.in-Some.ensures

pub returns-in-Some-clause-filled : goal.returns-in-Some-clause-filled
returns-in-Some-clause-filled c = found_filled c.gaps.self c.next_in_gap.new.self c.in-Some.cell c.in-Some.ensures

pub returns-then-not-open_freeblock-clause-moves : goal.returns-then-not-open_freeblock-clause-moves
returns-then-not-open_freeblock-clause-moves c =
    found_no_more c.args.self.now c.gaps.self c.gaps.invariant.left c.next_in_gap.new.self c.in_default.ensures (c.if-not-open_freeblock.ensures.not refl).0

pub gaps-preserved : goal.gaps-preserved
gaps-preserved c =
    let i = c.gaps.invariant in
    let f = c.in_default.ensures in
    let o = c.if-not-open_freeblock.ensures.yes refl in
    record {
      used = o.used ∙ f.0.used ∙ i.used;
      whole = o.whole ∙ f.0.whole ∙ i.whole;
      number = o.number ∙ f.0.number ∙ i.number;
      left = found_next_cuts c.args.self.now c.gaps.self i.left c.next_in_gap.new.self c.open_freeblock.new.self f o;
    }

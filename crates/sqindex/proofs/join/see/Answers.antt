use Rattle.std.proofs.Common.{◌∙◌, sym}
use Rattle.sqindex.specs.internal.Reading.{stored_of}
use Rattle.sqindex.proofs.RowsJoined.{joined_next, joined_fault, joined_still, joined_sound}
use Rattle.sqindex.proofs.join.see.Goals as goal

pub returns-then-is_some : goal.returns-then-is_some
returns-then-is_some c = λ rows w rise j.
    joined_still c.args.key.now c.args.entries.now w rows (stored_of c.args.found c.args.row.now) c.args.join.at c.args.join.fault (sym c.is_some.ensures ∙ c.if-is_some.true) rise j

pub returns-in-Some : goal.returns-in-Some
returns-in-Some c = λ rows w rise j.
    joined_fault c.args.key.now c.args.entries.now w rows c.args.join.at (stored_of c.args.found c.args.row.now) c.in-Some.fault.fault c.in-Some.fault.page c.in-Some.fault.cell
    (joined_sound c.args.key.now c.args.entries.now w rows c.args.join.at c.args.join.fault (sym c.is_some.ensures ∙ c.if-is_some.false) j) rise c.in-Some.ensures

pub returns-in-None : goal.returns-in-None
returns-in-None c = λ rows w rise j.
    let next = c.in-None.ensures in
    joined_next c.args.key.now c.args.entries.now w rows c.args.join.at (stored_of c.args.found c.args.row.now) next.0
    (joined_sound c.args.key.now c.args.entries.now w rows c.args.join.at c.args.join.fault (sym c.is_some.ensures ∙ c.if-is_some.false) j) next.1 next.2

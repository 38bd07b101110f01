use Rattle.std.proofs.Common.{◌∙◌, sym}
use Rattle.sqindex.specs.internal.Reading.{stored_of}
use Rattle.sqindex.proofs.RowsScanned.{scanned_still, scanned_kept, scanned_fault, scanned_next}
use Rattle.sqindex.proofs.table.see.Goals as goal

pub returns-then-is_some : goal.returns-then-is_some
returns-then-is_some c = λ rows w. scanned_still c.args.rules.now rows (stored_of c.args.found c.args.row.now) c.args.scan.fault c.args.scan.clear (sym c.is_some.ensures ∙ c.if-is_some.true) w

pub returns-in-Some : goal.returns-in-Some
returns-in-Some c = λ rows w. scanned_fault c.args.rules.now rows (stored_of c.args.found c.args.row.now) c.in-Some.fault c.args.scan.clear c.in-Some.ensures

pub returns-in-None : goal.returns-in-None
returns-in-None c = λ rows w.
    scanned_next c.args.rules.now rows (stored_of c.args.found c.args.row.now) c.clear_in.result c.args.scan.clear
    (scanned_kept c.args.rules.now rows c.args.scan.fault c.args.scan.clear (sym c.is_some.ensures ∙ c.if-is_some.false) w) c.in-None.ensures c.clear_in.ensures

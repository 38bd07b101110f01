use Rattle.std.proofs.Common.{length}
use Rattle.cli_row_text.specs.Lines.{doubled}
use Rattle.cli_row_text.proofs.RunsWritten.{IsWrittenTo}
use Rattle.cli_row_text.proofs.value.write_all_doubled.Given as goal

abbrev pub invariant-marks : goal.invariant-marks
invariant-marks g l = IsWrittenTo (doubled l.mark) l.bytes l.rest (g.W.Write.contents l.fn.out) (g.W.Write.contents l.out)

abbrev pub decreases-marks : goal.decreases-marks
decreases-marks g l = length l.rest

use Rattle.std.proofs.Common.{length}
use Rattle.cli_row_text.specs.Lines.{escaped}
use Rattle.cli_row_text.proofs.RunsWritten.{IsWrittenTo}
use Rattle.cli_row_text.proofs.value.write_all_escaped.Given as goal

abbrev pub invariant-escapes : goal.invariant-escapes
invariant-escapes g l = IsWrittenTo escaped l.bytes l.rest (g.W.Write.contents l.fn.out) (g.W.Write.contents l.out)

abbrev pub decreases-escapes : goal.decreases-escapes
decreases-escapes g l = length l.rest

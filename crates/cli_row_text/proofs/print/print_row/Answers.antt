use Rattle.cli_row_text.proofs.RowsWritten.{kept_same}
use Rattle.cli_row_text.proofs.print.print_row.Goals as goal

pub returns-in-Err-clause-kept : goal.returns-in-Err-clause-kept
returns-in-Err-clause-kept g c = kept_same c.in-Err.error (g.W.Write.contents c.args.out.now)

use Rattle.std.specs.List.Sorted.{IsNonDecreasingBy}
use Rattle.sqpage.specs.declared.fault.CheckError.{CheckError}
use Rattle.cli_show_salvage.specs.Faults.{AreFirstsWritten}
use Rattle.cli_show_salvage.proofs.faults.print_faults.Given as goal

abbrev pub invariant-pages : goal.invariant-pages
invariant-pages g l = IsNonDecreasingBy (λ (e : CheckError). e.page) l.faults → AreFirstsWritten l.i l.faults (g.W.Write.contents l.fn.out) (g.W.Write.contents l.out)

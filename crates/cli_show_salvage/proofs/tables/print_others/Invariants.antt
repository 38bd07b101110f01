use Rattle.std.proofs.Common.{take}
use Rattle.cli_show_salvage.specs.Scripts.{AreOthersWritten}
use Rattle.cli_show_salvage.proofs.tables.print_others.Given as goal

abbrev pub invariant-loop-object : goal.invariant-loop-object
invariant-loop-object g l = AreOthersWritten l.only_virtual l.encoding (g.W.Write.contents l.fn.out) (take l.object-index l.objects) (g.W.Write.contents l.out)

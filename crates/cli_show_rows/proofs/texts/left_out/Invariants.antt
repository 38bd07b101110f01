use Rattle.std.proofs.Common.{◌≤◌, take}
use Rattle.cli_show_rows.specs.Dumps.{HasLeftOut}
use Rattle.cli_show_rows.proofs.texts.left_out.Given as goal

abbrev pub invariant-loop-object : goal.invariant-loop-object
invariant-loop-object l = record { few : l.count ≤ l.object-index; counted : HasLeftOut (take l.object-index l.objects) l.count }

use Rattle.std.proofs.Common.{take}
use Rattle.cli_show_rows.specs.Schemas.{AreObjectsRead}
use Rattle.cli_show_rows.proofs.schema.read_objects.Given as goal

abbrev pub invariant-loop-object : goal.invariant-loop-object
invariant-loop-object l = AreObjectsRead l.encoding (take l.object-index l.stored) l.objects.items

use Rattle.std.specs.Prelude.{map}
use Rattle.sqschema.specs.Items.{seen}
use Rattle.sqdeepjudge.specs.NotJudged.{AreOfFirst}
use Rattle.sqdeepjudge.proofs.not_judged.not_judged.Given as goal

abbrev pub invariant-objects : goal.invariant-objects
invariant-objects l = AreOfFirst (map seen l.schema.items.items) l.schema.asides.items l.indexes l.tables l.row l.all.items

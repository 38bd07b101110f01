use Rattle.std.specs.Prelude.{map}
use Rattle.sqschema.specs.Items.{seen}
use Rattle.sqschema.specs.internal.Judging.{AllBelow, IsSoundAlone}
use Rattle.sqschema.proofs.alone.judge_each.Given as goal

abbrev pub invariant-items : goal.invariant-items
invariant-items l = AllBelow (λ i x. IsSoundAlone x) (map seen l.items) l.i

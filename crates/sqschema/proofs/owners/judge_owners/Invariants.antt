use Rattle.std.proofs.Common.{◌≡◌, true}
use Rattle.std.specs.Prelude.{map}
use Rattle.sqschema.specs.Items.{seen}
use Rattle.sqschema.specs.Rules.{is_owned}
use Rattle.sqschema.specs.internal.Judging.{AllBelow}
use Rattle.sqschema.proofs.owners.judge_owners.Given as goal

abbrev pub invariant-items : goal.invariant-items
invariant-items l = AllBelow (λ i x. is_owned (map seen l.items) x ≡ true) (map seen l.items) l.i

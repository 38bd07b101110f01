use Rattle.std.proofs.Common.{rules, ◌≡◌, ℕ, List, Some, MatchOption, sym, subst}
use Rattle.std.specs.Prelude.{Option}
use Rattle.sqschema.specs.Items.{seen}
use Rattle.sqcontents.specs.Contents.{HasRules, HasNoRules}
use Rattle.sqcontents.proofs.table_rules.rules_for.Goals as goal

pub returns-in-Ok-clause-ok : goal.returns-in-Ok-clause-ok
returns-in-Ok-clause-ok c =
    let t : (seen c.args.table.now).sql ≡ Some c.deref.result.now = search rules in
    subst (λ (a : Option (List ℕ)). MatchOption c.in-Ok.found (HasNoRules c.args.format a) (HasRules c.args.format a)) (sym t) c.in-Ok.ensures

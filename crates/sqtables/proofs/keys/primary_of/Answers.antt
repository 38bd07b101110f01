use Rattle.std.proofs.Common.{◌≡◌, ◌<◌, length, refl, ap, Bor, arith, List}
use Rattle.std.specs.Prelude.{Option, Some, None, option_map}
use Rattle.std.specs.Option.{option_or}
use Rattle.sqlite_ast.specs.declared.Keyed.{Keyed}
use Rattle.sqtables.specs.Keys.{primary_in}
use Rattle.sqdefaults.proofs.LastSaid.{next_said}
use Rattle.sqtables.proofs.keys.primary_of.Goals as goal

or_mapped : {A B : Type 0} (f : A → B) (a b : Option A) → option_map f (option_or a b) ≡ option_or (option_map f a) (option_map f b)
or_mapped f None b = refl
or_mapped f (Some x) b = refl

pub loop-rule-preserved : goal.loop-rule-preserved
loop-rule-preserved c =
    let rules = c.args.rules.now in
    let below : c.loop-rule.rule-index < length rules = omega arith in
    let next = next_said primary_in rules c.loop-rule.rule-index c.rule-item.result below c.rule-item.is in
    let or = ap (option_map (λ (n : Bor (List Keyed)). n.now)) c.or-found.ensures in
    let mapped = or_mapped (λ (n : Bor (List Keyed)). n.now) c.primary_in.result c.loop-rule.found in
    cc

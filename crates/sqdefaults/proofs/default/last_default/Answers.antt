use Rattle.std.proofs.Common.{◌≡◌, ◌<◌, length, refl, ap, Bor, arith}
use Rattle.std.specs.Prelude.{Option, Some, None, option_copied}
use Rattle.std.specs.Option.{option_or}
use Rattle.sqdefaults.specs.Defaults.{default_in}
use Rattle.sqdefaults.proofs.LastSaid.{next_said}
use Rattle.sqdefaults.proofs.default.last_default.Goals as goal

or_copied : {A : Type 0} (a b : Option (Bor A)) → option_copied (option_or a b) ≡ option_or (option_copied a) (option_copied b)
or_copied None b = refl
or_copied (Some x) b = refl

pub loop-rule-preserved : goal.loop-rule-preserved
loop-rule-preserved c =
    let rules = c.args.rules.now in
    let below : c.loop-rule.rule-index < length rules = omega arith in
    let next = next_said (default_in c.args.name.now) rules c.loop-rule.rule-index c.rule-item.result below c.rule-item.is in
    let or = ap option_copied c.or-found.ensures in
    let copied = or_copied c.default_in.result c.loop-rule.found in
    cc

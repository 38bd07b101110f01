use Rattle.std.proofs.Common.{◌≡◌, List, [], ◌∷◌, ◌++◌, length, slice_get, Some, ap, subst, arith, length-append}
use Rattle.sqkeys.specs.declared.row_rules.ColumnRule.{ColumnRule}
use Rattle.sqkeys.specs.RowRules.{IsRuleOf}
use Rattle.sqkeys.proofs.RulesPushed.{rules_push}
use Rattle.sqkeys.proofs.row_rules.rules_in.Goals as goal

pub loop-j-preserved : goal.loop-j-preserved
loop-j-preserved c =
    let made = c.args.made.now in
    let rules = c.loop-j.rules.items in
    let rule = c.in-Some.rule in
    let many = c.loop-j.invariant.many in
    let is : IsRuleOf made c.loop-j.j rule = rw c.in-Some.is at c.in_ok-rule.ensures in
    let pushed : c.push.new.self.items ≡ rules ++ rule ∷ [] = c.in_ok-push-in-Some.ensures.items in
    record {
      many = (let e = ap length pushed in omega (arith, e, many, length-append rules (rule ∷ [])));
      each = λ k r at. rules_push made rules c.loop-j.j rule many c.loop-j.invariant.each is k r (subst (λ (xs : List ColumnRule). slice_get xs k ≡ Some r) pushed at);
    }

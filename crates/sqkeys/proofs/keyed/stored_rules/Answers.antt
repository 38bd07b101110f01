use Rattle.std.proofs.Common.{◌≡◌, ◌∙◌, ◌<◌, ◌+◌, ℕ, List, [], ◌∷◌, ◌++◌, length, take, sym, ap, subst, arith}
use Rattle.std.specs.List.{AllZip}
use Rattle.std.proofs.lemmas.List.{take_more}
use Rattle.sqkeys.specs.declared.row_rules.ColumnRule.{ColumnRule}
use Rattle.sqkeys.specs.Keyed.{IsStoredRule}
use Rattle.sqkeys.proofs.Pairs.{pairs_push}
use Rattle.sqkeys.proofs.keyed.stored_rules.Goals as goal

pub loop-name-preserved : goal.loop-name-preserved
loop-name-preserved c =
    let names = c.args.names.now in
    let i = c.loop-name.name-index in
    let below : i < length names = omega arith in
    let R = IsStoredRule c.args.made.now c.args.key.now in
    let e : take (i + 1) names ≡ take i names ++ c.name-item.result ∷ [] = take_more names i c.name-item.result below ∙ ap (λ (k : List ℕ). take i names ++ k ∷ []) (sym c.name-item.is) in
    let one = rw c.in-Some.is at c.in_ok-rule.ensures in
    let after = pairs_push R (take i names) c.loop-name.rules.items c.name-item.result c.in-Some.rule c.loop-name.invariant one in
    subst (λ (xs : List (List ℕ)). AllZip R xs c.push.new.self.items) (sym e)
    (subst (λ (ys : List ColumnRule). AllZip R (take i names ++ c.name-item.result ∷ []) ys) (sym c.in_ok-push-in-Some.ensures.items) after)

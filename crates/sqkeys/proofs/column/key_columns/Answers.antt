use Rattle.std.proofs.Common.{◌≡◌, ◌∙◌, ◌<◌, ◌+◌, List, [], ◌∷◌, ◌++◌, length, take, sym, ap, subst, arith}
use Rattle.std.specs.List.{AllZip}
use Rattle.std.proofs.lemmas.List.{take_more}
use Rattle.sqlite_ast.specs.declared.Keyed.{Keyed}
use Rattle.sqkeys.specs.declared.key.KeyColumn.{KeyColumn}
use Rattle.sqkeys.specs.Columns.{IsKeyColumn}
use Rattle.sqkeys.proofs.Pairs.{pairs_push}
use Rattle.sqkeys.proofs.column.key_columns.Goals as goal

pub loop-keyed-preserved : goal.loop-keyed-preserved
loop-keyed-preserved c =
    let named = c.args.named.now in
    let i = c.loop-keyed.keyed-index in
    let below : i < length named = omega arith in
    let R = IsKeyColumn c.args.body.now in
    let e : take (i + 1) named ≡ take i named ++ c.keyed-item.result ∷ [] = take_more named i c.keyed-item.result below ∙ ap (λ (k : Keyed). take i named ++ k ∷ []) (sym c.keyed-item.is) in
    let one = rw c.in-Some.is at c.in_ok-column.ensures in
    let after = pairs_push R (take i named) c.loop-keyed.columns.items c.keyed-item.result c.in-Some.column c.loop-keyed.invariant one in
    subst (λ (xs : List Keyed). AllZip R xs c.push.new.self.items) (sym e)
    (subst (λ (ys : List KeyColumn). AllZip R (take i named ++ c.keyed-item.result ∷ []) ys) (sym c.in_ok-push-in-Some.ensures.items) after)

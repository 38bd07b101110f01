use Rattle.std.proofs.Common.{◌≡◌, ◌∙◌, ◌<◌, ◌+◌, List, [], ◌∷◌, ◌++◌, length, take, sym, ap, subst, arith}
use Rattle.std.specs.List.{AllZip}
use Rattle.std.proofs.lemmas.List.{take_more}
use Rattle.sqlite_ast.specs.declared.Keyed.{Keyed}
use Rattle.sqkeys.specs.declared.key.KeyColumn.{KeyColumn}
use Rattle.sqkeys.specs.Entries.{IsStoredAs}
use Rattle.sqkeys.proofs.Pairs.{pairs_push}
use Rattle.sqkeys.proofs.entry_key.all_stored_as.Goals as goal

pub loop-keyed-preserved : goal.loop-keyed-preserved
loop-keyed-preserved c =
    let columns = c.args.columns.now in
    let i = c.loop-keyed.keyed-index in
    let below : i < length columns = omega arith in
    let e : take (i + 1) columns ≡ take i columns ++ c.keyed-item.result ∷ [] = take_more columns i c.keyed-item.result below ∙ ap (λ (k : Keyed). take i columns ++ k ∷ []) (sym c.keyed-item.is) in
    let one = rw c.in-Some.is at c.in_ok-column.ensures in
    let after = pairs_push (λ keyed column. IsStoredAs c.args.body.now c.args.key.now keyed.name column) (take i columns) c.loop-keyed.all.items c.keyed-item.result c.in-Some.column c.loop-keyed.invariant one in
    subst (λ (xs : List Keyed). AllZip (λ keyed column. IsStoredAs c.args.body.now c.args.key.now keyed.name column) xs c.push.new.self.items) (sym e)
    (subst (λ (ys : List KeyColumn). AllZip (λ keyed column. IsStoredAs c.args.body.now c.args.key.now keyed.name column) (take i columns ++ c.keyed-item.result ∷ []) ys) (sym c.in_ok-push-in-Some.ensures.items) after)

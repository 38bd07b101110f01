use Rattle.std.proofs.Common.{List, subst}
use Rattle.sqlite_ast.specs.declared.Keyed.{Keyed}
use Rattle.sqkeys.specs.Keys.{IsKeyOver}
use Rattle.sqkeys.proofs.entry_key.partial_over.Goals as goal

pub returns-in_ok-entry-in-Some-clause-key : goal.returns-in_ok-entry-in-Some-clause-key
returns-in_ok-entry-in-Some-clause-key c =
    let over = rw c.in-Some.is at c.in_ok-index.ensures.key in
    (c.in-Some.index, subst (λ (n : List Keyed). IsKeyOver c.args.body.now c.args.format n c.in-Some.index) c.as_slice-named.ensures over, c.in_ok-entry-in-Some.ensures.0)

use Rattle.std.proofs.Common.{List, ℕ, Some, inr, subst}
use Rattle.std.specs.Prelude.{IfErr}
use Rattle.cli_show_rows.specs.Stops.{IsNamedStopped}
use Rattle.cli_show_rows.proofs.TablesStopped.{on_err}
use Rattle.cli_dump.specs.Rows.{AreStopped}
use Rattle.cli_dump.proofs.rows.print_table.Goals as goal

pub returns-clause-err : goal.returns-clause-err
returns-clause-err g c = λ right.
    let d = g.S.PageSource.pages c.args.source.now in
    let old = g.W.Write.contents c.args.out.now in
    let new = g.W.Write.contents c.print_named.new.out in
    let r = c.print_named.result in
    let form = c.args.notation in
    let named = subst (λ (name : List ℕ). IfErr r (λ stop. IsNamedStopped d name form stop old new)) c.as_bytes.ensures.value (c.print_named.ensures.err right) in
    on_err r (λ stop. IsNamedStopped d c.args.name.now form stop old new) (λ stop. AreStopped d (Some c.args.name) form stop old new) (λ stop stopped. inr stopped) named

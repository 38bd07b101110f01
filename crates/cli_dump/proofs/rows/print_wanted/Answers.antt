use Rattle.std.proofs.Common.{List, ℕ, Option, Some, None, Bor, subst, sym}
use Rattle.std.specs.Prelude.{IfErr}
use Rattle.cli_row_text.specs.declared.form.Notation.{Notation}
use Rattle.cli_dump.specs.Rows.{AreStopped, notation_named}
use Rattle.cli_dump.proofs.rows.print_wanted.Goals as goal

pub returns-in-Some-clause-err : goal.returns-in-Some-clause-err
returns-in-Some-clause-err g c = λ right.
    let d = g.S.PageSource.pages c.args.source.now in
    let old = g.W.Write.contents c.args.out.now in
    let new = g.W.Write.contents c.print_table.new.out in
    let r = c.print_table.result in
    let named = subst (λ (notation : Notation). IfErr r (λ stop. AreStopped d (Some c.in-Some.name) notation stop old new)) c.notation_of-notation.ensures (c.print_table.ensures.err right) in
    subst (λ (table : Option (Bor (List ℕ))). IfErr r (λ stop. AreStopped d table (notation_named c.args.wanted.form) stop old new)) (sym c.in-Some.is) named

pub returns-in-None-clause-err : goal.returns-in-None-clause-err
returns-in-None-clause-err g c = λ right.
    let d = g.S.PageSource.pages c.args.source.now in
    let old = g.W.Write.contents c.args.out.now in
    let new = g.W.Write.contents c.print_all.new.out in
    let r = c.print_all.result in
    let named = subst (λ (notation : Notation). IfErr r (λ stop. AreStopped d None notation stop old new)) c.notation_of-notation.ensures (c.print_all.ensures.err right) in
    subst (λ (table : Option (Bor (List ℕ))). IfErr r (λ stop. AreStopped d table (notation_named c.args.wanted.form) stop old new)) (sym c.in-None.is) named

use Rattle.std.proofs.Common.{[], refl}
use Rattle.std.proofs.KnownBytes.{Appends-nil}
use Rattle.std.proofs.lemmas.Result.{on_ok_weaker}
use Rattle.cli_show_deleted.proofs.CellsTold.{told_of, none_of}
use Rattle.cli_show_deleted.proofs.page.print_whole.Goals as goal

pub returns-in-Some-clause-ok : goal.returns-in-Some-clause-ok
returns-in-Some-clause-ok g c =
    let e = c.in-Some.ensures in
    on_ok_weaker c.print_cells.result
    (λ w. (w.1, (w.0, told_of c.args.role c.args.used.now c.args.number c.in-Some.cells w.0 e.left e.same.0 e.same.1 w.2, w.3), w.4)) c.print_cells.ensures.ok

pub returns-in-None-clause-ok : goal.returns-in-None-clause-ok
returns-in-None-clause-ok g c =
    ([], none_of c.args.role c.args.used.now c.args.number c.args.layout.form (c.in-None.ensures.none refl), Appends-nil (g.W.Write.contents c.args.out.now))

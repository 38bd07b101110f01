use Rattle.std.proofs.Common.{[], refl}
use Rattle.std.proofs.KnownBytes.{Appends-nil}
use Rattle.std.proofs.lemmas.Result.{on_ok_weaker}
use Rattle.cli_show_deleted.proofs.cut_page.print_cut_page.Goals as goal

pub returns-in-Some-clause-ok : goal.returns-in-Some-clause-ok
returns-in-Some-clause-ok g c =
    on_ok_weaker c.print_cuts.result (λ w. (w.1, (w.0, (c.in-Ok.whole, c.in-Ok.ensures.ok, c.in-Some.ensures.left w.0 w.2), w.3), w.4)) c.print_cuts.ensures.ok

pub returns-clause-ok : goal.returns-clause-ok
returns-clause-ok g c = ([], ([], (c.in-Ok.whole, c.in-Ok.ensures.ok, c.in-None.ensures.none refl), refl), Appends-nil (g.W.Write.contents c.args.out.now))

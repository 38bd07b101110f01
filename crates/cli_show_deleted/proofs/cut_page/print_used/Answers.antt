use Rattle.std.proofs.Common.{◌++◌, refl}
use Rattle.std.proofs.KnownBytes.{Appends-trans}
use Rattle.std.proofs.lemmas.Result.{on_ok_weaker}
use Rattle.cli_show_deleted.proofs.cut_page.print_used.Goals as goal

pub returns-in-Ok-clause-ok : goal.returns-in-Ok-clause-ok
returns-in-Ok-clause-ok g c =
    let own = c.in-Ok.ensures.ok in
    on_ok_weaker c.print_cut_page.result
    (λ w. (
      own.0 ++ w.0,
      (own.0, w.0, own.1, w.1, refl),
      Appends-trans (g.W.Write.contents c.args.out.now) (g.W.Write.contents c.print_whole.new.out) (g.W.Write.contents c.print_cut_page.new.out) own.0 w.0 own.2 w.2,
    )) c.print_cut_page.ensures.ok

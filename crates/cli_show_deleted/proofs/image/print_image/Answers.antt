use Rattle.std.proofs.lemmas.Result.{on_ok_weaker}
use Rattle.cli_show_deleted.proofs.ImagesTold.{image_told}
use Rattle.cli_show_deleted.proofs.image.print_image.Goals as goal

pub returns-clause-ok : goal.returns-clause-ok
returns-clause-ok g c =
    let e = c.of_free_page-cells.ensures in
    let image = c.args.image in
    on_ok_weaker c.print_left.result
    (λ w. (w.1, image_told c.args.layout.form image.frame image.used.now c.args.shown.now image.page c.of_free_page-cells.result w.0 w.1 e.left e.same.0 e.same.1 w.2 w.3, w.4))
    c.print_left.ensures.ok

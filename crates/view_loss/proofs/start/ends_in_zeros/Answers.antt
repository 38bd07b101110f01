use Rattle.std.proofs.Common.{arith}
use Rattle.view_loss.proofs.PagesCounted.{zeros_each, zeros_here}
use Rattle.view_loss.proofs.start.ends_in_zeros.Goals as goal

pub returns-clause-right : goal.returns-clause-right
returns-clause-right g c = λ given.
    let file = g.F.FileBytes.bytes c.args.file in
    let is = c.in_ok-read_page.ensures.page given in (
      λ t. (omega (arith, c.if-long-eq0.false), zeros_here c.args.page_size file c.args.long c.read_page.new.page is (c.is_zero.ensures.0 t)),
      λ both. c.is_zero.ensures.1 (zeros_each c.args.page_size file c.args.long c.read_page.new.page is both.1),
    )

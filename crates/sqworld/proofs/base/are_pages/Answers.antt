use Rattle.sqworld.proofs.Facts.{not_pages, pages_more, rules}
use Rattle.sqworld.proofs.base.are_pages.Goals as goal

pub returns-then-len-size : goal.returns-then-len-size
returns-then-len-size c = not_pages c.args.size c.args.pages.now c.loop-page.page-index c.page-item.result (search rules) (search rules) (search rules)

pub loop-page-preserved : goal.loop-page-preserved
loop-page-preserved c = pages_more c.args.size c.args.pages.now c.loop-page.page-index c.page-item.result (search rules) (search rules) c.loop-page.invariant (search rules)

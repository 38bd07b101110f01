use Rattle.sqworld.proofs.Facts.{joined_more, rules}
use Rattle.sqworld.proofs.base.Base.bytes.Goals as goal

pub loop-page-preserved : goal.loop-page-preserved
loop-page-preserved c = joined_more c.args.self.now.pages.items c.loop-page.page-index c.page-item.result c.loop-page.bytes.items c.extend_from_slice.new.self.items (search rules) (search rules) c.loop-page.invariant (search rules)

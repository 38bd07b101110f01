use Rattle.sqpage.proofs.chain.TakenPages.{takes_one}
use Rattle.sqpage.proofs.free_pages.Found.take.Goals as goal

pub returns-in-Ok-clause-ok : goal.returns-in-Ok-clause-ok
returns-in-Ok-clause-ok c = takes_one _ _ _ _ _ c.requires c.in_ok-take.ensures.ok c.in-Ok.ensures.items

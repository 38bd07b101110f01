use Rattle.sqpage.proofs.chain.TakenPages.{none_taken_yet, length_unmarked}
use Rattle.sqpage.proofs.free_pages.Found.none.Goals as goal

pub returns-in-Ok-clause-taken : goal.returns-in-Ok-clause-taken
returns-in-Ok-clause-taken c = none_taken_yet c.args.count _ _ c.in-Ok.ensures c.new.ensures.items

pub returns-in-Ok-clause-marks : goal.returns-in-Ok-clause-marks
returns-in-Ok-clause-marks c = length_unmarked c.args.count _ c.in-Ok.ensures

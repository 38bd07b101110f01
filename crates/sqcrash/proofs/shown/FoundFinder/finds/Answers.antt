use Rattle.sqcrash.proofs.shown.FoundFinder.finds.Goals as goal

pub returns-in-Ok : goal.returns-in-Ok
returns-in-Ok c = (c.in-Ok.judgment, c.in-Ok.ensures, c.are_alike.ensures)

use Rattle.sqview.proofs.openings.PagesOfView.{ok_now}
use Rattle.sqrescue_c.proofs.view.copy_part.Goals as goal

pub returns : goal.returns
returns c = ok_now c.read_at.result (c.read_at.ensures.never_fails tt) (c.read_at.ensures.read tt)

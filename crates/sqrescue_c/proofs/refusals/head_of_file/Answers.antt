use Rattle.sqview.proofs.openings.PagesOfView.{ok_now}
use Rattle.sqrescue_c.proofs.AskedRecovery.{head_as_read}
use Rattle.sqrescue_c.proofs.refusals.head_of_file.Goals as goal

pub returns-in-Ok : goal.returns-in-Ok
returns-in-Ok c = head_as_read c.args.db.now c.read_at.new.out (ok_now c.read_at.result (c.read_at.ensures.never_fails tt) (c.read_at.ensures.read tt))

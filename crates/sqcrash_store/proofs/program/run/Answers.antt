use Rattle.std.proofs.Common.{Ok}
use Rattle.sqcrash_store.proofs.program.run.Goals as goal

pub returns-in-Ok-carried_out-clause-ends : goal.returns-in-Ok-carried_out-clause-ends
returns-in-Ok-carried_out-clause-ends g c =
    (Ok c.in-Ok.request, c.in-Ok.ensures, (Ok c.in-Ok-carried_out.tally, c.in-Ok-carried_out.ensures, c.status_of.ensures))

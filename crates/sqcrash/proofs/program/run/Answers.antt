use Rattle.std.proofs.Common.{Ok, refl}
use Rattle.sqcrash.proofs.program.run.Goals as goal

pub returns-in-Ok-carried_out-clause-ends : goal.returns-in-Ok-carried_out-clause-ends
returns-in-Ok-carried_out-clause-ends g c = (
  Ok c.in-Ok.request,
  c.in-Ok.ensures.read,
  (Ok c.in-Ok-carried_out.tally, g.O.Write.contents c.carried_out.new.out, c.in-Ok-carried_out.ensures, (c.status_of.ensures, refl)),
)

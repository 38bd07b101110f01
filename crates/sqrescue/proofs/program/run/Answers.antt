use Rattle.std.proofs.Common.{inl}
use Rattle.sqrescue.proofs.program.run.Goals as goal

pub returns-in-Ok : goal.returns-in-Ok
returns-in-Ok g c = inl (record {
  request = c.in-Ok.request;
  asks = c.in-Ok.ensures;
  answer = c.noted-answer.result;
  printed = g.O.Write.contents c.noted-answer.new.out;
  comes = c.noted-answer.ensures;
  ends = c.status_of.ensures.named;
  all = c.status_of.ensures.same;
})

use Rattle.cli_each.specs.Lines.{texts}
use Rattle.sqrescue.proofs.WordsEnd.{if_ok}
use Rattle.sqrescue.proofs.answer.Goals as goal

pub returns-clause-ends : goal.returns-clause-ends
returns-clause-ends g c = if_ok c.answered.result (λ code ends. (texts c.as_slice.result.now, ends)) c.answered.ensures.ends

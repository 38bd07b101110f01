use Rattle.cli_held.specs.Todo.{texts}
use Rattle.cli_held.proofs.Saying.{none_there, seconds_there, word_there}
use Rattle.cli_held.proofs.line.seconds_at.Goals as goal

pub returns-in-Some : goal.returns-in-Some
returns-in-Some c =
    let found = c.in-Some.ensures.lookup in
    seconds_there (texts c.args.words.now) c.args.i c.in-Some.word.now.now c.seconds_in.result (word_there c.args.words.now c.args.i c.in-Some.word.now found.3.0 found.1) c.seconds_in.ensures

pub returns-in-None : goal.returns-in-None
returns-in-None c =
    let none = none_there c.args.words.now c.args.i c.in-None.ensures.lookup.3 in
    λ text n at. absurd (cc (none, at))

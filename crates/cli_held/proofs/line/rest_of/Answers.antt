use Rattle.std.proofs.Common.{refl, rules}
use Rattle.cli_held.specs.Todo.{texts}
use Rattle.cli_held.proofs.Saying.{none_so_far}
use Rattle.cli_held.proofs.line.rest_of.Goals as goal

pub loop-i-init : goal.loop-i-init
loop-i-init c = (search rules, none_so_far (texts c.args.words.now) c.args.from _ c.new.ensures.items refl refl refl refl)

use Rattle.cli_held.specs.Todo.{AreSome, texts}
use Rattle.cli_held.proofs.todo.unasked.Given as goal

abbrev pub invariant-loop-i : goal.invariant-loop-i
invariant-loop-i l = AreSome (texts l.words) (texts l.all.items)

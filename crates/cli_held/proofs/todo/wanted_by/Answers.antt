use Rattle.cli_held.specs.Todo.{texts}
use Rattle.cli_held.specs.Wants.{IsWanted, Wants, WantsNone}
use Rattle.cli_held.proofs.WantedLocks.{some_of}
use Rattle.cli_held.proofs.todo.wanted_by.Goals as goal
use Rattle.cli_held.proofs.todo.wanted_by.Goals.{in-Ok, in-Err}

pub returns : goal.returns
returns c = elim c.match-request.branch [
  | in-Ok w ↦ rw w.result-is (some_of w.wanted.result (WantsNone w.in-Ok.request) (λ found. Wants w.in-Ok.request found.0 found.1)
      (λ found. IsWanted (texts c.args.words.now) found.0 found.1) (λ found wants. (w.in-Ok.request, w.in-Ok.ensures, wants)) w.wanted.ensures)
  | in-Err w ↦ rw w.result-is tt
]

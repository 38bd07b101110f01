use Rattle.std.proofs.Common.{IfOk, List, ℕ, Bor, subst}
use Rattle.cli_held.specs.Todo.{AreSome, texts}
use Rattle.cli_held.proofs.todo.asking_nobody.Goals as goal

pub returns-in-Some-Recover-clause-some : goal.returns-in-Some-Recover-clause-some
returns-in-Some-Recover-clause-some c =
    subst (λ (l : List (Bor (List ℕ))). IfOk c.unasked.result (λ all. AreSome (texts l) (texts all.items))) c.as_slice.ensures.value c.unasked.ensures

use Rattle.std.proofs.Common.{inl, inr, refl}
use Rattle.cli_held.specs.Todo.{AreSome, texts}
use Rattle.cli_held.proofs.Asking.{pushed}
use Rattle.cli_held.proofs.Words.{word_here}
use Rattle.cli_held.proofs.todo.unasked.Goals.{then-i-eq2+in_ok-push, else-i-eq2}
use Rattle.cli_held.proofs.todo.unasked.Goals as goal

pub loop-i-preserved : goal.loop-i-preserved
loop-i-preserved c =
    let words = c.args.words.now in
    let joined : AreSome (texts words) (texts c.if-i-eq2.all.items) = elim c.if-i-eq2.branch [
      | then-i-eq2+in_ok-push w ↦ rw w.all-is (pushed (texts words) c.loop-i.all.items w.push.new.self.items _ w.in_ok-push.ensures.items c.loop-i.invariant (inr refl))
      | else-i-eq2 w ↦ rw w.all-is c.loop-i.invariant
    ] in
    pushed (texts words) c.if-i-eq2.all.items _ _ c.in_ok-push-2.ensures.items joined (inl (word_here words c.loop-i.i _ c.loop-i-test.true))

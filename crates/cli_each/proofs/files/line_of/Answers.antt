use Rattle.std.proofs.Common.{ap, ◌∙◌, refl}
use Rattle.cli_words.proofs.CommandLineArguments.{at_word, some_word}
use Rattle.cli_each.specs.Lines.{texts}
use Rattle.cli_each.proofs.FreeWords.{none_more_left, one_more_left}
use Rattle.cli_each.proofs.files.line_of.Goals as goal
use Rattle.cli_each.proofs.files.line_of.Goals.{then-stays+in_ok-push, else-stays}

pub loop-i-preserved : goal.loop-i-preserved
loop-i-preserved c = elim c.if-stays.branch [
  | then-stays+in_ok-push w ↦ one_more_left (texts c.args.words.now) c.args.place c.loop-i.i _ c.loop-i.left.items c.if-stays.left.items c.loop-i.invariant
      (at_word c.args.words.now c.loop-i.i _ c.loop-i-test.true) (w.if-stays.ensures.yes refl) (ap (λ v. v.items) w.left-is ∙ w.in_ok-push.ensures.items)
  | else-stays w ↦
      (let found = some_word c.args.words.now c.loop-i.i c.loop-i-test.true in
      none_more_left (texts c.args.words.now) c.args.place c.loop-i.i found.0 (texts c.if-stays.left.items) (rw w.left-is c.loop-i.invariant)
      (w.if-stays.ensures.not refl).0 ((w.if-stays.ensures.not refl).1 found.0 found.1))
]

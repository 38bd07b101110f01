use Rattle.std.proofs.Common.{ap, ◌∙◌, refl}
use Rattle.cli_words.proofs.CommandLineArguments.{some_word}
use Rattle.cli_each.specs.Lines.{texts}
use Rattle.cli_each.proofs.FreeWords.{none_more_free, one_more_free}
use Rattle.cli_each.proofs.files.files_of.Goals as goal
use Rattle.cli_each.proofs.files.files_of.Goals.{then-is_free+in_ok-push, else-is_free}

pub loop-i-preserved : goal.loop-i-preserved
loop-i-preserved c = elim c.if-is_free.branch [
  | then-is_free+in_ok-push w ↦
      (let found = some_word c.args.words.now c.loop-i.i c.loop-i-test.true in
      one_more_free (texts c.args.words.now) c.loop-i.i found.0 c.loop-i.places.items c.if-is_free.places.items c.loop-i.invariant
      (w.if-is_free.ensures.yes refl found.0 found.1) (ap (λ v. v.items) w.places-is ∙ w.in_ok-push.ensures.items))
  | else-is_free w ↦ none_more_free (texts c.args.words.now) c.loop-i.i c.if-is_free.places.items (rw w.places-is c.loop-i.invariant) (w.if-is_free.ensures.not refl)
]

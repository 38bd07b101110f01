use Rattle.std.proofs.Common.{◌≡◌, ◌∙◌, ap, refl, sym, Some, true, false}
use Rattle.std.specs.Cmp.Lexicographic.{bytes_decides}
use Rattle.cli_words.proofs.CommandLineArguments.{at_word, is_word}
use Rattle.cli_held.specs.Todo.{texts}
use Rattle.cli_held.proofs.Saying.{asked, given, kept, passed}
use Rattle.cli_held.proofs.Words.{one_more}
use Rattle.cli_held.proofs.line.take.Goals as goal

pub returns : goal.returns
returns c = record {
  rest = one_more c.args.words.now c.args.from c.args.i _ c.args.rest.now _ c.requires.place c.requires.before c.in_ok-push.ensures.items refl refl refl;
  so_far = kept (texts c.args.words.now) c.args.from c.args.i c.args.rest.now c.requires.so_far _ _ (at_word c.args.words.now c.args.i _ c.requires.place)
      (c.is_between.ensures.not c.if-is_between.false) c.if-rest.false (c.may_say.ensures.not c.if-may_say.false) c.in_ok-push.ensures.items refl refl refl refl;
}

pub returns-then-is_between-clause-so_far : goal.returns-then-is_between-clause-so_far
returns-then-is_between-clause-so_far c =
    let between = c.is_between.ensures.yes c.if-is_between.true in
    passed (texts c.args.words.now) c.args.from c.args.i c.args.rest.now c.requires.so_far between.0 between.1

pub returns-then-rest-clause-so_far : goal.returns-then-rest-clause-so_far
returns-then-rest-clause-so_far c = given (texts c.args.words.now) c.args.from c.args.i c.args.rest.now c.requires.so_far _ c.if-rest.true refl refl refl refl refl

pub take_free-requires-clause-may : goal.take_free-requires-clause-may
take_free-requires-clause-may c =
    let may = c.may_say.ensures.yes c.if-may_say.true in
    asked (texts c.args.words.now) c.args.from c.args.i c.args.rest.now c.requires.so_far _ may.0 may.1 c.if-rest.false refl refl refl refl
    (λ over. at_word c.args.words.now c.args.i _ c.requires.place ∙ ap Some ((bytes_decides _ _).0 (sym c.eq-rest.ensures ∙ over)))
    (λ off there. let no : true ≡ false = sym ((bytes_decides _ _).1 (is_word c.args.words.now c.args.i _ _ c.requires.place there)) ∙ sym c.eq-rest.ensures ∙ off in absurd (cc no))

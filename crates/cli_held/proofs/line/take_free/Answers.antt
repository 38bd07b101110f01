use Rattle.std.proofs.Common.{refl}
use Rattle.cli_words.proofs.CommandLineArguments.{at_word}
use Rattle.cli_held.specs.Todo.{texts}
use Rattle.cli_held.proofs.Saying.{told_alone, told_behind, told_nothing, told_unlocked}
use Rattle.cli_held.proofs.Words.{one_more}
use Rattle.cli_held.proofs.line.take_free.Goals as goal

pub returns-in_ok-push-in-Nothing : goal.returns-in_ok-push-in-Nothing
returns-in_ok-push-in-Nothing c = record {
  rest = one_more c.args.words.now c.args.from c.args.i _ c.args.rest.now _ c.requires.place c.requires.before c.in_ok-push-in-Nothing.ensures.items refl refl refl;
  so_far = told_nothing (texts c.args.words.now) c.args.from c.args.i c.args.rest.now _ c.requires.may refl _ (at_word c.args.words.now c.args.i _ c.requires.place)
      c.in-Nothing.ensures.exactly c.in_ok-push-in-Nothing.ensures.items refl refl refl;
}

pub returns-in-Unlocked : goal.returns-in-Unlocked
returns-in-Unlocked c =
    let said = c.in-Unlocked.ensures.said in
    let before = c.requires.before in
    record {
      rest = record { only = before.only; unlocked = λ _. said; plain = λ _ nothing. absurd ((nothing _ said).0 refl) };
      so_far = told_unlocked (texts c.args.words.now) c.args.from c.args.i c.args.rest.now _ c.requires.may refl c.in-Unlocked.ensures.exactly refl refl refl refl;
    }

pub returns-in-Wait : goal.returns-in-Wait
returns-in-Wait c =
    let said = c.in-Wait.ensures.said in
    let before = c.requires.before in
    record {
      rest = record { only = before.only; unlocked = before.unlocked; plain = λ _ nothing. absurd ((nothing said.0 said.1).1 said.2) };
      so_far = told_alone (texts c.args.words.now) c.args.from c.args.i c.args.rest.now _ c.requires.may refl c.in-Wait.seconds c.in-Wait.ensures.exactly refl refl refl refl;
    }

pub returns-in-WaitBehind : goal.returns-in-WaitBehind
returns-in-WaitBehind c =
    let said = c.in-WaitBehind.ensures.said in
    let before = c.requires.before in
    record {
      rest = record { only = before.only; unlocked = before.unlocked; plain = λ _ nothing. absurd ((nothing said.0 said.1).1 said.2) };
      so_far = told_behind (texts c.args.words.now) c.args.from c.args.i c.args.rest.now _ c.requires.may refl c.in-WaitBehind.seconds c.in-WaitBehind.ensures.exactly refl refl refl refl;
    }

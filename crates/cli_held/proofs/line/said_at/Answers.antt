use Rattle.std.proofs.Common.{◌≡◌, ◌∙◌, ap, sym, refl, inl, inr, Some, true, false}
use Rattle.std.specs.Prelude.{codes}
use Rattle.std.specs.Cmp.Lexicographic.{bytes_decides}
use Rattle.cli_words.proofs.CommandLineArguments.{at_word, is_there, is_word}
use Rattle.cli_held.specs.Todo.{texts}
use Rattle.cli_held.proofs.Words.{said_here, word_here}
use Rattle.cli_held.proofs.line.said_at.Goals as goal

pub returns-then-eq : goal.returns-then-eq
returns-then-eq c =
    let same = (bytes_decides _ _).0 (sym c.if-eq.ensures) in
    record {
      said = said_here c.args.words.now c.args.i _ _ c.requires same;
      exactly = at_word c.args.words.now c.args.i _ c.requires ∙ ap Some same;
    }

pub returns-in-Some : goal.returns-in-Some
returns-in-Some c =
    let given = c.in-Some.ensures in
    record {
      said = (_, word_here c.args.words.now c.args.i _ c.requires, inr (given.0, given.1));
      exactly = (given.0, at_word c.args.words.now c.args.i _ c.requires ∙ ap Some given.1, given.2);
    }

pub returns-in-Some-seconds_behind : goal.returns-in-Some-seconds_behind
returns-in-Some-seconds_behind c =
    let given = c.in-Some-seconds_behind.ensures in
    record {
      said = (codes "--wait", is_there (texts c.args.words.now) (codes "--wait") c.args.i given.0, inl refl);
      exactly = given;
    }

pub returns-in-None-seconds_behind : goal.returns-in-None-seconds_behind
returns-in-None-seconds_behind c = record {
  said = tt;
  exactly = (
    λ is. let no : true ≡ false = sym ((bytes_decides _ _).1 (is_word c.args.words.now c.args.i _ _ c.requires is)) ∙ sym c.if-eq.ensures in absurd (cc no),
    λ n gives. c.in-None.ensures gives.0 n (is_word c.args.words.now c.args.i _ _ c.requires gives.1) gives.2,
    c.in-None-seconds_behind.ensures,
  );
}

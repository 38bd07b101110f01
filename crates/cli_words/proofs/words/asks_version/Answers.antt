use Rattle.std.proofs.Common.{subst, sym, List, ℕ}
use Rattle.cli_words.specs.Line.{IsVersion}
use Rattle.cli_words.proofs.CommandLineArguments.{at_word, is_word}
use Rattle.cli_words.proofs.words.asks_version.Goals as goal

pub returns-then-words-gt1 : goal.returns-then-words-gt1
returns-then-words-gt1 c = (
  λ t. (_, at_word c.args.words.now 1 _ c.if-words-gt1.true, c.is_version.ensures.0 t),
  λ asks. c.is_version.ensures.1 (subst (λ (word : List ℕ). IsVersion word) (sym (is_word c.args.words.now 1 _ _ c.if-words-gt1.true asks.1)) asks.2),
)

use Rattle.std.proofs.Common.{ℕ, List, subst}
use Rattle.std.specs.Borrow.{Bor}
use Rattle.std.specs.List.{All}
use Rattle.std.proofs.lemmas.List.{take_all}
use Rattle.sqcrash.specs.Words.{MayAskHelp}
use Rattle.sqcrash.proofs.WordsAsked.{none_is}
use Rattle.sqcrash.proofs.commands.asks_help.Goals as goal

pub returns : goal.returns
returns c =
    let words = c.args.words.now in
    let none = subst (λ (l : List (Bor (List ℕ))). All (λ (w : Bor (List ℕ)). ¬ MayAskHelp w.now) l) (take_all c.loop-word.word-index words c.loop-word-test.false) c.loop-word.invariant in
    (λ yes. absurd (cc yes), λ asks. absurd (none_is MayAskHelp words none asks.0 asks.1 asks.2))

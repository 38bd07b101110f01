use Rattle.std.proofs.Common.{◌≡◌, List, ℕ, Bor, Option, None, Some, ap, sym, ◌∙◌}
use Rattle.cli_each.specs.Lines.{texts}
use Rattle.sqrescue.specs.Each.{with_starter}
use Rattle.sqrescue.proofs.WordsEnd.{if_ok, line_of_left}
use Rattle.sqrescue.proofs.each.line_for.Goals as goal

pub returns-in-Some : goal.returns-in-Some
returns-in-Some c =
    let left = c.in_ok-left.left.items in
    if_ok c.started.result (λ line is. line_of_left c.args.starter c.args.words.now c.args.place (texts left) (texts line.items) c.in_ok-left.ensures
    (is ∙ (ap (λ (l : List (Bor (List ℕ))). with_starter (Some c.in-Some.said) (texts l)) c.as_slice.ensures.value
    ∙ ap (λ (s : Option (Bor (List ℕ) × Bor (List ℕ))). with_starter s (texts left)) (sym c.in-Some.is)))) c.started.ensures

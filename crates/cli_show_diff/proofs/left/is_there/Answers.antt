use Rattle.std.proofs.Common.{ℕ, List, None, Some, subst}
use Rattle.std.specs.Prelude.{All}
use Rattle.std.specs.List.{Contains}
use Rattle.sqtables.specs.Objects.{IsTableNamed}
use Rattle.cli_show_diff.proofs.left.is_there.Goals as goal

pub returns-in-Some-clause-yes : goal.returns-in-Some-clause-yes
returns-in-Some-clause-yes c = λ kept.
    let was = c.in-Some.was in
    (was, subst (λ (n : List ℕ). IsTableNamed n was.now × Contains c.args.olds.now was.now) c.as_slice.ensures.value c.in-Some.ensures, c.are_kept.ensures.yes kept)

pub returns-in-Some-clause-not : goal.returns-in-Some-clause-not
returns-in-Some-clause-not c = λ not_kept.
    let was = c.in-Some.was in
    (Some was, subst (λ (n : List ℕ). IsTableNamed n was.now × Contains c.args.olds.now was.now) c.as_slice.ensures.value c.in-Some.ensures, c.are_kept.ensures.not not_kept)

pub returns-in-None-clause-not : goal.returns-in-None-clause-not
returns-in-None-clause-not c = λ _.
    (None, subst (λ (n : List ℕ). All (λ o. ¬ IsTableNamed n o) c.args.olds.now) c.as_slice.ensures.value c.in-None.ensures, tt)

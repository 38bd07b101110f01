use Rattle.std.proofs.Common.{◌≡◌, ◌≤◌, ◌+◌, ◌-◌, List, take, drop, length, Some, None, Option, arith, subst, length-drop}
use Rattle.std.proofs.lemmas.List.{drop-drop}
use Rattle.cli_show_deleted.specs.declared.candidate.Candidate.{Candidate}
use Rattle.cli_show_deleted.specs.declared.turn.Found.{Found}
use Rattle.cli_show_deleted.specs.internal.Candidates.{IsTurn}
use Rattle.cli_show_deleted.proofs.TurnsOfCells.{Turned, found_begins, rest_is, turned_all, turned_found}
use Rattle.cli_show_deleted.proofs.turn.print_turns.Goals as goal

pub returns-in_default-clause-ok : goal.returns-in_default-clause-ok
returns-in_default-clause-ok g c = λ sound other.
    let old = c.args.old.now in
    let new = c.args.new.now in
    let was = drop c.turns.i old in
    let is = drop c.turns.j new in
    let turn = c.turn_of-turn.result in
    let first = subst (λ (l : List Candidate). IsTurn l (take (length new - c.turns.j) is) turn.found (drop turn.olds l) (drop turn.news (take (length new - c.turns.j) is)))
    (rest_is c.turns.i old) c.turn_of-turn.ensures.turn in
    let second = subst (λ (l : List Candidate). IsTurn was l turn.found (drop turn.olds was) (drop turn.news l)) (rest_is c.turns.j new) first in
    let ends : IsTurn was is None (drop turn.olds was) (drop turn.news is) =
    subst (λ (f : Option Found). IsTurn was is f (drop turn.olds was) (drop turn.news is)) c.in_default.is second in
    turned_all old new was is c.args.layouts.0.form c.args.layouts.1.form (g.W.Write.contents c.args.out.now) (g.W.Write.contents c.turns.out)
    (c.turns.invariant.turned sound other) ends.0 ends.1

pub turns-preserved : goal.turns-preserved
turns-preserved g c =
    let old = c.args.old.now in
    let new = c.args.new.now in
    let was = drop c.turns.i old in
    let is = drop c.turns.j new in
    let turn = c.turn_of-turn.result in
    let f = c.args.layouts.0.form in
    let h = c.args.layouts.1.form in
    let before = g.W.Write.contents c.args.out.now in
    let mid = g.W.Write.contents c.turns.out in
    let after = g.W.Write.contents c.print_found.new.out in
    let found = c.in-Some.found in
    let all = rest_is c.turns.i old in
    let too = rest_is c.turns.j new in
    let first : turn.olds ≤ length was = subst (λ (l : List Candidate). turn.olds ≤ length l) all c.turn_of-turn.ensures.within.0 in
    let second : turn.news ≤ length is = subst (λ (l : List Candidate). turn.news ≤ length l) too c.turn_of-turn.ensures.within.1 in
    let many : length was ≡ length old - c.turns.i = length-drop c.turns.i old in
    let more : length is ≡ length new - c.turns.j = length-drop c.turns.j new in
    let within : c.turns.i ≤ length old = c.turns.invariant.olds in
    let also : c.turns.j ≤ length new = c.turns.invariant.news in
    record {
      olds = omega (arith, many, first, within);
      news = omega (arith, more, second, also);
      turned = λ sound other.
          let w = c.turns.invariant.turned sound other in
          let part = subst (λ (l : List Candidate). IsTurn l (take (length new - c.turns.j) is) turn.found (drop turn.olds l) (drop turn.news (take (length new - c.turns.j) is))) all
          c.turn_of-turn.ensures.turn in
          let whole = subst (λ (l : List Candidate). IsTurn was l turn.found (drop turn.olds was) (drop turn.news l)) too part in
          let turns : IsTurn was is (Some found) (drop turn.olds was) (drop turn.news is) =
          subst (λ (x : Option Found). IsTurn was is x (drop turn.olds was) (drop turn.news is)) c.in-Some.is whole in
          let t = c.in-Ok.ensures.ok (found_begins was is (drop turn.olds was) (drop turn.news is) found w.olds w.news turns) in
          let one = turned_found old new was is (drop turn.olds was) (drop turn.news is) f h before mid after found w turns t.0 t.1 t.2 in
          subst (λ (l : List Candidate). Turned old new (drop (c.turns.i + turn.olds) old) l f h before after) (drop-drop turn.news c.turns.j new)
          (subst (λ (l : List Candidate). Turned old new l (drop turn.news is) f h before after) (drop-drop turn.olds c.turns.i old) one);
    }

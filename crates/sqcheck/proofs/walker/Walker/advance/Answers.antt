use Rattle.sqcheck.proofs.Words.{Walk, arith, count_by, not, refl, ◌∙◌, ◌≤◌}
use Rattle.sqcheck.proofs.visit.FollowedPlaces.{next_of}
use Rattle.sqcheck.proofs.walker.Walker.advance.Goals as goal

pub returns-then-branch-clause-found : goal.returns-then-branch-clause-found
returns-then-branch-clause-found g c = λ right first bars counted late rest was.
    let s = c.places.self in
    let popped : Walk = record { stack = c.pop.new.self; rows = s.walk.rows; leaf_level = s.walk.leaf_level } in
    c.in_ok-step.ensures.found right first bars counted late rest (next_of g.V.Snapshot.maps g.V.Snapshot.pages g.V.Snapshot.size first bars counted late rest c.args.tree.now c.in-Some.item s.uses s.walk popped c.places.chart c.in-Some.ensures.items refl refl
    (c.places.invariant.found right first bars counted late rest was))

pub places-preserved : goal.places-preserved
places-preserved g c =
    let s = c.places.self in
    let popped : Walk = record { stack = c.pop.new.self; rows = s.walk.rows; leaf_level = s.walk.leaf_level } in
    let fewer : count_by not c.step.new.self.uses.marks.items ≤ count_by not c.args.self.now.uses.marks.items = (let a = c.step.ensures.no_more in let b = c.places.invariant.fewer in omega (arith, a, b)) in
    record {
      long = c.step.ensures.long ∙ c.places.invariant.long;
      found = λ right first bars counted late rest was. c.in_ok-step.ensures.found right first bars counted late rest (next_of g.V.Snapshot.maps g.V.Snapshot.pages g.V.Snapshot.size first bars counted late rest c.args.tree.now c.in-Some.item s.uses s.walk popped c.places.chart c.in-Some.ensures.items refl refl
          (c.places.invariant.found right first bars counted late rest was));
      fewer = fewer;
      same = c.step.ensures.same;
    }

use Rattle.sqcheck.proofs.Words.{Walk, [], ap, refl, ◌++◌, ◌∙◌, ◌∷◌, ◌≡◌}
use Rattle.sqcheck.proofs.visit.FollowedPlaces.{pushed_next, all_followed}
use Rattle.sqcheck.proofs.walker.Walker.survey_from.Goals as goal

pub pages-init : goal.pages-init
pages-init g c = record {
  long = refl;
  found = λ right first bars counted late rest s is was.
      let it = c.args.item in
      let new : Walk = record { stack = c.push.new.stack; rows = c.args.self.now.walk.rows; leaf_level = Rattle.std.specs.Prelude.None } in
      let stack : c.push.new.stack.items ≡ it ∷ [] = c.in_ok-push.ensures.ok ∙ ap (λ l. l ++ it ∷ []) c.clear.ensures.items in
      pushed_next g.V.Snapshot.maps g.V.Snapshot.pages g.V.Snapshot.size first bars counted late rest s c.args.tree.now it c.args.self.now.uses c.args.self.now.walk new c.args.chart.now is stack refl refl was;
  same = c.requires.same;
}

pub pages-preserved : goal.pages-preserved
pages-preserved g c = record {
  long = c.advance.ensures.long ∙ c.pages.invariant.long;
  found = λ right first bars counted late rest s is was. c.in_ok-advance.ensures.found right first bars counted late rest (c.pages.invariant.found right first bars counted late rest s is was);
  same = c.advance.ensures.same;
}

pub returns-clause-found : goal.returns-clause-found
returns-clause-found g c = λ right first bars counted late rest s is was.
    let a = c.advance.new.self in
    all_followed g.V.Snapshot.maps g.V.Snapshot.pages g.V.Snapshot.size first bars counted late rest c.args.tree.now a.uses a.walk c.advance.new.chart (c.in_ok-advance.ensures.all c.if-branch.false)
    (c.in_ok-advance.ensures.found right first bars counted late rest (c.pages.invariant.found right first bars counted late rest s is was))

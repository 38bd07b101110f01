use Rattle.sqcheck.proofs.Facts.{StandsAt, Walk, Walking, [], append-nil, arith, ends_walk, entry_stands, exits_as, fewer_unmarked, knows_top, nothing_popped, proper_top, refl, subst, sym, walk_refused, walks_more, walks_on, ◌++◌, ◌≡◌, ◌≤◌}
use Rattle.std.proofs.lemmas.List.{nil_from_length}
use Rattle.sqcheck.proofs.walker.Walker.walk_on.Goals as goal

pub places-init : goal.places-init
places-init g c = record {
  walks = λ right late visited rest start. ([], subst (λ l. Walking g.V.Snapshot.pages late c.args.tree.now l rest c.args.self.now.uses c.args.self.now.walk) (sym (append-nil visited)) start, refl);
  same = c.requires.same;
}

pub returns-in_err-role-clause-walks : goal.returns-in_err-role-clause-walks
returns-in_err-role-clause-walks g c = λ right late visited rest start.
    let d = g.V.Snapshot.pages in
    let tree = c.args.tree.now in
    let s = c.places.self in
    let w = c.places.invariant.walks right late visited rest start in
    let popped : Walk = record { stack = c.pop.new.self; rows = s.walk.rows; leaf_level = s.walk.leaf_level } in
    let it = c.in-Some.item in
    let e = c.in_err-role.field-0.0 in
    let items = c.in-Some.ensures.items in
    let refused = c.in_err-role.ensures.err right.0 (proper_top d late tree (visited ++ w.0) rest s.uses s.walk popped it w.1 items refl refl) in
    exits_as _ (StandsAt g.V.Snapshot) e c.from_residual.result c.from_residual.ensures.1
    (c.in_err-role.ensures.source, λ read. walk_refused d late tree (visited ++ w.0) rest s.uses s.walk popped it w.1 items refl refl e.fault e.page (refused read))

pub judge-requires-clause-page : goal.judge-requires-clause-page
judge-requires-clause-page g c = let m = c.in_ok-role.ensures.taken.0 in (m.above, subst (λ n. c.in-Some.item.page ≤ n) c.places.self.marks m.within)

pub returns-in_err-judge-clause-walks : goal.returns-in_err-judge-clause-walks
returns-in_err-judge-clause-walks g c = λ right late visited rest start.
    let d = g.V.Snapshot.pages in
    let s = c.places.self in
    let w = c.places.invariant.walks right late visited rest start in
    let popped : Walk = record { stack = c.pop.new.self; rows = s.walk.rows; leaf_level = s.walk.leaf_level } in
    let e = c.in_err-judge.field-0.0 in
    exits_as _ (StandsAt g.V.Snapshot) e c.from_residual-in_err-judge.result c.from_residual-in_err-judge.ensures.1
    (c.in_err-judge.ensures.source, λ read. entry_stands d late c.args.tree.now (visited ++ w.0) rest s.uses s.walk popped c.in-Some.item w.1 c.in-Some.ensures.items refl refl e.fault e.page (c.in_err-judge.ensures.err right.0 read).1)

pub places-smaller : goal.places-smaller
places-smaller g c = fewer_unmarked c.places.self.uses.marks.items c.follow.new.self.uses.marks.items c.in-Some.item.page c.in_ok-role.ensures.taken.0

pub places-preserved : goal.places-preserved
places-preserved g c =
    let d = g.V.Snapshot.pages in
    let tree = c.args.tree.now in
    let s = c.places.self in
    let popped : Walk = record { stack = c.pop.new.self; rows = s.walk.rows; leaf_level = s.walk.leaf_level } in
    let it = c.in-Some.item in
    let items = c.in-Some.ensures.items in
    let f = c.follow.new.self in
    record {
      walks = λ right late visited rest start.
          let w = c.places.invariant.walks right late visited rest start in
          let ok = c.in_ok-role.ensures.ok right.0 (proper_top d late tree (visited ++ w.0) rest s.uses s.walk popped it w.1 items refl refl) (knows_top d late tree (visited ++ w.0) rest s.uses s.walk popped it w.1 items refl refl) in
          let on = walks_on d late tree (visited ++ w.0) rest s.uses s.walk popped it w.1 items refl refl f.uses f.walk ok.1 (c.in_ok-judge.ensures.ok right) in
          walks_more g.T.Visitor.saw d late tree visited rest w.0 f.uses f.walk it on.0 c.in_ok-role.role c.args.visitor.now c.places.visitor c.visit.new.self on.1 ok.0 c.visit.ensures w.2 on.2;
      same = c.judge.ensures.same;
    }

pub returns-clause-walks : goal.returns-clause-walks
returns-clause-walks g c = λ right late visited rest start.
    let d = g.V.Snapshot.pages in
    let tree = c.args.tree.now in
    let s = c.places.self in
    let stack = c.pop.new.self in
    let popped : Walk = record { stack = stack; rows = s.walk.rows; leaf_level = s.walk.leaf_level } in
    let w = c.places.invariant.walks right late visited rest start in
    let empty : stack.items ≡ [] = nil_from_length stack.items (let same = stack.ok.0 in let none = c.in_default.ensures.cases.1 in omega (arith, same, none)) in
    (w.0, ends_walk d late tree (visited ++ w.0) rest s.uses popped empty (nothing_popped d late tree (visited ++ w.0) rest s.uses s.walk popped w.1 c.in_default.ensures.items refl refl), w.2)

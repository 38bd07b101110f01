use Rattle.sqcheck.proofs.Facts.{Database, Link, ap, arith, false, last_visited, length, link_leads, link_visited, next_in, on_ok, other_followed, other_passed, refl, ◌-◌, ◌∙◌, ◌≡◌, ◌≤◌}
use Rattle.sqcheck.proofs.walker.Walker.follow_link.Goals as goal

pub returns-then-needed-gt1-clause-ok : goal.returns-then-needed-gt1-clause-ok
returns-then-needed-gt1-clause-ok g c = λ right. on_ok _ _ c.push.result (λ pushed tree k.
    let d = g.V.Snapshot.pages in
    let s = c.args.self.now in
    let same = ap (λ (q : Database). length q) c.requires.same.same_pages in
    let few : c.args.needed ≤ length d = omega (arith, c.from.ensures, c.count.ensures, same) in
    other_followed d tree c.args.item (Link c.args.owner c.args.needed c.requires.task.0) s.uses c.take.new.self s.walk (record { stack = c.push.new.stack; rows = s.walk.rows; leaf_level = s.walk.leaf_level }) c.requires.task.1 tt
    (link_visited d tree c.args.item _ c.args.owner c.args.needed (c.args.needed - 1) c.word_at-next.result c.requires.task.0 s.uses.marks.items c.take.new.self.marks.items c.deref.result.now s.walk.stack.items c.push.new.stack.items c.requires.task.1 c.in_ok-take.ensures.ok
    (c.deref.ensures.value ∙ c.in_ok-read.ensures.read right) few c.if-needed-gt1.true refl c.word_at-next.ensures refl pushed)
    c.in_ok-take.ensures.counted refl refl (λ h. link_leads d tree.root s.walk.stack.items c.push.new.stack.items _ c.args.owner (c.args.needed - 1) false refl pushed h) k) c.push.ensures.ok

pub returns-clause-ok : goal.returns-clause-ok
returns-clause-ok g c = λ right tree k.
    let d = g.V.Snapshot.pages in
    let s = c.args.self.now in
    let same = ap (λ (q : Database). length q) c.requires.same.same_pages in
    let few : c.args.needed ≤ length d = omega (arith, c.from.ensures, c.count.ensures, same) in
    let last : c.args.needed ≤ 1 = omega arith in
    let ends : next_in c.deref.result.now ≡ 0 = omega (arith, c.word_at-next.ensures) in
    other_followed d tree c.args.item (Link c.args.owner c.args.needed c.requires.task.0) s.uses c.take.new.self s.walk s.walk c.requires.task.1 tt
    (last_visited d tree c.args.item c.args.owner c.args.needed c.requires.task.0 s.uses.marks.items c.take.new.self.marks.items c.deref.result.now s.walk.stack.items c.requires.task.1 c.in_ok-take.ensures.ok (c.deref.ensures.value ∙ c.in_ok-read.ensures.read right) few last ends)
    c.in_ok-take.ensures.counted refl refl (λ h. h) k

pub returns-then-needed-gt1-clause-behind : goal.returns-then-needed-gt1-clause-behind
returns-then-needed-gt1-clause-behind g c = λ right. on_ok _ _ c.push.result (λ pushed tree.
    let d = g.V.Snapshot.pages in
    let s = c.args.self.now in
    let same = ap (λ (q : Database). length q) c.requires.same.same_pages in
    let few : c.args.needed ≤ length d = omega (arith, c.from.ensures, c.count.ensures, same) in
    other_passed d tree c.args.item (Link c.args.owner c.args.needed c.requires.task.0) s.uses.marks.items c.take.new.self.marks.items s.walk (record { stack = c.push.new.stack; rows = s.walk.rows; leaf_level = s.walk.leaf_level }) c.requires.task.1 tt
    (link_visited d tree c.args.item _ c.args.owner c.args.needed (c.args.needed - 1) c.word_at-next.result c.requires.task.0 s.uses.marks.items c.take.new.self.marks.items c.deref.result.now s.walk.stack.items c.push.new.stack.items c.requires.task.1 c.in_ok-take.ensures.ok
    (c.deref.ensures.value ∙ c.in_ok-read.ensures.read right) few c.if-needed-gt1.true refl c.word_at-next.ensures refl pushed) refl) c.push.ensures.ok

pub returns-clause-behind : goal.returns-clause-behind
returns-clause-behind g c = λ right tree.
    let d = g.V.Snapshot.pages in
    let s = c.args.self.now in
    let same = ap (λ (q : Database). length q) c.requires.same.same_pages in
    let few : c.args.needed ≤ length d = omega (arith, c.from.ensures, c.count.ensures, same) in
    let last : c.args.needed ≤ 1 = omega arith in
    let ends : next_in c.deref.result.now ≡ 0 = omega (arith, c.word_at-next.ensures) in
    other_passed d tree c.args.item (Link c.args.owner c.args.needed c.requires.task.0) s.uses.marks.items c.take.new.self.marks.items s.walk s.walk c.requires.task.1 tt
    (last_visited d tree c.args.item c.args.owner c.args.needed c.requires.task.0 s.uses.marks.items c.take.new.self.marks.items c.deref.result.now s.walk.stack.items c.requires.task.1 c.in_ok-take.ensures.ok (c.deref.ensures.value ∙ c.in_ok-read.ensures.read right) few last ends) refl

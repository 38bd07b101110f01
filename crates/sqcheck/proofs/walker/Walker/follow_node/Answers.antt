use Rattle.sqcheck.proofs.Facts.{if_ok, inr, knows_at, node_followed, node_passed, used_read, ◌∙◌}
use Rattle.sqcheck.proofs.walker.Walker.follow_node.Goals as goal

pub returns-clause-ok : goal.returns-clause-ok
returns-clause-ok g c = λ right k.
    let d = g.V.Snapshot.pages in
    let tree = c.args.tree.now in
    let s = c.args.self.now in
    let b = c.args.bounds in
    if_ok _ _ c.enter.result (λ kind both. (both.0, node_followed d tree c.args.item b.level b.low b.high s.uses c.take.new.self s.walk c.enter.new.walk c.requires.task c.in_ok-take.ensures.ok c.in_ok-take.ensures.counted both.1))
    (c.enter.ensures.ok d (used_read d c.args.item.page c.read.new.self.usable c.deref.result.now (c.deref.ensures.value ∙ c.in_ok-read.ensures.read right) (c.read.new.self.used right))
    (knows_at d tree.root c.args.item s.walk.leaf_level b.level b.low b.high s.walk.stack.items c.requires.task k))

pub returns-clause-behind : goal.returns-clause-behind
returns-clause-behind g c = λ right.
    let d = g.V.Snapshot.pages in
    let tree = c.args.tree.now in
    let s = c.args.self.now in
    let b = c.args.bounds in
    if_ok _ _ c.enter.result (λ kind both. (both.0, node_passed d tree c.args.item b.level b.low b.high s.walk c.enter.new.walk c.requires.task both.1))
    (c.enter.ensures.behind d (used_read d c.args.item.page c.read.new.self.usable c.deref.result.now (c.deref.ensures.value ∙ c.in_ok-read.ensures.read right) (c.read.new.self.used right)))

pub returns-clause-level : goal.returns-clause-level
returns-clause-level g c = λ right.
    let b = c.args.bounds in
    inr (b.level, b.low, b.high, c.requires.task, c.enter.ensures.level g.V.Snapshot.pages (used_read g.V.Snapshot.pages c.args.item.page c.read.new.self.usable c.deref.result.now (c.deref.ensures.value ∙ c.in_ok-read.ensures.read right) (c.read.new.self.used right)))

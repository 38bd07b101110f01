use Rattle.sqcheck.proofs.Facts.{List, Trunk, arith, both_ok, leaf_count_in, most_leaves, on_ok, other_followed, other_passed, refl, trunk_visited, ℕ, ◌∙◌, ◌≤◌}
use Rattle.sqcheck.proofs.walker.Walker.follow_trunk.Goals as goal

pub returns-clause-ok : goal.returns-clause-ok
returns-clause-ok g c = λ right. on_ok _ _ c.push_leaves.result (λ leaves tree k.
    let d = g.V.Snapshot.pages in
    let s = c.args.self.now in
    let bytes : List ℕ = c.as_slice-bytes.result.now in
    let used = c.read.new.self.used right in
    let few : leaf_count_in bytes ≤ most_leaves d = omega (arith, c.if-word_at-self.false, c.word_at.ensures, used) in
    other_followed d tree c.args.item Trunk s.uses c.take.new.self s.walk (record { stack = c.push_leaves.new.stack; rows = s.walk.rows; leaf_level = s.walk.leaf_level }) c.requires.task tt
    (trunk_visited d tree c.args.item s.uses.marks.items c.take.new.self.marks.items bytes s.walk.stack.items c.push_next.new.stack.items c.push_leaves.new.stack.items c.requires.task c.in_ok-take.ensures.ok
    (c.as_slice-bytes.ensures.value ∙ c.in_ok-read.ensures.read right) few (c.in_ok-push_next.ensures.ok tree) (leaves.0 tree))
    c.in_ok-take.ensures.counted refl refl (λ h. leaves.1 d tree.root (c.in_ok-push_next.ensures.leads d tree.root h)) k)
    (both_ok _ _ c.push_leaves.result c.push_leaves.ensures.ok c.push_leaves.ensures.leads)

pub returns-clause-behind : goal.returns-clause-behind
returns-clause-behind g c = λ right. on_ok _ _ c.push_leaves.result (λ leaves tree.
    let d = g.V.Snapshot.pages in
    let s = c.args.self.now in
    let bytes : List ℕ = c.as_slice-bytes.result.now in
    let used = c.read.new.self.used right in
    let few : leaf_count_in bytes ≤ most_leaves d = omega (arith, c.if-word_at-self.false, c.word_at.ensures, used) in
    other_passed d tree c.args.item Trunk s.uses.marks.items c.take.new.self.marks.items s.walk (record { stack = c.push_leaves.new.stack; rows = s.walk.rows; leaf_level = s.walk.leaf_level }) c.requires.task tt
    (trunk_visited d tree c.args.item s.uses.marks.items c.take.new.self.marks.items bytes s.walk.stack.items c.push_next.new.stack.items c.push_leaves.new.stack.items c.requires.task c.in_ok-take.ensures.ok
    (c.as_slice-bytes.ensures.value ∙ c.in_ok-read.ensures.read right) few (c.in_ok-push_next.ensures.ok tree) (leaves tree)) refl)
    c.push_leaves.ensures.ok

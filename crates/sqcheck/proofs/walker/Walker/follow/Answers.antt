use Rattle.sqcheck.proofs.Facts.{Btree, FollowRefusedBy, FreeLeaf, IsProper, IsPutDown, IsRoleOf, Leaf, exits, leaf_visited, other_followed, other_passed, refl, role_by, role_of, subst, sym, ◌≢◌}
use Rattle.sqpage.specs.declared.fault.Fault.TheVariants as faults
use Rattle.sqcheck.proofs.walker.Walker.follow.Goals as goal

pub returns-in_ok-take-in-Leaf-clause-ok : goal.returns-in_ok-take-in-Leaf-clause-ok
returns-in_ok-take-in-Leaf-clause-ok g c = λ right proper k.
    let d = g.V.Snapshot.pages in
    let tree = c.args.tree.now in
    let s = c.args.self.now in
    let taken = c.in_ok-take-in-Leaf.ensures in (
      role_by d tree c.args.item Leaf FreeLeaf c.in-Leaf.is refl,
      other_followed d tree c.args.item Leaf s.uses c.take.new.self s.walk s.walk c.in-Leaf.is tt
          (leaf_visited d tree c.args.item s.uses.marks.items c.take.new.self.marks.items s.walk.stack.items c.in-Leaf.is taken.ok) taken.counted refl refl (λ h. h) k,
    )

pub returns-in_ok-take-in-Leaf-clause-behind : goal.returns-in_ok-take-in-Leaf-clause-behind
returns-in_ok-take-in-Leaf-clause-behind g c = λ right proper.
    let d = g.V.Snapshot.pages in
    let tree = c.args.tree.now in
    let s = c.args.self.now in (
      role_by d tree c.args.item Leaf FreeLeaf c.in-Leaf.is refl,
      other_passed d tree c.args.item Leaf s.uses.marks.items c.take.new.self.marks.items s.walk s.walk c.in-Leaf.is tt
          (leaf_visited d tree c.args.item s.uses.marks.items c.take.new.self.marks.items s.walk.stack.items c.in-Leaf.is c.in_ok-take-in-Leaf.ensures.ok) refl,
    )

pub returns-in_err-follow_trunk-in-Trunk-clause-err : goal.returns-in_err-follow_trunk-in-Trunk-clause-err
returns-in_err-follow_trunk-in-Trunk-clause-err g c = λ right proper.
    exits (λ e. e.fault ≢ faults.Source → FollowRefusedBy (IsPutDown c.args.self.now.walk.leaf_level) g.V.Snapshot.pages c.args.tree.now c.args.item c.args.self.now.uses.marks.items e.fault e.page) c.in_err-follow_trunk-in-Trunk.field-0.0 c.from_residual.result c.from_residual.ensures.1
    (λ read. c.in_err-follow_trunk-in-Trunk.ensures.err right read c.args.tree.now)

pub returns-in_err-follow_link-in-Link-clause-err : goal.returns-in_err-follow_link-in-Link-clause-err
returns-in_err-follow_link-in-Link-clause-err g c = λ right proper.
    exits (λ e. e.fault ≢ faults.Source → FollowRefusedBy (IsPutDown c.args.self.now.walk.leaf_level) g.V.Snapshot.pages c.args.tree.now c.args.item c.args.self.now.uses.marks.items e.fault e.page) c.in_err-follow_link-in-Link.field-0.0 c.from_residual-in_err-follow_link-in-Link.result c.from_residual-in_err-follow_link-in-Link.ensures.1
    (λ read. c.in_err-follow_link-in-Link.ensures.err right (subst IsProper c.in-Link.is proper) read c.args.tree.now)

pub returns-in_err-kind-in-Node-clause-err : goal.returns-in_err-kind-in-Node-clause-err
returns-in_err-kind-in-Node-clause-err g c = λ right proper.
    exits (λ e. e.fault ≢ faults.Source → FollowRefusedBy (IsPutDown c.args.self.now.walk.leaf_level) g.V.Snapshot.pages c.args.tree.now c.args.item c.args.self.now.uses.marks.items e.fault e.page) c.in_err-kind-in-Node.field-0.0 c.from_residual-in_err-kind-in-Node.result c.from_residual-in_err-kind-in-Node.ensures.1
    (λ read. c.in_err-kind-in-Node.ensures.err right read)

pub returns-in_ok-kind-in-Node-clause-behind : goal.returns-in_ok-kind-in-Node-clause-behind
returns-in_ok-kind-in-Node-clause-behind g c = λ right proper.
    let tree = c.args.tree.now in
    let kind = c.in_ok-kind-in-Node.kind in
    let h = c.in_ok-kind-in-Node.ensures.behind right in
    (subst (λ t. IsRoleOf g.V.Snapshot.pages c.args.item.page (role_of tree t) (Btree kind tree.root)) (sym c.in-Node.is) (kind, h.0, refl), h.1)

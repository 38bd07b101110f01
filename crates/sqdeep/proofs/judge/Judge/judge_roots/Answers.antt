use Rattle.std.proofs.Common.{ℕ, inr, refl, sym, subst, arith}
use Rattle.sqpage.specs.Freelist.{IsPage}
use Rattle.sqcheck.specs.declared.role.Role.TheVariants.{Btree}
use Rattle.sqdeep.specs.internal.Judging.{Tells}
use Rattle.sqdeep.proofs.RootsOfTrees.{root_used, movable_used, used_root, used_movable}
use Rattle.sqdeep.proofs.judge.Judge.judge_roots.Goals as goal

pub returns-in-Some-clause-err : goal.returns-in-Some-clause-err
returns-in-Some-clause-err g c = λ right trees uses.
    let d = g.V.Snapshot.pages in
    let list = c.args.trees.now.uses.items in
    let p : ℕ = c.in-Some.page in
    let found = c.in-Some.ensures in
    let q : ℕ = found.2.0 in
    let above = found.2.1 in
    let less = found.2.2 in
    let first : IsPage d p = (omega (arith, less), omega (arith, found.0, c.requires)) in
    let before : IsPage d q = (above, omega (arith, less, found.0, c.requires)) in
    subst (Tells g.V.Snapshot.given d) (sym c.at_page.ensures)
    (inr (inr (refl, ((c.args.self.now.mapped right).0 c.if-not-self.false, used_root d list trees uses p first found.1, q, used_movable d list trees uses q before found.2.3, less))))

pub returns-in-None-clause-ok : goal.returns-in-None-clause-ok
returns-in-None-clause-ok g c = λ right trees uses auto p q root none.
    let d = g.V.Snapshot.pages in
    let list = c.args.trees.now.uses.items in
    let first : IsPage d p = trees.named p (Btree root.0 p) root.1 in
    let second : IsPage d q = trees.named q none.0 none.1 in
    c.in-None.ensures p q (omega (arith, first.1, c.requires)) second.0 (omega (arith, second.1, c.requires)) (root_used d list trees uses p root) (movable_used d list trees uses q none)

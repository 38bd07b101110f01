use Rattle.sqcheck.proofs.Between.{ChildFrom, IsNext, Item, Pushes, ap, arith, cell_count, child_more, children_all, children_none, first_is, head_at, if_present, inl, inr, node_in, node_leads, on_ok, refl, subst, suc, sym, unwrap_or, word, ◌+◌, ◌-◌, ◌<◌, ◌∙◌, ◌≡◌}
use Rattle.sqcheck.specs.declared.item.Task.TheVariants.{Node}
use Rattle.sqcheck.proofs.node.push_children.Goals as goal

pub cells-init : goal.cells-init
cells-init c = record {
  children = λ tree. subst (λ n. Pushes tree (ChildFrom c.args.page.now (node_in tree c.args.bounds.level c.args.bounds.low c.args.bounds.high) (n + 1)) c.args.stack.now.items c.args.stack.now.items) (sym c.len-left.ensures)
      (children_none tree c.args.page.now c.args.bounds.level c.args.bounds.low c.args.bounds.high c.args.stack.now.items);
  next = inl (c.len-left.ensures, c.unwrap_or-child.ensures ∙ ap (λ o. unwrap_or o 0) (c.right.ensures ∙ ap (λ z. if_present z (word c.args.page.now.used (head_at c.args.page.now.number + 8))) c.requires.interior), refl);
  within = omega (arith, c.len-left.ensures);
}

pub cells-preserved : goal.cells-preserved
cells-preserved c =
    let i = c.cells.invariant in
    let b = c.args.page.now in
    let lt : c.cells.left - 1 < cell_count c.args.page.now = omega (arith, i.within) in
    let up : c.cells.left ≡ suc (c.cells.left - 1) = omega arith in
    let it : Item = record { holder = c.args.number; page = c.cells.child; task = Node (c.args.bounds.level + 1) c.cell_with-cell.result.rowid c.cells.high } in
    let back : c.cells.left - 1 + 1 ≡ c.cells.left = omega arith in
    record {
      children = λ tree. subst (λ n. Pushes tree (ChildFrom c.args.page.now (node_in tree c.args.bounds.level c.args.bounds.low c.args.bounds.high) n) c.args.stack.now.items c.push.new.stack.items) (sym back)
          (child_more tree c.args.page.now c.args.bounds.level (c.args.bounds.level + 1) c.cells.left c.cells.child c.args.bounds.low c.args.bounds.high c.cell_with-cell.result.rowid c.cells.high c.args.stack.now.items c.cells.stack.items c.push.new.stack.items it
          i.next (inr (inl (c.cells.left - 1, c.cell_with-cell.result, up, (lt, c.cell_with-cell.ensures.cell), refl))) (let e : c.args.bounds.level + 1 ≡ suc c.args.bounds.level = omega arith in e)
          (ap (λ n. record { holder = n; page = c.cells.child; task = Node (c.args.bounds.level + 1) c.cell_with-cell.result.rowid c.cells.high }) c.requires.cells.0) c.in_ok-push.ensures.ok (i.children tree));
      next = inr (c.cell_with-cell.result, (lt, c.cell_with-cell.ensures.cell), c.unwrap_or-child-in-cells.ensures, refl);
      within = omega (arith, i.within);
    }

pub returns-clause-ok : goal.returns-clause-ok
returns-clause-ok c = on_ok _ _ c.push-2.result (λ pushed tree.
    let i = c.cells.invariant in
    let z : c.cells.left ≡ 0 = omega (arith, c.cells-test.false) in
    let it : Item = record { holder = c.args.number; page = c.cells.child; task = Node (c.args.bounds.level + 1) c.args.bounds.low c.cells.high } in
    let next : IsNext c.args.page.now c.args.bounds.high 0 c.cells.child c.cells.high = subst (λ n. IsNext c.args.page.now c.args.bounds.high n c.cells.child c.cells.high) z i.next in
    children_all tree c.args.page.now c.args.bounds.level c.args.bounds.low c.args.bounds.high c.args.stack.now.items c.push-2.new.stack.items
    (child_more tree c.args.page.now c.args.bounds.level (c.args.bounds.level + 1) 0 c.cells.child c.args.bounds.low c.args.bounds.high c.args.bounds.low c.cells.high c.args.stack.now.items c.cells.stack.items c.push-2.new.stack.items it
    next (inl (refl, refl)) (let e : c.args.bounds.level + 1 ≡ suc c.args.bounds.level = omega arith in e)
    (ap (λ n. record { holder = n; page = c.cells.child; task = Node (c.args.bounds.level + 1) c.args.bounds.low c.cells.high }) c.requires.cells.0) pushed
    (subst (λ n. Pushes tree (ChildFrom c.args.page.now (node_in tree c.args.bounds.level c.args.bounds.low c.args.bounds.high) (n + 1)) c.args.stack.now.items c.cells.stack.items) z (i.children tree)))) c.push-2.ensures.ok

pub returns-clause-leads : goal.returns-clause-leads
returns-clause-leads c = on_ok _ _ c.push-2.result (λ pushed d root leads.
    let z : c.cells.left ≡ 0 = omega (arith, c.cells-test.false) in
    let it : Item = record { holder = c.args.number; page = c.cells.child; task = Node (c.args.bounds.level + 1) c.args.bounds.low c.cells.high } in
    let next : IsNext c.args.page.now c.args.bounds.high 0 c.cells.child c.cells.high = subst (λ n. IsNext c.args.page.now c.args.bounds.high n c.cells.child c.cells.high) z c.cells.invariant.next in
    node_leads d root _ c.cells.stack.items c.push-2.new.stack.items it c.args.bounds.level (c.args.bounds.level + 1) c.args.bounds.low c.cells.high refl (let e : c.args.bounds.level + 1 ≡ suc c.args.bounds.level = omega arith in e)
    (first_is c.args.page.now c.args.bounds.high c.cells.child c.cells.high c.requires.interior next) pushed leads) c.push-2.ensures.ok

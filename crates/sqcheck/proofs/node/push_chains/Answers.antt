use Rattle.sqcheck.proofs.Between.{InCellFrom, Item, Link, Pushes, ap, arith, bytes_beyond, cell_count, chain_more, chain_not, chains_all, chains_none, link_leads, needs, refl, subst, sym, true, ◌+◌, ◌-◌, ◌<◌, ◌∙◌, ◌≡◌}
use Rattle.sqcheck.proofs.node.push_chains.Goals as goal

pub cells-init : goal.cells-init
cells-init c = record {
  chains = λ tree. subst (λ n. Pushes tree (InCellFrom c.args.page.now n) c.args.stack.now.items c.args.stack.now.items) (sym c.len-left.ensures) (chains_none tree c.args.page.now c.args.stack.now.items);
  leads = λ d root h. h;
  within = omega (arith, c.len-left.ensures);
}

pub cells-preserved-in-Continue-1 : goal.cells-preserved-in-Continue-1
cells-preserved-in-Continue-1 c =
    let i = c.cells.invariant in
    let back : c.cells.left - 1 + 1 ≡ c.cells.left = omega arith in
    let lt : c.cells.left - 1 < cell_count c.args.page.now = omega (arith, i.within) in
    let some : 0 < bytes_beyond c.cell_with-cell.result = (needs c.cell_with-cell.result c.cell_with-cell.ensures.least).0 (omega (arith, c.links_of-needed.ensures, c.if-needed-gt0.true)) in
    let it : Item = record { holder = c.args.number; page = c.cell_with-cell.result.overflow; task = Link c.args.number c.links_of-needed.result true } in
    record {
      chains = λ tree. chain_more tree c.args.page.now (c.cells.left - 1) c.cell_with-cell.result c.args.stack.now.items c.cells.stack.items c.push.new.stack.items it (lt, c.cell_with-cell.ensures.cell) some (omega (arith, c.links_of-needed.ensures, c.if-needed-gt0.true))
          (ap (λ n. record { holder = n; page = c.cell_with-cell.result.overflow; task = Link n c.links_of-needed.result true }) c.requires.number ∙ ap (λ n. record { holder = c.args.page.now.number; page = c.cell_with-cell.result.overflow; task = Link c.args.page.now.number n true }) c.links_of-needed.ensures)
          c.in_ok-push.ensures.ok (subst (λ n. Pushes tree (InCellFrom c.args.page.now n) c.args.stack.now.items c.cells.stack.items) (sym back) (i.chains tree));
      leads = λ d root h. link_leads d root c.cells.stack.items c.push.new.stack.items it c.args.number c.links_of-needed.result true refl c.in_ok-push.ensures.ok (i.leads d root h);
      within = omega (arith, i.within);
    }

pub cells-preserved : goal.cells-preserved
cells-preserved c =
    let i = c.cells.invariant in
    let back : c.cells.left - 1 + 1 ≡ c.cells.left = omega arith in
    let lt : c.cells.left - 1 < cell_count c.args.page.now = omega (arith, i.within) in
    let none : bytes_beyond c.cell_with-cell.result ≡ 0 = (needs c.cell_with-cell.result c.cell_with-cell.ensures.least).1 (omega (arith, c.links_of-needed.ensures, c.if-needed-gt0.false)) in
    record {
      chains = λ tree. chain_not tree c.args.page.now (c.cells.left - 1) c.cell_with-cell.result c.args.stack.now.items c.cells.stack.items (lt, c.cell_with-cell.ensures.cell) none
          (subst (λ n. Pushes tree (InCellFrom c.args.page.now n) c.args.stack.now.items c.cells.stack.items) (sym back) (i.chains tree));
      leads = i.leads;
      within = omega (arith, i.within);
    }

pub returns-clause-ok : goal.returns-clause-ok
returns-clause-ok c = λ tree. chains_all tree c.args.page.now c.args.stack.now.items c.cells.stack.items
    (subst (λ n. Pushes tree (InCellFrom c.args.page.now n) c.args.stack.now.items c.cells.stack.items) (let z : c.cells.left ≡ 0 = omega (arith, c.cells-test.false) in z) (c.cells.invariant.chains tree))

use Rattle.sqcheck.proofs.Facts.{IsLeafFrom, Item, Leaf, Pushes, arith, free_leads, leaf_count_in, leaf_more, leaves_none, refl, subst, sym, ◌+◌, ◌-◌, ◌<◌, ◌≡◌}
use Rattle.sqcheck.proofs.trunk.push_leaves.Goals as goal

pub leaves-init : goal.leaves-init
leaves-init c = record {
  leaves = λ tree. subst (λ n. Pushes tree (IsLeafFrom c.args.bytes.now c.args.trunk n) c.args.stack.now.items c.args.stack.now.items) (sym c.word_at-left.ensures) (leaves_none tree c.args.bytes.now c.args.trunk c.args.stack.now.items);
  leads = λ d root h. h;
  within = omega (arith, c.word_at-left.ensures);
}

pub leaves-preserved : goal.leaves-preserved
leaves-preserved c =
    let i = c.leaves.invariant in
    let back : c.leaves.left - 1 + 1 ≡ c.leaves.left = omega arith in
    let lt : c.leaves.left - 1 < leaf_count_in c.args.bytes.now = omega (arith, i.within) in
    let it : Item = record { holder = c.args.trunk; page = c.word_at.result; task = Leaf } in
    record {
      leaves = λ tree. leaf_more tree c.args.bytes.now c.args.trunk (c.leaves.left - 1) c.word_at.result c.args.stack.now.items c.leaves.stack.items c.push.new.stack.items it lt c.word_at.ensures refl c.in_ok-push.ensures.ok
          (subst (λ n. Pushes tree (IsLeafFrom c.args.bytes.now c.args.trunk n) c.args.stack.now.items c.leaves.stack.items) (sym back) (i.leaves tree));
      leads = λ d root h. free_leads d root c.leaves.stack.items c.push.new.stack.items it Leaf tt refl c.in_ok-push.ensures.ok (i.leads d root h);
      within = omega (arith, i.within);
    }

pub returns-clause-ok : goal.returns-clause-ok
returns-clause-ok c = λ tree. subst (λ n. Pushes tree (IsLeafFrom c.args.bytes.now c.args.trunk n) c.args.stack.now.items c.leaves.stack.items) (let z : c.leaves.left ≡ 0 = omega (arith, c.leaves-test.false) in z) (c.leaves.invariant.leaves tree)

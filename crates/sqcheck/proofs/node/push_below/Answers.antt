use Rattle.sqcheck.proofs.Between.{IsBelow, IsChild, ap, is_interior, node_in, on_ok, push_none, sym, true, ◌∙◌, ◌≡◌}
use Rattle.sqcheck.proofs.node.push_below.Goals as goal

pub returns-then-is_interior-clause-ok : goal.returns-then-is_interior-clause-ok
returns-then-is_interior-clause-ok c = on_ok _ _ c.push_children.result (λ pushes tree.
    let x = node_in tree c.args.bounds.level c.args.bounds.low c.args.bounds.high in
    let interior : is_interior c.args.page.now.kind ≡ true = ap is_interior (sym c.kind.ensures) ∙ sym c.is_interior.ensures ∙ c.if-is_interior.true in
    push_none tree (IsChild c.args.page.now x) (IsBelow c.args.page.now x) c.args.stack.now.items c.push_children.new.stack.items (pushes tree) (λ t h. (interior, h)) (λ t h. h.1)) c.push_children.ensures.ok

pub returns-then-is_interior-clause-leads : goal.returns-then-is_interior-clause-leads
returns-then-is_interior-clause-leads c = on_ok _ _ c.push_children.result (λ leads d root interior h. leads d root h) c.push_children.ensures.leads

use Rattle.sqcheck.proofs.Words.{Btree, IsRoleIn, ap, inl, inr, refl, role_of, subst, sym, ℕ, ⊎_elim}
use Rattle.sqcheck.proofs.walker.Reader.role_named.Goals as goal

pub returns-in_ok-kind-in-Node-clause-role : goal.returns-in_ok-kind-in-Node-clause-role
returns-in_ok-kind-in-Node-clause-role g c = λ right.
    let tree = c.args.tree.now in
    let kind = c.in_ok-kind-in-Node.kind in
    subst (λ t. IsRoleIn g.V.Snapshot.pages c.args.item.page (role_of tree t) (Btree kind tree.root)) (sym c.in-Node.is)
    (⊎_elim (λ has. inl (kind, has, refl)) (λ none. inr (none.0, ap (λ k. Btree k tree.root) none.1)) (c.in_ok-kind-in-Node.ensures.ok right))

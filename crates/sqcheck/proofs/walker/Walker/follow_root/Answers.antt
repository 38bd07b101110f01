use Rattle.sqcheck.proofs.Below.{Bool, Database, IsItemOf, IsRootAt, None, Root, Spot, StandsAt, ap, exits_as, false, kind_named, names_table, node, root_of_tree, sym, true, ◌∙◌, ◌≡◌}
use Rattle.sqcheck.specs.declared.item.Task.TheVariants as tasks
use Rattle.sqcheck.proofs.walker.Walker.follow_root.Goals as goal

-- the item of a root's tree
item_of : (d : Database) (root : Root) (s : Spot) (table : Bool) → IsRootAt d root s → table ≡ names_table d root.page
    → IsItemOf (record { root = root.page; table = table; schema = false }) (record { holder = root.holder; page = root.page; task = tasks.Node 1 None None }) s
item_of d root s table is e = record {
  page = is.page;
  stands = is.stands;
  role = is.role ∙ ap (root_of_tree d) (sym is.page) ∙ ap (λ b. node (record { tree = root.page; table = b; schema = false; level = 1; low = None; high = None })) (sym e);
  proper = tt;
  kind = sym (ap (kind_named s.place) is.role);
}

pub returns-clause-walks : goal.returns-clause-walks
returns-clause-walks g c = λ right visited rest s w is.
    c.follow_from.ensures.walks right true visited rest s w (item_of g.V.Snapshot.pages c.args.root s c.in_ok-table.table is (c.in_ok-table.ensures.ok right.0)) (λ on f. f)

pub returns-in_err-table-clause-walks : goal.returns-in_err-table-clause-walks
returns-in_err-table-clause-walks g c = λ right visited rest s w is.
    let h = c.in_err-table.ensures.source in
    exits_as _ (StandsAt g.V.Snapshot) c.in_err-table.field-0.0 c.from_residual.result c.from_residual.ensures.1
    (λ unread. h.1, λ read. absurd (read h.0))

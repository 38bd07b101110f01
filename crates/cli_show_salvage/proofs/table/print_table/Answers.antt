use Rattle.std.proofs.Common.{◌≡◌, ◌∙◌, Bool, Bor, List, ℕ, Option, Some, None, refl, subst}
use Rattle.std.specs.Prelude.{is_some}
use Rattle.std.proofs.lemmas.Result.{on_ok_weaker}
use Rattle.cli_row_text.specs.Inserts.{insert_text, rowid_name}
use Rattle.cli_schema_text.specs.Names.{column_names}
use Rattle.cli_show_salvage.specs.Scripts.{IsGoing}
use Rattle.cli_show_salvage.proofs.table.print_table.Goals as goal

still_some : (rowid : Option (Bor (List ℕ))) → is_some rowid ≡ is_some (rowid_name rowid)
still_some None = refl
still_some (Some _) = refl

pub returns-clause-ok : goal.returns-clause-ok
returns-clause-ok g c = λ right over.
    let columns = c.in-Ok.columns in
    let rowid = rowid_name c.rowid_name-rowid.result in
    let target = c.target_of-target.result in
    let insert = subst (λ (insert : List ℕ). IsGoing c.args.turn.encoding c.args.table.now columns insert c.is_some.result target.going) (c.deref.ensures.value ∙ c.in-Ok-insert_of.ensures.ok) c.target_of-target.ensures.goes in
    let text = insert_text c.args.table.now.name.items rowid (column_names columns.names.items) in
    let leads = c.is_some.ensures ∙ still_some c.rowid_name-rowid.result in
    on_ok_weaker c.print_tree.result (λ tree. record {
      columns = columns;
      known = c.in-Ok.ensures.ok;
      rowid = rowid;
      named = c.rowid_name-rowid.ensures;
      headed = g.W.Write.contents c.print_head.new.out;
      head = c.in-Ok-print_head.ensures.ok;
      target = target;
      lost_is = c.target_of-target.ensures.lost.0;
      placed = c.target_of-target.ensures.lost.1;
      encoded = c.target_of-target.ensures.lost.2;
      root_is = c.target_of-target.ensures.root;
      kind_is = c.target_of-target.ensures.table;
      goes = subst (λ (leads : Bool). IsGoing c.args.turn.encoding c.args.table.now columns text leads target.going) leads insert;
      begun = c.empty.new.self;
      emptied = c.empty.ensures;
      tree = tree;
    }) (c.print_tree.ensures.ok right over)

use Rattle.std.proofs.Common.{List, ℕ, ◌≡◌, ◌++◌, ◌∙◌, ap, map, refl, subst}
use Rattle.std.specs.Prelude.{Vec}
use Rattle.std.specs.declared.alloc.Global.{Global}
use Rattle.std.specs.Io.KnownBytes.{Appends}
use Rattle.cli_schema_text.specs.Names.{column_names, fallback_text}
use Rattle.cli_schema_text.specs.Texts.{printed_text}
use Rattle.cli_show_rows.proofs.texts.print_table_text.Goals as goal

pub returns-in-Ok-write_table-clause-ok : goal.returns-in-Ok-write_table-clause-ok
returns-in-Ok-write_table-clause-ok g c =
    let old = g.W.Write.contents c.args.out.now in
    let new = g.W.Write.contents c.write_table.new.out in
    let printed = c.in-Ok-judged_object.printed in
    let own = printed_text c.args.table.now.sql.items printed in
    let name = c.args.table.now.name.items in
    let columns = c.in-Ok.columns in
    let names : List (List ℕ) = column_names columns.names.items in
    let called = c.in-Ok-column_names.ensures ∙ ap (λ (ns : List (Vec ℕ Global)). column_names ns) c.as_slice.ensures.value in
    let sliced = subst (λ (ns : List (Vec ℕ Global)). Appends old new (own ++ fallback_text name (map (λ n. n.items) ns))) c.as_slice-2.ensures.value c.in-Ok-write_table.ensures in
    let written = subst (λ (ns : List (List ℕ)). Appends old new (own ++ fallback_text name ns)) called sliced in
    (own ++ fallback_text name names, (own, columns, (printed, c.in-Ok-judged_object.ensures, refl), c.in-Ok.ensures.ok, refl), written)

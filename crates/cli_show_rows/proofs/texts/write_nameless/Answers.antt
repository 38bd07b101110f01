use Rattle.std.proofs.Common.{List, ℕ, ◌++◌, subst}
use Rattle.std.specs.Io.KnownBytes.{Appends}
use Rattle.std.proofs.KnownBytes.{Appends-trans}
use Rattle.cli_schema_text.specs.Comments.{unnamed_text}
use Rattle.cli_schema_text.specs.Texts.{printed_text}
use Rattle.cli_show_rows.proofs.TablesStopped.{on_ok}
use Rattle.cli_show_rows.proofs.texts.write_nameless.Goals as goal

pub returns : goal.returns
returns g c =
    let old = g.W.Write.contents c.args.out.now in
    let mid = g.W.Write.contents c.write_printed.new.out in
    let new = g.W.Write.contents c.write_unnamed.new.out in
    let printed = c.args.printed.now in
    let own = printed_text c.args.table.now.sql.items printed in
    let name = c.args.table.now.name.items in
    let first = subst (λ (b : List ℕ). Appends old mid (printed_text b printed)) c.as_slice.ensures.value c.in_ok-write_printed.ensures in
    on_ok c.write_unnamed.result (Appends mid new (unnamed_text c.as_slice-2.result.now)) (Appends old new (own ++ unnamed_text name))
    (λ last. Appends-trans old mid new own (unnamed_text name) first (subst (λ (b : List ℕ). Appends mid new (unnamed_text b)) c.as_slice-2.ensures.value last)) c.write_unnamed.ensures

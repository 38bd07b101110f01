use Rattle.std.proofs.Common.{List, ℕ, ◌≡◌, ◌∙◌, refl, subst, sym}
use Rattle.std.specs.Io.KnownBytes.{Appends}
use Rattle.cli_schema_text.specs.Texts.{printed_text}
use Rattle.cli_show_rows.specs.Dumps.{IsSchemaRow, IsVirtualText, is_row}
use Rattle.cli_show_rows.proofs.Cases.{when_false, when_true}
use Rattle.cli_show_rows.proofs.TablesStopped.{on_ok}
use Rattle.cli_show_rows.proofs.texts.print_virtual_text.Goals as goal

pub returns-then-is_row-clause-ok : goal.returns-then-is_row-clause-ok
returns-then-is_row-clause-ok g c =
    let old = g.W.Write.contents c.args.out.now in
    let new = g.W.Write.contents c.print_schema_row.new.out in
    let o = c.args.object.now in
    let p = c.in-Ok.printed in
    let is = sym c.is_row.ensures ∙ c.if-is_row.true in
    on_ok c.print_schema_row.result ((t : List ℕ) × IsSchemaRow c.args.encoding o t × Appends old new t) ((t : List ℕ) × IsVirtualText c.args.encoding o t × Appends old new t)
    (λ it. (it.0, (p, c.in-Ok.ensures, when_true (is_row p) (IsSchemaRow c.args.encoding o it.0) (it.0 ≡ printed_text o.sql.items p) is it.1), it.2)) c.print_schema_row.ensures.ok

pub returns-in-Ok-write_printed-clause-ok : goal.returns-in-Ok-write_printed-clause-ok
returns-in-Ok-write_printed-clause-ok g c =
    let old = g.W.Write.contents c.args.out.now in
    let new = g.W.Write.contents c.write_printed.new.out in
    let o = c.args.object.now in
    let p = c.in-Ok.printed in
    let text = printed_text o.sql.items p in
    let isnt = sym c.is_row.ensures ∙ c.if-is_row.false in (
      text,
      (p, c.in-Ok.ensures, when_false (is_row p) (IsSchemaRow c.args.encoding o text) (text ≡ text) isnt refl),
      subst (λ (b : List ℕ). Appends old new (printed_text b p)) c.as_slice.ensures.value c.in-Ok-write_printed.ensures,
    )

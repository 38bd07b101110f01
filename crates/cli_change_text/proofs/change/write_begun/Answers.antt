use Rattle.std.proofs.Common.{List, ℕ}
use Rattle.sqval.specs.Datum.{row_of}
use Rattle.sqrows.specs.Rows.{Row}
use Rattle.cli_change_text.specs.Changes.{IsOneText}
use Rattle.cli_change_text.proofs.Answered.{behind}
use Rattle.cli_change_text.proofs.change.write_begun.Goals as goal

pub returns : goal.returns
returns g c =
    let style = c.args.style in
    let row : Row = record { rowid = c.args.row.now.rowid; values = c.args.row.now.values } in
    behind c.write_one.result (λ (own : List ℕ). IsOneText style.encoding style.writing style.head.now style.columns.now style.leads style.key c.args.comes row (row_of c.args.values.now) own)
    (g.W.Write.contents c.args.out.now) (g.W.Write.contents c.write_all.new.self) (g.W.Write.contents c.write_one.new.out) style.before.now c.in_ok-write_all.ensures.bytes c.write_one.ensures

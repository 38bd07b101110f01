use Rattle.std.proofs.Common.{◌++◌, List, ℕ, codes, refl, subst}
use Rattle.std.specs.Io.KnownBytes.{Appends}
use Rattle.std.proofs.KnownBytes.{Appends-trans}
use Rattle.sqval.specs.Datum.{row_of}
use Rattle.sqrows.specs.Rows.{Row}
use Rattle.cli_change_text.specs.declared.style.Naming.TheVariants.{InLine}
use Rattle.cli_change_text.specs.Names.{IsRowName, names_of}
use Rattle.cli_change_text.specs.Changes.{IsLineOf}
use Rattle.cli_change_text.proofs.Answered.{on_ok}
use Rattle.cli_change_text.proofs.one.write_row.Goals as goal

pub returns : goal.returns
returns g c =
    let old = g.W.Write.contents c.args.out.now in
    let signed = g.W.Write.contents c.write_all.new.self in
    let named = g.W.Write.contents c.write_row_name.new.out in
    let parted = g.W.Write.contents c.write_all-2.new.self in
    let mid = g.W.Write.contents c.write_values.new.out in
    let new = g.W.Write.contents c.write_all-3.new.self in
    let style = c.args.style in
    let names = names_of style.columns.now in
    let row : Row = record { rowid = c.args.row.now.rowid; values = c.args.row.now.values } in
    let sign = c.args.sign.now in
    let n = c.in_ok-write_row_name.ensures in
    let name = n.0 in
    let e = rw c.deref.ensures.value at c.in_ok-write_values.ensures in
    let first = subst (Appends old signed) c.as_bytes.ensures.value c.in_ok-write_all.ensures.bytes in
    on_ok c.write_all-3.result (Appends mid new (codes "\n")) ((t : List ℕ) × ((name : List ℕ) × IsRowName style.encoding InLine style.columns.now style.key row name × IsLineOf style.encoding sign names name (row_of c.args.values.now) t) × Appends old new t)
    (λ last. (
      sign ++ (name ++ (codes ": " ++ (e.0 ++ codes "\n"))),
      (name, n.1, (e.0, e.1, refl)),
      Appends-trans old signed new sign (name ++ (codes ": " ++ (e.0 ++ codes "\n"))) first
          (Appends-trans signed named new name (codes ": " ++ (e.0 ++ codes "\n")) n.2
          (Appends-trans named parted new (codes ": ") (e.0 ++ codes "\n") c.in_ok-write_all-2.ensures.bytes (Appends-trans parted mid new e.0 (codes "\n") e.2 last))),
    )) c.write_all-3.ensures.bytes

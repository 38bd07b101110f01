use Rattle.std.proofs.Common.{◌++◌, List, ℕ, codes, refl}
use Rattle.std.specs.Io.KnownBytes.{Appends}
use Rattle.std.proofs.KnownBytes.{Appends-trans}
use Rattle.sqrows.specs.Rows.{Row}
use Rattle.cli_change_text.specs.declared.style.Writing.TheVariants.{Line}
use Rattle.cli_change_text.specs.Changes.{IsChangedText}
use Rattle.cli_change_text.proofs.Answered.{on_ok}
use Rattle.cli_change_text.proofs.change.write_changed_line.Goals as goal

pub returns : goal.returns
returns g c =
    let o0 = g.W.Write.contents c.args.out.now in
    let o1 = g.W.Write.contents c.write_all.new.self in
    let o2 = g.W.Write.contents c.write_row_name.new.out in
    let o3 = g.W.Write.contents c.write_all-2.new.self in
    let o4 = g.W.Write.contents c.write_differences.new.out in
    let o5 = g.W.Write.contents c.write_all-3.new.self in
    let style = c.args.style in
    let was : Row = record { rowid = c.args.old.now.rowid; values = c.args.old.now.values } in
    let is : Row = record { rowid = c.args.new.now.rowid; values = c.args.new.now.values } in
    let n = c.in_ok-write_row_name.ensures in
    let name = n.0 in
    let e = c.in_ok-write_differences.ensures in
    on_ok c.write_all-3.result (Appends o4 o5 (codes "\n")) ((t : List ℕ) × IsChangedText style.encoding Line style.head.now style.columns.now style.leads style.key was is t × Appends o0 o5 t)
    (λ last. (
      codes "~ " ++ (name ++ (codes ": " ++ (e.0 ++ codes "\n"))),
      (name, e.0, n.1, e.1, refl),
      Appends-trans o0 o1 o5 (codes "~ ") (name ++ (codes ": " ++ (e.0 ++ codes "\n"))) c.in_ok-write_all.ensures.bytes
          (Appends-trans o1 o2 o5 name (codes ": " ++ (e.0 ++ codes "\n")) n.2
          (Appends-trans o2 o3 o5 (codes ": ") (e.0 ++ codes "\n") c.in_ok-write_all-2.ensures.bytes (Appends-trans o3 o4 o5 e.0 (codes "\n") e.2 last))),
    )) c.write_all-3.ensures.bytes

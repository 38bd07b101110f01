use Rattle.std.proofs.Common.{◌≡◌, ◌∙◌, ◌++◌, Bool, [], OnOk, codes, false, subst, sym}
use Rattle.std.specs.Prelude.{if◌then◌else◌}
use Rattle.std.specs.Io.KnownBytes.{Appends}
use Rattle.std.specs.Str.{str_eq_ignore_ascii_case}
use Rattle.std.proofs.KnownBytes.{Appends-trans}
use Rattle.cli_row_text.specs.Lines.{between_marks}
use Rattle.cli_show_diff.proofs.Answered.{on_ok}
use Rattle.cli_show_diff.proofs.pair.write_drop.Goals as goal

pub returns : goal.returns
returns g c =
    let old = g.W.Write.contents c.args.out.now in
    let begun = g.W.Write.contents c.write_all.new.self in
    let named = g.W.Write.contents c.write_between.new.out in
    let new = g.W.Write.contents c.write_all-2.new.self in
    let name = between_marks 34 c.args.table.now in
    let text = codes "DROP TABLE " ++ (name ++ codes ";\n") in
    let other : str_eq_ignore_ascii_case c.args.table.now (codes "sqlite_sequence") ≡ false = sym c.is_sequence.ensures ∙ c.if-is_sequence.false in
    let all = on_ok c.write_all-2.result (Appends named new (codes ";\n")) (Appends old new text)
    (λ last. Appends-trans old begun new (codes "DROP TABLE ") (name ++ codes ";\n") c.in_ok-write_all.ensures.bytes (Appends-trans begun named new name (codes ";\n") c.in_ok-write_between.ensures last))
    c.write_all-2.ensures.bytes in
    subst (λ (b : Bool). OnOk c.write_all-2.result (Appends old new (if b then [] else text))) (sym other) all

use Rattle.std.proofs.Common.{◌++◌, List, ℕ, subst}
use Rattle.std.specs.Prelude.{OnOk}
use Rattle.std.specs.Io.KnownBytes.{Appends}
use Rattle.std.proofs.KnownBytes.{Appends-trans}
use Rattle.cli_dump.specs.Elements.{element_text}
use Rattle.cli_report.proofs.PagesWhole.{on_ok}
use Rattle.cli_report.proofs.pages.write_kept.Goals as goal

pub returns : goal.returns
returns g c =
    let old = g.W.Write.contents c.args.out.now in
    let first = g.W.Write.contents c.write_all.new.self in
    let mid = g.W.Write.contents c.write_element.new.out in
    let new = g.W.Write.contents c.write_all-2.new.self in
    let head = c.args.template.now.changes_head.now in
    let tail = c.args.template.now.changes_tail.now in
    let element = element_text c.args.kept.now in
    let begun = subst (Appends old first) c.as_bytes.ensures.value c.in_ok-write_all.ensures.bytes in
    on_ok c.write_all-2.result (Appends mid new tail) (Appends old new (head ++ (element ++ tail)))
    (λ last. Appends-trans old first new head (element ++ tail) begun (Appends-trans first mid new element tail c.in_ok-write_element.ensures last))
    (subst (λ (text : List ℕ). OnOk c.write_all-2.result (Appends mid new text)) c.as_bytes-2.ensures.value c.write_all-2.ensures.bytes)

use Rattle.std.proofs.Common.{◌++◌, List, ℕ, refl, subst}
use Rattle.std.specs.Prelude.{OnOk}
use Rattle.std.specs.Io.KnownBytes.{Appends}
use Rattle.cli_show.specs.Reports.{report_text}
use Rattle.cli_report.specs.Pages.{changes_text}
use Rattle.cli_report.specs.internal.Pages.{AppendsPage}
use Rattle.cli_report.proofs.PagesWhole.{appends_four, facts_in, on_ok}
use Rattle.cli_report.proofs.pages.write_html.Goals as goal

pub returns : goal.returns
returns g c =
    let template = c.args.template.now in
    let shown = c.args.shown.now in
    let file = c.args.file.now in
    let old = g.W.Write.contents c.args.out.now in
    let first = g.W.Write.contents c.write_all.new.self in
    let second = g.W.Write.contents c.write_report_facts.new.out in
    let third = g.W.Write.contents c.write_changes.new.out in
    let new = g.W.Write.contents c.write_all-2.new.self in
    let changes = changes_text template shown.changes in
    let begun = subst (Appends old first) c.as_bytes.ensures.value c.in_ok-write_all.ensures.bytes in
    on_ok c.write_all-2.result (Appends third new template.tail.now) (AppendsPage template file shown old new)
    (λ last limits at wal journal is.
    let facts = facts_in limits at wal journal template.version.now file shown.facts first second c.in_ok-write_report_facts.ensures is in
    let report = report_text template.version.now file shown.facts facts.0 in (
      template.head.now ++ (report ++ (changes ++ template.tail.now)),
      (facts.0, facts.1, refl),
      appends_four old first second third new template.head.now report changes template.tail.now begun facts.2 c.in_ok-write_changes.ensures last,
    )) (subst (λ (text : List ℕ). OnOk c.write_all-2.result (Appends third new text)) c.as_bytes-2.ensures.value c.write_all-2.ensures.bytes)

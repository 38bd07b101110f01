use Rattle.std.proofs.Common.{Option, subst, sym}
use Rattle.std.specs.Prelude.{OnOk}
use Rattle.std.specs.Io.KnownBytes.{Appends}
use Rattle.cli_dump.specs.declared.kept.Kept.{Kept}
use Rattle.cli_report.specs.Pages.{changes_text}
use Rattle.std.proofs.KnownBytes.{Appends-nil}
use Rattle.cli_report.proofs.pages.write_changes.Goals as goal

pub returns-in-Some : goal.returns-in-Some
returns-in-Some g c =
    let old = g.W.Write.contents c.args.out.now in
    let new = g.W.Write.contents c.write_kept.new.out in
    subst (λ (changes : Option Kept). OnOk c.write_kept.result (Appends old new (changes_text c.args.template.now changes))) (sym c.in-Some.is) c.write_kept.ensures

pub returns-in-None : goal.returns-in-None
returns-in-None g c =
    let old = g.W.Write.contents c.args.out.now in
    subst (λ (changes : Option Kept). Appends old old (changes_text c.args.template.now changes)) (sym c.in-None.is) (Appends-nil old)

use Rattle.std.proofs.Common.{subst, sym}
use Rattle.cli_show.specs.Contents.{contents_of}
use Rattle.cli_report.proofs.DiffsOfFiles.{deleted_shown, rows_shown}
use Rattle.cli_report.specs.Diffs.{ShowsBetween}
use Rattle.cli_report.specs.declared.difference.Difference.{Difference}
use Rattle.cli_report.proofs.diffs.show_between.Goals as goal

pub returns-in-Rows : goal.returns-in-Rows
returns-in-Rows g c = λ given also.
    let from = contents_of g.F.FileBytes.bytes c.args.from in
    let to = contents_of g.F.FileBytes.bytes c.args.to in
    let found = c.show_changes.result in
    subst (λ (d : Difference). ShowsBetween c.args.options d from to found) (sym c.in-Rows.is)
    (rows_shown c.args.options from to (g.W.Write.contents c.args.out.now) (g.W.Write.contents c.show_changes.new.out) c.in-Rows.compared found
    (c.show_changes.ensures.shown given also) (c.show_changes.ensures.refused given also))

pub returns-in-Deleted : goal.returns-in-Deleted
returns-in-Deleted g c = λ given also.
    let from = contents_of g.F.FileBytes.bytes c.args.from in
    let to = contents_of g.F.FileBytes.bytes c.args.to in
    let found = c.show_deleted_changes.result in
    subst (λ (d : Difference). ShowsBetween c.args.options d from to found) (sym c.in-Deleted.is)
    (deleted_shown c.args.options from to (g.W.Write.contents c.args.out.now) (g.W.Write.contents c.show_deleted_changes.new.out) c.in-Deleted.between found
    (c.show_deleted_changes.ensures.shown given also) (c.show_deleted_changes.ensures.refused given also))

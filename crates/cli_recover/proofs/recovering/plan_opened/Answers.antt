use Rattle.std.proofs.Common.{inr}
use Rattle.cli_files.specs.Files.{opened_bytes}
use Rattle.cli_files.specs.declared.opened_file.OpenedFile.{OpenedFile}
use Rattle.cli_show.specs.declared.contents.Contents.{Contents}
use Rattle.cli_job.specs.Opened.{GivesBytes}
use Rattle.cli_job.specs.declared.metered.Metered.{Metered}
use Rattle.cli_recover.specs.declared.recovering.Planned.{Planned}
use Rattle.cli_recover.proofs.RecoveredFiles.{planned_by, unplanned_by}
use Rattle.cli_recover.proofs.recovering.plan_opened.Goals as goal

pub returns-in-Ok-planned_in-clause-planned : goal.returns-in-Ok-planned_in-clause-planned
returns-in-Ok-planned_in-clause-planned g c =
    let bytes = opened_bytes g.R.File.SystemFile.bytes in
    let gives = GivesBytes g.R.File.SystemFile.bytes g.R.File.SystemFile.keeps_word g.R.File.SystemFile.never_fails in
    let source = c.args.job.now.source.now in
    let metered : Contents (Metered (OpenedFile g.row.R-File.Denot) g.row.M.Denot) = record { db = c.new-2.result; wal = c.new-3.result; journal = c.new-4.result } in
    planned_by bytes gives c.args.in_use c.args.logs.0 c.args.logs.1 metered c.new-3.ensures c.new-4.ensures (λ (p : Planned g.row.R-File.Denot). p.plan) source.paths source.options
    c.new.result c.len-length.result c.in-Ok-planned_in.plan c.planned_of.result c.new-2.ensures c.new.ensures c.in-Ok-planned_in.ensures c.planned_of.ensures.plan

pub returns-in-Err-planned_in-clause-refused : goal.returns-in-Err-planned_in-clause-refused
returns-in-Err-planned_in-clause-refused g c =
    let bytes = opened_bytes g.R.File.SystemFile.bytes in
    let gives = GivesBytes g.R.File.SystemFile.bytes g.R.File.SystemFile.keeps_word g.R.File.SystemFile.never_fails in
    let source = c.args.job.now.source.now in
    let metered : Contents (Metered (OpenedFile g.row.R-File.Denot) g.row.M.Denot) = record { db = c.new-2.result; wal = c.new-3.result; journal = c.new-4.result } in
    inr (unplanned_by bytes gives c.args.in_use c.args.logs.0 c.args.logs.1 metered c.new-3.ensures c.new-4.ensures source.paths source.options
    c.new.result c.len-length.result c.in-Err-planned_in.refusal c.new-2.ensures c.new.ensures c.in-Err-planned_in.ensures)

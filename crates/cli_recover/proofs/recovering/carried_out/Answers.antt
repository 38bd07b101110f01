use Rattle.std.proofs.Common.{inl, inr, ⊎_elim}
use Rattle.cli_files.specs.Files.{opened_bytes}
use Rattle.cli_job.specs.Opened.{GivesBytes}
use Rattle.cli_recover.proofs.RecoveredFiles.{done_on, undone_on}
use Rattle.cli_recover.proofs.recovering.carried_out.Goals as goal

pub returns-in-Ok-clause-carried : goal.returns-in-Ok-clause-carried
returns-in-Ok-clause-carried g c =
    let bytes = opened_bytes g.R.File.SystemFile.bytes in
    let gives = GivesBytes g.R.File.SystemFile.bytes g.R.File.SystemFile.keeps_word g.R.File.SystemFile.never_fails in
    let source = c.args.job.now.source.now in
    done_on bytes gives g.D.Over.is_over g.D.Disk.keeps_word g.D.Disk.state (g.G.Gate.lets_change c.args.guard) source.paths source.options c.args.in_use c.args.logs.0 c.args.logs.1
    c.in-Ok.planned.db c.in_ok-db.log c.in-Ok.planned.plan c.carried_out_on.result c.in-Ok.ensures.planned c.carried_out_on.ensures.disk c.carried_out_on.ensures.outcome

pub returns-in-Ok-clause-refused : goal.returns-in-Ok-clause-refused
returns-in-Ok-clause-refused g c =
    let bytes = opened_bytes g.R.File.SystemFile.bytes in
    let gives = GivesBytes g.R.File.SystemFile.bytes g.R.File.SystemFile.keeps_word g.R.File.SystemFile.never_fails in
    let source = c.args.job.now.source.now in
    undone_on bytes gives source.paths source.options c.args.in_use c.args.logs.0 c.args.logs.1
    c.in-Ok.planned.plan c.carried_out_on.result c.in-Ok.ensures.planned c.carried_out_on.ensures.refused

pub returns-in-Err-clause-refused : goal.returns-in-Err-clause-refused
returns-in-Err-clause-refused g c = ⊎_elim (λ s. inl (inr s)) (λ u. inr (inl u)) c.in-Err.ensures.refused

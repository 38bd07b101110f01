use Rattle.cli_show.proofs.RunsInOrder.{run_more}
use Rattle.cli_show.proofs.report.write_runs.Goals as goal

pub loop-run-preserved : goal.loop-run-preserved
loop-run-preserved g c =
    run_more c.args.runs.now c.loop-run.run-index c.loop-run.first c.saturating_add-first.result _ (g.W.Write.contents c.args.out.now)
    (g.W.Write.contents c.loop-run.out) (g.W.Write.contents c.write_run.new.out) c.loop-run-test.true c.saturating_add-first.ensures
    c.in_ok-write_run.ensures c.loop-run.invariant

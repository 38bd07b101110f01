use Rattle.std.proofs.Common.{subst}
use Rattle.cli_show.specs.internal.LogsShown.{IsShownLog}
use Rattle.cli_show.specs.declared.logs.Shown.{Shown}
use Rattle.cli_show.proofs.AskedFronts.{log_shown, none_shown}
use Rattle.cli_show.proofs.logs.Shown.front.Goals as goal

pub returns-in-Wal : goal.returns-in-Wal
returns-in-Wal c = λ limits wal journal is.
    let shown = subst (λ (s : Shown). IsShownLog limits wal journal s) c.in-Wal.is is in
    log_shown wal journal c.of_scan.result shown.0 (c.of_scan.ensures limits.frames wal shown.1)

pub returns-in-Neither : goal.returns-in-Neither
returns-in-Neither c = λ limits wal journal is. none_shown limits wal journal c.args.self.now c.in-Neither.is is

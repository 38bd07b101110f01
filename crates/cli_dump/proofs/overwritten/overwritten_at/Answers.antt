use Rattle.std.proofs.Common.{subst}
use Rattle.cli_show.specs.LogsShown.{IsLogFound}
use Rattle.cli_show.specs.declared.logs.LogFound.{LogFound}
use Rattle.cli_history.specs.History.{bytes_of}
use Rattle.cli_dump.proofs.OverwrittenCommits.{none_beside, none_without}
use Rattle.cli_dump.proofs.overwritten.overwritten_at.Goals as goal

pub returns-in-Wal : goal.returns-in-Wal
returns-in-Wal g c = λ right.
    let files = bytes_of g.F.FileBytes.bytes c.args.files in
    let log = subst (λ (l : LogFound). IsLogFound c.args.limits files.wal files.journal l) c.in-Wal.is (c.in-Ok.ensures right) in
    c.overwritten_in.ensures right log.1 log.0

pub returns-in-None : goal.returns-in-None
returns-in-None g c = λ right.
    let files = bytes_of g.F.FileBytes.bytes c.args.files in
    none_without c.args.limits files c.args.at (subst (λ (l : LogFound). IsLogFound c.args.limits files.wal files.journal l) c.in-None.is (c.in-Ok.ensures right))

pub returns : goal.returns
returns g c = λ right.
    let files = bytes_of g.F.FileBytes.bytes c.args.files in
    let log = subst (λ (l : LogFound). IsLogFound c.args.limits files.wal files.journal l) c.in-Journal.is (c.in-Ok.ensures right) in
    none_beside c.args.limits files c.args.at log.0

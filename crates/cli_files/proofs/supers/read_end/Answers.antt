use Rattle.std.proofs.Common.{◌≡◌, length, ap, ◌∙◌, arith}
use Rattle.std.specs.Prelude.{◌-◌}
use Rattle.cli_files.specs.Files.{opened_bytes}
use Rattle.cli_files.proofs.EndsOfJournals.{end_filled}
use Rattle.cli_files.proofs.supers.read_end.Goals as goal

pub returns : goal.returns
returns g c = λ steady within enough.
    let b = opened_bytes g.F.SystemFile.bytes c.args.journal.now in
    let n = length c.args.end.now in
    let at : c.saturating_sub-at.result ≡ length b - n = omega (arith, c.saturating_sub-at.ensures, c.len.ensures.count steady) in
    end_filled c.fill.result b c.fill.new.out n c.saturating_sub-at.result within enough at (c.fill.ensures.read steady)

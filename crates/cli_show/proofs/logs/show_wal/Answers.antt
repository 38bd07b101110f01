use Rattle.std.proofs.Common.{inl, refl, subst}
use Rattle.std.specs.Prelude.{Ok, Result}
use Rattle.sqval.specs.Limits.{Bounds}
use Rattle.sqwal.specs.Took.{TookWithin}
use Rattle.sqwal.specs.declared.error.WalFormatError.{WalFormatError}
use Rattle.sqwal.specs.declared.scan.Scan.{Scan}
use Rattle.cli_text.specs.Logs.{log_text}
use Rattle.cli_show.specs.Limits.{limits_named}
use Rattle.cli_show.specs.Logs.{ScanFound}
use Rattle.cli_show.proofs.logs.show_wal.Goals as goal

pub returns-in-Ok-write_log-clause-text : goal.returns-in-Ok-write_log-clause-text
returns-in-Ok-write_log-clause-text g c = λ given.
    let wal = g.F.FileBytes.bytes c.args.wal.now in
    let limits = limits_named c.args.options.large in
    let found = subst (λ (r : Result Scan WalFormatError). ScanFound c.limits_of.result wal (Ok r)) c.in-Ok.is (c.in_ok-scan.ensures.found given) in
    let took = subst (λ (l : Bounds). TookWithin l.frames wal c.in-Ok.scan) c.limits_of.ensures found in
    let shown = c.in-Ok-write_log.ensures limits.frames wal took in
    (log_text c.args.options.style shown.0, inl (shown.0, shown.1, refl), shown.2)

use Rattle.std.proofs.Common.{sym, subst}
use Rattle.std.specs.Prelude.{Option}
use Rattle.cli_facts.specs.Fronts.{IsLogFront}
use Rattle.cli_facts.specs.declared.fronts.Front.{Front}
use Rattle.cli_facts.proofs.LogFronts.{short_front, log_front}
use Rattle.cli_facts.proofs.fronts.Front.of_scan.Goals as goal

pub returns-in_err-header : goal.returns-in_err-header
returns-in_err-header c = λ most wal took.
    subst (λ (o : Option Front). IsLogFront wal o) (sym c.from_residual.ensures) (short_front wal (c.in_err-header.ensures most wal took))

pub returns : goal.returns
returns c = λ most wal took.
    log_front wal c.committed.result.frames c.in_ok-header.field-0.page_size c.at.result (c.committed.ensures most wal took).front
    (sym (c.in_ok-header.ensures most wal took).1.valid.named) c.at.ensures

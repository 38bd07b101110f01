use Rattle.std.proofs.Common.{inl, inr, refl, subst}
use Rattle.cli_show.specs.LogsShown.{IsLogFound}
use Rattle.cli_show.specs.declared.logs.LogFound.{LogFound}
use Rattle.cli_history.specs.History.{bytes_of}
use Rattle.cli_dump.proofs.begin.first_commit.Goals as goal

pub returns-in-Ok-first_shown-clause-first : goal.returns-in-Ok-first_shown-clause-first
returns-in-Ok-first_shown-clause-first g c = λ given.
    let files = bytes_of g.F.FileBytes.bytes c.args.files in
    let log = subst (λ (l : LogFound). IsLogFound c.args.limits files.wal files.journal l) c.in-Wal.is (c.in-Ok.ensures given) in
    inr (c.in-Ok-first_shown.ensures.first given log.1 log.0)

pub returns-in-Wal-clause-refused : goal.returns-in-Wal-clause-refused
returns-in-Wal-clause-refused g c = λ given.
    let files = bytes_of g.F.FileBytes.bytes c.args.files in
    let log = subst (λ (l : LogFound). IsLogFound c.args.limits files.wal files.journal l) c.in-Wal.is (c.in-Ok.ensures given) in
    inr (c.in-Err-first_shown.error, c.in-Err-first_shown.ensures.refused given log.1 log.0, c.from.ensures)

pub returns-in-None-clause-first : goal.returns-in-None-clause-first
returns-in-None-clause-first g c = λ given.
    let files = bytes_of g.F.FileBytes.bytes c.args.files in
    let log = subst (λ (l : LogFound). IsLogFound c.args.limits files.wal files.journal l) c.in-None.is (c.in-Ok.ensures given) in
    inl (inr log.1, refl)

pub returns-clause-first : goal.returns-clause-first
returns-clause-first g c = λ given.
    let files = bytes_of g.F.FileBytes.bytes c.args.files in
    let log = subst (λ (l : LogFound). IsLogFound c.args.limits files.wal files.journal l) c.in-Journal.is (c.in-Ok.ensures given) in
    inl (inl log.0, refl)

pub returns-in-Err-clause-refused : goal.returns-in-Err-clause-refused
returns-in-Err-clause-refused g c = λ given. inl (c.in-Err.ensures given)

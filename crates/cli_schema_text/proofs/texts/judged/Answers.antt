use Rattle.std.proofs.Common.{None, refl}
use Rattle.schema_print.specs.Printable.{IsPrinted}
use Rattle.schema_print.specs.declared.refusals.Row.{Row}
use Rattle.cli_schema_text.specs.Texts.{IsJudged}
use Rattle.cli_schema_text.proofs.Answered.{if_ok}
use Rattle.cli_schema_text.proofs.texts.judged.Goals as goal

pub returns : goal.returns
returns c =
    let row : Row = record { kind = c.args.kind; name = c.args.name; table = None } in
    if_ok c.printable.result (λ p. IsPrinted c.args.sql.now row p) (λ p. IsJudged c.args.kind.now c.args.name.now c.args.sql.now p)
    (λ p is. (row, record { kind = refl; name = refl; table = refl }, is)) c.printable.ensures

use Rattle.std.proofs.Common.{rules, ◌≡◌, List, ◌++◌, sym, subst}
use Rattle.std.specs.Prelude.{option_to_list}
use Rattle.sqjournal.specs.Reading.{Stands}
use Rattle.sqjournal.specs.declared.reading.Record.{Record}
use Rattle.sqjournal.proofs.pieces.take_next.Goals as goal
use Rattle.sqjournal.proofs.pieces.take_next.Goals.{in-Some+in_ok-push, in_default}

pub returns-clause-stands : goal.returns-clause-stands
returns-clause-stands c =
    let grown : c.match-record.records.items ≡ c.args.records.now.items ++ option_to_list c.after-next.result.1 =
    elim c.match-record.branch [ in-Some+in_ok-push w ↦ search rules | in_default w ↦ search rules ] in
    λ b s is. subst (λ (l : List Record). Stands b c.after-next.result.0 l) (sym grown) (c.after-next.ensures.stands b c.args.records.now.items s is)

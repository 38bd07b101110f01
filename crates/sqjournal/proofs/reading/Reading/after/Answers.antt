use Rattle.std.proofs.Common.{List, sym, subst}
use Rattle.std.proofs.lemmas.List.{append-nil}
use Rattle.sqjournal.specs.Reading.{Stands}
use Rattle.sqjournal.specs.declared.reading.Record.{Record}
use Rattle.sqjournal.proofs.reading.Reading.after.Goals as goal

pub returns-in-NewSegment-clause-stands : goal.returns-in-NewSegment-clause-stands
returns-in-NewSegment-clause-stands c = λ b es s is.
    subst (λ (l : List Record). Stands b c.after_header.result l) (sym (append-nil es)) (c.after_header.ensures.stands b es s is)

use Rattle.std.proofs.Common.{ap}
use Rattle.sqjournal.specs.declared.reading.Record.{Record as Entry}
use Rattle.sqrescue_c.proofs.CopiedRecords.{at_some, at_none}
use Rattle.sqrescue_c.proofs.journal.record_at.Goals as goal

pub returns-in-Some : goal.returns-in-Some
returns-in-Some c = λ b es stop took says n is.
    let same = at_some b es stop says c.args.i n c.in-Some.record (c.in-Some.ensures b took) is in
    record { page = ap (λ (e : Entry). e.page) same; at = ap (λ (e : Entry). e.at) same }

pub returns-in-None : goal.returns-in-None
returns-in-None c = λ b es stop took says n is.
    let same = at_none b es stop says c.args.i n (c.in-None.ensures b took) is in
    record { page = ap (λ (e : Entry). e.page) same; at = ap (λ (e : Entry). e.at) same }

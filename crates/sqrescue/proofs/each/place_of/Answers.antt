use Rattle.std.proofs.Common.{◌≤◌, arith}
use Rattle.sqrescue.proofs.WordsEnd.{is_meant, none_meant}
use Rattle.sqrescue.proofs.each.place_of.Goals as goal

pub returns-then-number-eq0 : goal.returns-then-number-eq0
returns-then-number-eq0 c = λ place meant. let least = meant.0 in absurd (omega arith)

pub returns-in-Some : goal.returns-in-Some
returns-in-Some c =
    let found = c.in-Some.ensures.lookup in
    is_meant c.args.number c.in-Some.place.now c.args.files.now (omega arith) found.3.0 found.1

pub returns-in-None : goal.returns-in-None
returns-in-None c = none_meant c.args.number c.args.files.now c.in-None.ensures.lookup.3

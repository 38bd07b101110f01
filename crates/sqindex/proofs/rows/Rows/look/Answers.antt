use Rattle.std.proofs.Common.{◌∷◌, [], ◌++◌, Option, refl, subst}
use Rattle.sqindex.specs.declared.walk.Found.{Found}
use Rattle.sqindex.specs.internal.Reading.{stored_of}
use Rattle.sqindex.specs.internal.RowsGiven.{Gives}
use Rattle.sqindex.proofs.RowsGiven.{are_seen}
use Rattle.sqindex.proofs.rows.Rows.look.Goals as goal

pub returns-in-Ok-None-clause-ok : goal.returns-in-Ok-None-clause-ok
returns-in-Ok-None-clause-ok g c = λ right table given w.
    let d = g.S.PageSource.pages c.args.source.now in
    let gave = subst (λ (f : Option Found). Gives d table c.advance.new.self given f) c.in-Ok-None.field-0-is (c.in-Ok-None.ensures.ok right table given w) in
    (tt, gave.0)

pub returns-clause-ok : goal.returns-clause-ok
returns-clause-ok g c = λ right table given w.
    let d = g.S.PageSource.pages c.args.source.now in
    let found = c.in-Ok-Some.found in
    let rows = c.advance.new.self in
    let gave = subst (λ (f : Option Found). Gives d table rows given f) c.in-Ok-Some.field-0-is (c.in-Ok-Some.ensures.ok right table given w) in
    let seen = are_seen d table rows (given ++ stored_of found rows.walk.payload.items ∷ []) gave.0 gave.1 in
    (refl, record { over = gave.0.over; limited = gave.0.limited; are = seen })

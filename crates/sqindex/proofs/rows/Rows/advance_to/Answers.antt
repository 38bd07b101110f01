use Rattle.std.proofs.Common.{◌≡◌, ◌∙◌, Option, FitsSigned, w64, to_z, of_z, rules, sym, ap, subst}
use Rattle.std.proofs.lemmas.Int.{to_z-of_z}
use Rattle.sqindex.specs.declared.walk.Found.{Found}
use Rattle.sqindex.specs.Keys.{rowid_of}
use Rattle.sqindex.specs.internal.Reading.{stored_of}
use Rattle.sqindex.specs.internal.RowsGiven.{Gives}
use Rattle.sqindex.specs.internal.Spans.{up_to}
use Rattle.sqindex.proofs.RowsGiven.{all_given, left_ahead}
use Rattle.sqindex.proofs.rows.Rows.advance_to.Goals as goal

pub returns-in-Ok-None-clause-ok : goal.returns-in-Ok-None-clause-ok
returns-in-Ok-None-clause-ok g c = λ right table given w.
    let d = g.S.PageSource.pages c.args.source.now in
    let gave = subst (λ (f : Option Found). Gives d table c.advance.new.self given f) c.in-Ok-None.field-0-is (c.in-Ok-None.ensures.ok right table given w) in
    (gave.0, all_given d table c.args.last given gave.1)

pub returns-then-is_up_to-clause-ok : goal.returns-then-is_up_to-clause-ok
returns-then-is_up_to-clause-ok g c = λ right table given w.
    let d = g.S.PageSource.pages c.args.source.now in
    let found = c.in-Ok-Some.found in
    let x = stored_of found c.advance.new.self.walk.payload.items in
    let gave = subst (λ (f : Option Found). Gives d table c.advance.new.self given f) c.in-Ok-Some.field-0-is (c.in-Ok-Some.ensures.ok right table given w) in
    let fits : FitsSigned w64 c.unwrap_or.result = search rules in
    let same : to_z w64 (of_z w64 c.unwrap_or.result) ≡ rowid_of x = to_z-of_z w64 c.unwrap_or.result fits ∙ c.unwrap_or.ensures in
    (gave, ap (up_to c.args.last) (sym same) ∙ sym c.is_up_to.ensures ∙ c.if-is_up_to.true)

pub returns-clause-ok : goal.returns-clause-ok
returns-clause-ok g c = λ right table given w.
    let d = g.S.PageSource.pages c.args.source.now in
    let found = c.in-Ok-Some.found in
    let x = stored_of found c.advance.new.self.walk.payload.items in
    let gave = subst (λ (f : Option Found). Gives d table c.advance.new.self given f) c.in-Ok-Some.field-0-is (c.in-Ok-Some.ensures.ok right table given w) in
    let fits : FitsSigned w64 c.unwrap_or.result = search rules in
    let same : to_z w64 (of_z w64 c.unwrap_or.result) ≡ rowid_of x = to_z-of_z w64 c.unwrap_or.result fits ∙ c.unwrap_or.ensures in
    left_ahead d table c.advance.new.self given found c.args.last gave (ap (up_to c.args.last) (sym same) ∙ sym c.is_up_to.ensures ∙ c.if-is_up_to.false)

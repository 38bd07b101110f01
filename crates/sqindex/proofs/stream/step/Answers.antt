use Rattle.std.proofs.Common.{◌≡◌, ◌∷◌, [], ◌++◌, ℕ, List, Option, sym, ap, subst}
use Rattle.std.specs.declared.cmp.Ordering.TheVariants.{Equal}
use Rattle.sqlite_record.specs.Record.{decode}
use Rattle.sqlite_value.specs.Keys.{entry_cmp}
use Rattle.sqindex.specs.declared.rows.Rows.{Rows}
use Rattle.sqindex.specs.declared.walk.Found.{Found}
use Rattle.sqindex.specs.Keys.{entry_for}
use Rattle.sqindex.specs.internal.Reading.{stored_of}
use Rattle.sqindex.specs.internal.RowsGiven.{IsCursor, LooksAt}
use Rattle.sqindex.proofs.RowsGiven.{given_ahead}
use Rattle.sqindex.proofs.stream.step.Goals as goal

pub returns-in-Ok-None-clause-goes : goal.returns-in-Ok-None-clause-goes
returns-in-Ok-None-clause-goes g c = λ right table given w. (c.in-Ok-None.ensures.ok right table given w).1

pub returns-then-not-is_of-clause-goes : goal.returns-then-not-is_of-clause-goes
returns-then-not-is_of-clause-goes g c = λ right table given w. (c.in-Ok-Some.ensures.ok right table given w).1

pub returns-clause-goes : goal.returns-clause-goes
returns-clause-goes g c = λ right table given w.
    let d = g.S.PageSource.pages c.args.source.now in
    let found = c.in-Ok-Some.found in
    let rows = c.look.new.self in
    let x = stored_of found rows.walk.payload.items in
    let at = c.in-Ok-Some.ensures.ok right table given w in
    let ahead = subst (λ (f : Option Found). LooksAt f rows.ahead) c.in-Ok-Some.field-0-is at.0 in
    let gave = given_ahead d table rows given at.1 found ahead in
    let its = c.is_of.ensures c.if-not-is_of.false in
    let same : c.deref.result.now ≡ rows.walk.payload.items = c.deref.ensures.value in
    let own = subst (λ (b : List ℕ). entry_cmp c.args.key.now.order (entry_for c.args.key.now.columns.items c.args.ends.rowid (decode b)) (decode c.args.entry.now) ≡ Equal) same its.1 in (
      x,
      subst (λ (r : Rows). IsCursor d table r (given ++ x ∷ [])) (sym c.pass.ensures) gave.0,
      ap (λ (r : Rows). r.ahead) c.pass.ensures,
      its.0,
      own,
    )

use Rattle.std.proofs.Common.{◌≡◌, ◌∙◌, ◌++◌, ◌≤◌, unwrap_or, sym, ap, subst, rules, arith}
use Rattle.std.specs.Prelude.{IsSome, IfErr, IfOk}
use Rattle.sqval.specs.Database.{Database}
use Rattle.sqval.specs.Record.{most_bytes}
use Rattle.sqpage.specs.Chain.{IsPayload, payload_size}
use Rattle.sqcheck.proofs.checks.RowsOfSchema.{is_no_memory}
use Rattle.sqdeep.specs.internal.Judging.{HasForm, PayloadTells}
use Rattle.sqdeep.proofs.CellsOfPage.{payload_form, payload_told}
use Rattle.sqdeep.proofs.cells.judge_cell.Goals as goal

pub returns-in-Err-clause-err : goal.returns-in-Err-clause-err
returns-in-Err-clause-err g c = λ right bytes is.
    let from = c.requires.same in
    let err = c.in-Err.ensures.err (from.still_right right) in (
      (λ other. is_no_memory c.in-Err.refusal.fault (λ no. (err.1 other).1 no bytes (subst (λ (q : Database). IsPayload q c.args.cell.now bytes) (sym from.same_pages) is))),
      (λ read given. err.0 read (from.still_given given)),
    )

pub returns-in-Some-whole_of-clause-err : goal.returns-in-Some-whole_of-clause-err
returns-in-Some-whole_of-clause-err g c = λ right bytes is.
    let d = g.V.Snapshot.pages in
    let cell = c.args.cell.now in
    let some : IsSome cell.payload = search rules in
    let size : payload_size cell ≡ c.in-Some.size = ap (λ o. unwrap_or o 0) c.in-Some.is in
    let short : payload_size cell ≤ most_bytes = omega (arith, size, c.if-size.false) in
    payload_told g.V.Snapshot.given d cell c.args.i c.in-Some-whole_of.bytes.now c.judge_payload.result (c.in-Some-whole_of.ensures d) some short c.judge_payload.ensures.err

pub returns-in-Ok-clause-err : goal.returns-in-Ok-clause-err
returns-in-Ok-clause-err g c = λ right bytes is.
    let d = g.V.Snapshot.pages in
    let from = c.requires.same in
    let cell = c.args.cell.now in
    let ok = c.in-Ok.ensures.ok (from.still_right right) in
    let whole : c.deref.result.now ≡ ok.0 = c.deref.ensures.value ∙ ok.2 ∙ ap (λ l. l ++ ok.0) c.clear.ensures.items in
    let has = subst (λ (q : Database). IsPayload q cell ok.0) from.same_pages ok.1 in
    let some : IsSome cell.payload = search rules in
    let size : payload_size cell ≡ c.in-Some.size = ap (λ o. unwrap_or o 0) c.in-Some.is in
    let short : payload_size cell ≤ most_bytes = omega (arith, size, c.if-size.false) in
    payload_told g.V.Snapshot.given d cell c.args.i ok.0 c.judge_payload-in-Ok.result has some short
    (subst (λ b. IfErr c.judge_payload-in-Ok.result (PayloadTells cell c.args.i b)) whole c.judge_payload-in-Ok.ensures.err)

pub returns-in-Some-whole_of-clause-form : goal.returns-in-Some-whole_of-clause-form
returns-in-Some-whole_of-clause-form g c = λ right.
    let d = g.V.Snapshot.pages in
    let cell = c.args.cell.now in
    let some : IsSome cell.payload = search rules in
    payload_form c.args.encoding d cell c.in-Some-whole_of.bytes.now c.judge_payload.result (c.in-Some-whole_of.ensures d) some c.judge_payload.ensures.form

pub returns-in-Ok-clause-form : goal.returns-in-Ok-clause-form
returns-in-Ok-clause-form g c = λ right.
    let d = g.V.Snapshot.pages in
    let from = c.requires.same in
    let cell = c.args.cell.now in
    let ok = c.in-Ok.ensures.ok (from.still_right right) in
    let whole : c.deref.result.now ≡ ok.0 = c.deref.ensures.value ∙ ok.2 ∙ ap (λ l. l ++ ok.0) c.clear.ensures.items in
    let has = subst (λ (q : Database). IsPayload q cell ok.0) from.same_pages ok.1 in
    let some : IsSome cell.payload = search rules in
    payload_form c.args.encoding d cell ok.0 c.judge_payload-in-Ok.result has some
    (subst (λ b. IfOk c.judge_payload-in-Ok.result (λ is_ill. HasForm is_ill c.args.encoding b)) whole c.judge_payload-in-Ok.ensures.form)

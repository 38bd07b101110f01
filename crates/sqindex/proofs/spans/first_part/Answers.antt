use Rattle.std.proofs.Common.{◌∙◌, Option, ℤ, refl, sym, ap, subst}
use Rattle.std.specs.Prelude.{Result, Ok, Err, IfOk}
use Rattle.sqindex.specs.declared.error.IndexError.{IndexError}
use Rattle.sqindex.specs.declared.part.Part.{Part}
use Rattle.sqindex.specs.declared.stream.Stage.{Stage}
use Rattle.sqindex.specs.internal.Matching.{IsFirstPart}
use Rattle.sqindex.specs.internal.Spans.{passed, AreOfSpan}
use Rattle.sqindex.specs.internal.Stepping.{IsStartOf}
use Rattle.sqindex.proofs.CellsTaken.{has_once}
use Rattle.sqindex.proofs.RowsInStep.{held_in_step}
use Rattle.sqindex.proofs.spans.first_part.Goals as goal

if_ok : {P Q R : Part → Type 0} (r : Result Part IndexError) → IfOk r P → IfOk r Q → ((p : Part) → P p → Q p → R p) → IfOk r R
if_ok (Ok x) h k f = f x h k
if_ok (Err e) h k f = tt

pub returns-in-InStep-clause-ok : goal.returns-in-InStep-clause-ok
returns-in-InStep-clause-ok g c = λ right table rows xs has starts.
    let d = g.S.PageSource.pages c.args.source.now in
    let key = c.args.key.now in
    let part = c.args.part in
    let is = held_in_step d table key part rows xs (subst (λ (s : Stage). IsStartOf d table key s part rows xs) c.in-InStep.is starts) in (
      λ other h. subst (AreOfSpan key part.span part.entries) (sym (has_once d c.args.index xs other has.stored h.stored)) is.held,
      is.upward,
      subst (λ (s : Stage). IsFirstPart s part part) (sym c.in-InStep.is) refl,
    )

pub returns-in-InRange-clause-ok : goal.returns-in-InRange-clause-ok
returns-in-InRange-clause-ok g c = λ right table rows xs has starts.
    let d = g.S.PageSource.pages c.args.source.now in
    let key = c.args.key.now in
    let part = c.args.part in
    let is = subst (λ (s : Stage). IsStartOf d table key s part rows xs) c.in-InRange.is starts in (
      λ other h. subst (AreOfSpan key part.span part.entries) (sym (has_once d c.args.index xs other has.stored h.stored)) is.held,
      is.upward,
      subst (λ (s : Stage). IsFirstPart s part part) (sym c.in-InRange.is) refl,
    )

pub returns-clause-ok : goal.returns-clause-ok
returns-clause-ok g c = λ right table rows xs has starts.
    if_ok c.read_part.result (c.read_part.ensures.ok right) c.read_part.ensures.span
    (λ part is goes. (
      is,
      goes.1 (λ b ends. ap (λ (a : Option ℤ). passed a b) c.all-span.ensures.0),
      subst (λ (s : Stage). IsFirstPart s c.args.part part) (sym c.in-Lost.is) (goes.0 ∙ c.all-span.ensures.0),
    ))

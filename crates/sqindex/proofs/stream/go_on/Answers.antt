use Rattle.std.proofs.Common.{◌≡◌, ◌∙◌, ℤ, List, Some, refl, ap, subst, rules, FitsSigned, w64, to_z, of_z}
use Rattle.std.proofs.lemmas.Int.{to_z-of_z}
use Rattle.sqindex.specs.declared.stream.Stage.{Stage}
use Rattle.sqindex.specs.declared.stream.Stage.TheVariants.{InStep}
use Rattle.sqindex.specs.Stored.{Stored}
use Rattle.sqindex.specs.internal.RowsGiven.{IsCursor}
use Rattle.sqindex.specs.internal.Stepping.{StepsOn, HoldsOn, IsStartOf}
use Rattle.sqindex.proofs.RowsInStep.{stepped, left_in_step, held_on}
use Rattle.sqindex.proofs.stream.go_on.Goals as goal

pub returns-in-InRange-clause-starts : goal.returns-in-InRange-clause-starts
returns-in-InRange-clause-starts g c = λ right table xs w.
    let d = g.S.PageSource.pages c.args.source.now in
    let key = c.args.key.now in
    let start = c.args.start.now in
    let fits : FitsSigned w64 c.args.ends.rowid = search rules in
    let number : to_z w64 (of_z w64 c.args.ends.rowid) ≡ c.args.ends.rowid = to_z-of_z w64 c.args.ends.rowid fits in
    let was = subst (λ (s : Stage). IsStartOf d table key s start.part start.rows xs) c.in-InRange.is w in
    let holds = subst (λ (r : ℤ). HoldsOn start.part c.args.found r c.args.entry.now c.hold.new.part c.hold.result) number c.hold.ensures in
    held_on d table key start.part c.hold.new.part start.rows xs c.args.found c.args.ends.rowid c.args.entry.now c.hold.result was c.requires.keyed.keyed holds

pub returns-in-InRange-step-clause-starts : goal.returns-in-InRange-step-clause-starts
returns-in-InRange-step-clause-starts g c = λ right table xs w.
    let d = g.S.PageSource.pages c.args.source.now in
    let key = c.args.key.now in
    let start = c.args.start.now in
    let rows = c.step.new.rows in
    let hold = c.hold-in-InRange-step in
    let fits : FitsSigned w64 c.args.ends.rowid = search rules in
    let number : to_z w64 (of_z w64 c.args.ends.rowid) ≡ c.args.ends.rowid = to_z-of_z w64 c.args.ends.rowid fits in
    let was = subst (λ (s : Stage). IsStartOf d table key s start.part start.rows xs) c.in-InStep.is w in
    let left = left_in_step d table key start.part start.rows rows xs c.args.ends.rowid c.args.entry.now was (λ given cursor. c.in-InRange-step.ensures.goes right table given cursor) in
    let holds = subst (λ (r : ℤ). HoldsOn start.part c.args.found r c.args.entry.now hold.new.part hold.result) number hold.ensures in
    held_on d table key start.part hold.new.part rows xs c.args.found c.args.ends.rowid c.args.entry.now hold.result left c.requires.keyed.keyed holds

pub returns-in-InStep-step-clause-starts : goal.returns-in-InStep-step-clause-starts
returns-in-InStep-step-clause-starts g c = λ right table xs w.
    let d = g.S.PageSource.pages c.args.source.now in
    let key = c.args.key.now in
    let start = c.args.start.now in
    let rows = c.step.new.rows in
    let fits : FitsSigned w64 c.args.ends.rowid = search rules in
    let number : to_z w64 (of_z w64 c.args.ends.rowid) ≡ c.args.ends.rowid = to_z-of_z w64 c.args.ends.rowid fits in
    let was = subst (λ (s : Stage). IsStartOf d table key s start.part start.rows xs) c.in-InStep.is w in
    let steps : (given : List Stored) → IsCursor d table start.rows given → StepsOn d table key c.args.ends.rowid c.args.entry.now given rows InStep = λ given cursor. c.in-InStep-step.ensures.goes right table given cursor in
    stepped d table key start.part (record start.part { span = c.behind-start.result }) start.rows rows xs c.args.found c.args.ends.rowid c.args.entry.now was steps refl (c.behind-start.ensures.0 ∙ ap Some number) c.behind-start.ensures.1 c.requires.keyed.keyed

use Rattle.std.proofs.Common.{◌≡◌, ℕ, ◌+◌, ◌<◌, ◌≤◌, List, drop, length, length-drop, arith, refl}
use Rattle.sqval.specs.Varint.{Begins}
use Rattle.sqdeleted.specs.declared.rest.Rest.{Rest}
use Rattle.sqdeleted.specs.internal.Rests.{IsRecordFrom, AreFirstFrom, AreTypesFrom}
use Rattle.sqdeleted.proofs.RestsOfCells.{match_weaker, record_found, record_same, record_before, record_within}
use Rattle.sqdeleted.proofs.rest.record_from.Goals as goal

pub returns-then-header-to : goal.returns-then-header-to
returns-then-header-to c = λ rest w.
    let before = record_before c.args.page.used.now c.args.page.whole.now.begin.items c.args.last c.args.to c.args.header rest w in
    omega (arith, before, c.if-header-to.true)

pub returns-in_err-number : goal.returns-in_err-number
returns-in_err-number c = let none = c.in_err-number.ensures.none.0 refl in rw c.from_residual.ensures (λ rest w. none w.0 w.1 w.2)

pub returns-then-number-to : goal.returns-then-number-to
returns-then-number-to c = λ rest.
    record_within c.args.page.used.now c.args.page.whole.now.begin.items c.args.last c.args.to c.args.header c.in_ok-number.number c.in_ok-number.size ((c.in_ok-number.ensures.found _ _).0 refl) c.if-number-to.true rest

pub returns : goal.returns
returns c =
    let used = c.args.page.used.now in
    let whole = c.args.page.whole.now.begin.items in
    let header = c.args.header in
    let number = c.in_ok-number.number in
    let size = c.in_ok-number.size in
    let begins : Begins number size (drop header used) = (c.in_ok-number.ensures.found _ _).0 refl in
    match_weaker c.types_from.result
    (λ none rest w. none rest (record_same used whole c.args.last c.args.to header number size begins rest w))
    (λ rest first. record_found used whole c.args.last c.args.to header number size begins rest first) c.types_from.ensures

pub overflow_add-header : goal.overflow_add-header
overflow_add-header c =
    let begins : Begins c.in_ok-number.number c.in_ok-number.size (drop c.args.header c.args.page.used.now) = (c.in_ok-number.ensures.found _ _).0 refl in
    omega (arith, begins.within, length-drop c.args.header c.args.page.used.now, c.args.page.most)

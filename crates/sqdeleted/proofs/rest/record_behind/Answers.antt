use Rattle.std.proofs.Common.{◌≡◌, ℕ, ◌+◌, ◌<◌, ◌≤◌, List, drop, length, length-drop, arith, refl}
use Rattle.sqval.specs.Varint.{Begins}
use Rattle.sqdeleted.proofs.RestsOfCells.{match_weaker, behind_before, none_behind, behind_first, behind_second, behind_none}
use Rattle.sqdeleted.proofs.rest.record_behind.Goals as goal

pub returns-then-start-to : goal.returns-then-start-to
returns-then-start-to c = λ rest w.
    let before = behind_before c.args.page.used.now c.args.page.whole.now.begin.items c.args.last c.args.to c.args.start rest w in
    omega (arith, before, c.if-start-to.true)

pub returns-in_err-found : goal.returns-in_err-found
returns-in_err-found c = rw c.from_residual.ensures
    (none_behind c.args.page.used.now c.args.page.whole.now.begin.items c.args.last c.args.to c.args.start (c.in_err-found.ensures.none.0 refl))

pub returns-in-Some : goal.returns-in-Some
returns-in-Some c =
    let e = c.in-Some.ensures in
    behind_first c.args.page.used.now c.args.page.whole.now.begin.items c.args.last c.args.to c.args.start c.in_ok-found.found.0 c.in_ok-found.found.1
    ((c.in_ok-found.ensures.found _ _).0 refl) c.in-Some.rest e.0 e.1

pub returns-in-None : goal.returns-in-None
returns-in-None c =
    let used = c.args.page.used.now in
    let whole = c.args.page.whole.now.begin.items in
    let start = c.args.start in
    let number = c.in_ok-found.found.0 in
    let size = c.in_ok-found.found.1 in
    let begins : Begins number size (drop start used) = (c.in_ok-found.ensures.found _ _).0 refl in
    match_weaker c.record_from-in-None.result
    (λ other. behind_none used whole c.args.last c.args.to start number size begins c.in-None.ensures other)
    (λ rest first. behind_second used whole c.args.last c.args.to start number size begins c.in-None.ensures rest first.0 first.1) c.record_from-in-None.ensures

pub overflow_add-start : goal.overflow_add-start
overflow_add-start c =
    let begins : Begins c.in_ok-found.found.0 c.in_ok-found.found.1 (drop c.args.start c.args.page.used.now) = (c.in_ok-found.ensures.found _ _).0 refl in
    omega (arith, begins.within, length-drop c.args.start c.args.page.used.now, c.args.page.most)

use Rattle.std.proofs.Common.{◌≡◌, ℕ, ◌+◌, ◌<◌, ◌≤◌, List, drop, length, arith, refl, inl, inr, Some}
use Rattle.sqdeleted.specs.Cut.{WasFreed, IsRest}
use Rattle.sqdeleted.proofs.FreedPlaces.{not_true}
use Rattle.sqdeleted.proofs.RestsOfCells.{match_weaker, rest_behind, of_record, of_first, record_rather, types_rather, none_left}
use Rattle.sqdeleted.proofs.rest.rest_at.Goals as goal

pub returns-then-at-to : goal.returns-then-at-to
returns-then-at-to c = inr (λ rest r.
    let b = rest_behind c.args.page.used.now c.args.page.whole.now.begin.items c.args.to c.args.at rest r in
    let before : rest.end ≤ c.args.to = r.before in
    omega (arith, b, before, c.if-at-to.true))

pub returns-then-holds : goal.returns-then-holds
returns-then-holds c = inl (c.holds.ensures.0 c.if-holds.true)

pub returns-in_err-last : goal.returns-in_err-last
returns-in_err-last c = rw c.from_residual.ensures (inr (λ rest r. (let some = (c.freed_end.ensures r.last).1 r.freed in let was = c.in_err-last.was in cc)))

pub returns-in-Some : goal.returns-in-Some
returns-in-Some c =
    let used = c.args.page.used.now in
    let whole = c.args.page.whole.now.begin.items in
    let freed = (c.freed_end.ensures c.in_ok-last.last).0 c.in_ok-last.was in
    let e = c.in-Some.ensures in (
      λ w. not_true c.holds.result c.if-holds.false (c.holds.ensures.1 w),
      of_record used whole c.args.to c.args.at c.in_ok-last.last freed c.in-Some.rest e.0,
      record_rather used whole c.args.to c.args.at c.in_ok-last.last freed c.in-Some.rest e.0 e.1,
    )

pub returns-in-None : goal.returns-in-None
returns-in-None c =
    let used = c.args.page.used.now in
    let whole = c.args.page.whole.now.begin.items in
    let last = c.in_ok-last.last in
    let freed = (c.freed_end.ensures last).0 c.in_ok-last.was in
    match_weaker c.types_from.result
    (λ none. inr (none_left used whole c.args.to c.args.at last freed c.in-None.ensures none))
    (λ rest first. (
      λ w. not_true c.holds.result c.if-holds.false (c.holds.ensures.1 w),
      of_first used whole c.args.to c.args.at last freed rest first.0,
      types_rather used whole c.args.to c.args.at last freed c.in-None.ensures rest first,
    )) c.types_from.ensures

use Rattle.std.proofs.Common.{◌≡◌, ℕ, ◌+◌, ◌<◌, ◌≤◌, arith, refl}
use Rattle.sqdeleted.proofs.TypesFrom.{reading_none, reading_next, reading_found, too_far, none_on, none_past}
use Rattle.sqdeleted.proofs.RestsOfCells.{types_before}
use Rattle.sqdeleted.proofs.FreedPlaces.{not_true}
use Rattle.sqdeleted.proofs.rest.types_from.Goals.{then-body-left-via-then-body-left, then-body-left-via-else-body-left+then-left-body}
use Rattle.sqdeleted.proofs.rest.types_from.Goals.{else-span-bodies-via-then-span-bodies+then-bodies-span+else-ends_here, else-span-bodies-via-then-span-bodies+else-bodies-span, else-span-bodies-via-else-span-bodies}
use Rattle.sqdeleted.proofs.rest.types_from.Goals as goal

pub returns-then-from-to : goal.returns-then-from-to
returns-then-from-to c = λ rest are.
    let b = types_before c.args.page.used.now c.args.page.whole.now.begin.items c.args.last c.args.to c.args.from c.args.span.0 c.args.span.1 rest are in
    omega (arith, b.0, c.if-from-to.true)

pub types-init : goal.types-init
types-init c = reading_none c.args.page.used.now c.args.page.whole.now.begin.items c.args.last c.args.to c.args.from c.args.span.0 c.args.span.1 (omega arith)

pub returns : goal.returns
returns c =
    none_past c.args.page.used.now c.args.page.whole.now.begin.items c.args.last c.args.to c.args.from c.args.span.0 c.args.span.1 c.types.bodies c.types.end c.requires c.types.invariant c.types-test.false

pub returns-in_default : goal.returns-in_default
returns-in_default c =
    none_on c.args.page.used.now c.args.page.whole.now.begin.items c.args.last c.args.to c.args.from c.args.span.0 c.args.span.1 c.types.bodies c.types.end c.requires c.types.invariant c.in_default.ensures

pub returns-then-body-left : goal.returns-then-body-left
returns-then-body-left c =
    let e = c.in-Some.ensures in
    too_far c.args.page.used.now c.args.page.whole.now.begin.items c.args.last c.args.to c.args.from c.args.span.0 c.args.span.1 c.types.bodies c.types.end c.requires c.types.invariant
    e.0 c.in-Some.size c.in-Some.body e.1 e.2 far
  where
    far : c.args.to < c.types.end + (c.in-Some.size + c.in-Some.body)
    far = elim c.then-body-left.branch [
      | then-body-left-via-then-body-left w ↦ omega (arith, w.if-body-left.true)
      | then-body-left-via-else-body-left+then-left-body w ↦ omega (arith, w.if-left-body.true, w.if-body-left.false)
    ]

pub returns-then-ends_here : goal.returns-then-ends_here
returns-then-ends_here c =
    let e = c.in-Some.ensures in
    reading_found c.args.page.used.now c.args.page.whole.now.begin.items c.args.last c.args.to c.args.from c.args.span.0 c.args.span.1 c.types.bodies c.types.end c.requires c.types.invariant
    e.0 c.in-Some.size c.in-Some.body e.1 e.2 (omega (arith, c.if-body-left.false, c.if-left-body.false)) c.if-span-bodies.true c.if-bodies-span.true (c.ends_here.ensures.0 c.if-ends_here.true)

pub types-preserved : goal.types-preserved
types-preserved c =
    let e = c.in-Some.ensures in
    reading_next c.args.page.used.now c.args.page.whole.now.begin.items c.args.last c.args.to c.args.from c.args.span.0 c.args.span.1 c.types.bodies c.types.end c.requires c.types.invariant
    e.0 c.in-Some.size c.in-Some.body e.1 e.2 (omega (arith, c.if-body-left.false, c.if-left-body.false))
    (λ low high ends. elim c.else-span-bodies.branch [
      | else-span-bodies-via-then-span-bodies+then-bodies-span+else-ends_here w ↦ not_true w.ends_here.result w.if-ends_here.false (w.ends_here.ensures.1 ends)
      | else-span-bodies-via-then-span-bodies+else-bodies-span w ↦ omega (arith, high, w.if-bodies-span.false)
      | else-span-bodies-via-else-span-bodies w ↦ omega (arith, low, w.if-span-bodies.false)
    ])

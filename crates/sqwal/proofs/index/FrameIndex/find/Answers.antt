use Rattle.std.proofs.Common.{◌≡◌, ◌+◌, List, ℕ, cond, get_or, arith, ap, sym, ◌∙◌, ne_eqb, eq-eqb}
use Rattle.std.specs.Prelude.{unwrap_or, vec_capacity}
use Rattle.sqwal.proofs.find.SearchAlongChain.{begin, go_on, found, unnamed_above}
use Rattle.sqwal.proofs.index.FrameIndex.find.Goals as goal

pub loop-frame-init : goal.loop-frame-init
loop-frame-init c =
    let newest : List ℕ = c.self.inside.newest.items in
    let page : ℕ = c.args.page in
    let first : c.unwrap_or-frame.result ≡ get_or newest page 0 = c.unwrap_or-frame.ensures ∙ ap (λ o. unwrap_or o 0) c.copied.ensures ∙ c.get.ensures.lookup.4 (omega arith) 0 ∙ ap (λ (l : List ℕ). get_or l page 0) c.deref.ensures.value in
    record {
      way = begin newest c.self.inside.earlier.items c.self.inside.room (vec_capacity c.self.inside.earlier) page c.args.mark c.unwrap_or-frame.result c.args.self.now c.self.invariant c.self.view_is first;
      fits = omega arith;
    }

pub loop-frame-preserved : goal.loop-frame-preserved
loop-frame-preserved c =
    let next = go_on c.self.inside.newest.items c.self.inside.earlier.items c.self.inside.room (vec_capacity c.self.inside.earlier) c.args.page c.args.mark c.loop-frame.frame c.loop-frame.steps c.index-frame.result.now c.args.self.now c.self.invariant c.self.view_is c.loop-frame.invariant.way c.loop-frame-test.true c.index-frame.ensures in
    record { way = next.0; fits = omega (arith, next.1) }

pub loop-frame-smaller : goal.loop-frame-smaller
loop-frame-smaller c =
    let next = go_on c.self.inside.newest.items c.self.inside.earlier.items c.self.inside.room (vec_capacity c.self.inside.earlier) c.args.page c.args.mark c.loop-frame.frame c.loop-frame.steps c.index-frame.result.now c.args.self.now c.self.invariant c.self.view_is c.loop-frame.invariant.way c.loop-frame-test.true c.index-frame.ensures in
    next.1

pub returns-then-frame-ne0 : goal.returns-then-frame-ne0
returns-then-frame-ne0 c = found c.args.self.now c.args.page c.args.mark _ c.loop-frame.steps c.if-page-eq0.false
    (unnamed_above c.self.inside.newest.items c.self.inside.earlier.items c.self.inside.room (vec_capacity c.self.inside.earlier) c.args.page c.args.self.now c.self.invariant c.self.view_is)
    c.loop-frame.invariant.way (omega arith) (ap (λ b. c.loop-frame.steps + cond b 0 1) (sym (ne_eqb c.loop-frame.frame 0 c.if-frame-ne0.true)))

pub returns-else-frame-ne0 : goal.returns-else-frame-ne0
returns-else-frame-ne0 c = found c.args.self.now c.args.page c.args.mark _ c.loop-frame.steps c.if-page-eq0.false
    (unnamed_above c.self.inside.newest.items c.self.inside.earlier.items c.self.inside.room (vec_capacity c.self.inside.earlier) c.args.page c.args.self.now c.self.invariant c.self.view_is)
    c.loop-frame.invariant.way (omega arith) (let e : c.loop-frame.steps ≡ c.loop-frame.steps + 0 = omega arith in e ∙ ap (λ b. c.loop-frame.steps + cond b 0 1) (sym (eq-eqb c.loop-frame.frame 0 c.if-frame-ne0.false)))

use Rattle.std.proofs.Common.{◌≡◌, ◌≢◌, ◌≤◌, ◌+◌, ℕ, inl, inr, sym, ap, subst, rules, arith}
use Rattle.sqpage.specs.Header.{half}
use Rattle.sqdeep.proofs.SpacedBlocks.{Going, begin, further, all_spaced, too_close}
use Rattle.sqdeep.proofs.pages.are_spaced.Goals as goal

pub places-init : goal.places-init
places-init c = record { small = c.requires.small; going = λ from blocks are. begin c.args.used.now c.args.least c.args.first from blocks are }

pub places-preserved : goal.places-preserved
places-preserved c =
    let at : ℕ = c.places.at in
    let next : ℕ = at + c.half_at-size.result + 4 in
    record {
      small = c.half_at-at.ensures.small;
      going = λ from blocks are.
          let le : c.places.least ≤ at = omega arith in
          let some : at ≢ 0 = search rules in
          let e : next ≡ at + half c.args.used.now (at + 2) + 4 = ap (λ n. at + n + 4) c.half_at-size.ensures.value in
          subst (λ a. Going c.args.used.now c.args.least next a blocks) (sym c.half_at-at.ensures.value)
          (further c.args.used.now c.args.least c.places.least at next blocks (c.places.invariant.going from blocks are) some le e);
    }

pub returns-clause-yes : goal.returns-clause-yes
returns-clause-yes c = λ yes from blocks are.
    let none : c.places.at ≡ 0 = search rules in
    all_spaced c.args.used.now c.args.least c.places.least c.places.at blocks (c.places.invariant.going from blocks are) none

pub returns-then-at-least-clause-not : goal.returns-then-at-least-clause-not
returns-then-at-least-clause-not c = λ no from blocks are.
    let some : c.places.at ≢ 0 = search rules in
    too_close c.args.used.now c.args.least c.places.least c.places.at blocks (c.places.invariant.going from blocks are) some (inl (omega arith))

pub returns-then-end-used-clause-not : goal.returns-then-end-used-clause-not
returns-then-end-used-clause-not c = λ no from blocks are.
    let some : c.places.at ≢ 0 = search rules in
    too_close c.args.used.now c.args.least c.places.least c.places.at blocks (c.places.invariant.going from blocks are) some (inr (omega arith))

use Rattle.std.proofs.Common.{◌≡◌, ℕ, ◌+◌, ◌-◌, ◌<◌, length, true, false, refl, subst, arith}
use Rattle.std.proofs.lemmas.Option.{slice_get_read}
use Rattle.sqcrash_store.specs.Verdicts.{NoneFrom}
use Rattle.sqcrash_store.proofs.NamedStates.{none_more}
use Rattle.sqcrash_store.proofs.verdict.last_named.Goals as goal

pub returns-then-is_named : goal.returns-then-is_named
returns-then-is_named c =
    let states = c.args.states.now in
    let k = c.loop-k.k in
    let less : k - 1 < length states = omega (arith, c.loop-k-test.true, c.loop-k.invariant.there) in
    let is = c.if-is_named.ensures.0 refl in
    let next : k ≡ k - 1 + 1 = omega (arith, c.loop-k-test.true) in record {
      named = record {
        state = c.index-states-k.result;
        there = slice_get_read states (length states) (k - 1) c.index-states-k.result refl less c.index-states-k.is;
        sound = is.0;
        same = is.1;
      };
      last = subst (λ (n : ℕ). NoneFrom states c.args.line.now n) next c.loop-k.invariant.none;
    }

pub loop-k-preserved : goal.loop-k-preserved
loop-k-preserved c =
    let states = c.args.states.now in
    let k = c.loop-k.k in
    let less : k - 1 < length states = omega (arith, c.loop-k-test.true, c.loop-k.invariant.there) in
    let next : k ≡ k - 1 + 1 = omega (arith, c.loop-k-test.true) in record {
      there = omega (arith, c.loop-k.invariant.there);
      none = none_more states c.args.line.now (k - 1) c.index-states-k.result (slice_get_read states (length states) (k - 1) c.index-states-k.result refl less c.index-states-k.is)
          (λ is. let e : false ≡ true = c.if-is_named.ensures.1 is in cc) (subst (λ (n : ℕ). NoneFrom states c.args.line.now n) next c.loop-k.invariant.none);
    }

use Rattle.std.proofs.Common.{◌≡◌, ◌+◌, ◌-◌, ◌∙◌, ℕ, arith, subst}
use Rattle.sqview.specs.internal.ViewParts.{AreNoted}
use Rattle.sqview.proofs.place.PlacesOfLastRecords.{counted, noted_none, noted_more, noted_all, noted_end}
use Rattle.sqview.proofs.places.record_places.Goals as goal
use Rattle.sqview.proofs.places.record_places.Goals.{else-loop-before-test, then-loop-before-test+in_default}

pub loop-before-init : goal.loop-before-init
loop-before-init c = record {
  few = omega (arith, c.in_ok-places.ensures.few);
  long = c.in_ok-places.ensures.empty.0;
  noted = noted_none c.args.replay.now c.args.count c.in_ok-places.places.items c.in_ok-places.ensures.empty.1;
}

pub loop-before-preserved : goal.loop-before-preserved
loop-before-preserved c =
    let before = c.loop-before.before in
    let noted = c.in_ok-put.ensures.noted in
    let was : before ≡ before + 1 - 1 = omega arith in
    record {
      few = omega (arith, c.loop-before.invariant.few, c.in_ok-put.ensures.few);
      long = noted.0 ∙ c.loop-before.invariant.long;
      noted = noted_more c.args.replay.now (before + 1) c.args.count c.loop-before.places.items c.put.new.self.items c.in-Some.record (omega arith) c.loop-before.invariant.long
          (subst (λ (n : ℕ). AreNoted c.args.replay.now n c.args.count c.loop-before.places.items) was c.loop-before.invariant.noted) noted c.in-Some.ensures;
    }

pub returns-clause-places : goal.returns-clause-places
returns-clause-places c = λ b took short. elim c.loop-before-test.branch [
  | else-loop-before-test w ↦ noted_all c.args.replay.now c.loop-before.before c.args.count c.loop-before.places.items b c.loop-before.invariant.long c.loop-before.invariant.noted took
      (λ segments at why is. omega (arith, counted b c.count-records.result segments at why (c.count-records.ensures b took) is, w.loop-before-test.false))
  | then-loop-before-test+in_default w ↦ noted_end c.args.replay.now (c.loop-before.before + 1) c.args.count c.loop-before.places.items b (omega arith) c.loop-before.invariant.long
      (let was : c.loop-before.before ≡ c.loop-before.before + 1 - 1 = omega arith in subst (λ (n : ℕ). AreNoted c.args.replay.now n c.args.count c.loop-before.places.items) was c.loop-before.invariant.noted) took
      (w.in_default.ensures b took)
]

pub returns-clause-few : goal.returns-clause-few
returns-clause-few c = λ b took n has.
    let records : ℕ = c.count-records.result in
    let same : n ≡ records = has.value ∙ counted b records has.segments has.stop.at has.stop.why (c.count-records.ensures b took) has.is in
    omega (arith, c.loop-before.invariant.few, c.loop-before.auto.before-end, same)

use Rattle.rollcore.proofs.Facts.{HasEntry, Record, Some, arith, cases_lt, read_entry, subst, ℕ, ⊎_elim, ◌*◌, ◌+◌, ◌≡◌}
use Rattle.rollcore.proofs.copying.run_from.Goals as goal

pub loop-run-preserved : goal.loop-run-preserved
loop-run-preserved c =
    let number = c.args.number in
    let first = c.args.first in
    let run = c.loop-run.run in
    record {
      some = omega arith;
      within = omega (arith, c.loop-run-test.true);
      each = λ w read has j lt. ⊎_elim
          (λ before. c.loop-run.invariant.each w read has j before)
          (λ last.
          let e : run ≡ j = omega (arith, lt, last) in
          let here = read_entry w c.args.scan.now read (number + run) (Some c.in-Some.next) c.in-Some.ensures in
          subst (λ (k : ℕ). HasEntry w (number + k) (Some (record { page = first.page + k; at = first.at + k * (c.args.size + 8) }))) e
          (subst (λ (r : Record). HasEntry w (number + run) (Some r)) (c.follows.ensures c.if-not-follows.false) here))
          (cases_lt j run);
    }

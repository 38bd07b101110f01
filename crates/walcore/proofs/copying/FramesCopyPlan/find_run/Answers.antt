use Rattle.walcore.proofs.Facts.{List, ap, arith, hit_last, hit_none, left_apart, left_put, left_skips, part, run_inside, subst, sym, ℕ, ◌*◌, ◌+◌, ◌-◌, ◌<◌, ◌≡◌, ◌≤◌}
use Rattle.walcore.proofs.copying.FramesCopyPlan.find_run.Goals as goal

pub returns-then-hit-eq0-clause-copies : goal.returns-then-hit-eq0-clause-copies
returns-then-hit-eq0-clause-copies c = λ w is db p content one le left.
    let size = c.args.shape.size in
    let count = c.args.shape.count in
    let under : c.args.done + 1 ≤ count = omega (arith, c.requires.steps.1, c.requires.steps.3, c.requires.most.0) in
    let un = hit_none size count w c.args.self.now.frames (c.args.done + 1) c.find-hit.result.frame c.args.self.now.index.now is.table (c.find-hit.ensures.newest (λ z. omega (arith, z))) (omega arith) under c.if-hit-eq0.true in
    left_skips size db w c.args.self.now.frames c.args.done p content un left

pub returns-clause-within : goal.returns-clause-within
returns-clause-within c = record {
  some = c.run_from-count.ensures.count.0;
  few = c.run_from-count.ensures.count.1;
  first = omega arith;
  last = omega (arith, c.requires.steps.1, c.requires.steps.3, c.run_from-count.ensures.count.1);
}

pub returns-clause-copies : goal.returns-clause-copies
returns-clause-copies c = λ w is.
    let size = c.args.shape.size in
    let count = c.args.shape.count in
    let frame = c.find-hit.result.frame in
    let n = c.run_from-count.result in
    let some : 1 ≤ frame = omega (arith, c.if-hit-eq0.false) in
    let place : 32 + c.from.result * (24 + size) + 24 ≡ 32 + (frame - 1) * (24 + size) + 24 = ap (λ (k : ℕ). 32 + k * (24 + size) + 24) c.from.ensures in
    let under : c.args.done + n ≤ count = omega (arith, c.requires.steps.1, c.requires.steps.3, c.run_from-count.ensures.count.1) in
    let last = λ (j : ℕ) (lt : j < n). hit_last size count w c.args.self.now.frames (c.args.done + 1 + j) (frame + j) c.args.self.now.index.now is.table (c.run_from-count.ensures.each j lt) (omega arith) (omega (arith, under, lt)) (omega (arith, some)) in
    let one = c.run_from-count.ensures.count.0 in
    record {
      inside = omega (arith, place, run_inside size c.args.self.now.frames frame n w is.valid some one (last (n - 1) (omega (arith, one))).within);
      has = λ j lt un. let it = last j lt in un (frame + j) it.first it.within it.names;
      put = λ db j content lt left. subst (λ (a : ℕ). ◌≡◌ {A = List ℕ} content (part w (a + j * (size + 24)) size)) (sym place) (left_put size db w c.args.self.now.frames c.args.done n frame j content some lt (last j lt) left);
      apart = λ db p content one le out left. left_apart size db w c.args.self.now.frames c.args.done p content n out left;
    }

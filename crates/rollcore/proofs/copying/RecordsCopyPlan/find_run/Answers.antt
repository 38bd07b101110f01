use Rattle.rollcore.proofs.Facts.{HasEntry, None, Some, arith, count_is, entry_is, has_within, left_apart, left_put, left_skips, no_entry, read_entry, run_named, subst, ℕ, ⊎_elim, ◌*◌, ◌+◌, ◌-◌, ◌<◌, ◌≡◌}
use Rattle.rollcore.proofs.copying.RecordsCopyPlan.find_run.Goals as goal

pub returns-in_default-clause-copies : goal.returns-in_default-clause-copies
returns-in_default-clause-copies c = λ w is db p content one le left.
    let has = read_entry w c.args.self.now.scan.now is.read (c.args.done + 1) None c.in_default.ensures in
    let n = count_is w has.segments has.stop.at has.stop.why has.is c.requires.steps.0 (c.requires.steps.1 w is.read) in
    absurd (no_entry w has.segments has.stop.at has.stop.why has.is c.args.done (omega (arith, n, c.requires.steps.3, c.requires.most.0)) has)

pub returns-then-first-eq0-clause-copies : goal.returns-then-first-eq0-clause-copies
returns-then-first-eq0-clause-copies c = λ w is db p content one le left.
    let first = c.in-Some.first in
    let has = read_entry w c.args.self.now.scan.now is.read (c.args.done + 1) (Some first) c.in-Some.ensures in
    left_skips w has.segments has.stop.at has.stop.why has.is is.hot db c.args.done p content first (entry_is w has.segments has.stop.at has.stop.why has.is c.args.done first has)
    (λ e. ⊎_elim (λ zero. omega (arith, zero, e, one)) (λ above. omega (arith, above.1, e, le)) c.then-first-eq0.either) left

pub returns-clause-copies : goal.returns-clause-copies
returns-clause-copies c = λ w is.
    let size = c.args.shape.size in
    let first = c.in-Some.first in
    let n = c.run_from.result in
    let one = c.run_from.ensures.count.0 in
    let has = read_entry w c.args.self.now.scan.now is.read (c.args.done + 1) (Some first) c.in-Some.ensures in
    let each = c.run_from.ensures.each w is.read has in
    let are = λ (j : ℕ) (lt : j < n). entry_is w has.segments has.stop.at has.stop.why has.is (c.args.done + j) (record { page = first.page + j; at = first.at + j * (size + 8) })
    (subst (λ (m : ℕ). HasEntry w m (Some (record { page = first.page + j; at = first.at + j * (size + 8) }))) (let e : c.args.done + 1 + j ≡ c.args.done + j + 1 = omega arith in e) (each j lt)) in
    record {
      inside = has_within w size (c.args.done + 1 + (n - 1)) (record { page = first.page + (n - 1); at = first.at + (n - 1) * (size + 8) }) (omega arith) is.same (each (n - 1) (omega (arith, one)));
      has = λ j lt lacks. run_named w has.segments has.stop.at has.stop.why has.is is.hot c.args.done n size first is.same are j lt (lacks has.segments has.stop.at has.stop.why has.is);
      put = λ db j content lt left. left_put w has.segments has.stop.at has.stop.why has.is is.hot c.args.done n size first is.same are db j content lt left;
      apart = λ db p content one le out left. left_apart w has.segments has.stop.at has.stop.why has.is is.hot c.args.done n size first is.same are db p content out left;
    }

use Rattle.std.proofs.Common.{rules, ℕ, ◌<◌, ◌≤◌, ◌/◌, ◌^◌, subst}
use Rattle.sqview.proofs.openings.PagesWithinLimit.{count_fits}
use Rattle.sqview.proofs.view.opening.within_limit.Goals as goal

pub overflow_cast-result : goal.overflow_cast-result
overflow_cast-result c =
    let le = subst (λ (n : ℕ). c.args.count ≤ c.bytes.result / n) c.from.ensures c.if-count-bytes.false in
    let few : c.args.count < 2 ^ 32 = count_fits c.args.count c.bytes.result c.get.result le c.bytes.ensures.within c.get.ensures.valid in
    search rules

use Rattle.std.proofs.Common.{rules, ◌≡◌, ℕ, ◌<◌, ◌*◌, ◌/◌, sym, subst, arith}
use Rattle.std.specs.Prelude.{◌↔◌}
use Rattle.std.proofs.Math.Nat.{div-lt_iff_lt-mul}
use Rattle.sqval.proofs.page.FilePages.{size_some}
use Rattle.sqdeepjudge.proofs.missing.whole_pages.Goals as goal

pub returns : goal.returns
returns c = λ q.
    let same : c.from.result ≡ c.args.size = search rules in
    let least = size_some c.get.result c.get.ensures.valid in
    let value = c.get.ensures.value in
    let some : 0 < c.from.result = omega (arith, least, value, same) in
    let above : (c.args.long / c.from.result < q) ↔ (c.args.long < q * c.from.result) = div-lt_iff_lt-mul some in
    subst (λ (n : ℕ). (c.args.long / c.from.result < q) ↔ (c.args.long < q * n)) same above

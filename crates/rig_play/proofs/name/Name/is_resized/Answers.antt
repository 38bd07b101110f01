use Rattle.std.proofs.Common.{◌≡◌, ◌+◌, ◌-◌, length, sym, ◌∙◌, ap, arith, ℕ}
use Rattle.std.specs.Prelude.{Bool, ◌||◌, nat_lt}
use Rattle.crashdisk.specs.Model.{state_of}
use Rattle.rig_play.proofs.ChangeOfLastFile.{some_left}
use Rattle.rig_play.proofs.ResizedFiles.{below_is, above_is, resized}
use Rattle.rig_play.proofs.name.Name.is_resized.Goals as goal

pub returns-then-self-last : goal.returns-then-self-last
returns-then-self-last c =
    let name = c.args.self.now in
    let d = c.index.result.now in
    let some = some_left name.files.len c.is_empty.result c.is_empty.ensures c.if-is_empty.false in
    let last = c.len-last.result - 1 in
    let long : last + 1 ≡ length name.files.items = omega (arith, c.len-last.ensures, name.files.ok, some) in
    below_is name.made last c.if-self-last.true
    ∙ ap (λ (b : Bool). b || nat_lt (state_of d).db.least (state_of d).db.greatest) (sym (below_is name.made last c.if-self-last.true))
    ∙ resized name.made last name.files.items d long c.index.ensures

pub returns-else-self-last : goal.returns-else-self-last
returns-else-self-last c =
    let name = c.args.self.now in
    let d = c.index.result.now in
    let some = some_left name.files.len c.is_empty.result c.is_empty.ensures c.if-is_empty.false in
    let last = c.len-last.result - 1 in
    let long : last + 1 ≡ length name.files.items = omega (arith, c.len-last.ensures, name.files.ok, some) in
    let low = c.lengths-least.ensures.least in
    let high = c.lengths-least.ensures.greatest in
    ap (λ (k : ℕ). nat_lt k c.lengths-least.result.1) low
    ∙ ap (λ (k : ℕ). nat_lt (state_of d).db.least k) high
    ∙ ap (λ (b : Bool). b || nat_lt (state_of d).db.least (state_of d).db.greatest) (sym (above_is name.made last c.if-self-last.false))
    ∙ resized name.made last name.files.items d long c.index.ensures

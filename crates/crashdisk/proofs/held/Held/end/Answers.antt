use Rattle.crashdisk.proofs.Between.{List, ap, arith, ended_lists, ended_room, ended_whole, length, length-take, mul-le-mul_right, rules, take, ℕ, ◌∙◌, ◌≤◌}
use Rattle.crashdisk.proofs.held.Held.end.Goals as goal

pub end_each-requires : goal.end_each-requires
end_each-requires c =
    let old = c.args.self.now.sectors.items in
    let new = c.truncate.new.self.items in
    let le : length new ≤ length old = omega (arith, ap (λ (l : List (List (List ℕ))). length l) c.truncate.ensures.items, length-take c.div_ceil.result old) in
    omega (arith, c.requires.room, c.requires.small, mul-le-mul_right c.args.sector le)

pub returns-clause-held : goal.returns-clause-held
returns-clause-held c =
    let old = c.args.self.now in
    let items = old.sectors.items in
    let is = c.truncate.ensures.items ∙ ap (λ (k : ℕ). take k items) c.div_ceil.ensures in record {
      positive = c.requires.positive;
      small = c.requires.small;
      whole = ended_whole c.args.sector c.args.end old.len old.least old.greatest items c.truncate.new.self.items c.end_each.new.sectors.items c.requires.positive is c.end_each.ensures.count c.end_each.ensures.each c.requires.whole;
      room = ended_room c.args.sector c.args.end old.len old.least old.greatest items c.truncate.new.self.items c.end_each.new.sectors.items c.requires.positive is c.end_each.ensures.count c.end_each.ensures.each c.requires.room;
    }

pub returns-clause-ended : goal.returns-clause-ended
returns-clause-ended c =
    let old = c.args.self.now in
    let items = old.sectors.items in
    let is = c.truncate.ensures.items ∙ ap (λ (k : ℕ). take k items) c.div_ceil.ensures in
    ended_lists c.args.sector c.args.end old.len old.least old.greatest items c.truncate.new.self.items c.end_each.new.sectors.items c.requires.positive is c.end_each.ensures.count c.end_each.ensures.each c.requires.whole _ _ _ (search rules) (search rules) (search rules)

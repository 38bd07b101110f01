use Rattle.std.proofs.Common.{◌≡◌, ◌+◌, ◌-◌, ◌%◌, length, take, drop, arith, length-drop, refl, rules}
use Rattle.std.proofs.lemmas.Grind.{common_steps}
use Rattle.std.proofs.lemmas.List.{length-take-le}
use Rattle.sqval.proofs.payload.VarintNumbers.{spells_nine, spells_fewer, spells_shortest, begins_before, shorter}
use Rattle.sqval.proofs.varint.write.Goals as goal

pub returns-then-size-eq9-clause-spells : goal.returns-then-size-eq9-clause-spells
returns-then-size-eq9-clause-spells c =
    let size : c.size_of-size.result ≡ 9 = c.if-size-eq9.true in
    rw size (spells_nine c.write_sevens.new.out _ c.args.number (c.args.number % 256) (search rules) (search rules) c.write_sevens.ensures.digits c.write_sevens.ensures.top_bits refl)

pub returns-then-size-eq9-clause-shortest : goal.returns-then-size-eq9-clause-shortest
returns-then-size-eq9-clause-shortest c = spells_shortest c.args.number c.size_of-size.result c.size_of-size.ensures.at_most_nine c.size_of-size.ensures.least

pub returns-then-size-eq9-clause-reads_back : goal.returns-then-size-eq9-clause-reads_back
returns-then-size-eq9-clause-reads_back c = λ rest. begins_before _ _ _ rest (grind (arith, common_steps)) (returns-then-size-eq9-clause-spells c)

pub returns-else-size-eq9-clause-spells : goal.returns-else-size-eq9-clause-spells
returns-else-size-eq9-clause-spells c =
    let back : c.size_of-size.result - 1 + 1 ≡ c.size_of-size.result = omega arith in
    let spells = spells_fewer c.write_sevens-else-size-eq9.new.out (drop (c.size_of-size.result - 1) c.args.out.now) c.args.number (c.size_of-size.result - 1) (search rules) (omega arith) (omega (arith, length-drop (c.size_of-size.result - 1) c.args.out.now))
    c.write_sevens-else-size-eq9.ensures.digits c.write_sevens-else-size-eq9.ensures.top_bits in
    rw back at spells

pub returns-else-size-eq9-clause-shortest : goal.returns-else-size-eq9-clause-shortest
returns-else-size-eq9-clause-shortest c = spells_shortest c.args.number c.size_of-size.result c.size_of-size.ensures.at_most_nine c.size_of-size.ensures.least

pub returns-else-size-eq9-clause-reads_back : goal.returns-else-size-eq9-clause-reads_back
returns-else-size-eq9-clause-reads_back c = λ rest. begins_before _ _ _ rest (grind (arith, common_steps)) (returns-else-size-eq9-clause-spells c)

pub write_sevens-requires-else-size-eq9 : goal.write_sevens-requires-else-size-eq9
write_sevens-requires-else-size-eq9 c =
    let long : length (take (c.size_of-size.result - 1) c.args.out.now) ≡ c.size_of-size.result - 1 = length-take-le (c.size_of-size.result - 1) c.args.out.now (omega arith) in
    rw long (shorter c.args.number c.size_of-size.result c.size_of-size.ensures.at_least_one (c.size_of-size.ensures.enough (omega arith)))

use Rattle.std.proofs.Common.{◌≡◌, ◌+◌, ◌-◌, ◌/◌, ◌<◌, ◌∙◌, length, subst, arith, rules, refl}
use Rattle.std.proofs.lemmas.List.{length-set}
use Rattle.sqpage.specs.internal.Marking.{IsTouched}
use Rattle.sqpage.proofs.btree.MarksOnBytes.{part_touched, part_marked}
use Rattle.sqpage.proofs.layout.mark_bits.Goals as goal

pub returns-then-not-set_bits-clause-touched : goal.returns-then-not-set_bits-clause-touched
returns-then-not-set_bits-clause-touched c = λ _.
    let i = c.words.invariant in
    let size : c.args.at + c.args.size - c.args.at ≡ c.args.size = omega arith in
    subst (λ n. IsTouched c.args.map.now (record { start = c.args.at; size = n })) size
    (part_touched c.args.map.now c.words.map c.args.at c.words.from c.min-to.result (c.words.from / 64) i.marked i.begun (search rules) refl (search rules) (c.args.at + c.args.size) (search rules) (c.set_bits.ensures.has c.if-not-set_bits.true))

pub words-preserved : goal.words-preserved
words-preserved c =
    let i = c.words.invariant in
    let inside : c.words.from / 64 < length c.words.map = omega (arith, c.words-test.true, i.same_length, c.requires.within) in
    record {
      begun = search rules;
      within = search rules;
      marked = part_marked c.args.map.now c.words.map c.args.at c.words.from c.min-to.result (c.words.from / 64) i.marked i.begun (search rules) refl (search rules) c.set_bits.new.word inside (c.set_bits.ensures.sets c.if-not-set_bits.false);
      same_length = length-set c.words.map (c.words.from / 64) c.set_bits.new.word ∙ i.same_length;
    }

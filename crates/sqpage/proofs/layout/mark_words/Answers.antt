use Rattle.std.proofs.Common.{◌≡◌, ◌+◌, ◌-◌, ◌*◌, ◌^◌, ◌<◌, ◌∙◌, length, set, subst, arith}
use Rattle.std.proofs.lemmas.List.{length-set}
use Rattle.sqpage.specs.internal.Marking.{MarksSpan, IsTouched}
use Rattle.sqpage.proofs.btree.MarksOnBytes.{fills, some_bit, word_touched, word_marked}
use Rattle.sqpage.proofs.layout.mark_words.Goals as goal

pub returns-then-map-index-ne0-clause-touched : goal.returns-then-map-index-ne0-clause-touched
returns-then-map-index-ne0-clause-touched c = λ _.
    let size : 64 * c.args.last - 64 * c.args.first ≡ 64 * (c.args.last - c.args.first) = omega arith in
    subst (λ n. IsTouched c.args.map.now (record { start = 64 * c.args.first; size = n })) size
    (word_touched c.args.map.now c.words.map (64 * c.args.first) c.words.index c.words.invariant.marked (omega (arith, c.words.auto.index)) (64 * c.args.last) (omega (arith, c.words-test.true))
    (some_bit _ (c.type_inv.map c.words.index).fits c.if-map-index-ne0.true))

pub words-preserved : goal.words-preserved
words-preserved c =
    let i = c.words.invariant in
    let inside : c.words.index < length c.words.map = omega (arith, c.words-test.true, i.same_length, c.requires) in
    let size : 64 * c.words.index + 64 - 64 * c.args.first ≡ 64 * (c.words.index + 1) - 64 * c.args.first = omega arith in
    record {
      marked = subst (λ n. MarksSpan c.args.map.now (set c.words.map c.words.index (2 ^ 64 - 1)) (record { start = 64 * c.args.first; size = n })) size
          (word_marked c.args.map.now c.words.map (64 * c.args.first) c.words.index i.marked (omega (arith, c.words.auto.index)) _ inside (fills _ c.if-map-index-ne0.false));
      same_length = length-set c.words.map c.words.index _ ∙ i.same_length;
    }

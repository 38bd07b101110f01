use Rattle.std.proofs.Common.{◌≡◌, ◌≢◌, ◌^◌, ◌<◌, bit_and, bit_or, subst, sym}
use Rattle.sqpage.specs.internal.Marking.{SetsBits}
use Rattle.sqpage.proofs.btree.MarksOnBytes.{sets_bits, has_bit}
use Rattle.sqpage.proofs.layout.set_bits.Goals as goal

pub returns-then-word-bits-ne0-clause-has : goal.returns-then-word-bits-ne0-clause-has
returns-then-word-bits-ne0-clause-has c = λ _.
    has_bit c.args.word.now c.args.low c.args.high c.requires.order (subst (λ m. m < 2 ^ 64) c.bits_between-bits.ensures c.bits_between-bits.type_inv)
    (subst (λ m. bit_and c.args.word.now m ≢ 0) c.bits_between-bits.ensures c.if-word-bits-ne0.true)

pub returns-clause-sets : goal.returns-clause-sets
returns-clause-sets c = λ _.
    subst (λ m. SetsBits c.args.word.now (bit_or c.args.word.now m) c.args.low c.args.high) (sym c.bits_between-bits.ensures)
    (sets_bits c.args.word.now c.args.low c.args.high c.requires.order (subst (λ m. bit_and c.args.word.now m ≡ 0) c.bits_between-bits.ensures c.if-word-bits-ne0.false))

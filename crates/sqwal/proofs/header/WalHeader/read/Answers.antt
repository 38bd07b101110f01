use Rattle.std.proofs.Common.{◌≡◌, ℕ, List, [], refl, sym, ◌∙◌, subst, arith}
use Rattle.sqval.specs.Bytes.{part, word}
use Rattle.sqval.specs.PageSize.{IsPageSize}
use Rattle.sqwal.specs.Sums.{IsSumOf}
use Rattle.sqwal.specs.internal.Magic.{NamesOrder}
use Rattle.sqwal.specs.declared.sum.Order.{Order}
use Rattle.sqwal.proofs.log.HeaderAsRead.{magic_named, not_named, sums_right, sums_wrong, header_read}
use Rattle.sqwal.proofs.header.WalHeader.read.Goals as goal
use Rattle.sqwal.proofs.header.WalHeader.read.Goals.{then-sum-word-via-then-sum-word, then-sum-word-via-else-sum-word+then-sum-word-2}

named_at : (a b : ℕ) (order : Order) → a ≡ b → NamesOrder a order → NamesOrder b order
named_at a b order e = subst (λ (n : ℕ). NamesOrder n order) e

size_at : (a b : ℕ) → a ≡ b → IsPageSize a → IsPageSize b
size_at a b e = subst (λ (n : ℕ). IsPageSize n) e

pub returns-in_default : goal.returns-in_default
returns-in_default c = not_named c.args.bytes.now (λ order n. c.in_default.ensures order (named_at (word c.args.bytes.now 0) c.word.result order (sym c.word.ensures) n))

pub returns-then-sum-word : goal.returns-then-sum-word
returns-then-sum-word c =
    let w : List ℕ = c.args.bytes.now in
    let named : NamesOrder (word w 0) c.in-Some.order = named_at c.word.result (word w 0) c.in-Some.order c.word.ensures c.in-Some.ensures in
    let is : IsSumOf c.in-Some.order (part w 0 24) c.add-sum.result = c.add-sum.ensures [] refl (c.zero.ensures c.in-Some.order) in (
      magic_named w c.in-Some.order named,
      size_at c.word-2.result (word w 8) c.word-2.ensures (c.in-Some-new.ensures.valid.0 refl),
      sums_wrong w c.in-Some.order c.add-sum.result named is (λ a b. elim c.then-sum-word.branch [
        | then-sum-word-via-then-sum-word f ↦ f.if-sum-word.true (a ∙ sym c.word-3.ensures)
        | then-sum-word-via-else-sum-word+then-sum-word-2 f ↦ f.if-sum-word-2.true (b ∙ sym f.word-else-sum-word.ensures)
      ]),
    )

pub returns-then-word-ne-VERSION : goal.returns-then-word-ne-VERSION
returns-then-word-ne-VERSION c =
    let w : List ℕ = c.args.bytes.now in
    let named : NamesOrder (word w 0) c.in-Some.order = named_at c.word.result (word w 0) c.in-Some.order c.word.ensures c.in-Some.ensures in
    let is : IsSumOf c.in-Some.order (part w 0 24) c.add-sum.result = c.add-sum.ensures [] refl (c.zero.ensures c.in-Some.order) in (
      magic_named w c.in-Some.order named,
      size_at c.word-2.result (word w 8) c.word-2.ensures (c.in-Some-new.ensures.valid.0 refl),
      sums_right w c.in-Some.order c.add-sum.result named is (c.if-sum-word.false ∙ c.word-3.ensures) (c.if-sum-word-2.false ∙ c.word-else-sum-word.ensures),
      λ e. c.if-word-ne-VERSION.true (c.word-4.ensures ∙ e),
    )

pub returns : goal.returns
returns c =
    let w : List ℕ = c.args.bytes.now in
    let named : NamesOrder (word w 0) c.in-Some.order = named_at c.word.result (word w 0) c.in-Some.order c.word.ensures c.in-Some.ensures in
    let is : IsSumOf c.in-Some.order (part w 0 24) c.add-sum.result = c.add-sum.ensures [] refl (c.zero.ensures c.in-Some.order) in
    let size : c.in-Some-new.page_size ≡ word w 8 = c.in-Some-new.ensures.value ∙ c.word-2.ensures in
    let right = sums_right w c.in-Some.order c.add-sum.result named is (c.if-sum-word.false ∙ c.word-3.ensures) (c.if-sum-word-2.false ∙ c.word-else-sum-word.ensures) in
    header_read w _ (omega arith) named (size_at c.word-2.result c.in-Some-new.page_size (sym c.in-Some-new.ensures.value) (c.in-Some-new.ensures.valid.0 refl)) size right (sym c.word-4.ensures ∙ c.if-word-ne-VERSION.false) c.word-5.ensures c.word-6.ensures c.word-7.ensures

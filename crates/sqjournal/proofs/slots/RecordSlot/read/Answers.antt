use Rattle.std.proofs.Common.{◌≡◌, ◌+◌, ◌-◌, ◌∙◌, ap, refl, arith}
use Rattle.sqval.specs.Bytes.{word}
use Rattle.sqjournal.proofs.journal.RecordSlots.{slot_is}
use Rattle.sqjournal.proofs.slots.RecordSlot.read.Goals as goal

pub returns : goal.returns
returns c =
    let size : c.get-size.result ≡ c.args.page_size = c.get-size.ensures.value in (
      omega arith,
      λ b at place. slot_is c.args.page_size c.word_at-2.result c.page_sum-over.result (c.get-size.result + 4 - 4) c.args.bytes.now b at _ (omega arith) place c.word_at.ensures (c.word_at-2.ensures ∙ ap (λ k. word c.args.bytes.now (k + 4)) size) (omega arith) (omega arith) c.page_sum-over.ensures refl,
    )

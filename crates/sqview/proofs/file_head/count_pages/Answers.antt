use Rattle.std.proofs.Common.{◌∙◌, ◌<◌, inl, inr, length, sym, ap, arith}
use Rattle.std.specs.Int.{div_ceil}
use Rattle.sqjournal.proofs.read.JournalOfTakenBytes.{size_bounds}
use Rattle.sqview.proofs.file.FileHeads.{pages_named, pages_counted}
use Rattle.sqview.proofs.file_head.count_pages.Goals as goal
use Rattle.sqview.proofs.file_head.count_pages.Goals.{else-named-ne0-via-then-named-ne0+else-word_at, else-named-ne0-via-else-named-ne0}

pub returns-then-word_at : goal.returns-then-word_at
returns-then-word_at g c = λ gives head. c.from.ensures
    ∙ pages_named c.args.page_size (g.F.FileBytes.bytes c.args.file.now) c.args.head.now head c.word_at-named.result c.word_at-named.ensures c.if-named-ne0.true
    (sym c.word_at.ensures ∙ c.if-word_at.true ∙ c.word_at-then-named-ne0.ensures)

pub returns : goal.returns
returns g c = λ gives head.
    let file = g.F.FileBytes.bytes c.args.file.now in
    let some : 0 < c.args.page_size = omega (arith, (size_bounds c.get.result c.get.ensures.valid).0, c.get.ensures.value) in
    pages_counted c.args.page_size file c.args.head.now head c.div_ceil.result some
    (c.div_ceil.ensures ∙ ap (λ n. div_ceil n c.from-2.result) (c.len.ensures.count gives) ∙ ap (div_ceil (length file)) (c.from-2.ensures ∙ c.get.ensures.value))
    (elim c.else-named-ne0.branch [
      | else-named-ne0-via-then-named-ne0+else-word_at w ↦ inr (λ e. w.if-word_at.false (w.word_at.ensures ∙ e ∙ sym w.word_at-then-named-ne0.ensures))
      | else-named-ne0-via-else-named-ne0 w ↦ inl (sym c.word_at-named.ensures ∙ w.if-named-ne0.false)
    ])

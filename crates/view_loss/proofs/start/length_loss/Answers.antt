use Rattle.std.proofs.Common.{ℕ, ◌+◌, Option, sym, subst}
use Rattle.view_loss.specs.declared.loss.Loss.{Loss}
use Rattle.view_loss.specs.internal.Reasons.{IsCutBy, IsLengthLoss, IsNoCut}
use Rattle.view_loss.proofs.PagesCounted.{cut_short, zeros_loss}
use Rattle.view_loss.proofs.start.length_loss.Goals as goal

pub returns-in-Some-clause-right : goal.returns-in-Some-clause-right
returns-in-Some-clause-right g c = λ given most front w took named is one start.
    let file = g.F.FileBytes.bytes c.args.file in
    let s = c.args.start in
    let cut = subst (λ (k : ℕ). IsCutBy k w front (s.long + 1) s.long c.in-Some.frame) named (c.in-Some.ensures most front w took is one) in
    cut_short c.args.page_size w front file s start c.if-start-ne0.false c.in-Some.frame cut

pub returns-in-Ok-clause-right : goal.returns-in-Ok-clause-right
returns-in-Ok-clause-right g c = λ given most front w took named is one start.
    let file = g.F.FileBytes.bytes c.args.file in
    let s = c.args.start in
    let uncut = subst (λ (k : ℕ). IsNoCut k w front (s.long + 1) s.long) named (c.in-None.ensures most front w took is one) in
    let none = c.if-start-ne0.false in
    subst (λ (l : Option Loss). IsLengthLoss c.args.page_size w front file l) (sym c.lengthened.ensures)
    (zeros_loss c.args.page_size w front file s start none uncut c.in-Ok.zeros (c.in-Ok.ensures.right given))

use Rattle.std.proofs.Common.{◌≡◌, ℕ, Bool, true, false, sym, ◌∙◌, ap, subst}
use Rattle.sqwal.specs.Frames.{IsValidFrame, page_of}
use Rattle.view_loss.proofs.CopiedFrames.{copied_if}
use Rattle.view_loss.proofs.loss.is_copied_by.Goals as goal

pub returns-in_default-clause-read : goal.returns-in_default-clause-read
returns-in_default-clause-read g c = λ r most took named valid.
    let w = g.F.FileBytes.bytes c.args.log.now in
    absurd (c.in_default.ensures most w took (subst (λ (n : ℕ). IsValidFrame n w c.args.frame) (sym named) valid))

pub returns-then-entry-page-clause-read : goal.returns-then-entry-page-clause-read
returns-then-entry-page-clause-read g c = λ r most took named valid.
    let w = g.F.FileBytes.bytes c.args.log.now in
    let names = (c.in-Some.ensures most w took).1 in (
      λ bad. let b : false ≡ true = bad in cc,
      λ both. absurd (c.if-entry-page.true (names ∙ ap (λ (n : ℕ). page_of n w c.args.frame) named ∙ both.0)),
    )

pub returns-clause-read : goal.returns-clause-read
returns-clause-read g c = λ r.
    let w = g.F.FileBytes.bytes c.args.log.now in
    copied_if c.is_copy.result w c.args.scan.now c.args.page_size c.args.frame c.args.of.0 c.place.result c.args.of.1.now c.requires.0 c.requires.1 c.place.ensures.place
    (λ most took. sym (c.in-Some.ensures most w took).1 ∙ c.if-entry-page.false) (c.is_copy.ensures.read r)

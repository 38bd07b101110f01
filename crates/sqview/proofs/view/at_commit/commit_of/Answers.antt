use Rattle.std.proofs.Common.{rules, ◌≡◌, refl, sym, ◌∙◌, arith}
use Rattle.std.specs.Prelude.{None}
use Rattle.sqview.proofs.view.at_commit.commit_of.Goals as goal

pub returns-in_err-header : goal.returns-in_err-header
returns-in_err-header c = λ most w took.
    let none : c.from_residual.result ≡ None = search rules in
    let short = c.in_err-header.ensures most w took in
    rw none (λ is. omega (arith, (is.0.each c.args.frame is.0.first (omega arith)).header.whole, short))

pub returns-in_err-entry : goal.returns-in_err-entry
returns-in_err-entry c = λ most w took.
    let none : c.from_residual-in_err-entry.result ≡ None = search rules in
    let invalid = c.in_err-entry.ensures most w took in
    rw none (λ is. invalid is.0)

pub returns-then-entry-eq0 : goal.returns-then-entry-eq0
returns-then-entry-eq0 c = λ most w took is. is.1 (sym (c.in_ok-entry.ensures most w took).2 ∙ c.if-entry-eq0.true)

pub returns : goal.returns
returns c = λ most w took.
    let found = c.in_ok-entry.ensures most w took in
    ((c.in_ok-header.ensures most w took).1.valid, found.0, λ z. c.if-entry-eq0.false (found.2 ∙ z), found.2, refl)

use Rattle.std.proofs.Common.{◌≡◌, ◌∙◌, true, false, refl, sym, arith}
use Rattle.sqpast.proofs.known.BeforeCommits.{front_header}
use Rattle.sqpast.proofs.before.is_other_size.Goals as goal

pub returns-in_default : goal.returns-in_default
returns-in_default c = λ most w took is. record {
  yes = λ t. let bad : false ≡ true = t in cc;
  no = λ _ one. absurd (omega (arith, (front_header w c.args.front one is).whole, c.in_default.ensures most w took));
}

pub returns-then-front-eq0 : goal.returns-then-front-eq0
returns-then-front-eq0 c = λ most w took is. record {
  yes = λ t. let bad : false ≡ true = t in cc;
  no = λ _ one. absurd (omega (arith, c.if-front-eq0.true));
}

pub returns-then-named-size : goal.returns-then-named-size
returns-then-named-size c = λ most w took is. record {
  yes = λ t. let bad : false ≡ true = t in cc;
  no = λ _ one. sym c.get-size.ensures.value ∙ sym c.if-named-size.true ∙ c.get-named.ensures.value ∙ sym (c.in-Some.ensures most w took).1.valid.named;
}

pub returns : goal.returns
returns c = λ most w took is. record {
  yes = λ _. (omega (arith, c.if-front-eq0.false), λ same. c.if-named-size.false (c.get-named.ensures.value ∙ sym (c.in-Some.ensures most w took).1.valid.named ∙ sym same ∙ sym c.get-size.ensures.value));
  no = λ not. absurd (not refl);
}

use Rattle.std.proofs.Common.{◌≡◌, ◌↔◌, IsTrue, inr, ℕ, List, [], ◌∷◌, None, Some, refl, ◌∙◌, subst, arith}
use Rattle.std.proofs.lemmas.Str.Pattern.{split_once_first}
use Rattle.sqcrash_store.proofs.asking.said.Goals as goal

pub returns : goal.returns
returns c =
    let parts = split_once_first 32 c.args.line.now (Some (c.in-Some.status, c.in-Some.text)) c.in-Some.ensures.cases (omega arith) in record {
      space = parts.0;
      status = subst (λ (l : List ℕ). IsTrue c.is_zero.result ↔ (l ≡ 48 ∷ [])) parts.1 c.is_zero.ensures;
      text = c.in_ok-from_str.ensures.ok ∙ parts.2;
    }

pub returns-in_default : goal.returns-in_default
returns-in_default c = inr (refl, split_once_first 32 c.args.line.now None c.in_default.ensures.cases (omega arith))

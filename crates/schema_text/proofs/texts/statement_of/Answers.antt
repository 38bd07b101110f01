-- The tokens are those of the only reading.
use Rattle.std.proofs.Common.{◌≡◌, ◌∙◌, arith}
use Rattle.std.proofs.lemmas.Grind.{common_steps}
use Rattle.schema_text.proofs.SameTokens.{same_tokens}
use Rattle.schema_text.proofs.texts.statement_of.Goals as goal

pub returns-clause-only : goal.returns-clause-only
returns-clause-only c ts k =
    let bytes = c.args.bytes.now in
    let statement = c.first_statement-statement.result.now in
    let lemma = same_tokens bytes c.in_ok-reading.reading.pieces.items c.in_ok-reading.reading.end ts c.in_ok-reading.ensures.only k in
    let e : statement ≡ ts = grind (arith, common_steps, lemma) in
    let kept : c.in_ok-kept.kept.items ≡ statement = grind (arith, common_steps) in
    kept ∙ e

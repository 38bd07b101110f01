use Rattle.std.proofs.Common.{◌≡◌, ◌∙◌, sym}
use Rattle.std.proofs.lemmas.Str.Pattern.{ends_text}
use Rattle.sqlocks.proofs.told.ends.Goals as goal

pub returns : goal.returns
returns c = let e = ends_text c.ends_with.result c.args.text.now c.args.line.now c.ends_with.ensures.cases in (λ t. sym e ∙ t, λ t. e ∙ t)

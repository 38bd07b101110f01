use Rattle.std.proofs.Common.{◌-◌, ◌∙◌, get_or, ap}
use Rattle.std.specs.Prelude.{unwrap_or}
use Rattle.std.proofs.lemmas.Option.{unwrap_or-slice_get}
use Rattle.sqwal.proofs.feed.ScanAnswers.{copied_get}
use Rattle.sqpast.proofs.chains.Chains.after.Goals as goal

pub returns : goal.returns
returns c =
    c.unwrap_or.ensures ∙ ap (λ o. unwrap_or o 0) (c.copied.ensures ∙ copied_get c.deref.result.now (c.args.frame - 1) c.get.result c.get.ensures.lookup)
    ∙ unwrap_or-slice_get c.deref.result.now (c.args.frame - 1) 0 ∙ ap (λ l. get_or l (c.args.frame - 1) 0) c.deref.ensures.value

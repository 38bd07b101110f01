use Rattle.std.proofs.Common.{◌∙◌}
use Rattle.sqrescue_c.proofs.DeepFindings.{no_other_status}
use Rattle.sqrescue_c.proofs.deep.sqr_check_deep_all.Goals as goal

pub returns-in-Ok-clause-unjudged : goal.returns-in-Ok-clause-unjudged
returns-in-Ok-clause-unjudged c = λ two _ other. absurd (no_other_status c.args.flags c.in-Ok.verdict c.number.result (c.number.ensures ∙ c.status_of.ensures) two other)

pub returns-in-Ok-clause-kept : goal.returns-in-Ok-clause-kept
returns-in-Ok-clause-kept c = λ two other. absurd (no_other_status c.args.flags c.in-Ok.verdict c.number.result (c.number.ensures ∙ c.status_of.ensures) two other)

pub returns-in-Ok-clause-rows_kept : goal.returns-in-Ok-clause-rows_kept
returns-in-Ok-clause-rows_kept c = λ two other. absurd (no_other_status c.args.flags c.in-Ok.verdict c.number.result (c.number.ensures ∙ c.status_of.ensures) two other)

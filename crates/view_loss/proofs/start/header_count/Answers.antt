use Rattle.std.proofs.Common.{sym, ◌∙◌}
use Rattle.sqpast.proofs.known.KnownViews.{count_invalid, count_valid}
use Rattle.view_loss.proofs.start.header_count.Goals as goal

pub returns-then-changed-valid_for : goal.returns-then-changed-valid_for
returns-then-changed-valid_for c = sym (count_invalid c.args.first.now (λ e. c.if-changed-valid_for.true (c.word_at-changed.ensures ∙ e ∙ sym c.word_at-valid_for.ensures)))

pub returns : goal.returns
returns c = c.word_at.ensures ∙ sym (count_valid c.args.first.now (sym c.word_at-changed.ensures ∙ c.if-changed-valid_for.false ∙ c.word_at-valid_for.ensures))

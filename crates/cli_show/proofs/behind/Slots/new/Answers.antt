use Rattle.std.proofs.Common.{ℕ, ◌/◌, ◌<◌, subst}
use Rattle.cli_show.proofs.LinesBehind.{slots_within}
use Rattle.cli_show.proofs.behind.Slots.new.Goals as goal

pub returns-clause-within : goal.returns-clause-within
returns-clause-within c = λ i below.
    slots_within c.args.from c.args.length c.args.end i c.requires (subst (λ (n : ℕ). i < n / c.args.length) c.saturating_sub-bytes.ensures below)

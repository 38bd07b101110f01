use Rattle.std.proofs.Common.{◌≡◌, ◌-◌, ◌<◌, ◌≤◌, ◌^◌, ℕ, ◌∙◌, sym, subst, arith}
use Rattle.std.specs.Prelude.{Option, None, Some}
use Rattle.sqjournal.specs.Took.{HasEntry}
use Rattle.sqjournal.specs.declared.reading.Record.{Record}
use Rattle.cli_show.specs.internal.Behind.{IsLastPlace}
use Rattle.cli_show.proofs.LastSegments.{far_place, near_place, no_place, stopped}
use Rattle.cli_show.proofs.behind.last_place.Goals as goal

pub returns-in_err-last : goal.returns-in_err-last
returns-in_err-last c = λ b hot names read.
    let none : ◌≡◌ {A = Option Record} c.entry.result None = cc in
    let is : ◌≡◌ {A = Option ℕ} c.from_residual.result None = cc in
    subst (λ (o : Option ℕ). IsLastPlace b o) (sym is)
    (no_place b c.args.replay.now read c.count.result c.entry.result none hot (c.count.ensures read.front read.took) (c.entry.ensures read.front read.took))

pub returns-then-saturating_sub-from : goal.returns-then-saturating_sub-from
returns-then-saturating_sub-from c = λ b hot names read.
    let e = c.in_ok-last.last in
    let is : ◌≡◌ {A = Option Record} c.entry.result (Some e) = cc in
    let entry = subst (λ (o : Option Record). HasEntry read.front c.count.result o) is (c.entry.ensures read.front read.took) in
    let s = stopped b c.args.replay.now read c.count.result (Some e) c.stop.result hot (c.count.ensures read.front read.took) entry (c.stop.ensures read.front read.took) in
    let fits : c.stop.result.at < 2 ^ 64 = omega arith in
    let near : c.stop.result.at - c.saturating_add-end.result < c.from-2.result = omega arith in
    near_place b e c.stop.result c.from.result c.from-2.result c.saturating_sub-place.result c.saturating_add-end.result hot (c.from.ensures ∙ c.get.ensures.value ∙ names.size)
    (c.from-2.ensures ∙ names.sector) c.saturating_sub-place.ensures c.saturating_add-end.ensures fits s near

pub returns-else-saturating_sub-from : goal.returns-else-saturating_sub-from
returns-else-saturating_sub-from c = λ b hot names read.
    let e = c.in_ok-last.last in
    let is : ◌≡◌ {A = Option Record} c.entry.result (Some e) = cc in
    let entry = subst (λ (o : Option Record). HasEntry read.front c.count.result o) is (c.entry.ensures read.front read.took) in
    let s = stopped b c.args.replay.now read c.count.result (Some e) c.stop.result hot (c.count.ensures read.front read.took) entry (c.stop.ensures read.front read.took) in
    let fits : c.stop.result.at < 2 ^ 64 = omega arith in
    let far : c.from-2.result ≤ c.stop.result.at - c.saturating_add-end.result = omega arith in
    far_place b e c.stop.result c.from.result c.from-2.result c.saturating_sub-place.result c.saturating_add-end.result hot (c.from.ensures ∙ c.get.ensures.value ∙ names.size)
    (c.from-2.ensures ∙ names.sector) c.saturating_sub-place.ensures c.saturating_add-end.ensures fits s far

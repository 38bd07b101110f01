use Rattle.std.proofs.Common.{◌≡◌, ℕ, ◌+◌, ◌-◌, ◌*◌, ◌/◌, ◌<◌, ◌∙◌, ap, subst}
use Rattle.crashdisk.specs.Count.{value_count, ways, sector_count}
use Rattle.crashdisk.specs.Model.{state_of}
use Rattle.rig_images.proofs.CountsOfWays.{above_choices}
use Rattle.rig_images.proofs.counts.file_count.Goals as goal

pub returns-in_default : goal.returns-in_default
returns-in_default c =
    let st = state_of c.args.disk.now in
    let k = c.loop-k.k in
    let size = c.sector-sector.result in
    let end : (c.lengths-least.result.1 + size - 1) / size ≡ sector_count st.sector st.db.greatest =
    ap (λ (x : ℕ). (x + size - 1) / size) c.lengths-least.ensures.greatest ∙ ap (λ (y : ℕ). (st.db.greatest + y - 1) / y) (c.sector-sector.ensures.answer tt) in
    let less : k < sector_count st.sector st.db.greatest = subst (λ (n : ℕ). k < n) end c.loop-k-test.true in
    let product : c.loop-k.count * c.values-values.result ≡ ways (value_count st.db) k * value_count st.db k =
    ap (λ (x : ℕ). x * c.values-values.result) c.loop-k.invariant ∙ ap (λ (y : ℕ). ways (value_count st.db) k * y) c.values-values.ensures in
    above_choices st.sector c.args.limit k st.db less (subst (λ (n : ℕ). c.args.limit < n) product c.in_default.ensures)

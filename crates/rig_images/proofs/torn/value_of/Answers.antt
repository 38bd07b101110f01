use Rattle.std.proofs.Common.{◌≡◌, ℕ, ◌+◌, ◌*◌, List, [], ◌++◌, length, sym, ◌∙◌, ap, arith, Some}
use Rattle.std.specs.Prelude.{min}
use Rattle.crashdisk.specs.Choice.{Naming, naming_of, image_of, is_newest}
use Rattle.crashdisk.specs.Model.{state_of}
use Rattle.crashdisk.specs.internal.SoundModel.{size_positive}
use Rattle.rig_images.proofs.TornSectors.{value_is}
use Rattle.rig_images.proofs.torn.value_of.Goals as goal

pub returns-in-Ok : goal.returns-in-Ok
returns-in-Ok c =
    let disk = c.args.disk.now in
    let st = state_of disk in
    let image = c.deref.result.now in
    let is = c.deref.ensures.value ∙ c.in_ok-image.ensures.ok ∙ ap (λ (l : List ℕ). l ++ image_of st.sector st.tears st.db (naming_of c.plain.result)) c.new-all.ensures.items
    ∙ ap (λ (n : Naming). image_of st.sector st.tears st.db n) c.plain.ensures
    ∙ ap (λ (n : ℕ). image_of st.sector st.tears st.db (record { pick = []; torn = []; newest = is_newest c.args.rest; len = Some n })) c.lengths-greatest.ensures.greatest in
    value_is st.sector st.tears st.db (is_newest c.args.rest) c.args.k c.min-start.result c.min-end.result image c.in-Ok.bytes.items (size_positive st.sector disk.is_size).0
    (omega (arith, disk.db_solid.least, disk.db_solid.greatest)) is
    (c.min-start.ensures ∙ ap (λ (n : ℕ). min (c.args.k * n) c.len.result) (c.sector.ensures.answer tt) ∙ ap (λ (n : ℕ). min (c.args.k * st.sector) n) (c.len.ensures ∙ sym c.deref.ensures.len))
    (c.min-end.ensures ∙ ap (λ (n : ℕ). min (c.min-start.result + n) c.len-2.result) (c.sector-2.ensures.answer tt) ∙ ap (λ (n : ℕ). min (c.min-start.result + st.sector) n) (c.len-2.ensures ∙ sym c.deref.ensures.len))
    c.in-Ok.ensures.items

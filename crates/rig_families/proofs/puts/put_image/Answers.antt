use Rattle.std.proofs.Common.{◌≡◌, inl, inr, ℕ, ◌<◌, ◌++◌, List, length, get_or, sym, ◌∙◌, ap, subst, arith}
use Rattle.std.proofs.lemmas.Bool.{cases_lt}
use Rattle.std.proofs.lemmas.List.{get_or_past}
use Rattle.std.proofs.lemmas.Result.{IfOk-weaker, MatchResult-from_both}
use Rattle.crashdisk.specs.Choice.{naming_of, image_of}
use Rattle.crashdisk.specs.Model.{state_of}
use Rattle.crashdisk.specs.State.{IsImage}
use Rattle.crashdisk.specs.internal.SoundModel.{sound_disk}
use Rattle.crashdisk.proofs.image.ImageNamedByChoice.{image_named}
use Rattle.rig_families.proofs.puts.put_image.Goals as goal

are_bytes : (out : List ℕ) → ((i d : ℕ) → i < length out → get_or out i d < 256) → (i : ℕ) → get_or out i 0 < 256
are_bytes out are i = elim (cases_lt i (length out)) [
  | inl lt ↦ are i 0 lt
  | inr past ↦ omega (arith, get_or_past out i 0 past)
]

pub returns : goal.returns
returns c =
    let disk = c.args.disk.now in
    let s = state_of disk in
    let sound = (sound_disk s disk.is_size disk.db_solid disk.log_solid disk.counted disk.untorn).db in
    let naming = naming_of c.args.choice.now in
    let bytes = image_of s.sector s.tears s.db naming in
    let out = c.image.new.out.items in
    MatchResult-from_both c.image.result _ _ (IfOk-weaker c.image.result _ _ (λ done is.
    let same : out ≡ bytes = is ∙ ap (λ (l : List ℕ). l ++ bytes) c.clear.ensures.items in
    let small : (i : ℕ) → get_or bytes i 0 < 256 = λ i. subst (λ (l : List ℕ). get_or l i 0 < 256) same (are_bytes out c.type_inv.out i) in
    (same, subst (λ (l : List ℕ). IsImage s.sector s.tears s.db l) (sym same) (image_named s.sector s.tears s.db naming sound small))) c.image.ensures.ok)
    c.image.ensures.error

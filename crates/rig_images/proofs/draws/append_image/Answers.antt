use Rattle.std.proofs.Common.{◌≡◌, inl, inr, ℕ, ◌+◌, ◌<◌, ◌++◌, List, length, get_or, length-append, ◌∙◌, ap, refl, arith}
use Rattle.std.proofs.lemmas.Bool.{cases_lt}
use Rattle.std.proofs.lemmas.List.{get_or_past, get_or-append-add}
use Rattle.std.proofs.lemmas.Result.{IfOk-weaker, MatchResult-from_both}
use Rattle.crashdisk.specs.Choice.{naming_of, image_of}
use Rattle.crashdisk.specs.Model.{state_of}
use Rattle.crashdisk.specs.internal.SoundModel.{sound_disk}
use Rattle.crashdisk.proofs.image.ImageNamedByChoice.{image_named}
use Rattle.rig_images.proofs.draws.append_image.Goals as goal

-- behind a list of bytes stands a list of bytes
bytes_behind : (all front back : List ℕ) → ((i d : ℕ) → i < length all → get_or all i d < 256) → all ≡ front ++ back → (i : ℕ) → get_or back i 0 < 256
bytes_behind all front back are is i = elim (cases_lt i (length back)) [
  | inl lt ↦
      let at : get_or all (length front + i) 0 ≡ get_or back i 0 = ap (λ (l : List ℕ). get_or l (length front + i) 0) is ∙ get_or-append-add front back i 0 in
      let long : length all ≡ length front + length back = ap (λ (l : List ℕ). length l) is ∙ length-append front back in
      let small : get_or all (length front + i) 0 < 256 = are (length front + i) 0 (omega arith) in
      omega arith
  | inr past ↦ omega (arith, get_or_past back i 0 past)
]

pub returns : goal.returns
returns c =
    let disk = c.args.disk.now in
    let s = state_of disk in
    let sound = (sound_disk s disk.is_size disk.db_solid disk.log_solid disk.counted disk.untorn).db in
    let bytes = image_of s.sector s.tears s.db (naming_of c.args.choice.now) in
    MatchResult-from_both c.image.result _ _ (IfOk-weaker c.image.result _ _ (λ done is. (
      bytes,
      is,
      record {
        is = refl;
        left = image_named s.sector s.tears s.db (naming_of c.args.choice.now) sound
            (bytes_behind c.image.new.out.items c.args.out.now.items bytes c.type_inv.out is);
      },
    )) c.image.ensures.ok) c.image.ensures.error

use Rattle.std.proofs.Common.{◌≡◌, ◌↔◌, inl, inr, List, true, false, refl, sym, ◌∙◌, subst}
use Rattle.crashdisk.specs.Call.{DiskState}
use Rattle.rig_play.specs.Names.{name_of}
use Rattle.rig_images.specs.Ways.{held_files}
use Rattle.rig_shrink.specs.internal.Values.{IsOfOne}
use Rattle.rig_shrink.proofs.files.may_be_left.Goals as goal

pub returns-then-is_none : goal.returns-then-is_none
returns-then-is_none c = (λ yes. inr (c.is_none.ensures.0 c.if-is_none.true), λ left. refl)

pub returns : goal.returns
returns c =
    let bytes = c.args.bytes.now in
    let held = held_files (name_of c.args.name.now) c.args.holds in
    let is : (c.in_ok-found.found ≡ true) ↔ IsOfOne held bytes = subst (λ (l : List DiskState). (c.in_ok-found.found ≡ true) ↔ IsOfOne l bytes) c.held_files.ensures c.in_ok-found.ensures in (
      λ yes. inl (is.0 yes),
      λ left. elim left [
        | inl one ↦ is.1 one
        | inr none ↦ let no : true ≡ false = sym (c.is_none.ensures.1 none) ∙ c.if-is_none.false in absurd (cc no)
      ],
    )

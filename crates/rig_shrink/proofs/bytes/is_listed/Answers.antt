use Rattle.std.proofs.Common.{◌≡◌, ◌↔◌, inr, ℕ, List, length, map, true, false, refl, sym, ◌∙◌, subst, arith}
use Rattle.crashdisk.specs.Model.{state_of}
use Rattle.crashdisk.specs.internal.SoundModel.{size_positive}
use Rattle.rig_shrink.specs.internal.Values.{IsSameAsOne}
use Rattle.rig_shrink.proofs.SectorsByValue.{iff_by, listed_iff}
use Rattle.rig_shrink.proofs.bytes.is_listed.Goals as goal

pub is_same_as_one-requires : goal.is_same_as_one-requires
is_same_as_one-requires c = omega (arith, (size_positive (state_of c.args.disk.now).sector c.args.disk.now.is_size).0, c.sector.ensures.answer tt)

pub returns-then-may_tear : goal.returns-then-may_tear
returns-then-may_tear c =
    let torn = c.may_tear.ensures.0 c.if-may_tear.true in
    (λ yes. inr (inr (torn.0, torn.1, λ i at. omega (arith, c.type_inv.bytes i))), λ is. refl)

pub returns : goal.returns
returns c =
    let s = state_of c.args.disk.now in
    let k = c.args.k in
    let all = map (λ v. v.items) c.args.all.now in
    let bytes = c.args.bytes.now in
    iff_by (subst (λ (n : ℕ). (c.is_same_as_one.result ≡ true) ↔ IsSameAsOne n k all bytes) (c.sector.ensures.answer tt) c.is_same_as_one.ensures)
    (listed_iff s k all bytes c.requires.values c.requires.within c.requires.long
    (λ tears touched. let no : true ≡ false = sym (c.may_tear.ensures.1 (tears, touched)) ∙ c.if-may_tear.false in absurd (cc no)))

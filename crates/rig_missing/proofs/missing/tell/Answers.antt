use Rattle.std.proofs.Common.{◌<◌, inl, inr, length, refl, arith}
use Rattle.std.proofs.lemmas.List.{nil_from_length}
use Rattle.rig_missing.specs.declared.missing.Missing.{Missing}
use Rattle.rig_missing.proofs.missing.tell.Goals as goal

pub returns-then-len-eq0 : goal.returns-then-len-eq0
returns-then-len-eq0 c = inl (nil_from_length c.args.sectors.items (omega (arith, c.len.ensures, c.args.sectors.ok.0)), refl)

pub returns : goal.returns
returns c =
    let x = c.args.change.now in
    let m : Missing = record { number = x.number; kind = x.kind; subject = x.subject; place = x.place; count = x.count; sectors = c.args.sectors } in
    let some : 0 < length c.args.sectors.items = omega (arith, c.if-len-eq0.false, c.len.ensures, c.args.sectors.ok.0) in
    inr (some, (m, record { number = refl; kind = refl; subject = refl; place = refl; count = refl; sectors = refl }, c.in_ok-push.ensures.items))

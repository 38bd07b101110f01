use Rattle.std.proofs.Common.{map, nat_eq, subst}
use Rattle.std.specs.Io.KnownBytes.{Appends}
use Rattle.std.specs.String.{string_bytes}
use Rattle.rig_store.specs.declared.differing.Difference.{Difference}
use Rattle.sqcrash_store.specs.Objects.{difference_object, member}
use Rattle.sqcrash_store.proofs.MembersWritten.{member_next}
use Rattle.sqcrash_store.proofs.objects.write_differences.Goals as goal

pub loop-i-preserved : goal.loop-i-preserved
loop-i-preserved g c =
    let text = difference_object (map (λ n. string_bytes n) c.args.names.now) in
    let i = c.loop-i.i in
    let x = c.index-differences-i.result in
    let mid = g.O.Write.contents c.loop-i.out in
    let new = g.O.Write.contents c.write_next.new.out in
    member_next text c.args.differences.now i x (g.O.Write.contents c.args.out.now) mid new c.loop-i-test.true c.loop-i.invariant
    (subst (λ (d : Difference). Appends mid new (member text (nat_eq i 0) d)) c.index-differences-i.is c.in_ok-write_next.ensures)

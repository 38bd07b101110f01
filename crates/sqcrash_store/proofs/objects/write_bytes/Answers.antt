use Rattle.std.proofs.Common.{ℕ, List, get_or, refl, subst}
use Rattle.std.proofs.lemmas.List.{take_all}
use Rattle.std.specs.Io.KnownBytes.{Appends}
use Rattle.std.specs.List.{flat_map}
use Rattle.sqcrash_store.specs.Objects.{escaped}
use Rattle.sqcrash_store.proofs.AppendedBytes.{appends_none, appends_next}
use Rattle.sqcrash_store.proofs.objects.write_bytes.Goals as goal

pub loop-byte-init : goal.loop-byte-init
loop-byte-init g c = appends_none (g.O.Write.contents c.args.out.now)

pub loop-byte-preserved : goal.loop-byte-preserved
loop-byte-preserved g c =
    let bytes = c.args.bytes.now in
    let i = c.loop-byte.byte-index in
    appends_next escaped bytes i (get_or bytes i 0) 0 (g.O.Write.contents c.args.out.now) (g.O.Write.contents c.loop-byte.out) (g.O.Write.contents c.write_escaped.new.out)
    c.loop-byte-test.true refl c.loop-byte.invariant c.in_ok-write_escaped.ensures

pub returns : goal.returns
returns g c =
    subst (λ (l : List ℕ). Appends (g.O.Write.contents c.args.out.now) (g.O.Write.contents c.loop-byte.out) (flat_map escaped l))
    (take_all c.loop-byte.byte-index c.args.bytes.now c.loop-byte-test.false) c.loop-byte.invariant

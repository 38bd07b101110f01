use Rattle.std.proofs.Common.{ℕ, List, subst}
use Rattle.std.specs.Io.KnownBytes.{Appends}
use Rattle.std.specs.String.{string_bytes}
use Rattle.std.proofs.lemmas.Result.{on_ok_weaker}
use Rattle.sqcrash_store.specs.Objects.{place_object, verdict_object}
use Rattle.sqcrash_store.proofs.AppendedBytes.{appends_more}
use Rattle.sqcrash_store.proofs.objects.write_head.Goals as goal

pub returns : goal.returns
returns g c =
    let f = c.args.found.now in
    let old = g.O.Write.contents c.args.out.now in
    let mid = g.O.Write.contents c.write.new.self in
    let new = g.O.Write.contents c.write_verdict.new.out in
    on_ok_weaker c.write_verdict.result
    (λ last. appends_more old mid new (place_object f.crash.point f.number) (verdict_object f.verdict f.crash.known (string_bytes f.line)) c.in_ok-write.ensures.bytes
    (subst (λ (l : List ℕ). Appends mid new (verdict_object f.verdict f.crash.known l)) c.as_str.ensures.value last))
    c.write_verdict.ensures

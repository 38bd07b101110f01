use Rattle.std.proofs.Common.{Bool, OnOk, [], cond, map, sym, subst}
use Rattle.std.specs.Io.KnownBytes.{Appends}
use Rattle.std.specs.String.{string_bytes}
use Rattle.sqcrash_store.specs.Objects.{why_object}
use Rattle.sqcrash_store.proofs.AppendedBytes.{appends_none}
use Rattle.sqcrash_store.proofs.objects.write_why_if.Goals as goal

pub returns-then-not-why : goal.returns-then-not-why
returns-then-not-why g c =
    let old = g.O.Write.contents c.args.out.now in
    let text = why_object (map (λ n. string_bytes n) c.args.names.now) c.args.found.now in
    subst (λ (b : Bool). Appends old old (cond b text [])) (sym c.if-not-why.true) (appends_none old)

pub returns : goal.returns
returns g c =
    let old = g.O.Write.contents c.args.out.now in
    let new = g.O.Write.contents c.write_why.new.out in
    let text = why_object (map (λ n. string_bytes n) c.args.names.now) c.args.found.now in
    subst (λ (b : Bool). OnOk c.write_why.result (Appends old new (cond b text []))) (sym c.if-not-why.false) c.write_why.ensures

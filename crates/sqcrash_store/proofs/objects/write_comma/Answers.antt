use Rattle.std.proofs.Common.{Bool, OnOk, sym, subst}
use Rattle.std.specs.Io.KnownBytes.{Appends}
use Rattle.sqcrash_store.specs.Objects.{comma}
use Rattle.sqcrash_store.proofs.AppendedBytes.{appends_none}
use Rattle.sqcrash_store.proofs.objects.write_comma.Goals as goal

pub returns-then-first : goal.returns-then-first
returns-then-first g c =
    let old = g.O.Write.contents c.args.out.now in
    subst (λ (b : Bool). Appends old old (comma b)) (sym c.if-first.true) (appends_none old)

pub returns : goal.returns
returns g c =
    let old = g.O.Write.contents c.args.out.now in
    let new = g.O.Write.contents c.write_all.new.self in
    subst (λ (b : Bool). OnOk c.write_all.result (Appends old new (comma b))) (sym c.if-first.false) c.write_all.ensures.bytes

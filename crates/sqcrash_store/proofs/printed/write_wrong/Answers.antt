use Rattle.std.proofs.Common.{Bool, OnOk, [], cond, map, subst}
use Rattle.std.specs.Io.KnownBytes.{Appends}
use Rattle.std.specs.String.{string_bytes}
use Rattle.sqcrash_store.specs.Printed.{found_lines}
use Rattle.sqcrash_store.proofs.AppendedBytes.{appends_none}
use Rattle.sqcrash_store.proofs.printed.write_wrong.Goals as goal

pub returns-then-not-has_lines : goal.returns-then-not-has_lines
returns-then-not-has_lines g c =
    let old = g.O.Write.contents c.args.out.now in
    let lines = found_lines c.args.plan (map (λ n. string_bytes n) c.args.names.now) c.args.found.now in
    subst (λ (b : Bool). Appends old old (cond b lines [])) c.if-not-has_lines.ensures (appends_none old)

pub returns : goal.returns
returns g c =
    let old = g.O.Write.contents c.args.out.now in
    let new = g.O.Write.contents c.write_lines.new.out in
    let lines = found_lines c.args.plan (map (λ n. string_bytes n) c.args.names.now) c.args.found.now in
    subst (λ (b : Bool). OnOk c.write_lines.result (Appends old new (cond b lines []))) c.if-not-has_lines.ensures c.write_lines.ensures

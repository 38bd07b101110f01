use Rattle.std.proofs.Common.{[], ◌∷◌, ◌++◌, Bool, cond, map, sym, subst}
use Rattle.std.specs.Io.KnownBytes.{Appends}
use Rattle.std.specs.String.{string_bytes}
use Rattle.sqcrash_store.specs.Lines.{head_text, why_text}
use Rattle.sqcrash_store.proofs.AppendedBytes.{appends_more, appends_none}
use Rattle.sqcrash_store.proofs.lines.write_found.Goals as goal

pub returns-then-not-why : goal.returns-then-not-why
returns-then-not-why g c =
    let f = c.args.found.now in
    let names = map (λ n. string_bytes n) c.args.names.now in
    let old = g.O.Write.contents c.args.out.now in
    let mid = g.O.Write.contents c.write_head.new.out in
    let text = head_text f ++ 10 ∷ [] in
    subst (λ (b : Bool). Appends old mid (text ++ cond b (why_text names f) [])) (sym c.if-not-why.true)
    (appends_more old mid mid text [] c.in_ok-write_head.ensures (appends_none mid))

pub returns : goal.returns
returns g c =
    let f = c.args.found.now in
    let names = map (λ n. string_bytes n) c.args.names.now in
    let old = g.O.Write.contents c.args.out.now in
    let mid = g.O.Write.contents c.write_head.new.out in
    let new = g.O.Write.contents c.write_why.new.out in
    let text = head_text f ++ 10 ∷ [] in
    subst (λ (b : Bool). Appends old new (text ++ cond b (why_text names f) [])) (sym c.if-not-why.false)
    (appends_more old mid new text (why_text names f) c.in_ok-write_head.ensures c.in_ok-write_why.ensures)

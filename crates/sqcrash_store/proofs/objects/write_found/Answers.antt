use Rattle.std.proofs.Common.{ℕ, List, [], ◌∷◌, ◌++◌, codes, cond, map}
use Rattle.std.specs.String.{string_bytes}
use Rattle.std.proofs.lemmas.Result.{on_ok_weaker}
use Rattle.sqcrash_store.specs.Objects.{head_object, why_object}
use Rattle.sqcrash_store.proofs.AppendedBytes.{appends_more}
use Rattle.sqcrash_store.proofs.objects.write_found.Goals as goal

pub returns : goal.returns
returns g c =
    let f = c.args.found.now in
    let names = map (λ n. string_bytes n) c.args.names.now in
    let out = g.O.Write.contents in
    let old = out c.args.out.now in
    let headed = out c.write_head.new.out in
    let told = out c.write_why_if.new.out in
    let new = out c.write_all.new.self in
    let why : List ℕ = cond c.args.why (why_object names f) [] in
    let end : List ℕ = codes "}" ++ 10 ∷ [] in
    on_ok_weaker c.write_all.result
    (λ last. appends_more old headed new (head_object f) (why ++ end) c.in_ok-write_head.ensures (appends_more headed told new why end c.in_ok-write_why_if.ensures last))
    c.write_all.ensures.bytes

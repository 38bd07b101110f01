use Rattle.std.proofs.Common.{ℕ, List, ◌++◌, codes, map, subst}
use Rattle.std.specs.Io.KnownBytes.{Appends}
use Rattle.std.specs.String.{string_bytes}
use Rattle.std.proofs.lemmas.Result.{on_ok_weaker}
use Rattle.rig_store.specs.declared.differing.Difference.{Difference}
use Rattle.sqcrash_store.specs.Objects.{difference_object, members, stopped_object}
use Rattle.sqcrash_store.proofs.AppendedBytes.{appends_more}
use Rattle.sqcrash_store.proofs.objects.write_why.Goals as goal

pub returns : goal.returns
returns g c =
    let f = c.args.found.now in
    let names = map (λ n. string_bytes n) c.args.names.now in
    let out = g.O.Write.contents in
    let old = out c.args.out.now in
    let stopped = out c.write_stopped.new.out in
    let begun = out c.write_all.new.self in
    let told = out c.write_differences.new.out in
    let new = out c.write_all-2.new.self in
    let all : List ℕ = members (difference_object names) f.differences.items in
    let of_all : Appends begun told all = subst (λ (l : List Difference). Appends begun told (members (difference_object names) l)) c.deref.ensures.value c.in_ok-write_differences.ensures in
    on_ok_weaker c.write_all-2.result
    (λ last. appends_more old stopped new (stopped_object names f.crash) (codes ",\"names\":[" ++ (all ++ codes "]")) c.in_ok-write_stopped.ensures
    (appends_more stopped begun new (codes ",\"names\":[") (all ++ codes "]") c.in_ok-write_all.ensures.bytes (appends_more begun told new all (codes "]") of_all last)))
    c.write_all-2.ensures.bytes

use Rattle.std.proofs.Common.{ℕ, List, ◌++◌, codes, map, ◌∙◌, ap, subst}
use Rattle.std.specs.Io.KnownBytes.{Appends}
use Rattle.std.specs.String.{string_bytes}
use Rattle.std.proofs.lemmas.Result.{on_ok_weaker}
use Rattle.sqcrash_store.specs.Calls.{name_of}
use Rattle.sqcrash_store.specs.Objects.{lengths_object, members, range_object, string}
use Rattle.sqcrash_store.proofs.AppendedBytes.{appends_more}
use Rattle.sqcrash_store.proofs.objects.write_difference.Goals as goal

pub returns : goal.returns
returns g c =
    let d = c.args.difference.now in
    let names = map (λ n. string_bytes n) c.args.names.now in
    let out = g.O.Write.contents in
    let old = out c.args.out.now in
    let begun = out c.write_all.new.self in
    let named = out c.write_string.new.out in
    let sized = out c.write.new.self in
    let ranged = out c.write_ranges.new.out in
    let new = out c.write_all-2.new.self in
    let name : List ℕ = string (name_of names d.name) in
    let lengths : List ℕ = lengths_object d.shown d.now in
    let ranges : List ℕ = members range_object d.sectors.items in
    let name_is = c.name_of.ensures ∙ ap (λ (k : ℕ). name_of names k) c.from.ensures in
    let of_name : Appends begun named name = subst (λ (n : List ℕ). Appends begun named (string n)) name_is c.in_ok-write_string.ensures in
    let of_ranges : Appends sized ranged ranges = subst (λ (l : List (ℕ × ℕ)). Appends sized ranged (members range_object l)) c.deref.ensures.value c.in_ok-write_ranges.ensures in
    on_ok_weaker c.write_all-2.result
    (λ last. appends_more old named new (codes "{\"name\":" ++ name) (lengths ++ (ranges ++ codes "]}"))
    (appends_more old begun named (codes "{\"name\":") name c.in_ok-write_all.ensures.bytes of_name)
    (appends_more named sized new lengths (ranges ++ codes "]}") c.in_ok-write.ensures.bytes (appends_more sized ranged new ranges (codes "]}") of_ranges last)))
    c.write_all-2.ensures.bytes

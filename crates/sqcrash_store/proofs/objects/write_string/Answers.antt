use Rattle.std.proofs.Common.{ℕ, List, [], ◌∷◌, ◌++◌, subst}
use Rattle.std.specs.Io.KnownBytes.{Appends}
use Rattle.std.specs.List.{flat_map}
use Rattle.std.proofs.lemmas.Result.{on_ok_weaker}
use Rattle.sqcrash_store.specs.Objects.{escaped}
use Rattle.sqcrash_store.proofs.AppendedBytes.{appends_more}
use Rattle.sqcrash_store.proofs.objects.write_string.Goals as goal

pub returns : goal.returns
returns g c =
    let old = g.O.Write.contents c.args.out.now in
    let begun = g.O.Write.contents c.write_all.new.self in
    let told = g.O.Write.contents c.write_bytes.new.out in
    let new = g.O.Write.contents c.write_all-2.new.self in
    let text : List ℕ = flat_map escaped c.args.text.now in
    let of_text : Appends begun told text = subst (λ (l : List ℕ). Appends begun told (flat_map escaped l)) c.as_bytes.ensures.value c.in_ok-write_bytes.ensures in
    on_ok_weaker c.write_all-2.result
    (λ last. appends_more old begun new (34 ∷ []) (text ++ 34 ∷ []) c.in_ok-write_all.ensures.bytes (appends_more begun told new text (34 ∷ []) of_text last))
    c.write_all-2.ensures.bytes

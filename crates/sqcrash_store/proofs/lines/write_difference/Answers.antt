use Rattle.std.proofs.Common.{ℕ, List, [], ◌∷◌, ◌++◌, codes, map, ◌∙◌, ap, subst}
use Rattle.std.specs.Io.KnownBytes.{Appends}
use Rattle.std.specs.String.{string_bytes}
use Rattle.sqcrash_store.specs.Calls.{name_of}
use Rattle.sqcrash_store.specs.Lines.{name_text, ranges_text, shown_text}
use Rattle.sqcrash_store.proofs.AppendedBytes.{appends_more}
use Rattle.sqcrash_store.proofs.lines.write_difference.Goals as goal

pub returns : goal.returns
returns g c =
    let d = c.args.difference.now in
    let names = map (λ n. string_bytes n) c.args.names.now in
    let old = g.O.Write.contents c.args.out.now in
    let first = g.O.Write.contents c.write.new.self in
    let mid = g.O.Write.contents c.write_ranges.new.out in
    let new = g.O.Write.contents c.writeln.new.self in
    let head = name_text names d.name d.shown d.now in
    let ranges = ranges_text d.sectors.items in
    let name_is = c.name_of-name.ensures ∙ ap (λ (k : ℕ). name_of names k) c.from.ensures in
    let of_head : Appends old first head =
    subst (λ (l : List ℕ). Appends old first (codes "  not down: " ++ (l ++ (codes ": " ++ shown_text d.shown d.now)))) name_is c.in_ok-write.ensures.bytes in
    let of_ranges : Appends first mid ranges = subst (λ (l : List (ℕ × ℕ)). Appends first mid (ranges_text l)) c.deref.ensures.value c.in_ok-write_ranges.ensures in
    appends_more old first new head (ranges ++ 10 ∷ []) of_head (appends_more first mid new ranges (10 ∷ []) of_ranges c.in_ok-writeln.ensures.bytes)

use Rattle.std.proofs.Common.{ℕ, List, [], ◌∷◌, ◌++◌, subst}
use Rattle.std.specs.Io.KnownBytes.{Appends}
use Rattle.sqcrash.specs.Lines.{down_text, ranges_text, behind_ranges}
use Rattle.sqcrash.proofs.AppendedBytes.{appends_more}
use Rattle.sqcrash.proofs.explained.write_missing.Goals as goal

pub returns : goal.returns
returns g c =
    let m = c.args.missing.now in
    let old = g.O.Write.contents c.args.out.now in
    let first = g.O.Write.contents c.write.new.self in
    let mid = g.O.Write.contents c.write_ranges.new.out in
    let new = g.O.Write.contents c.writeln.new.self in
    let head = down_text c.args.style m.number m.kind m.subject m.place m.count in
    let ranges = ranges_text c.args.style m.sectors.items in
    let of_ranges : Appends first mid ranges = subst (λ (l : List (ℕ × ℕ)). Appends first mid (ranges_text c.args.style l)) c.deref.ensures.value c.in_ok-write_ranges.ensures in
    appends_more old first new head (ranges ++ (behind_ranges c.args.style ++ 10 ∷ [])) c.in_ok-write.ensures.bytes (appends_more first mid new ranges (behind_ranges c.args.style ++ 10 ∷ []) of_ranges c.in_ok-writeln.ensures.bytes)

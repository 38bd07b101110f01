use Rattle.std.proofs.Common.{◌++◌, List, ℕ, codes, map, refl, subst}
use Rattle.std.specs.Io.KnownBytes.{Appends}
use Rattle.std.proofs.KnownBytes.{Appends-trans}
use Rattle.sqval.specs.Datum.{row_of}
use Rattle.cli_change_text.specs.Changes.{IsMember}
use Rattle.cli_change_text.proofs.Answered.{on_ok}
use Rattle.cli_change_text.proofs.one.write_member.Goals as goal

pub returns : goal.returns
returns g c =
    let old = g.W.Write.contents c.args.out.now in
    let begun = g.W.Write.contents c.write_all.new.self in
    let mid = g.W.Write.contents c.write_values.new.out in
    let new = g.W.Write.contents c.write_all-2.new.self in
    let names = map (λ n. n.items) c.args.names.now in
    let member = c.args.member.now in
    let e = c.in_ok-write_values.ensures in
    let first = subst (Appends old begun) c.as_bytes.ensures.value c.in_ok-write_all.ensures.bytes in
    on_ok c.write_all-2.result (Appends mid new (codes "}")) ((t : List ℕ) × IsMember c.args.encoding member names (row_of c.args.values.now) t × Appends old new t)
    (λ last. (
      member ++ (e.0 ++ codes "}"),
      (e.0, e.1, refl),
      Appends-trans old begun new member (e.0 ++ codes "}") first (Appends-trans begun mid new e.0 (codes "}") e.2 last),
    )) c.write_all-2.ensures.bytes

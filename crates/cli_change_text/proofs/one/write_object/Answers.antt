use Rattle.std.proofs.Common.{◌++◌, List, ℕ, codes, refl, subst}
use Rattle.std.specs.Io.KnownBytes.{Appends}
use Rattle.std.proofs.KnownBytes.{Appends-trans}
use Rattle.sqval.specs.Datum.{row_of}
use Rattle.sqrows.specs.Rows.{Row}
use Rattle.cli_change_text.specs.declared.style.Naming.TheVariants.{InObject}
use Rattle.cli_change_text.specs.Names.{IsRowName, names_of}
use Rattle.cli_change_text.specs.Changes.{IsMember, IsObjectOf, object_start, word_of}
use Rattle.cli_change_text.proofs.Answered.{on_ok}
use Rattle.cli_change_text.proofs.one.write_object.Goals as goal

pub returns : goal.returns
returns g c =
    let old = g.W.Write.contents c.args.out.now in
    let begun = g.W.Write.contents c.write_object_start.new.out in
    let mid = g.W.Write.contents c.write_member.new.out in
    let new = g.W.Write.contents c.write_all.new.self in
    let style = c.args.style in
    let names = names_of style.columns.now in
    let row : Row = record { rowid = c.args.row.now.rowid; values = c.args.row.now.values } in
    let named = λ (name : List ℕ). IsRowName style.encoding InObject style.columns.now style.key row name in
    let comes = c.args.comes in
    let values = row_of c.args.values.now in
    let n = subst (λ (word : List ℕ). (name : List ℕ) × named name × Appends old begun (object_start style.head.now word name)) c.word_of.ensures c.in_ok-write_object_start.ensures in
    let start = object_start style.head.now (word_of comes) n.0 in
    let e = subst (λ (member : List ℕ). (t : List ℕ) × IsMember style.encoding member names values t × Appends begun mid t) c.member_of.ensures (rw c.deref.ensures.value at c.in_ok-write_member.ensures) in
    on_ok c.write_all.result (Appends mid new (codes "}\n")) ((t : List ℕ) × ((name : List ℕ) × named name × IsObjectOf style.encoding style.head.now comes names name values t) × Appends old new t)
    (λ last. (
      start ++ (e.0 ++ codes "}\n"),
      (n.0, n.1, (e.0, e.1, refl)),
      Appends-trans old begun new start (e.0 ++ codes "}\n") n.2 (Appends-trans begun mid new e.0 (codes "}\n") e.2 last),
    )) c.write_all.ensures.bytes

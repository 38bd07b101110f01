use Rattle.std.proofs.Common.{◌++◌, List, ℕ, codes, refl}
use Rattle.std.specs.Io.KnownBytes.{Appends}
use Rattle.std.proofs.KnownBytes.{Appends-trans}
use Rattle.sqval.specs.Datum.{row_of}
use Rattle.sqrows.specs.Rows.{Row}
use Rattle.cli_change_text.specs.Changes.{object_start}
use Rattle.cli_change_text.specs.internal.Steps.{IsChangedObject}
use Rattle.cli_change_text.proofs.Answered.{on_ok}
use Rattle.cli_change_text.proofs.change.write_changed_object.Goals as goal

pub returns : goal.returns
returns g c =
    let o0 = g.W.Write.contents c.args.out.now in
    let o1 = g.W.Write.contents c.write_object_start.new.out in
    let o2 = g.W.Write.contents c.write_member.new.out in
    let o3 = g.W.Write.contents c.write_member-2.new.out in
    let o4 = g.W.Write.contents c.write_all.new.self in
    let style = c.args.style in
    let row : Row = record { rowid = c.args.row.now.rowid; values = c.args.row.now.values } in
    let n = c.in_ok-write_object_start.ensures in
    let start = object_start style.head.now (codes "update") n.0 in
    let was = rw c.deref.ensures.value at c.in_ok-write_member.ensures in
    let is = rw c.deref-2.ensures.value at c.in_ok-write_member-2.ensures in
    on_ok c.write_all.result (Appends o3 o4 (codes "}\n")) ((t : List ℕ) × IsChangedObject style row (row_of c.args.was.now) (row_of c.args.is.now) t × Appends o0 o4 t)
    (λ last. (
      start ++ (was.0 ++ (is.0 ++ codes "}\n")),
      (n.0, was.0, is.0, n.1, was.1, is.1, refl),
      Appends-trans o0 o1 o4 start (was.0 ++ (is.0 ++ codes "}\n")) n.2
          (Appends-trans o1 o2 o4 was.0 (is.0 ++ codes "}\n") was.2 (Appends-trans o2 o3 o4 is.0 (codes "}\n") is.2 last)),
    )) c.write_all.ensures.bytes

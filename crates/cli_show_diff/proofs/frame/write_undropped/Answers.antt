use Rattle.std.proofs.Common.{◌≡◌, ◌++◌, ℕ, Bool, List, OnOk, ap, codes, subst, sym}
use Rattle.std.specs.Io.KnownBytes.{Appends}
use Rattle.std.proofs.KnownBytes.{Appends-trans}
use Rattle.cli_schema_text.specs.Comments.{hex_line}
use Rattle.cli_show_diff.specs.Frames.{undropped_text}
use Rattle.cli_show_diff.proofs.Answered.{on_ok}
use Rattle.cli_show_diff.proofs.frame.write_undropped.Goals as goal

pub returns : goal.returns
returns g c =
    let old = g.W.Write.contents c.args.out.now in
    let begun = g.W.Write.contents c.write_all.new.self in
    let new = g.W.Write.contents c.write_hex_name.new.out in
    let o = c.args.object.now in
    let start = codes "-- not dropped, a virtual table" in
    let named = subst (λ (n : List ℕ). OnOk c.write_hex_name.result (Appends begun new (hex_line n))) c.as_slice.ensures.value c.write_hex_name.ensures in
    let whole : start ++ hex_line o.name.items ≡ undropped_text c.args.left o = ap (λ (b : Bool). undropped_text b o) (sym c.if-not-left.false) in
    on_ok c.write_hex_name.result (Appends begun new (hex_line o.name.items)) (Appends old new (undropped_text c.args.left o))
    (λ last. subst (λ (t : List ℕ). Appends old new t) whole (Appends-trans old begun new start (hex_line o.name.items) c.in_ok-write_all.ensures.bytes last)) named

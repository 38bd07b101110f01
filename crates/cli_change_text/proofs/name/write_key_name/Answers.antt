use Rattle.std.proofs.Common.{◌≡◌, ◌++◌, ◌∙◌, List, ℕ, refl, subst}
use Rattle.std.specs.Io.KnownBytes.{Appends}
use Rattle.std.proofs.KnownBytes.{Appends-trans}
use Rattle.cli_change_text.specs.Names.{AreKeyColumns, key_end, key_label}
use Rattle.cli_change_text.proofs.Answered.{on_ok}
use Rattle.cli_change_text.proofs.name.write_key_name.Goals as goal

pub returns : goal.returns
returns g c =
    let o0 = g.W.Write.contents c.args.out.now in
    let o1 = g.W.Write.contents c.write_all.new.self in
    let o2 = g.W.Write.contents c.write_key_columns.new.out in
    let o3 = g.W.Write.contents c.write_all-2.new.self in
    let naming = c.args.naming in
    let key = c.args.key in
    let label = key_label naming in
    let end = key_end naming in
    let first = subst (Appends o0 o1) (c.as_bytes.ensures.value ∙ c.key_labels.ensures.0) c.in_ok-write_all.ensures.bytes in
    let w = c.in_ok-write_key_columns.ensures in
    on_ok c.write_all-2.result (Appends o2 o3 c.as_bytes-2.result.now)
    ((t : List ℕ) × ((all : List ℕ) × AreKeyColumns c.args.style.encoding naming c.args.style.columns.now key.order c.args.values.now 0 key.width all × (t ≡ label ++ (all ++ end))) × Appends o0 o3 t)
    (λ last. (
      label ++ (w.0 ++ end),
      (w.0, w.1, refl),
      Appends-trans o0 o1 o3 label (w.0 ++ end) first
          (Appends-trans o1 o2 o3 w.0 end w.2 (subst (Appends o2 o3) (c.as_bytes-2.ensures.value ∙ c.key_labels.ensures.1) last)),
    )) c.write_all-2.ensures.bytes

use Rattle.std.proofs.Common.{◌≡◌, ◌++◌, List, ℕ, length, map, ap, sym}
use Rattle.std.specs.Io.KnownBytes.{Appends}
use Rattle.std.proofs.KnownBytes.{Appends-trans}
use Rattle.std.proofs.lemmas.List.{length-map}
use Rattle.sqval.specs.Datum.{datum_of, row_of}
use Rattle.cli_row_text.proofs.TextsOfValues.{on_ok}
use Rattle.cli_row_text.specs.Lines.{line_start, lead_text, line_end, IsLine}
use Rattle.cli_row_text.proofs.line.write_line.Goals as goal

pub returns : goal.returns
returns g c =
    let old = g.W.Write.contents c.args.out.now in
    let begun = g.W.Write.contents c.write_start.new.out in
    let led = g.W.Write.contents c.write_lead.new.out in
    let mid = g.W.Write.contents c.write_values.new.out in
    let new = g.W.Write.contents c.write_end.new.out in
    let notation = c.args.form.notation in
    let names = map (λ n. n.items) c.args.names.now in
    let values = c.args.values.now in
    let e = c.in_ok-write_values.ensures in
    let start = line_start notation c.args.insert.now in
    let lead = lead_text notation c.args.rowid (length values) in
    let behind = e.0 ++ line_end notation in
    let same : start ++ (lead ++ behind) ≡ start ++ (lead_text notation c.args.rowid (length (row_of values)) ++ behind) =
    ap (λ (n : ℕ). start ++ (lead_text notation c.args.rowid n ++ behind)) (sym (length-map values datum_of)) in
    on_ok c.write_end.result (Appends mid new (line_end notation)) ((t : List ℕ) × IsLine c.args.form c.args.insert.now names c.args.rowid (row_of values) t × Appends old new t)
    (λ last. (
      start ++ (lead ++ behind),
      (e.0, e.1, same),
      Appends-trans old begun new start (lead ++ behind) c.in_ok-write_start.ensures
          (Appends-trans begun led new lead behind c.in_ok-write_lead.ensures (Appends-trans led mid new e.0 (line_end notation) e.2 last)),
    )) c.write_end.ensures

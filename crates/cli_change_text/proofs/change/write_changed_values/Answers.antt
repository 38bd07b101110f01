use Rattle.std.proofs.Common.{◌≡◌, List, ℕ, OnOk, refl, subst, sym}
use Rattle.std.specs.Io.KnownBytes.{Appends}
use Rattle.sqval.specs.Datum.{Datum, row_of}
use Rattle.sqrows.specs.Rows.{Row}
use Rattle.sqtables.specs.Columns.{shown}
use Rattle.cli_change_text.specs.declared.style.Writing.{Writing}
use Rattle.cli_change_text.specs.declared.style.Writing.TheVariants.{Line, Object, Removal, Arrival}
use Rattle.cli_change_text.specs.Changes.{IsArrival, IsChangedText, removal_text}
use Rattle.cli_change_text.specs.declared.style.Naming.TheVariants.{InCondition}
use Rattle.cli_change_text.specs.Names.{IsRowName, names_of}
use Rattle.cli_change_text.specs.internal.Steps.{IsChangedObject}
use Rattle.cli_change_text.proofs.Answered.{behind, on_ok}
use Rattle.cli_change_text.proofs.change.write_changed_values.Goals as goal

pub returns-in-Line : goal.returns-in-Line
returns-in-Line g c =
    let style = c.args.style in
    let was : Row = record { rowid = c.args.old.now.rowid; values = c.args.old.now.values } in
    let is : Row = record { rowid = c.args.new.now.rowid; values = c.args.new.now.values } in
    let o0 = g.W.Write.contents c.args.out.now in
    let o1 = g.W.Write.contents c.write_all.new.self in
    let o2 = g.W.Write.contents c.write_changed_line.new.out in
    let r = c.write_changed_line.result in
    behind r (λ (own : List ℕ). IsChangedText style.encoding style.writing style.head.now style.columns.now style.leads style.key was is own) o0 o1 o2 style.before.now c.in_ok-write_all.ensures.bytes
    (subst (λ (w : Writing). OnOk r ((own : List ℕ) × IsChangedText style.encoding w style.head.now style.columns.now style.leads style.key was is own × Appends o1 o2 own)) (sym c.in-Line.is) c.write_changed_line.ensures)

pub returns-in-Object : goal.returns-in-Object
returns-in-Object g c =
    let style = c.args.style in
    let was : Row = record { rowid = c.args.old.now.rowid; values = c.args.old.now.values } in
    let is : Row = record { rowid = c.args.new.now.rowid; values = c.args.new.now.values } in
    let o0 = g.W.Write.contents c.args.out.now in
    let o1 = g.W.Write.contents c.write_all.new.self in
    let o2 = g.W.Write.contents c.write_changed_object.new.out in
    let r = c.write_changed_object.result in
    let old = subst (λ (vs : List Datum). OnOk r ((own : List ℕ) × IsChangedObject style is vs (row_of c.args.is.now) own × Appends o1 o2 own)) c.requires.was c.write_changed_object.ensures in
    let both = subst (λ (vs : List Datum). OnOk r ((own : List ℕ) × IsChangedObject style is (shown style.columns.now was) vs own × Appends o1 o2 own)) c.requires.is old in
    behind r (λ (own : List ℕ). IsChangedText style.encoding style.writing style.head.now style.columns.now style.leads style.key was is own) o0 o1 o2 style.before.now c.in_ok-write_all.ensures.bytes
    (subst (λ (w : Writing). OnOk r ((own : List ℕ) × IsChangedText style.encoding w style.head.now style.columns.now style.leads style.key was is own × Appends o1 o2 own)) (sym c.in-Object.is) both)

pub returns-in-Removal : goal.returns-in-Removal
returns-in-Removal g c =
    let style = c.args.style in
    let was : Row = record { rowid = c.args.old.now.rowid; values = c.args.old.now.values } in
    let is : Row = record { rowid = c.args.new.now.rowid; values = c.args.new.now.values } in
    let o0 = g.W.Write.contents c.args.out.now in
    let o1 = g.W.Write.contents c.write_all.new.self in
    let o2 = g.W.Write.contents c.write_removal.new.out in
    let r = c.write_removal.result in
    let named = λ (name : List ℕ). IsRowName style.encoding InCondition style.columns.now style.key was name in
    let own = on_ok r ((name : List ℕ) × named name × Appends o1 o2 (removal_text style.head.now name))
    ((own : List ℕ) × ((name : List ℕ) × named name × (own ≡ removal_text style.head.now name)) × Appends o1 o2 own)
    (λ w. (removal_text style.head.now w.0, (w.0, w.1, refl), w.2)) c.write_removal.ensures in
    behind r (λ (own : List ℕ). IsChangedText style.encoding style.writing style.head.now style.columns.now style.leads style.key was is own) o0 o1 o2 style.before.now c.in_ok-write_all.ensures.bytes
    (subst (λ (w : Writing). OnOk r ((own : List ℕ) × IsChangedText style.encoding w style.head.now style.columns.now style.leads style.key was is own × Appends o1 o2 own)) (sym c.in-Removal.is) own)

pub returns-in-Arrival : goal.returns-in-Arrival
returns-in-Arrival g c =
    let style = c.args.style in
    let was : Row = record { rowid = c.args.old.now.rowid; values = c.args.old.now.values } in
    let is : Row = record { rowid = c.args.new.now.rowid; values = c.args.new.now.values } in
    let o0 = g.W.Write.contents c.args.out.now in
    let o1 = g.W.Write.contents c.write_all.new.self in
    let o2 = g.W.Write.contents c.write_arrival.new.out in
    let r = c.write_arrival.result in
    let id = c.args.new.now.rowid in
    let own = subst (λ (vs : List Datum). OnOk r ((own : List ℕ) × IsArrival style.encoding style.head.now (names_of style.columns.now) style.leads id vs own × Appends o1 o2 own)) c.requires.is c.write_arrival.ensures in
    behind r (λ (own : List ℕ). IsChangedText style.encoding style.writing style.head.now style.columns.now style.leads style.key was is own) o0 o1 o2 style.before.now c.in_ok-write_all.ensures.bytes
    (subst (λ (w : Writing). OnOk r ((own : List ℕ) × IsChangedText style.encoding w style.head.now style.columns.now style.leads style.key was is own × Appends o1 o2 own)) (sym c.in-Arrival.is) own)

use Rattle.std.proofs.Common.{ℕ, List, refl, sym, subst, arith}
use Rattle.sqpage.specs.declared.cell.Parts.{Parts}
use Rattle.sqpage.specs.declared.kind.Kind.TheVariants.{TableLeaf}
use Rattle.sqpage.specs.Page.{HasParts}
use Rattle.sqdeleted.specs.Deleted.{BeginsRecord, IsShort}
use Rattle.sqdeleted.proofs.CellsOfGaps.{no_parts, too_long, no_record}
use Rattle.sqdeleted.proofs.cell.cell_at.Goals as goal

pub returns-in_err-parts : goal.returns-in_err-parts
returns-in_err-parts c = rw c.from_residual.ensures (no_parts c.parts_at.result c.args.used.now c.args.at c.args.to c.in_err-parts.was c.parts_at.ensures.found)

pub returns-then-parts-to : goal.returns-then-parts-to
returns-then-parts-to c = too_long c.parts_at.result c.args.used.now c.args.at c.args.to c.in_ok-parts.parts c.in_ok-parts.was c.parts_at.ensures.found c.if-parts-to.true

pub cell_with-cell-requires : goal.cell_with-cell-requires
cell_with-cell-requires c = record { sized = c.requires.sized.1; parts = (c.parts_at.ensures.found c.in_ok-parts.parts).0 c.in_ok-parts.was }

pub returns-then-begins_record : goal.returns-then-begins_record
returns-then-begins_record c =
    let parts : Parts = c.in_ok-parts.parts in
    let has : HasParts TableLeaf c.args.used.now c.args.at parts = (c.parts_at.ensures.found parts).0 c.in_ok-parts.was in
    let begins = subst (λ (l : List ℕ). (b : BeginsRecord parts.payload l) × IsShort b) c.cell_with-cell.ensures.local (c.if-begins_record.ensures.yes refl) in
    (parts, record { after = omega arith; before = c.if-parts-to.false; has = has; begins = begins.0; short = begins.1 }, c.cell_with-cell.ensures)

pub returns-else-begins_record : goal.returns-else-begins_record
returns-else-begins_record c =
    let parts : Parts = c.in_ok-parts.parts in
    no_record c.parts_at.result c.args.used.now c.args.at c.args.to parts c.in_ok-parts.was c.parts_at.ensures.found
    (λ b short.
    let w = subst (λ (l : List ℕ). (b : BeginsRecord parts.payload l) × IsShort b) (sym c.cell_with-cell.ensures.local) (b, short) in
    c.if-begins_record.ensures.not refl w.0 w.1)

use Rattle.std.proofs.Common.{◌≡◌, ◌∙◌, ℤ, sym, ap, subst, w64, to_z, of_z}
use Rattle.std.proofs.lemmas.Int.{to_z-of_z}
use Rattle.sqindex.specs.internal.Parts.{Gathers}
use Rattle.sqindex.specs.internal.Spans.{passed}
use Rattle.sqindex.proofs.stream.hold.Goals as goal

pub returns-in-Ok : goal.returns-in-Ok
returns-in-Ok c =
    let part = c.args.part.now in
    let number : to_z w64 (of_z w64 c.args.rowid) ≡ c.args.rowid = to_z-of_z w64 c.args.rowid c.ranges.rowid in (
      ap (passed part.span.above) (sym number) ∙ sym c.is_passed.ensures ∙ c.if-is_passed.false,
      subst (λ (r : ℤ). Gathers part c.args.found r c.args.entry.now c.gather.new.part) number c.in-Ok.ensures.ok,
    )

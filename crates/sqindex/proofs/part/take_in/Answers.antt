use Rattle.std.proofs.Common.{◌≡◌, ◌∙◌, refl, sym, ap, w64, to_z, of_z}
use Rattle.std.proofs.lemmas.Int.{to_z-of_z}
use Rattle.sqindex.specs.internal.Held.{plain}
use Rattle.sqindex.specs.internal.Spans.{in_span}
use Rattle.sqindex.proofs.EntriesInSpans.{one_gathered, one_passed}
use Rattle.sqindex.proofs.part.take_in.Goals as goal

pub returns-then-not-has-clause-ok : goal.returns-then-not-has-clause-ok
returns-then-not-has-clause-ok c =
    let part = c.args.part.now in
    let number : to_z w64 (of_z w64 c.args.rowid) ≡ c.args.rowid = to_z-of_z w64 c.args.rowid c.ranges.rowid in (
      refl,
      λ key seen keyed w. one_passed key part.span part.entries seen (plain c.args.found c.args.entry.now) c.args.rowid w keyed (ap (in_span part.span.above part.span.last) (sym number) ∙ sym c.has.ensures ∙ c.if-not-has.true),
    )

pub returns-in-Ok-clause-ok : goal.returns-in-Ok-clause-ok
returns-in-Ok-clause-ok c =
    let part = c.args.part.now in
    let number : to_z w64 (of_z w64 c.args.rowid) ≡ c.args.rowid = to_z-of_z w64 c.args.rowid c.ranges.rowid in
    let last = c.in-Ok.ensures.last in (
      refl,
      λ key seen keyed w. one_gathered key part.span part.entries c.add.new.self seen (plain c.args.found c.args.entry.now) last.0 c.args.rowid w keyed (ap (in_span part.span.above part.span.last) (sym number) ∙ sym c.has.ensures ∙ c.if-not-has.false)
          c.in-Ok.ensures.held last.1 (last.2 ∙ number),
    )

use Rattle.std.proofs.Common.{◌∙◌}
use Rattle.std.proofs.lemmas.List.{take_rest}
use Rattle.sqjournal.proofs.read.NextStateOfReading.{kept_waits}
use Rattle.sqjournal.proofs.pieces.take_rest.Goals as goal

pub returns-clause-stands : goal.returns-clause-stands
returns-clause-stands c =
    let piece = c.args.piece.now in
    let next = c.in_ok-next.ensures in
    let from = c.kept_in-from in
    λ b l s. (
      next.stands b l s,
      kept_waits b piece c.keep.new.begun.items c.in_ok-next.next c.args.place from.result l next.place.2 next.place.3 from.ensures.over from.ensures.value
          (c.in_ok-keep.ensures.ok ∙ take_rest piece from.result),
    )

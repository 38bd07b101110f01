-- The piece that is pushed is the next one.
use Rattle.std.proofs.Common.{◌+◌, ◌<◌, ◌≤◌, length, sym, refl, arith}
use Rattle.std.proofs.lemmas.Grind.{common_steps}
use Rattle.schema_tokens.specs.Pieces.{IsPieceAt}
use Rattle.schema_tokens.proofs.Chain.{one_more}
use Rattle.schema_tokens.proofs.pieces.read.Goals as goal

pub loop-found-preserved : goal.loop-found-preserved
loop-found-preserved c =
    let at = c.loop-found.at in
    let found = c.in-Some.found in
    let fits = c.in-Some.ensures.within in
    let reach : at + found.length ≤ length c.text_of-text.result.now = grind (arith, common_steps, fits, c.after.ensures, c.loop-found.invariant.within) in
    let next : at < at + found.length = omega (arith, fits.0) in
    let is_piece : IsPieceAt c.text_of-text.result.now at (record { kind = found.kind; from = at; to = at + found.length }) =
    record { begins = refl; length = found.length; ends = refl; is_form = rw (sym c.after.ensures) (sym c.in-Some.ensures.value) } in
    record {
      within = reach;
      so_far = rw c.in_ok-push.ensures.items (one_more c.text_of-text.result.now 0 c.loop-found.pieces.items at (record { kind = found.kind; from = at; to = at + found.length }) c.loop-found.invariant.so_far next is_piece);
    }

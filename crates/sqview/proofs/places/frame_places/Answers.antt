use Rattle.std.proofs.Common.{◌≡◌, ◌+◌, ◌∙◌, ℕ, ap, arith, subst}
use Rattle.sqwal.specs.Frames.{page_of}
use Rattle.sqview.specs.Origins.{AreFramePlaces}
use Rattle.sqview.proofs.place.PlacesOfLastFrames.{placed_none, placed_more}
use Rattle.sqview.proofs.places.frame_places.Goals as goal
use Rattle.sqview.proofs.places.frame_places.Goals.{else-loop-i-test, then-loop-i-test+in_default}

pub loop-i-init : goal.loop-i-init
loop-i-init c = record {
  few = omega (arith, c.in_ok-places.ensures.few);
  placed = λ most w took named valid. placed_none c.args.page_size w c.args.count c.in_ok-places.places.items c.in_ok-places.ensures.empty.0 c.in_ok-places.ensures.empty.1;
}

pub loop-i-preserved : goal.loop-i-preserved
loop-i-preserved c = record {
  few = omega (arith, c.loop-i.invariant.few, c.in_ok-put.ensures.few);
  placed = λ most w took named valid.
      let i = c.loop-i.i in
      placed_more c.args.page_size w i c.args.count c.in-Some.entry.page c.place.result c.loop-i.places.items c.put.new.self.items (c.loop-i.invariant.placed most w took named valid) c.in_ok-put.ensures.noted
      ((c.in-Some.ensures most w took).1 ∙ ap (λ n. page_of n w (i + 1)) named) c.place.ensures;
}

pub returns-clause-places : goal.returns-clause-places
returns-clause-places c = λ most w took named valid.
    let size = c.args.page_size in
    let all : (n : ℕ) → n ≡ c.args.frames → AreFramePlaces size w n c.args.count c.loop-i.places.items → AreFramePlaces size w c.args.frames c.args.count c.loop-i.places.items =
    λ n e are. subst (λ (k : ℕ). AreFramePlaces size w k c.args.count c.loop-i.places.items) e are in
    elim c.loop-i-test.branch [
      | else-loop-i-test w' ↦ all c.loop-i.i (omega (arith, w'.loop-i-test.false, c.loop-i.auto.i-end)) (c.loop-i.invariant.placed most w took named valid)
      | then-loop-i-test+in_default w' ↦ absurd (w'.in_default.ensures most w took (record { first = omega arith; each = λ j one le. valid.each j one (omega (arith, w'.loop-i-test.true)) }))
    ]

use Rattle.std.proofs.Common.{◌≡◌, ◌≤◌, ◌+◌, ◌*◌, ℕ, List}
use Rattle.sqwal.specs.Header.{named_size}
use Rattle.sqwal.specs.Frames.{IsValidFrame}
use Rattle.sqwal.specs.Took.{TookWithin}
use Rattle.sqview.specs.Origins.{AreFramePlaces}
use Rattle.sqview.proofs.places.frame_places.Given as goal

abbrev pub invariant-loop-i : goal.invariant-loop-i
invariant-loop-i l = record {
  few : l.places.kept ≤ 262144 + 16 * l.fn.frames + l.i;
  placed : (most : ℕ) (w : List ℕ) → TookWithin most w l.scan → named_size w ≡ l.page_size → IsValidFrame (named_size w) w l.fn.frames → AreFramePlaces l.page_size w l.i l.fn.count l.places.items;
}

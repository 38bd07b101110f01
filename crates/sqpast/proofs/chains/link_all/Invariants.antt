use Rattle.std.proofs.Common.{◌≡◌, ◌-◌, ℕ, List, length}
use Rattle.sqwal.specs.Header.{named_size}
use Rattle.sqwal.specs.Frames.{IsValidFrame}
use Rattle.sqwal.specs.Took.{TookWithin}
use Rattle.sqpast.specs.internal.Chains.{AreChainsFrom}
use Rattle.sqpast.proofs.chains.link_all.Given as goal

abbrev pub invariant-loop-after : goal.invariant-loop-after
invariant-loop-after l = record {
  pages : length l.first.items ≡ l.fn.pages;
  frames : length l.next.items ≡ l.fn.front.frames;
  chains : (most : ℕ) (w : List ℕ) → TookWithin most w l.scan → named_size w ≡ l.page_size → IsValidFrame (named_size w) w l.fn.front.frames
      → AreChainsFrom l.page_size w l.fn.front.frames l.fn.pages (l.fn.front.frames - l.after) l.first.items l.next.items;
}

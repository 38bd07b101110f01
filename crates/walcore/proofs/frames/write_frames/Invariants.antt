use Rattle.walcore.proofs.Facts.{Going, IsExtended, KeepsCore, KnowsLog, List, length, lent, most_frames, ℕ, ◌+◌, ◌↔◌, ◌≡◌, ◌≤◌}
use Rattle.walcore.proofs.frames.write_frames.Given as goal

abbrev pub invariant-loop-k : goal.invariant-loop-k
invariant-loop-k g l = record {
  word : g.D.Disk.keeps_word l.fn.disk ↔ g.D.Disk.keeps_word l.disk;
  keeps : KeepsCore l.fn.core l.core;
  frames : l.core.frames ≡ l.fn.core.frames + l.k;
  going : g.D.Disk.keeps_word l.fn.disk
      → (e f : List ℕ) (n : ℕ) → IsExtended l.fn.core.page_size e n (lent l.pages) l.size f → n + length (lent l.pages) ≤ most_frames → KnowsLog f n l.fn.core (g.D.Disk.state l.fn.disk)
      → Going l.fn.core.page_size f (n + length (lent l.pages)) n (g.D.Disk.state l.fn.disk) (g.D.Disk.state l.disk) × KnowsLog f (n + l.k) l.core (g.D.Disk.state l.disk) × ((g.D.Disk.state l.disk).refused ≡ (g.D.Disk.state l.fn.disk).refused);
}

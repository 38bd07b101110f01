use Rattle.rollcore.proofs.Facts.{Asks, Database, IsReady, KeepsCore, MayCommit, Ok, Parted, RestsAt, apply, length, lent, pages_of, ℕ, ◌*◌, ◌^◌, ◌↔◌, ◌≡◌, ◌≤◌}
use Rattle.rollcore.proofs.parts.put_segments.Given as goal

abbrev pub invariant-loop-k : goal.invariant-loop-k
invariant-loop-k g l = record {
  word : g.D.Disk.keeps_word l.fn.disk ↔ g.D.Disk.keeps_word l.disk;
  asks : g.D.Disk.keeps_word l.fn.disk → length l.fn.core.header.items ≡ l.sector
      → Asks {T = Unit {0}} (MayCommit l.fn.core.page_size l.sector) (Ok tt) (g.D.Disk.state l.fn.disk) (g.D.Disk.state l.disk);
  place : l.place ≤ l.k * 2 ^ 23;
  keeps : KeepsCore l.fn.core l.core;
  changes : l.core.changes ≡ l.fn.core.changes;
  going : g.D.Disk.keeps_word l.fn.disk → (n : ℕ) (d : Database) → IsReady l.pages n (length l.nonces) l.fn.core
      → RestsAt l.fn.core d (g.D.Disk.state l.fn.disk) → l.sector ≡ (g.D.Disk.state l.fn.disk).sector
      → Parted l.fn.core.page_size l.sector d (apply d (lent l.pages) n) (pages_of l.fn.core.changes.items) l.nonces l.k l.place (g.D.Disk.state l.disk)
      × ((g.D.Disk.state l.fn.disk).refused ≤ (g.D.Disk.state l.disk).refused);
}

use Rattle.rollcore.proofs.Facts.{AreOf, ArePlaced, ArePut, AreSome, Asks, Database, Grown, Journaled, List, MayReplay, Ok, length, lent, ℕ, ◌<◌, ◌↔◌, ◌≡◌}
use Rattle.rollcore.proofs.segments.put_new_pages.Given as goal

abbrev pub invariant-loop-x : goal.invariant-loop-x
invariant-loop-x g l = record {
  word : g.D.Disk.keeps_word l.fn.disk ↔ g.D.Disk.keeps_word l.disk;
  asks : g.D.Disk.keeps_word l.fn.disk → (size : ℕ) → ArePlaced size l.pages → Asks {T = Unit {0}} (MayReplay size) (Ok tt) (g.D.Disk.state l.fn.disk) (g.D.Disk.state l.disk);
  put : g.D.Disk.keeps_word l.fn.disk → (size sector : ℕ) (d e : Database) (named : List ℕ) (place : ℕ) (w before : List ℕ)
      → Journaled size sector d named place w (g.D.Disk.state l.fn.disk) → (begun : 0 < place) → l.old_size ≡ length d → (are : AreOf size e (lent l.pages))
      → (somes : AreSome before) → ArePut size e before (g.D.Disk.state l.fn.disk).db
      → Grown size sector d e named place w begun (lent l.pages) are before somes l.x-index (g.D.Disk.state l.fn.disk) (g.D.Disk.state l.disk);
}

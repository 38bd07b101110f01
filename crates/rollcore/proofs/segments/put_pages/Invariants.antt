use Rattle.rollcore.proofs.Facts.{ArePlaced, ArePut, AreSome, AreTurned, AreWithin, Asks, Database, Journaled, List, MayReplay, Ok, Turned, lent, ℕ, ◌<◌, ◌↔◌}
use Rattle.rollcore.proofs.segments.put_pages.Given as goal

abbrev pub invariant-loop-change : goal.invariant-loop-change
invariant-loop-change g l = record {
  word : g.D.Disk.keeps_word l.fn.disk ↔ g.D.Disk.keeps_word l.disk;
  asks : g.D.Disk.keeps_word l.fn.disk → (size : ℕ) → ArePlaced size l.pages → AreWithin size l.changes → Asks {T = Unit {0}} (MayReplay size) (Ok tt) (g.D.Disk.state l.fn.disk) (g.D.Disk.state l.disk);
  put : g.D.Disk.keeps_word l.fn.disk → (size sector : ℕ) (d e : Database) (named : List ℕ) (place : ℕ) (w before : List ℕ)
      → Journaled size sector d named place w (g.D.Disk.state l.fn.disk) → (begun : 0 < place) → (turned : AreTurned size e named (lent l.pages) l.changes)
      → (somes : AreSome before) → ArePut size e before (g.D.Disk.state l.fn.disk).db
      → Turned size sector d e named place w begun (lent l.pages) l.changes turned before somes l.change-index (g.D.Disk.state l.fn.disk) (g.D.Disk.state l.disk);
}

use Rattle.rollcore.proofs.Facts.{AreFresh, Asks, Database, GoneTo, List, MayCommit, Ok, Recording, length, pages_of, ℕ, ◌*◌, ◌+◌, ◌-◌, ◌↔◌, ◌≡◌}
use Rattle.rollcore.proofs.segments.write_records.Given as goal

abbrev pub invariant-loop-change : goal.invariant-loop-change
invariant-loop-change g l = record {
  word : g.D.Disk.keeps_word l.fn.disk ↔ g.D.Disk.keeps_word l.disk;
  asks : g.D.Disk.keeps_word l.fn.disk → (sector : ℕ) → Asks {T = Unit {0}} (MayCommit (length l.fn.buffer - 8) sector) (Ok tt) (g.D.Disk.state l.fn.disk) (g.D.Disk.state l.disk);
  end : l.end ≡ l.fn.at + l.change-index * length l.buffer;
  going : g.D.Disk.keeps_word l.fn.disk → (sector : ℕ) (d : Database) (named : List ℕ) (place : ℕ) (w : List ℕ)
      → Recording (length l.fn.buffer - 8) sector d named place w (g.D.Disk.state l.fn.disk) → l.fn.at ≡ place + sector → AreFresh d named (pages_of l.changes)
      → GoneTo (length l.fn.buffer - 8) sector d named place w (pages_of l.changes) l.nonce l.change-index l.end (g.D.Disk.state l.fn.disk) (g.D.Disk.state l.disk);
}

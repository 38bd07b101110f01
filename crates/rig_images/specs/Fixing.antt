-- Which files a crash leaves in one way alone (own).
use Rattle.std.specs.Prelude.{◌≡◌, ◌↔◌, IsTrue}
use Rattle.rig_play.specs.Plays.{Files, epoch_now}
use Rattle.rig_images.specs.Ways.{name_ways}
use Rattle.rig_images.specs.declared.fixed.Fixed.{Fixed}

-- the files that a crash leaves in one way alone, where all changes of names and lengths are durable
pub record AreFixed (s : Files) (f : Fixed) : Type 0 where
  pub db : IsTrue f.db ↔ (name_ways s.db (epoch_now s).db ≡ 1)
  pub wal : IsTrue f.wal ↔ (name_ways s.wal (epoch_now s).wal ≡ 1)
  pub journal : IsTrue f.journal ↔ (name_ways s.journal (epoch_now s).journal ≡ 1)

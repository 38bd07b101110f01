use Rattle.std.proofs.Common.{◌∙◌}
use Rattle.rig_play.specs.Plays.{files_of}
use Rattle.sqcrash.proofs.WatchedFiles.{present_all}
use Rattle.sqcrash.proofs.watched.Watched.look.Goals as goal

pub returns-clause-looked : goal.returns-clause-looked
returns-clause-looked c =
    let one = c.look_at_db.new.self in
    let two = c.look_at_wal.new.self in
    let three = c.look_at_journal.new.self in
    present_all (files_of c.args.self.now.player) (files_of one.player) (files_of two.player) (files_of three.player) three.present one.present.db.items two.present.wal.items
    c.in_ok-look_at_db.ensures.same c.in_ok-look_at_wal.ensures.same c.in_ok-look_at_journal.ensures.same c.in_ok-look_at_db.ensures.looked c.in_ok-look_at_wal.ensures.looked
    c.in_ok-look_at_journal.ensures.looked (c.in_ok-look_at_journal.ensures.db ∙ c.in_ok-look_at_wal.ensures.db) c.in_ok-look_at_journal.ensures.wal

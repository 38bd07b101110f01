use Rattle.std.proofs.Common.{◌≡◌, ◌+◌, Bool, refl, sym, ◌∙◌, ap, subst, arith}
use Rattle.std.specs.Prelude.{◌||◌}
use Rattle.rig_play.specs.Plays.{files_of}
use Rattle.rig_shrink.specs.internal.Trying.{IsPassed}
use Rattle.rig_shrink.proofs.PiecesDown.{passed_none, passed_on, passed_all}
use Rattle.rig_shrink.proofs.shrinking.Ground.pass.Goals as goal

pub loop-n-init : goal.loop-n-init
loop-n-init g c =
    let self = c.args.self.now in
    passed_none (g.F.Finder.says self.finder.now) (files_of self.player.now) self.size.bytes self.present.now c.args.image.now 0 _ refl

pub loop-n-preserved : goal.loop-n-preserved
loop-n-preserved g c =
    let self = c.args.self.now in
    let Says = g.F.Finder.says self.finder.now in
    let s = files_of self.player.now in
    let taken : c.either-taken.result ≡ (c.loop-n.taken || (c.in_ok-db.db || (c.in_ok-wal.wal || c.in_ok-journal.journal))) =
    c.either-taken.ensures ∙ ap (λ (b : Bool). c.loop-n.taken || b) (c.either-any.ensures ∙ ap (λ (b : Bool). c.in_ok-db.db || b) c.either-logs.ensures) in
    subst (λ (b : Bool). IsPassed Says s self.size.bytes self.present.now (c.loop-n.n + 1) b c.args.image.now c.try_piece-in-loop-n-2.new.image) (sym taken)
    (passed_on Says s self.size.bytes self.present.now c.loop-n.n c.at-piece.result c.at-piece.result c.at-piece.result c.loop-n.taken c.in_ok-db.db c.in_ok-wal.wal c.in_ok-journal.journal
    c.args.image.now c.loop-n.image c.try_piece.new.image c.try_piece-in-loop-n.new.image c.try_piece-in-loop-n-2.new.image c.at-piece.ensures c.at-piece.ensures c.at-piece.ensures
    c.loop-n.invariant c.in_ok-db.ensures c.in_ok-wal.ensures c.in_ok-journal.ensures)

pub returns : goal.returns
returns g c =
    let self = c.args.self.now in
    passed_all (g.F.Finder.says self.finder.now) (files_of self.player.now) self.size.bytes self.present.now c.args.image.now c.loop-n.image c.loop-n.n c.loop-n.taken
    self.size.positive (λ w. omega (arith, c.piece_count-count.ensures w, c.loop-n-test.false)) c.loop-n.invariant

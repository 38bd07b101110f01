use Rattle.std.proofs.Common.{◌≡◌, List, ℕ, length, ◌∙◌, ap}
use Rattle.rig_play.specs.Trace.{bytes_of}
use Rattle.sqcrash.specs.Runs.{RunState, run_of, with_change}
use Rattle.sqcrash.proofs.KeptCalls.{goes_kept}
use Rattle.sqcrash.proofs.run.Run.go_kept.Goals as goal

pub returns : goal.returns
returns c =
    let b = c.args.trace.now in
    let r = c.args.call.now in
    let count : c.playing_of-playing.result.count ≡ length (bytes_of b r) = c.playing_of-playing.ensures.count ∙ ap (λ (l : List ℕ). length l) c.bytes.ensures in
    let kept = c.in_ok-keep.ensures ∙ ap (λ (s : RunState). record s { kept = with_change s.kept c.in_ok-change.change }) c.in_ok-look.ensures.same in
    goes_kept c.args.size.bytes b r (run_of c.args.self.now) (run_of c.length_of.new.self) (run_of c.move_files.new.self) (run_of c.keep.new.self) c.in_ok-number.number c.playing_of-playing.result
    c.length_of.new.self.watched.present c.look.new.self.watched.present c.in_ok-change.change c.in_ok-number.ensures c.in_ok-was.ensures.same c.in_ok-move_files.ensures.step c.in_ok-move_files.ensures.rest kept
    c.playing_of-playing.ensures.number count c.in_ok-was.ensures.present (c.playing_of-playing.ensures.was ∙ c.in_ok-was.ensures.long.0) c.in_ok-look.ensures.present c.in_ok-change.ensures

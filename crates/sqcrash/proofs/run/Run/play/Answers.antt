use Rattle.std.proofs.Common.{◌≢◌, ℕ, List, refl}
use Rattle.std.proofs.lemmas.Result.{MatchResult-weaker}
use Rattle.rig_play.specs.declared.trace.Kind.{Kind}
use Rattle.rig_play.specs.declared.trace.Kind.TheVariants as kinds
use Rattle.rig_play.specs.declared.trace.Record.{Record}
use Rattle.sqcrash.specs.Runs.{RunState, run_of, Calls, PlaysBy}
use Rattle.sqcrash.proofs.run.Run.play.Goals as goal

-- a record that is no file that was there and no mark is a call
plays_call : (kind : Kind) (b : List ℕ) (r : Record) (old new : RunState) → kind ≢ kinds.Base → kind ≢ kinds.Mark → Calls b r old new → PlaysBy kind b r old new
plays_call kinds.Base b r old new no_base no_mark is = absurd (no_base refl)
plays_call kinds.Mark b r old new no_base no_mark is = absurd (no_mark refl)
plays_call _ b r old new no_base no_mark is = is

pub returns-in_default : goal.returns-in_default
returns-in_default c =
    let call = c.args.call.now in
    MatchResult-weaker c.play_call-in_default.result c.play_call-in_default.ensures
    (λ done is. plays_call call.kind c.args.trace.now call (run_of c.args.self.now) (run_of c.play_call-in_default.new.self) c.in_default.not-Base c.in_default.not-Mark is)
    (λ refusal is. is)

-- How the engine of a run, or the disk without one, goes from one event to the next (own).
use Rattle.std.specs.Prelude.{◌≡◌, ℕ, None, Result, Ok, Err}
use Rattle.sqval.specs.Answers.{Answer, Done, NoReader, Refused}
use Rattle.sqworld.specs.declared.engine.Given.{Given}
use Rattle.sqworld.specs.declared.event.Event.{Event}
use Rattle.sqworld.specs.declared.event.Event.TheVariants.{Read, End, StopAfter, StopAtSync, Fail}
use Rattle.sqworld.specs.declared.reply.Reply.{Reply}
use Rattle.sqworld.specs.declared.wal_engine.WalEngine.{WalEngine}
use Rattle.sqworld.specs.declared.wal_engine.WalEngine.TheVariants.{Closed, Open}
use Rattle.sqworld.specs.internal.Sessions.{begun_by}

-- how many readers have begun
abbrev pub begun_of : WalEngine → ℕ
begun_of (Closed disk begun) = begun
begun_of (Open session) = begun_by session

-- what is answered where no engine is there
abbrev pub closed_answer : Event → Answer
closed_answer (Read reader page) = NoReader
closed_answer (End reader) = NoReader
closed_answer (StopAfter n) = Done
closed_answer (StopAtSync n) = Done
closed_answer (Fail call part) = Done
closed_answer event = Refused 1

-- a reply alone
abbrev pub IsAlone : {E : Type 0} → Result Reply E → Result Given E → Type 0
IsAlone (Ok reply) (Ok given) = given ≡ record { reply = reply; found = None; crashed = None }
IsAlone (Err e) (Err f) = Unit {0}
IsAlone _ _ = ⊥

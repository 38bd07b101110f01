-- What the calls of a run make of logs, and what the theorem on runs rests on (own): no header and no frame passes by chance,
-- no salts come twice, and a disk that tears puts no header and no frame together.
use Rattle.std.specs.Prelude.{◌≡◌, ℕ, ◌+◌, ◌%◌, ◌^◌, Bool, true, false, not, ◌&&◌, ◌==◌, IsTrue, List, [], ◌∷◌, length, Some}
use Rattle.sqval.specs.Bytes.{word}
use Rattle.sqval.specs.Database.{Pages}
use Rattle.sqwal.specs.Frames.{page_of, size_of, content_of}
use Rattle.sqwal.specs.Log.{IsLog}
use Rattle.walcore.specs.Alone.{AreWhole}
use Rattle.sqval.specs.Answers.{Answer, Done, Complete, Partial, Refused}
use Rattle.walcore.specs.Machine.{Act, Opens, Commits, Syncs, Checkpoints, Restarts, Crashes}
use Rattle.walcore.specs.Made.{HasNewSalts, NoChance, IsBegun, IsExtended}
use Rattle.sqval.specs.Runs.{Moment}

-- what was made so far
pub record Made : Type 0 where
  -- the newest first; while the machine is open, that is the log in force
  pub logs : List (List ℕ)
  -- a commit since the last opening, restart, sync or checkpoint
  pub unsynced : Bool

abbrev pub nothing : Made
nothing = record { logs = []; unsynced = false }

-- a call took effect, or the disk refused a call in between
abbrev pub has_begun : Answer → Bool
has_begun Done = true
has_begun Complete = true
has_begun Partial = true
has_begun (Refused number) = number == 15
has_begun _ = false

-- a log more, of a header alone
abbrev pub BeginsLog : (size sequence salt1 salt2 : ℕ) → (old new : Made) → Type 0
BeginsLog size sequence salt1 salt2 old new = (e : List ℕ) × IsBegun size sequence salt1 salt2 e × (new ≡ record { logs = e ∷ old.logs; unsynced = false })

-- the log e is f from now on: it has frames of these pages behind its own
abbrev pub Extends : (size : ℕ) → Pages → (s : ℕ) → (unsynced : Bool) → (e : List ℕ) → (rest : List (List ℕ)) → (new : Made) → Type 0
Extends size pages s unsynced e rest new =
    (f : List ℕ) × (n : ℕ) × IsLog size e n × IsExtended size e n pages s f × (new ≡ record { logs = f ∷ rest; unsynced = unsynced })

-- a copy of its last frame
abbrev pub Copies : (size : ℕ) → (e : List ℕ) → (rest : List (List ℕ)) → (new : Made) → Type 0
Copies size e rest new =
    (n : ℕ) × IsLog size e n × Extends size ((page_of size e n, content_of size e n) ∷ []) (size_of size e n) false e rest new

-- a restart of the log in force
abbrev pub MadeByRestart : (size salt2 : ℕ) → List (List ℕ) → (old new : Made) → Type 0
MadeByRestart size salt2 [] old new = new ≡ old
MadeByRestart size salt2 (e ∷ rest) old new = BeginsLog size ((word e 12 + 1) % 2 ^ 32) ((word e 16 + 1) % 2 ^ 32) salt2 old new

-- a commit into the log in force
abbrev pub MadeByCommit : (size : ℕ) → Pages → (s : ℕ) → List (List ℕ) → (old new : Made) → Type 0
MadeByCommit size pages s [] old new = new ≡ old
MadeByCommit size pages s (e ∷ rest) old new = Extends size pages s true e rest new

-- the sync of a log: with a copy, or without
abbrev pub MadeByCopy : (copies : Bool) → (size : ℕ) → (e : List ℕ) → (rest : List (List ℕ)) → (new : Made) → Type 0
MadeByCopy true size e rest new = Copies size e rest new
MadeByCopy false size e rest new = new ≡ record { logs = e ∷ rest; unsynced = false }

-- on a disk that tears a copy is made of a frame that doesn't end where a sector ends
abbrev pub MadeBySync : (size sector : ℕ) → (tears : Bool) → List (List ℕ) → (old new : Made) → Type 0
MadeBySync size sector tears [] old new = new ≡ old
MadeBySync size sector tears (e ∷ rest) old new = MadeByCopy (tears && (old.unsynced && not (length e % sector == 0))) size e rest new

-- a call that hasn't begun makes nothing
abbrev pub IfBegun : (begun : Bool) → (old new : Made) → (made : Type 0) → Type 0
IfBegun true old new made = made
IfBegun false old new made = new ≡ old

-- what a moment makes, with pages of this size, on a disk with these sectors
abbrev pub Makes : (size sector : ℕ) → (tears : Bool) → (old : Made) → Act → Answer → (new : Made) → Type 0
Makes size sector tears old (Opens salts found) answer new = BeginsLog size 0 salts.0 salts.1 old new
Makes size sector tears old (Restarts salt2) answer new = IfBegun (has_begun answer) old new (MadeByRestart size salt2 old.logs old new)
Makes size sector tears old (Commits pages s) answer new = IfBegun (has_begun answer) old new (MadeByCommit size pages s old.logs old new)
Makes size sector tears old Syncs answer new = IfBegun (has_begun answer) old new (MadeBySync size sector tears old.logs old new)
Makes size sector tears old Checkpoints answer new = IfBegun (has_begun answer) old new (MadeBySync size sector tears old.logs old new)
Makes size sector tears old _ answer new = new ≡ old

-- a restart of the log in force has new salts
abbrev pub RestartsAnew : List (List ℕ) → (salt2 : ℕ) → Type 0
RestartsAnew [] salt2 = Unit {0}
RestartsAnew (e ∷ rest) salt2 = HasNewSalts (e ∷ rest) ((word e 16 + 1) % 2 ^ 32) salt2

-- the premises at one moment
abbrev pub Permits : Made → Act → Answer → Type 0
Permits made (Opens salts found) answer = NoChance made.logs found.log × HasNewSalts made.logs salts.0 salts.1
Permits made (Restarts salt2) answer = IsTrue (has_begun answer) → RestartsAnew made.logs salt2
Permits made (Crashes (Some c)) answer = AreWhole c.kept c.handed c.log
Permits made _ answer = Unit {0}

-- and at each moment, whatever was made before
abbrev pub Holds : (size sector : ℕ) → (tears : Bool) → Made → List (Moment Act) → Type 0
Holds size sector tears made [] = Unit {0}
Holds size sector tears made (m ∷ ms) =
    Permits made m.act m.answer × ((new : Made) → Makes size sector tears made m.act m.answer new → Holds size sector tears new ms)

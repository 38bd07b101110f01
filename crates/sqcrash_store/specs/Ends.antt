-- How a run of the program ends, and what it writes (own).
use Rattle.std.specs.Prelude.{◌≡◌, ◌⊎◌, ℕ, ◌<◌, List, Option, Result, Ok, Err}
use Rattle.std.specs.Io.KnownBytes.{Appends}
use Rattle.sqcrash_store.specs.Judged.{Judged}
use Rattle.sqcrash_store.specs.Refused.{IsOfFiles, TraceRefused}
use Rattle.sqcrash_store.specs.Rigs.{IsJudgment}
use Rattle.sqcrash_store.specs.Tallies.{IsClean}
use Rattle.sqcrash_store.specs.Words.{Asks}
use Rattle.sqcrash_store.specs.declared.commands.LineError.{LineError}
use Rattle.sqcrash_store.specs.declared.commands.LineError.TheVariants.{NotUnderstood, Help, NoMemory}
use Rattle.sqcrash_store.specs.declared.commands.Request.{Request}
use Rattle.sqcrash_store.specs.declared.outcome.Refusal.{Refusal}
use Rattle.sqcrash_store.specs.declared.plan.Plan.{Plan}
use Rattle.sqcrash_store.specs.declared.tally.Tally.{Tally}
use Rattle.sqcrash_store.specs.declared.verdict.Answer.{Answer}

-- a command may say anything of an image
abbrev pub SaysAny : (image : List (Option (List ℕ))) → Answer → Type 0
SaysAny image answer = Unit {0}

-- What comes of the trace that is asked for: of what its file gives this is counted, which is one point and one image or more, and
-- all lines of its judgment are written; or its file isn't read, or it is refused.
abbrev pub Comes : Plan → (before after : Option (List ℕ)) → Result Tally Refusal → Type 0
Comes plan before after (Ok tally) =
    (b : List ℕ) × (lines : List ℕ) × (kept : List Judged) × IsJudgment SaysAny plan b tally lines kept × (0 < tally.points) × (0 < tally.images) × Appends before after lines
Comes plan before after (Err refusal) = IsOfFiles refusal ⊎ ((b : List ℕ) × TraceRefused SaysAny plan b refusal)

-- the status of what was counted: 0 where nothing is wrong, 1 where something is
abbrev pub IsStatusOf : Tally → (status : ℕ) → Type 0
IsStatusOf tally status = (IsClean tally × (status ≡ 0)) ⊎ (¬ IsClean tally × (status ≡ 1))

-- the status of what came of a trace
abbrev pub EndsWith : Result Tally Refusal → (status : ℕ) → Type 0
EndsWith (Ok tally) status = IsStatusOf tally status
EndsWith (Err refusal) status = status ≡ 3

-- this status, or 3 where its text couldn't be written
abbrev pub IsTold : (told status : ℕ) → Type 0
IsTold told status = (status ≡ told) ⊎ (status ≡ 3)

-- How the program ends whose words ask for this: with what came of the trace. Where they ask for nothing, help alone is
-- written on standard output.
abbrev pub EndsAs : Result Request LineError → (before after : Option (List ℕ)) → (status : ℕ) → Type 0
EndsAs (Ok request) before after status = (answer : Result Tally Refusal) × Comes request.plan before after answer × EndsWith answer status
EndsAs (Err (Help text)) before after status = IsTold 0 status
EndsAs (Err (NotUnderstood text)) before after status = IsTold 2 status × (after ≡ before)
EndsAs (Err NoMemory) before after status = (status ≡ 3) × (after ≡ before)

-- how the program ends whose words are these
abbrev pub Ends : (words : List (List ℕ)) → (before after : Option (List ℕ)) → (status : ℕ) → Type 0
Ends words before after status = (asked : Result Request LineError) × Asks words asked × EndsAs asked before after status

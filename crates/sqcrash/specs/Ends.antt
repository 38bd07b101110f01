-- How a run of the program ends, and what it writes (own).
use Rattle.std.specs.Prelude.{◌≡◌, ◌⊎◌, ℕ, ◌<◌, List, [], ◌∷◌, ◌++◌, Option, Result, Ok, Err}
use Rattle.std.specs.Io.KnownBytes.{Appends}
use Rattle.sqcrash.specs.Lines.{sum_text}
use Rattle.sqcrash.specs.Refused.{IsRefusal}
use Rattle.sqcrash.specs.Refusals.{IsOfFiles}
use Rattle.sqcrash.specs.Rigs.{IsJudgment}
use Rattle.sqcrash.specs.Surveys.{IsClean}
use Rattle.sqcrash.specs.Words.{Asks, AsksVersion}
use Rattle.sqcrash.specs.declared.outcome.Refusal.{Refusal}
use Rattle.sqcrash.specs.declared.outcome.Refusal.TheVariants as refusals
use Rattle.sqcrash.specs.declared.plan.Plan.{Plan}
use Rattle.sqcrash.specs.declared.plan.Style.{Style}
use Rattle.sqcrash.specs.declared.plan.Style.TheVariants.{Lines}
use Rattle.sqcrash.specs.declared.requests.LineError.{LineError}
use Rattle.sqcrash.specs.declared.requests.LineError.TheVariants.{NotUnderstood, Help, Version, NoMemory}
use Rattle.sqcrash.specs.declared.requests.Request.{Request}
use Rattle.sqcrash.specs.declared.survey.Tally.{Tally}

-- What words ask for, or why they ask for nothing. Where the first one asks for the version nothing else is read.
abbrev pub IsReadAs : (words : List (List ℕ)) → Result Request LineError → Type 0
IsReadAs words read = (AsksVersion words × (read ≡ Err Version)) ⊎ (¬ AsksVersion words × Asks words read)

-- of bytes that are no trace nothing is written
abbrev pub MayWrite : Refusal → (before after : Option (List ℕ)) → Type 0
MayWrite (refusals.Trace e) before after = after ≡ before
MayWrite refusal before after = Unit {0}

-- What comes of the trace that is asked for: the judgment of what its file gives, with one point or more, of which all lines are
-- written and then what was counted; or that isn't read, and nothing is written, or refused.
abbrev pub Comes : Plan → (before after : Option (List ℕ)) → Result Tally Refusal → Type 0
Comes plan before after (Ok tally) =
    (b : List ℕ) × (lines : List ℕ) × IsJudgment plan b tally lines × (0 < tally.points) × Appends before after (lines ++ (sum_text plan.style tally ++ 10 ∷ []))
Comes plan before after (Err refusal) =
    (IsOfFiles refusal × (after ≡ before)) ⊎ ((b : List ℕ) × IsRefusal plan b refusal × MayWrite refusal before after)

-- the status of what was counted: 0 where nothing is wrong, 1 where something is
abbrev pub IsStatusOf : Tally → (status : ℕ) → Type 0
IsStatusOf tally status = (IsClean tally × (status ≡ 0)) ⊎ (¬ IsClean tally × (status ≡ 1))

-- of what came of a trace; behind what was written of it there is nothing more but a refusal's object
abbrev pub EndsWith : Style → Result Tally Refusal → (before after : Option (List ℕ)) → (status : ℕ) → Type 0
EndsWith style (Ok tally) before after status = IsStatusOf tally status × (after ≡ before)
EndsWith style (Err refusal) before after status = (status ≡ 3) × (style ≡ Lines → after ≡ before)

-- this status, or 3 where its text couldn't be written
abbrev pub IsTold : (told status : ℕ) → Type 0
IsTold told status = (status ≡ told) ⊎ (status ≡ 3)

-- how the program ends whose words were read so, and what it writes to where lines go
abbrev pub EndsAs : Result Request LineError → (before after : Option (List ℕ)) → (status : ℕ) → Type 0
EndsAs (Ok request) before after status =
    (answer : Result Tally Refusal) × (written : Option (List ℕ)) × Comes request.plan before written answer × EndsWith request.plan.style answer written after status
EndsAs (Err (Help text)) before after status = IsTold 0 status
EndsAs (Err Version) before after status = IsTold 0 status
EndsAs (Err (NotUnderstood text)) before after status = IsTold 2 status × (after ≡ before)
EndsAs (Err NoMemory) before after status = (status ≡ 3) × (after ≡ before)

-- how the program ends whose words are these
abbrev pub Ends : (words : List (List ℕ)) → (before after : Option (List ℕ)) → (status : ℕ) → Type 0
Ends words before after status = (read : Result Request LineError) × IsReadAs words read × EndsAs read before after status

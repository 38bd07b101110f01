-- What a deep check finds of files (own).
use Rattle.std.specs.Prelude.{◌≡◌, ◌⊎◌, ℕ, Bool, true, false, List, Option, None, length}
use Rattle.sqval.specs.Limits.{Bounds}
use Rattle.sqval.specs.Database.{Database}
use Rattle.sqdeepjudge.specs.declared.verdict.Damage.TheVariants.{Cut, Excess, Check, Inner, Schema, Content, Row}
use Rattle.sqview.specs.declared.verdict.Verdict.{Verdict}
use Rattle.sqview.specs.declared.verdict.Verdict.TheVariants as plain
use Rattle.cli_words.specs.declared.requests.Commit.{Commit}
use Rattle.cli_words.specs.declared.requests.Commit.TheVariants.{Last, Front, At}
use Rattle.sqpast.specs.declared.used.Counts.{Counts}
use Rattle.cli_show.specs.Views.{AreAskedCounts, AskedShows, IsFound, IsHeadless}
use Rattle.sqdeepjudge.specs.Counted.{FindsExcess}
use Rattle.sqdeepjudge.specs.Missing.{FindsCut, IsInFrames, IsInLog, IsLeast, IsMissing}
use Rattle.sqdeepjudge.specs.Verdicts.{FindsDeep, verdict_as}
use Rattle.sqdeepjudge.specs.declared.verdict.DeepVerdict.{DeepVerdict}
use Rattle.sqdeepjudge.specs.declared.verdict.DeepVerdict.TheVariants as deep
use Rattle.cli_show_deep.specs.declared.found.DeepFinding.{DeepFinding}

-- the fault of the file's own header, which names no database there
abbrev pub IsHeadlessDeep : (limits : Bounds) → (at : Commit) → (db wal journal : List ℕ) → DeepVerdict → Type 0
IsHeadlessDeep limits at db wal journal (deep.Clean report) = ⊥
IsHeadlessDeep limits at db wal journal (deep.Sound report schema unjudged) = ⊥
IsHeadlessDeep limits at db wal journal (deep.Damaged (Cut p)) = ⊥
IsHeadlessDeep limits at db wal journal (deep.Damaged (Excess n)) = ⊥
IsHeadlessDeep limits at db wal journal (deep.Damaged (Check e)) = IsHeadless limits at db wal journal (plain.Damaged e)
IsHeadlessDeep limits at db wal journal (deep.Damaged (Inner e)) = ⊥
IsHeadlessDeep limits at db wal journal (deep.Damaged (Schema e)) = ⊥
IsHeadlessDeep limits at db wal journal (deep.Damaged (Content e)) = ⊥
IsHeadlessDeep limits at db wal journal (deep.Damaged (Row e)) = ⊥

-- The log has page p: a frame up to the commit that is asked for, or at the last one the log that is current.
abbrev pub HasPage : (at : Commit) → (size : ℕ) → (wal journal : List ℕ) → (p : ℕ) → Type 0
HasPage Last size wal journal p = IsInLog size wal journal p
HasPage (Front m) size wal journal p = IsInFrames size wal m p
HasPage (At m) size wal journal p = IsInFrames size wal m p

-- the least page of a database that is missing is the fault, and no other fault is found if there is one
abbrev pub IsWholeOrCut : (at : Commit) → (size : ℕ) → (db wal journal : List ℕ) → Database → DeepVerdict → Type 0
IsWholeOrCut at size db wal journal d verdict = FindsCut (IsMissing (HasPage at size wal journal) size (length db)) (length d) verdict

-- A header that counts more pages than the database has there by its log is the fault, if no page is missing, and no other fault is
-- found but one that comes first.
abbrev pub IsCounted : (at : Commit) → (db wal journal : List ℕ) → DeepVerdict → Type 0
IsCounted at db wal journal verdict = (counts : Counts) × AreAskedCounts at db wal journal counts × FindsExcess counts verdict

-- Of files within limits, at the commit that is asked for: what is found of the database that they show there, or the
-- fault of a header that names none.
abbrev pub IsFoundDeep : (maps : Bool) → (limits : Bounds) → (at : Commit) → (db wal journal : List ℕ) → DeepVerdict → Type 0
IsFoundDeep maps limits at db wal journal verdict =
    ((size : ℕ) × (d : Database) × AskedShows at size db wal journal d × FindsDeep maps d size verdict × IsWholeOrCut at size db wal journal d verdict
    × IsCounted at db wal journal verdict)
    ⊎ IsHeadlessDeep limits at db wal journal verdict

-- the same by a deep check, or by one that isn't
abbrev pub IsFoundAs : (is_deep maps : Bool) → (limits : Bounds) → (at : Commit) → (db wal journal : List ℕ) → DeepVerdict → Type 0
IsFoundAs true maps limits at db wal journal verdict = IsFoundDeep maps limits at db wal journal verdict
IsFoundAs false maps limits at db wal journal verdict = (found : Verdict) × (verdict ≡ verdict_as found) × IsFound maps limits at db wal journal found

-- This is the least page that is missing of the database that they show there; or there is none, and the file's own header
-- names no database.
abbrev pub IsMissingThere : (limits : Bounds) → (at : Commit) → (db wal journal : List ℕ) → DeepFinding → Type 0
IsMissingThere limits at db wal journal found =
    ((size : ℕ) × (d : Database) × AskedShows at size db wal journal d × IsLeast (IsMissing (HasPage at size wal journal) size (length db)) (length d) found.missing)
    ⊎ ((found.missing ≡ None) × IsHeadlessDeep limits at db wal journal found.verdict)

-- a check that isn't deep finds it; a deep one has it as its fault
abbrev pub IsMissingFound : (is_deep : Bool) → (limits : Bounds) → (at : Commit) → (db wal journal : List ℕ) → DeepFinding → Type 0
IsMissingFound true limits at db wal journal found = found.missing ≡ None
IsMissingFound false limits at db wal journal found = IsMissingThere limits at db wal journal found

-- What is read of a log, by which a recovery is planned (own).
use Rattle.cli_recover.specs.Plans.{HasNoHeader, IsCommitOf}
use Rattle.std.specs.Prelude.{◌≡◌, ◌⊎◌, ℕ, ◌≤◌, Bool, IsTrue, List, length, Option, None, Some, IfSome, IsSomeAnd, Result, Ok, Err}
use Rattle.sqval.specs.Limits.{Bounds}
use Rattle.sqwal.specs.Frames.{IsFront}
use Rattle.sqwal.specs.Header.{HeaderRefused, IsHeader, named_size}
use Rattle.sqwal.specs.Took.{TookWithin}
use Rattle.sqwal.specs.declared.error.WalFormatError.TheVariants.{UnknownVersion}
use Rattle.sqwal.specs.declared.scan.Scan.{Scan}
use Rattle.cli_facts.specs.declared.outcome.Refusal.{Refusal}
use Rattle.cli_facts.specs.declared.outcome.Refusal.TheVariants.{UnknownLogVersion, NoSuchCommit, PageSizesDiffer}
use Rattle.cli_show.specs.Logs.{ScanFound}
use Rattle.cli_recover.specs.declared.plans.Recovery.{Recovery}
use Rattle.cli_recover.specs.declared.plans.Recovery.TheVariants.{Fold}

-- the page size that the header of a log names, none where it has no valid one
abbrev pub NamesSize : (wal : List ℕ) → Result (Option ℕ) Refusal → Type 0
NamesSize wal (Ok None) = HasNoHeader wal
NamesSize wal (Ok (Some size)) = IsHeader size wal
NamesSize wal (Err refusal) = (refusal ≡ UnknownLogVersion) × (32 ≤ length wal) × HeaderRefused wal UnknownVersion

-- the scan of a log, none where its header isn't valid
abbrev pub ScansLog : Bounds → (wal : List ℕ) → Result (Option Scan) Refusal → Type 0
ScansLog limits wal (Ok (Some scan)) = TookWithin limits.frames wal scan
ScansLog limits wal (Ok None) = ¬ IsHeader (named_size wal) wal
ScansLog limits wal (Err refusal) = ScanFound limits wal (Err refusal)

-- the scan of a log whose index names this front, if one does
abbrev pub ScansTo : Bounds → (at : Option ℕ) → (wal : List ℕ) → Result (Option Scan) Refusal → Type 0
ScansTo limits at wal (Ok None) = at ≡ None
ScansTo limits at wal (Ok (Some scan)) = TookWithin limits.frames wal scan × IsSomeAnd at (λ frame. IsCommitOf wal frame)
ScansTo limits at wal (Err refusal) =
    ((refusal ≡ NoSuchCommit) × IsSomeAnd at (λ frame. ¬ IsCommitOf wal frame)) ⊎ ScanFound limits wal (Err refusal)

-- a log that was scanned: it is folded where no frame of it counts
abbrev pub FoldsByFront : (wal : List ℕ) → (size : ℕ) → Scan → Result Recovery Refusal → Type 0
FoldsByFront wal size scan (Ok plan) = (plan ≡ Fold size (Some scan)) × IsFront (named_size wal) wal 0
FoldsByFront wal size scan (Err refusal) = (refusal ≡ PageSizesDiffer) × ((frame : ℕ) × IsCommitOf wal frame)

-- it is folded, with its scan if one was made, unless the file has pages of another size and a frame counts
abbrev pub FoldsBySize : Bounds → (wal : List ℕ) → (size : ℕ) → Option Scan → (differs : Bool) → Result Recovery Refusal → Type 0
FoldsBySize limits wal size scan differs (Ok (Fold folded found)) = (folded ≡ size) × IfSome found (TookWithin limits.frames wal)
    × ((found ≡ scan) ⊎ (scan ≡ None)) × (IsTrue differs → IsFront (named_size wal) wal 0)
FoldsBySize limits wal size scan differs (Ok _) = ⊥
FoldsBySize limits wal size scan differs (Err refusal) =
    ((refusal ≡ PageSizesDiffer) × IsTrue differs × ((frame : ℕ) × IsCommitOf wal frame)) ⊎ ScanFound limits wal (Err refusal)

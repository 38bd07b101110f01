-- What is to be written of files, and why nothing is (own).
use Rattle.std.specs.Prelude.{◌≡◌, ◌⊎◌, ℕ, List, Option, Ok, Err}
use Rattle.std.specs.List.{concat}
use Rattle.sqval.specs.Limits.{Bounds}
use Rattle.sqwal.specs.declared.scan.Scan.{Scan}
use Rattle.sqjournal.specs.Journal.{IsHot}
use Rattle.sqview.specs.internal.Laid.{HoldsPart}
use Rattle.sqview.specs.declared.read_ahead.ReadAhead.{ReadAhead}
use Rattle.sqview.specs.At.{AtRefusedWithin}
use Rattle.sqview.specs.LogView.{ViewRefusedWithin, pages_of}
use Rattle.sqview.specs.declared.view_error.ViewError.{ViewError}
use Rattle.cli_facts.specs.Refusals.{refusal_of}
use Rattle.cli_facts.specs.declared.outcome.Refusal.{Refusal}
use Rattle.cli_facts.specs.declared.outcome.Refusal.TheVariants.{NoMemory}
use Rattle.cli_words.specs.declared.requests.Options.{Options}
use Rattle.cli_show.specs.Limits.{limits_named}
use Rattle.cli_show.specs.Logs.{ReplayFound, ScanFound}
use Rattle.cli_job.specs.declared.metered.Metered.{Metered}
use Rattle.cli_recover.specs.Copies.{IsFoldedTo}
use Rattle.cli_recover.specs.Plans.{PlansFold}
use Rattle.cli_recover.specs.declared.plans.Recovery.TheVariants.{Fold}
use Rattle.cli_recover.specs.declared.copies.Content.{Content}
use Rattle.cli_recover.specs.declared.copies.Content.TheVariants.{File, Pages}

-- the bytes of a file as it stands, or the pages of a view
abbrev pub content_bytes : {F M : Type 0} → (bytes : F → List ℕ) → Content F M → List ℕ
content_bytes bytes (File db) = bytes db.file
content_bytes bytes (Pages view) = concat (pages_of (λ counted. bytes counted.file.file) view)

-- reads of a file are right of which some bytes are read ahead
abbrev pub IsReadAhead : {F M : Type 0} → (bytes : F → List ℕ) → (reads : F → Type 0) → Metered (ReadAhead F) M → Type 0
IsReadAhead bytes reads counted = reads counted.file.file
    × HoldsPart (bytes counted.file.file) counted.file.from counted.file.held counted.file.piece.items

-- those of what is to be written are
abbrev pub content_reads : {F M : Type 0} → (bytes : F → List ℕ) → (reads : F → Type 0) → Content F M → Type 0
content_reads bytes reads (File db) = reads db.file
content_reads bytes reads (Pages view) = IsReadAhead bytes reads view.db × IsReadAhead bytes reads view.log

-- a log is folded in pages of this size, and beside it no journal is hot
abbrev pub FoldsAt : Options → (db wal journal : List ℕ) → (size : ℕ) → Option Scan → Type 0
FoldsAt options db wal journal size scan = PlansFold (limits_named options.large) options.front db wal (Ok (Fold size scan)) × ¬ IsHot journal

-- memory was refused, or the view up to this commit frame of a log
abbrev pub IsUnfoldedAt : Bounds → (frame : ℕ) → (db wal journal : List ℕ) → Refusal → Type 0
IsUnfoldedAt limits frame db wal journal refusal =
    (refusal ≡ NoMemory) ⊎ ((error : ViewError) × (refusal ≡ refusal_of error) × AtRefusedWithin limits frame db wal journal error)

-- the same up to the commit frame to which it is folded, or the scan of the log was refused
abbrev pub IsUnfolded : Options → (size : ℕ) → (db wal journal : List ℕ) → Refusal → Type 0
IsUnfolded options size db wal journal refusal = ScanFound (limits_named options.large) wal (Err refusal)
    ⊎ ((frame : ℕ) × IsFoldedTo options.front size wal frame × IsUnfoldedAt (limits_named options.large) frame db wal journal refusal)

-- memory was refused, the replay of a journal, or the view that it restores, or the view that it restores
abbrev pub IsUnreplayed : Bounds → (db wal journal : List ℕ) → Refusal → Type 0
IsUnreplayed limits db wal journal refusal = (refusal ≡ NoMemory)
    ⊎ (ReplayFound journal (Err refusal) ⊎ ((error : ViewError) × (refusal ≡ refusal_of error) × ViewRefusedWithin limits db wal journal error))

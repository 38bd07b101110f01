-- How a script begins (own). No public contract cites these words.
use Rattle.std.specs.Prelude.{◌≡◌, ◌⊎◌, ℕ, true, List, Option, Some, None, Vec}
use Rattle.std.specs.declared.alloc.Global.{Global}
use Rattle.std.specs.Io.KnownBytes.{Appends}
use Rattle.sqval.specs.Database.{Database}
use Rattle.sqpage.specs.declared.fault.CheckError.{CheckError}
use Rattle.sqpage.specs.declared.fault.Fault.{Fault}
use Rattle.sqcheck.specs.WellFormed.{WellFormedWith}
use Rattle.sqdeep.specs.declared.text.Encoding.{Encoding}
use Rattle.cli_facts.specs.Faults.{IsFirstFault}
use Rattle.cli_show_rows.specs.Dumps.{start_text}
use Rattle.cli_show_salvage.specs.Faults.{AreFaultsOf, AreFirstsWritten, fault_line}

-- The database is well formed, or these are the faults of its pages.
abbrev pub IsJudged : Database → (size : ℕ) → Option (Vec CheckError Global) → Type 0
IsJudged d size None = WellFormedWith true d size
IsJudged d size (Some faults) = (¬ WellFormedWith true d size) × AreFaultsOf d size faults.items

-- The first fault of a page was written, if it has one.
abbrev pub IsFirstTold : (faults : List CheckError) → (page : ℕ) → (before after : Option (List ℕ)) → Type 0
IsFirstTold faults page before after =
    (IsFirstFault faults page None × (before ≡ after))
    ⊎ ((fault : Fault) × IsFirstFault faults page (Some fault) × Appends before after (fault_line (record { page = page; fault = fault })))

-- What a script begins with was written, and behind it those of the pages from 1 to n.
abbrev pub IsOpened : Encoding → (n : ℕ) → (faults : List CheckError) → (before after : Option (List ℕ)) → Type 0
IsOpened encoding n faults before after =
    (first_done : Option (List ℕ)) × Appends before first_done (start_text encoding) × AreFirstsWritten n faults first_done after

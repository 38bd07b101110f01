-- Neighbouring pages of one use (own).
use Rattle.std.specs.Prelude.{ℕ, ◌+◌, ◌<◌, List, length, get_or, replicate}
use Rattle.std.specs.List.{flat_map}
use Rattle.sqpage.specs.declared.fault.CheckError.{CheckError}
use Rattle.cli_facts.specs.Faults.{IsFirstFault}
use Rattle.cli_facts.specs.declared.runs.Run.{Run}
use Rattle.cli_facts.specs.declared.runs.Use.{Use}

-- The uses of the pages that runs stand for, in their order.
abbrev pub expanded : List Run → List Use
expanded runs = flat_map (λ run. replicate run.count run.used) runs

-- Each page, by its number from 1, tells its first fault, if it has one, and no other.
abbrev pub TellFirstFaults : (faults : List CheckError) → List Use → Type 0
TellFirstFaults faults uses = (i : ℕ) (d : Use) → i < length uses → i < 4294967295 → IsFirstFault faults (i + 1) (get_or uses i d).fault

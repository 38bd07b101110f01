-- What the scan of a rollback journal answers.
use Rattle.std.specs.Prelude.{◌≡◌, ℕ, suc, List, get_or}
use Rattle.sqjournal.specs.declared.reading.Record.{Record as Entry}
use Rattle.sqrescue_c.specs.declared.journal.Record.{Record}
use Rattle.sqrescue_c.specs.Journals.{IsRecordOf, no_entry}

-- record i, from 1
abbrev pub IsRecordAt : List Entry → (i : ℕ) → Record → Type 0
IsRecordAt entries i it = (n : ℕ) → i ≡ suc n → IsRecordOf (get_or entries n no_entry) it

-- What a scan answers of the bytes that it took (own).
use Rattle.std.specs.Prelude.{ℕ, List}
use Rattle.sqwal.specs.Refusal.{most_frames}
use Rattle.sqwal.specs.declared.scan.Entry.{Entry}
use Rattle.sqwal.specs.declared.scan.Front.{Front}
use Rattle.sqwal.specs.Answers.{AreEntriesWithin, IsCommittedWithin}

abbrev pub AreEntries : List ℕ → List Entry → Type 0
AreEntries b entries = AreEntriesWithin most_frames b entries

abbrev pub IsCommitted : List ℕ → Front → Type 0
IsCommitted b f = IsCommittedWithin most_frames b f

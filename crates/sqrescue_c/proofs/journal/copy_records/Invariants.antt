use Rattle.std.proofs.Common.{ℕ, List}
use Rattle.sqjournal.specs.Took.{Took, Says}
use Rattle.sqjournal.specs.declared.reading.Record.{Record as Entry}
use Rattle.sqjournal.specs.declared.replay.Stop.{Stop}
use Rattle.sqrescue_c.specs.Journals.{AreRecordsOf}
use Rattle.sqrescue_c.proofs.journal.copy_records.Given as goal

abbrev pub invariant-loop-i : goal.invariant-loop-i
invariant-loop-i l = (b : List ℕ) (es : List Entry) (stop : Stop) → Took b l.replay → Says b es stop → AreRecordsOf es l.i l.records

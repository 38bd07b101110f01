use Rattle.std.proofs.Common.{ℕ, List, take}
use Rattle.std.specs.Io.KnownBytes.{Appends}
use Rattle.sqjournal.specs.Took.{Took, Says}
use Rattle.sqjournal.specs.declared.reading.Record.{Record}
use Rattle.sqjournal.specs.declared.replay.Stop.{Stop}
use Rattle.cli_text.specs.Logs.{records_text}
use Rattle.cli_text.proofs.logs.write_entries.Given as goal

abbrev pub invariant-loop-i : goal.invariant-loop-i
invariant-loop-i g l = (b : List ℕ) (records : List Record) (stop : Stop) → Took b l.replay → Says b records stop
    → Appends (g.W.Write.contents l.fn.out) (g.W.Write.contents l.out) (records_text l.style (take l.i records))

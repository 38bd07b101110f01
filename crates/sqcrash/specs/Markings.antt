-- A run whose commits are looked at, as far as that has come (own).
use Rattle.sqcrash.specs.Runs.{run_of}
use Rattle.sqcrash.specs.Marked.{MarkState}
use Rattle.sqcrash.specs.declared.marked.Marking.{Marking}

abbrev pub marking_of : Marking → MarkState
marking_of m = record { run = run_of m.run; faults = m.faults.items }

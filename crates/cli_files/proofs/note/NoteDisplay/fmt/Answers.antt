use Rattle.std.proofs.Common.{ap, sym}
use Rattle.std.proofs.Output.{has_written_of_eq}
use Rattle.cli_files.specs.Notes.{note_text}
use Rattle.cli_files.specs.declared.note.Note.{Note}
use Rattle.cli_files.proofs.note.NoteDisplay.fmt.Goals as goal

pub returns-in-Cut-clause-writes : goal.returns-in-Cut-clause-writes
returns-in-Cut-clause-writes g c = λ plain ok.
    has_written_of_eq _ _ _ _ _ (ap (λ (n : Note). note_text n) (sym c.in-Cut.is)) (c.write.ensures.writes plain ok)

pub returns-in-Rest-clause-writes : goal.returns-in-Rest-clause-writes
returns-in-Rest-clause-writes g c = λ plain ok.
    has_written_of_eq _ _ _ _ _ (ap (λ (n : Note). note_text n) (sym c.in-Rest.is)) (c.write-in-Rest.ensures.writes plain ok)

pub returns-in-Shorter-clause-writes : goal.returns-in-Shorter-clause-writes
returns-in-Shorter-clause-writes g c = λ plain ok.
    has_written_of_eq _ _ _ _ _ (ap (λ (n : Note). note_text n) (sym c.in-Shorter.is)) (c.write-in-Shorter.ensures.writes plain ok)

pub returns-in-Dropped-clause-writes : goal.returns-in-Dropped-clause-writes
returns-in-Dropped-clause-writes g c = λ plain ok.
    has_written_of_eq _ _ _ _ _ (ap (λ (n : Note). note_text n) (sym c.in-Dropped.is)) (c.write-in-Dropped.ensures.writes plain ok)

pub returns-in-Unused-clause-writes : goal.returns-in-Unused-clause-writes
returns-in-Unused-clause-writes g c = λ plain ok.
    has_written_of_eq _ _ _ _ _ (ap (λ (n : Note). note_text n) (sym c.in-Unused.is)) (c.write-in-Unused.ensures.writes plain ok)

pub returns-in-Excess-clause-writes : goal.returns-in-Excess-clause-writes
returns-in-Excess-clause-writes g c = λ plain ok.
    has_written_of_eq _ _ _ _ _ (ap (λ (n : Note). note_text n) (sym c.in-Excess.is)) (c.write-in-Excess.ensures.writes plain ok)

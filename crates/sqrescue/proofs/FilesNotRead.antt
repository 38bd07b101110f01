-- Files that changed while they were read twice aren't read.
use Rattle.std.proofs.Common.{ℕ, inl}
use Rattle.std.specs.Prelude.{Option, Result, Ok, Err, IsErrAnd}
use Rattle.cli_files.specs.Refusals.{IsFromWatch}
use Rattle.cli_show.specs.Errors.{IfRefused}
use Rattle.cli_show.specs.declared.error.ShowError.{ShowError}
use Rattle.cli_show.specs.declared.error.ShowError.TheVariants.{Refused, Unwritten}
use Rattle.cli_job.specs.Sources.{IsUnsourced}
use Rattle.cli_job.specs.declared.answers.Answer.{Answer}

pub unsourced : (at : Option ℕ) (answer : Result Answer ShowError) → IsErrAnd answer (λ error. IfRefused IsFromWatch error)
    → IsErrAnd answer (λ error. IfRefused (IsUnsourced at) error)
unsourced at (Ok x) h = absurd h
unsourced at (Err (Refused refusal)) h = inl h
unsourced at (Err Unwritten) h = tt

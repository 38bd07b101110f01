use Rattle.std.proofs.Common.{inl, inr, refl, subst, ℕ, Option, ⊎_elim}
use Rattle.std.specs.Prelude.{Result, Ok, Err, IsErrAnd}
use Rattle.cli_files.specs.Refusals.{IsFromWatch}
use Rattle.cli_show.specs.Errors.{IfRefused}
use Rattle.cli_show.specs.declared.error.ShowError.{ShowError}
use Rattle.cli_show.specs.declared.error.ShowError.TheVariants.{Refused, Unwritten}
use Rattle.cli_job.specs.Sources.{IsSourceOf, IsUnsourced}
use Rattle.cli_job.specs.declared.answers.Answer.{Answer}
use Rattle.cli_job.specs.declared.sources.Extent.{Extent}
use Rattle.sqrescue.proofs.program.read_once.Goals as goal

-- files that changed aren't read as those that can't be found aren't
watched : (at : Option ℕ) (answer : Result Answer ShowError) → IsErrAnd answer (λ error. IfRefused IsFromWatch error)
    → IsErrAnd answer (λ error. IfRefused (IsUnsourced at) error)
watched at (Ok a) is = absurd is
watched at (Err (Refused refusal)) is = inl is
watched at (Err Unwritten) is = is

pub returns-in-Undated : goal.returns-in-Undated
returns-in-Undated g c =
    let asked = c.args.asked.now in
    let of = subst (λ (e : Extent). IsSourceOf asked.file asked.options e c.in-Ok.source) c.extent.ensures c.in-Ok.ensures.source in
    ⊎_elim (λ r. inl (c.in-Ok.source, r.0, of, r.1, r.2)) (λ e. inr (watched asked.options.at c.read_journaled.result e)) c.read_journaled.ensures

pub returns-in_default : goal.returns-in_default
returns-in_default g c =
    let asked = c.args.asked.now in
    let of = subst (λ (e : Extent). IsSourceOf asked.file asked.options e c.in-Ok.source) c.extent.ensures c.in-Ok.ensures.source in
    inl (c.in-Ok.source, c.in-Ok.source, of, inl refl, c.read_from.ensures)

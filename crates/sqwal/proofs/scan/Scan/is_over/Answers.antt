use Rattle.std.proofs.Common.{sym, ◌∙◌, ap, ⊎_elim}
use Rattle.std.specs.Prelude.{is_some}
use Rattle.sqwal.proofs.feed.ScanUnderMoreBytes.{some_from_is_some, known_or_not}
use Rattle.sqwal.proofs.feed.SettledScan.{settled_over, unsettled_open}
use Rattle.sqwal.proofs.scan.Scan.is_over.Goals as goal

pub returns : goal.returns
returns c most b t =
    let s = c.args.self.now in (
      λ yes. let why = some_from_is_some s.frames.progress.refused (sym c.is_some.ensures ∙ yes) in settled_over most b s why.0 t why.1,
      λ settled. ⊎_elim
          (λ none. absurd (unsettled_open most b s t none settled))
          (λ some. c.is_some.ensures ∙ ap is_some some.1)
          (known_or_not s.frames.progress.refused),
    )

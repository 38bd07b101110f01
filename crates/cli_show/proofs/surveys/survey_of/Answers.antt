use Rattle.std.proofs.Common.{sym, subst}
use Rattle.std.specs.Prelude.{Result}
use Rattle.sqpage.specs.declared.fault.CheckError.{CheckError}
use Rattle.sqcheck.specs.declared.survey.Survey.{Survey}
use Rattle.cli_show.specs.Pages.{IsSurveyed}
use Rattle.cli_show.proofs.surveys.survey_of.Goals as goal
use Rattle.cli_show.proofs.surveys.survey_of.Goals.{in-Ok+in-Err-answer, in-Err}

pub returns-in_default : goal.returns-in_default
returns-in_default g c =
    let d = g.S.PageSource.pages c.args.source.now in
    let n = g.S.PageSource.size c.args.source.now in
    let maps = c.args.maps.pointer_maps in
    record {
      found = λ gives.
          let right = g.met.S.PageSource.right c.args.source.now gives in
          elim c.match-survey_pages_with.branch [
            | in-Ok+in-Err-answer w ↦ subst (λ (r : CheckError × Result Survey CheckError). IsSurveyed maps d n r.1) (sym w.found-is) (w.in-Ok.ensures.clean right, w.in-Ok.ensures.damaged right, w.in-Ok.ensures.each right)
            | in-Err w ↦
                let refused = w.in-Err.ensures.refused right in
                subst (λ (r : CheckError × Result Survey CheckError). IsSurveyed maps d n r.1) (sym w.found-is) (refused.1 (λ is. refused.0 is gives))
          ];
      refused = λ gives. tt;
      same = c.survey_pages_with.ensures.keeps;
    }

use Rattle.std.proofs.Common.{◌≡◌, ◌∙◌, length}
use Rattle.sqcheck.specs.declared.survey.Survey.{Survey}
use Rattle.sqview.specs.LogView.{pages_of}
use Rattle.sqview.proofs.openings.PagesOfView.{length_laid}
use Rattle.sqcheck.proofs.checks.ResultsOfCalls.{if_ok}
use Rattle.sqview.proofs.survey.survey_view_with.Goals as goal

pub returns-clause-each : goal.returns-clause-each
returns-clause-each g c = λ right.
    let v = c.args.view.now in
    if_ok (λ (s : Survey). length s.roles.items ≡ length (pages_of g.F.FileBytes.bytes v)) (λ s. length s.roles.items ≡ v.count) c.survey_pages_with.result
    (λ s e. e ∙ length_laid v.page_size v.count (g.F.FileBytes.bytes v.db) (g.F.FileBytes.bytes v.log) v.places.items) (c.survey_pages_with.ensures.each right)

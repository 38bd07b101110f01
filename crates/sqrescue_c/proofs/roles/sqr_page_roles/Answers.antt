use Rattle.std.proofs.Common.{◌∙◌, inr, arith}
use Rattle.sqview.specs.LogView.{pages_of}
use Rattle.sqrescue_c.proofs.roles.sqr_page_roles.Goals as goal

pub returns-in-Err-survey_of-clause-refused : goal.returns-in-Err-survey_of-clause-refused
returns-in-Err-survey_of-clause-refused c = λ _ _ _. rw c.number-in-Err-survey_of.ensures
    (inr (c.in-Ok.view.page_size, pages_of (λ file. file.now) c.in-Ok.view, c.in-Ok.ensures.shown, rw c.options_of.ensures at c.in-Err-survey_of.ensures.refused))

pub returns-clause-roles : goal.returns-clause-roles
returns-clause-roles c = λ _.
    let is = rw c.options_of.ensures at c.in-Ok-survey_of.ensures.found in
    record {
      size = c.in-Ok.view.page_size;
      database = pages_of (λ file. file.now) c.in-Ok.view;
      shown = c.in-Ok.ensures.shown;
      survey = c.in-Ok-survey_of.survey;
      is = is;
      answered = c.answer_of-status.ensures.answered;
      counted = c.answer_of-status.ensures.pages ∙ c.count-pages.ensures;
      long = omega (arith, c.answer_of-status.ensures.pages, c.if-pages-roles.false, c.copy_roles.auto.roles);
      each = λ i r within. rw c.deref.ensures.value at
          (c.copy_roles.ensures i r (omega (arith, within, is.long, c.answer_of-status.ensures.pages, c.count-pages.ensures, c.deref.ensures.len)));
    }

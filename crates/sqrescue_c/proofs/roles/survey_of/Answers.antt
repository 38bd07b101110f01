use Rattle.std.proofs.Common.{◌∙◌, inr, refl, sym}
use Rattle.sqview.specs.LogView.{pages_of}
use Rattle.sqview.proofs.openings.PagesOfView.{length_laid}
use Rattle.sqrescue_c.proofs.AskedViews.{surveyed}
use Rattle.sqrescue_c.proofs.roles.survey_of.Goals as goal

pub returns-in-Ok-clause-found : goal.returns-in-Ok-clause-found
returns-in-Ok-clause-found c =
    let view = c.args.view.now in
    surveyed c.args.options.pointer_maps (pages_of (λ file. file.now) view) view.page_size c.in-Ok.survey c.judged.result c.judged.ensures.ok
    (c.in-Ok.ensures.clean (tt, tt)) (c.in-Ok.ensures.damaged (tt, tt))
    (c.in-Ok.ensures.each (tt, tt) ∙ sym (length_laid view.page_size view.count view.db.now view.log.now view.places.items))

pub returns-in_default : goal.returns-in_default
returns-in_default c =
    let refused = c.in-Err.ensures.refused (tt, tt) in
    record {
      found = tt;
      refused = inr (inr (refl, c.in-Err.error.fault, c.in-Err.error.page, c.in_default.not-NoMemory, refused.1 (λ is. refused.0 is (tt, tt))));
    }

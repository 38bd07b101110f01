use Rattle.rollcore.proofs.Facts.{Device, copied_keeps, during, later_wider, record_plan, rolled_made, sym, writing_keeps, ◌∙◌}
use Rattle.rollcore.proofs.replays.CopiedPages.{replay_may}
use Rattle.rollcore.proofs.copying.copy_records.Goals as goal

pub returns : goal.returns
returns g c = during c.copy_pages.ensures.disk.word (λ word.
    let copied = c.copy_pages.ensures.disk.holds word in
    let log = copied_keeps Device record_plan _ c.args.size c.args.count c.copy_pages.result _ _ copied in
    record {
      log = log;
      asks = λ most within. record {
        later = later_wider _ _ (replay_may most c.args.size) (copied.later most within);
        told = copied.told;
      };
      pages = λ db w d db_are are has hot same first within rolled.
          copied.pages db w d db_are are (record { read = has; hot = hot; same = same }) within (rolled_made _ c.args.size c.args.count db w d (record { read = has; hot = hot; same = same }) first rolled);
      writing = λ w d are has within first is. writing_keeps c.args.size w d _ _ is log (copied.filling w d are (record { read = has; hot = is.hot; same = is.named }) (is.count ∙ sym first));
    })

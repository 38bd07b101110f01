use Rattle.walcore.proofs.Facts.{Device, Log, agrees_by, arith, called_quiet, down_syncs, during, empty_down, ends_down, fold_after, fold_sync, goes_on, later_same, later_then, length_syncs, passed, rules, scanning_shows, scanning_syncs, stays, synced_empty, tells_then}
use Rattle.walcore.proofs.folding.fold_within.Goals as goal

pub returns-in_err-judge_sector : goal.returns-in_err-judge_sector
returns-in_err-judge_sector g c = during (search rules) (λ word. record {
  folds = search rules;
  agrees = λ w d durable alone. alone;
  lengths = λ w n durable len. ends_down n w _ durable len.none;
  synced = λ whole. absurd (whole (c.in_err-judge_sector.ensures.refused word));
  calls = record { later = later_same _ (g.met.D.Disk.sound c.args.disk.now word); told = λ more. absurd (omega (arith, more)) };
})

pub returns-in_err-sync : goal.returns-in_err-sync
returns-in_err-sync g c = during (search rules) (λ word.
    let suits = c.in_ok-judge_sector.ensures.suits word in
    let synced = c.sync.ensures.state word in
    let device = passed c.from_residual-in_err-sync.result Device c.from_residual-in_err-sync.ensures.1 in
    record {
      folds = search rules;
      agrees = agrees_by c.args.page_size (g.D.Disk.state c.args.disk.now) (g.D.Disk.state c.sync.new.self) suits (λ w d scanning. scanning_shows c.args.page_size d w _ (scanning_syncs c.args.page_size d w c.sync.result _ _ scanning synced));
      lengths = λ w n durable len. ends_down n w _ (down_syncs w Log c.sync.result _ _ durable synced) (length_syncs c.args.page_size w n Log c.sync.result _ _ suits.sound synced len).none;
      synced = λ whole. record { called = c.sync.result; mid = (g.D.Disk.state c.sync.new.self); sync = synced; rest = stays Device _ c.sync.result _ c.from_residual-in_err-sync.result (g.D.Disk.state c.sync.new.self) c.in_err-sync.was device };
      calls = record { later = fold_sync c.args.limits.bytes c.args.page_size Log c.sync.result (g.D.Disk.state c.args.disk.now) (g.D.Disk.state c.sync.new.self) suits.sound synced; told = λ more. device };
    })

pub returns : goal.returns
returns g c = during (search rules) (λ word.
    let suits = c.in_ok-judge_sector.ensures.suits word in
    let synced = c.sync.ensures.state word in
    let done = c.in_ok-sync.ensures.state word in
    let folded = c.fold_synced_within.ensures.holds (c.sync.ensures.word.0 word) in
    record {
      folds = λ db w are_db are.
          fold_after c.args.page_size db w (g.D.Disk.state c.args.disk.now) (g.D.Disk.state c.sync.new.self) (g.D.Disk.state c.fold_synced_within.new.disk) suits.sound suits.whole done c.args.limits c.fold_synced_within.result are_db are
          (λ here there. folded.folds (empty_down c.args.page_size db w (g.D.Disk.state c.args.disk.now) (g.D.Disk.state c.sync.new.self) (g.D.Disk.state c.sync.new.self) suits.sound suits.whole done) db w here there);
      agrees = agrees_by c.args.page_size (g.D.Disk.state c.args.disk.now) (g.D.Disk.state c.fold_synced_within.new.disk) suits
          (λ w d scanning.
          let durable = scanning_syncs c.args.page_size d w c.sync.result _ _ scanning synced in
          folded.agrees w d durable.log.durable (scanning_shows c.args.page_size d w _ durable));
      lengths = λ w n durable len. folded.lengths w n (down_syncs w Log c.sync.result _ _ durable synced) (length_syncs c.args.page_size w n Log c.sync.result _ _ suits.sound synced len);
      synced = λ whole. record {
        called = c.sync.result;
        mid = (g.D.Disk.state c.sync.new.self);
        sync = synced;
        rest = goes_on Device _ c.sync.result _ c.fold_synced_within.result (g.D.Disk.state c.sync.new.self) (g.D.Disk.state c.fold_synced_within.new.disk) c.in_ok-sync.was (folded.folds (synced_empty (g.D.Disk.state c.args.disk.now) (g.D.Disk.state c.sync.new.self) suits.sound done), folded.agrees);
      };
      calls = record {
        later = later_then (g.D.Disk.state c.args.disk.now) (g.D.Disk.state c.sync.new.self) (g.D.Disk.state c.fold_synced_within.new.disk) (fold_sync c.args.limits.bytes c.args.page_size Log c.sync.result (g.D.Disk.state c.args.disk.now) (g.D.Disk.state c.sync.new.self) suits.sound synced) folded.calls.later;
        told = tells_then Device c.fold_synced_within.result (g.D.Disk.state c.args.disk.now) (g.D.Disk.state c.sync.new.self) (g.D.Disk.state c.fold_synced_within.new.disk) (called_quiet c.sync.result _ (g.D.Disk.state c.args.disk.now) (g.D.Disk.state c.sync.new.self) c.in_ok-sync.was synced.elsewhere.refused) folded.calls.told;
      };
    })

use Rattle.walcore.proofs.Facts.{Device, FileState, agrees_by, ap, arith, called_quiet, down_still, during, ends_down, fits_still, fold_empty, fold_looked, later_same, later_still, later_then, length_still, passed, present_in, refl, rules, scanning_shows, scanning_still, still, still_looks, sym, tells_then, ◌∙◌, ◌≡◌}
use Rattle.walcore.proofs.folding.fold_synced_within.Goals as goal

pub returns-in_err-judge_sector : goal.returns-in_err-judge_sector
returns-in_err-judge_sector g c = during (search rules) (λ word.
    let sound = g.met.D.Disk.sound c.args.disk.now word in
    record {
      folds = search rules;
      empty = λ zero. still _ sound;
      agrees = λ w d durable alone. alone;
      lengths = λ w n durable len. ends_down n w _ durable len.none;
      calls = record { later = later_same _ sound; told = λ more. absurd (omega (arith, more)) };
    })

pub returns-in_err-long : goal.returns-in_err-long
returns-in_err-long g c = during (search rules) (λ word.
    let suits = c.in_ok-judge_sector.ensures.suits word in
    let looked = c.len.ensures.state word in
    let is = still_looks _ c.len.result (g.D.Disk.state c.args.disk.now) (g.D.Disk.state c.len.new.self) suits.sound looked in
    record {
      folds = search rules;
      empty = λ zero. is;
      agrees = agrees_by c.args.page_size (g.D.Disk.state c.args.disk.now) (g.D.Disk.state c.len.new.self) suits (λ w d scanning. scanning_shows c.args.page_size d w _ (scanning_still c.args.page_size d w _ _ scanning is));
      lengths = λ w n durable len. ends_down n w _ (down_still w _ _ is durable) (length_still c.args.page_size w n _ _ is len).none;
      calls = record { later = later_still (g.D.Disk.state c.args.disk.now) (g.D.Disk.state c.len.new.self) suits.sound is; told = λ more. passed c.from_residual-in_err-long.result Device c.from_residual-in_err-long.ensures.1 };
    })

pub returns-then-long-eq0 : goal.returns-then-long-eq0
returns-then-long-eq0 g c = during (search rules) (λ word.
    let suits = c.in_ok-judge_sector.ensures.suits word in
    let looked = c.len.ensures.state word in
    let is = still_looks _ c.len.result (g.D.Disk.state c.args.disk.now) (g.D.Disk.state c.len.new.self) suits.sound looked in
    let zero : (g.D.Disk.state c.args.disk.now).log.len ≡ 0 = sym (c.in_ok-long.ensures.answer word) ∙ c.if-long-eq0.true in
    record {
      folds = λ empty db w are_db are. fold_empty c.args.limits c.args.page_size db w _ _ _ suits.whole is are_db are zero (empty zero) refl refl;
      empty = λ zero. is;
      agrees = agrees_by c.args.page_size (g.D.Disk.state c.args.disk.now) (g.D.Disk.state c.len.new.self) suits (λ w d scanning. scanning_shows c.args.page_size d w _ (scanning_still c.args.page_size d w _ _ scanning is));
      lengths = λ w n durable len. ends_down n w _ (down_still w _ _ is durable) (length_still c.args.page_size w n _ _ is len).none;
      calls = record {
        later = later_still (g.D.Disk.state c.args.disk.now) (g.D.Disk.state c.len.new.self) suits.sound is;
        told = λ more. absurd (called_quiet c.len.result _ (g.D.Disk.state c.args.disk.now) (g.D.Disk.state c.len.new.self) c.in_ok-long.was looked.refused more);
      };
    })

pub returns : goal.returns
returns g c = during (search rules) (λ word.
    let suits = c.in_ok-judge_sector.ensures.suits word in
    let looked = c.len.ensures.state word in
    let is = still_looks _ c.len.result (g.D.Disk.state c.args.disk.now) (g.D.Disk.state c.len.new.self) suits.sound looked in
    let long : (g.D.Disk.state c.len.new.self).log.len ≡ c.in_ok-long.long = ap (λ (s : FileState). s.len) is.log ∙ sym (c.in_ok-long.ensures.answer word) in
    let folded = c.fold_log.ensures.holds (c.len.ensures.word.0 word) long in
    record {
      folds = λ empty db w are_db are.
          fold_looked c.args.page_size db w _ _ _ suits.whole is c.args.limits c.fold_log.result
          (folded.folds (fits_still c.args.page_size db w (g.D.Disk.state c.args.disk.now) (g.D.Disk.state c.len.new.self) (g.D.Disk.state c.len.new.self) suits.whole is) db w (present_in _ _ db is.db are_db) (present_in _ _ w is.log are));
      empty = λ zero. absurd (c.if-long-eq0.false (c.in_ok-long.ensures.answer word ∙ zero));
      agrees = agrees_by c.args.page_size (g.D.Disk.state c.args.disk.now) (g.D.Disk.state c.fold_log.new.disk) suits (λ w d scanning. folded.shows w d (scanning_still c.args.page_size d w _ _ scanning is));
      lengths = λ w n durable len. folded.lengths w n (down_still w _ _ is durable) (length_still c.args.page_size w n _ _ is len);
      calls = record {
        later = later_then (g.D.Disk.state c.args.disk.now) (g.D.Disk.state c.len.new.self) (g.D.Disk.state c.fold_log.new.disk) (later_still (g.D.Disk.state c.args.disk.now) (g.D.Disk.state c.len.new.self) suits.sound is) folded.calls.later;
        told = tells_then Device c.fold_log.result (g.D.Disk.state c.args.disk.now) (g.D.Disk.state c.len.new.self) (g.D.Disk.state c.fold_log.new.disk) (called_quiet c.len.result _ (g.D.Disk.state c.args.disk.now) (g.D.Disk.state c.len.new.self) c.in_ok-long.was looked.refused) folded.calls.told;
      };
    })

use Rattle.std.proofs.Common.{ℕ, ◌+◌, map, subst, arith}
use Rattle.rig_families.specs.Versions.{named_of}
use Rattle.rig_images.specs.declared.torn.Which.TheVariants.{Db, Wal, Journal}
use Rattle.sqcrash.specs.Runs.{run_of}
use Rattle.sqcrash.specs.Surveys.{IsTornSurvey}
use Rattle.sqcrash.proofs.CountedPoints.{grows_untorn, grows_torn, grows_more, grows_none}
use Rattle.sqcrash.proofs.RefusedImages.{survey_refused}
use Rattle.sqcrash.proofs.PassedRefusals.{passed}
use Rattle.sqcrash.proofs.survey.judge_images.Goals as goal

pub returns : goal.returns
returns g c =
    let run = run_of c.args.run.now in
    let third = c.third_of-third.ensures in
    let mid = c.survey_untorn.new.survey in
    let db = c.survey_torn.new.survey in
    let wal = c.survey_torn-2.new.survey in
    record {
      begun = c.in_ok-survey.survey;
      begins = c.in_ok-survey.ensures;
      mid = mid;
      untorn = c.in_ok-survey_untorn.ensures;
      db = db;
      torn_db = subst (λ (n : ℕ). IsTornSurvey run Db n mid db) third c.in_ok-survey_torn.ensures;
      wal = wal;
      torn_wal = subst (λ (n : ℕ). IsTornSurvey run Wal n db wal) third c.in_ok-survey_torn-2.ensures;
      torn_journal = subst (λ (n : ℕ). IsTornSurvey run Journal n wal c.survey_torn-3.new.survey) third c.in_ok-survey_torn-3.ensures;
    }

pub returns-in_err-survey_untorn : goal.returns-in_err-survey_untorn
returns-in_err-survey_untorn g c =
    let begun = c.in_ok-survey.survey in
    passed c.from_residual-in_err-survey_untorn.result _ _ _ c.from_residual-in_err-survey_untorn.ensures.1
    (survey_refused c.args.limit 0 c.args.limit c.args.before begun begun _ c.in_ok-survey.ensures (grows_none 0 begun) (omega arith) c.in_err-survey_untorn.ensures)

pub returns-in_err-survey_torn : goal.returns-in_err-survey_torn
returns-in_err-survey_torn g c =
    let run = run_of c.args.run.now in
    let limit = c.args.limit in
    let begun = c.in_ok-survey.survey in
    let mid = c.survey_untorn.new.survey in
    passed c.from_residual-in_err-survey_torn.result _ _ _ c.from_residual-in_err-survey_torn.ensures.1
    (survey_refused limit limit c.third_of-third.result c.args.before begun mid _ c.in_ok-survey.ensures (grows_untorn (map (λ v. named_of v) c.args.prefixes.now.versions.items) run limit begun mid c.in_ok-survey_untorn.ensures)
    (omega (arith, c.third_of-third.ensures)) c.in_err-survey_torn.ensures)

pub returns-in_err-survey_torn-2 : goal.returns-in_err-survey_torn-2
returns-in_err-survey_torn-2 g c =
    let run = run_of c.args.run.now in
    let limit = c.args.limit in
    let third = c.third_of-third.result in
    let begun = c.in_ok-survey.survey in
    let mid = c.survey_untorn.new.survey in
    let db = c.survey_torn.new.survey in
    let first = grows_untorn (map (λ v. named_of v) c.args.prefixes.now.versions.items) run limit begun mid c.in_ok-survey_untorn.ensures in
    let more = grows_torn run Db third mid db c.in_ok-survey_torn.ensures in
    passed c.from_residual-in_err-survey_torn-2.result _ _ _ c.from_residual-in_err-survey_torn-2.ensures.1
    (survey_refused limit (limit + third) third c.args.before begun db _ c.in_ok-survey.ensures (grows_more limit third begun mid db first more)
    (omega (arith, c.third_of-third.ensures)) c.in_err-survey_torn-2.ensures)

pub returns-in_err-survey_torn-3 : goal.returns-in_err-survey_torn-3
returns-in_err-survey_torn-3 g c =
    let run = run_of c.args.run.now in
    let limit = c.args.limit in
    let third = c.third_of-third.result in
    let begun = c.in_ok-survey.survey in
    let mid = c.survey_untorn.new.survey in
    let db = c.survey_torn.new.survey in
    let wal = c.survey_torn-2.new.survey in
    let first = grows_untorn (map (λ v. named_of v) c.args.prefixes.now.versions.items) run limit begun mid c.in_ok-survey_untorn.ensures in
    let more = grows_torn run Db third mid db c.in_ok-survey_torn.ensures in
    let last = grows_torn run Wal third db wal c.in_ok-survey_torn-2.ensures in
    passed c.from_residual-in_err-survey_torn-3.result _ _ _ c.from_residual-in_err-survey_torn-3.ensures.1
    (survey_refused limit (limit + third + third) third c.args.before begun wal _ c.in_ok-survey.ensures
    (grows_more (limit + third) third begun db wal (grows_more limit third begun mid db first more) last) (omega (arith, c.third_of-third.ensures)) c.in_err-survey_torn-3.ensures)

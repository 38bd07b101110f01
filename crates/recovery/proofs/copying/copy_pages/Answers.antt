use Rattle.std.proofs.Common.{◌≡◌, ◌≤◌, ◌+◌, ◌*◌, ◌∙◌, ℕ, length, sym, ap, subst, arith, rules, Ok}
use Rattle.recovery.proofs.Below.{during, mul-le-mul_left, mul-le-mul_right, no_calls, calls_then, keeps_cut, keeps_same, keeps_then, present_in, passed, Upto}
use Rattle.recovery.proofs.CopiedRuns.{upto_none, upto_more, run_refused, fills_later, length_calls, copied, cut_refused}
use Rattle.recovery.proofs.FilledFile.{filling_cuts}
use Rattle.recovery.proofs.ToldRefusals.{tells_ok, tells_quiet, passes_device, tells_then, turned}
use Rattle.recovery.proofs.copying.copy_pages.Goals as goal

pub loop-done-init : goal.loop-done-init
loop-done-init g c = record {
  within = omega arith;
  word = (λ k. k, λ k. k);
  log = λ word. keeps_same _ (g.met.D.Disk.sound c.args.disk.now word);
  calls = λ word most within. no_calls _;
  quiet = λ word more. omega (arith, more);
  pages = λ word db w are_db are is small begins. upto_none g.P.CopyPlan.kind c.args.plan.now c.args.shape.size c.args.shape.count db w (g.D.Disk.state c.args.disk.now) begins are_db;
  filling = λ word w d are is filling. filling;
}

pub loop-done-preserved : goal.loop-done-preserved
loop-done-preserved g c =
    let i = c.loop-done.invariant in
    let taken = c.in_ok-done.ensures.count in
    let copied = λ (word : g.D.Disk.keeps_word c.args.disk.now). c.copy_run.ensures.disk.holds (i.word.0 word) in
    record {
      within = omega (arith, c.min.ensures, c.loop-done-test.true, taken);
      word = (λ k. c.copy_run.ensures.disk.word.0 (i.word.0 k), λ k. i.word.1 (c.copy_run.ensures.disk.word.1 k));
      log = λ word. keeps_then _ _ _ (i.log word) (copied word).log;
      calls = λ word most within. calls_then (g.D.Disk.state c.args.disk.now) (g.D.Disk.state c.loop-done.disk) (g.D.Disk.state c.copy_run.new.disk) (i.calls word most within) ((copied word).calls most within);
      quiet = λ word. tells_quiet g.E.DeviceError.device c.copy_run.result _ (g.D.Disk.state c.args.disk.now) (g.D.Disk.state c.loop-done.disk) (g.D.Disk.state c.copy_run.new.disk) c.in_ok-done.was (i.quiet word) (copied word).told;
      pages = λ word db w are_db are is small begins.
          upto_more g.P.CopyPlan.kind c.args.plan.now c.args.shape.size c.args.shape.count db w c.loop-done.done g.E.DeviceError.device _ c.copy_run.result (g.D.Disk.state c.loop-done.disk) (g.D.Disk.state c.copy_run.new.disk) c.in_ok-done.was
          ((copied word).pages db w (present_in _ _ w (i.log word).log are) is small (i.pages word db w are_db are is small begins));
      filling = λ word w d are is filling. (copied word).filling w d (present_in _ _ w (i.log word).log are) is (i.filling word w d are is filling);
    }

pub returns-in_err-done-clause-disk : goal.returns-in_err-done-clause-disk
returns-in_err-done-clause-disk g c = during (search rules) (λ word.
    let i = c.loop-done.invariant in
    let copied = c.copy_run.ensures.disk.holds (i.word.0 word) in
    let keeps = keeps_then _ _ _ (i.log word) copied.log in
    record {
      later = λ most within. fills_later _ _ keeps (calls_then (g.D.Disk.state c.args.disk.now) (g.D.Disk.state c.loop-done.disk) (g.D.Disk.state c.copy_run.new.disk) (i.calls word most within) (copied.calls most within));
      log = (keeps.log, keeps.kept, keeps.handed);
      told = λ more. passes_device g.E.DeviceError.device c.copy_run.result c.from_residual.result _ c.in_err-done.was c.from_residual.ensures.1
          (tells_then g.E.DeviceError.device c.copy_run.result (g.D.Disk.state c.args.disk.now) (g.D.Disk.state c.loop-done.disk) (g.D.Disk.state c.copy_run.new.disk) (i.quiet word) copied.told more);
      pages = λ db w d are_db are is small made.
          run_refused g.P.CopyPlan.kind c.args.plan.now c.args.shape.size c.args.shape.count db w c.loop-done.done g.E.DeviceError.device d c.copy_run.result c.from_residual.result _ _ _ _ (i.log word).refused c.in_err-done.was (passed c.from_residual.result _ c.from_residual.ensures.1)
          (copied.pages db w (present_in _ _ w (i.log word).log are) is small (i.pages word db w are_db are is small made.begins));
      filling = λ w d are is long filling. copied.filling w d (present_in _ _ w (i.log word).log are) is (i.filling word w d are is filling);
    })

pub returns-in_err-set_len-clause-disk : goal.returns-in_err-set_len-clause-disk
returns-in_err-set_len-clause-disk g c = during (search rules) (λ word.
    let i = c.loop-done.invariant in
    let before = i.log word in
    let cut = c.set_len.ensures.state (i.word.0 word) in
    let keeps = keeps_then _ _ _ before (keeps_cut _ c.set_len.result _ _ before.sound cut) in
    let device = turned g.E.DeviceError.device _ c.from_residual-in_err-set_len.result c.from_residual-in_err-set_len.ensures.1 (g.met.E.DeviceError.device_gives _) in
    let same : c.from.result * c.args.shape.size ≡ c.args.shape.count * c.args.shape.size = ap (λ (n : ℕ). n * c.args.shape.size) c.from.ensures in
    record {
      later = λ most within. fills_later _ _ keeps (calls_then (g.D.Disk.state c.args.disk.now) (g.D.Disk.state c.loop-done.disk) (g.D.Disk.state c.set_len.new.self) (i.calls word most within) (length_calls c.args.shape.size c.args.shape.count c.set_len.result most _ (g.D.Disk.state c.loop-done.disk) (g.D.Disk.state c.set_len.new.self) same within cut));
      log = (keeps.log, keeps.kept, keeps.handed);
      told = λ more. device;
      pages = λ db w d are_db are is small made. cut_refused g.E.DeviceError.device c.args.shape.size c.args.shape.count _ d c.set_len.result _ c.from_residual-in_err-set_len.result _ _ _ before same small c.in_err-set_len.was device cut;
      filling = λ w d are is long filling. filling_cuts c.args.shape.size d (g.P.CopyPlan.kind.Lacks c.args.plan.now c.args.shape.size w) _ c.set_len.result _ _ (i.filling word w d are is filling) (same ∙ ap (λ (n : ℕ). n * c.args.shape.size) (sym long)) cut;
    })

pub returns-clause-disk : goal.returns-clause-disk
returns-clause-disk g c = during (search rules) (λ word.
    let i = c.loop-done.invariant in
    let before = i.log word in
    let cut = c.set_len.ensures.state (i.word.0 word) in
    let keeps = keeps_then _ _ _ before (keeps_cut _ c.set_len.result _ _ before.sound cut) in
    let same : c.from.result * c.args.shape.size ≡ c.args.shape.count * c.args.shape.size = ap (λ (n : ℕ). n * c.args.shape.size) c.from.ensures in
    record {
      later = λ most within. fills_later _ _ keeps (calls_then (g.D.Disk.state c.args.disk.now) (g.D.Disk.state c.loop-done.disk) (g.D.Disk.state c.set_len.new.self) (i.calls word most within) (length_calls c.args.shape.size c.args.shape.count c.set_len.result most _ (g.D.Disk.state c.loop-done.disk) (g.D.Disk.state c.set_len.new.self) same within cut));
      log = (keeps.log, keeps.kept, keeps.handed);
      told = tells_then {T = Unit {0}} g.E.DeviceError.device (Ok tt) (g.D.Disk.state c.args.disk.now) (g.D.Disk.state c.loop-done.disk) (g.D.Disk.state c.set_len.new.self) (i.quiet word) (tells_ok {T = Unit {0}} g.E.DeviceError.device (Ok tt) c.set_len.result _ (g.D.Disk.state c.loop-done.disk) (g.D.Disk.state c.set_len.new.self) c.in_ok-set_len.was cut.elsewhere.refused);
      pages = λ db w d are_db are is small made.
          let all : c.loop-done.done ≡ c.steps-total.result = omega (arith, i.within, c.loop-done-test.false) in
          copied g.E.DeviceError.device g.P.CopyPlan.kind c.args.plan.now c.args.shape.size c.args.shape.count db w d made c.steps-total.result _ _ _ _ c.steps-total.ensures same
          (subst (λ (n : ℕ). Upto g.P.CopyPlan.kind c.args.plan.now c.args.shape.size c.args.shape.count db w n (g.D.Disk.state c.loop-done.disk)) all (i.pages word db w are_db are is small made.begins))
          (c.in_ok-set_len.ensures.state (i.word.0 word));
      filling = λ w d are is long filling. filling_cuts c.args.shape.size d (g.P.CopyPlan.kind.Lacks c.args.plan.now c.args.shape.size w) _ c.set_len.result _ _ (i.filling word w d are is filling) (same ∙ ap (λ (n : ℕ). n * c.args.shape.size) (sym long)) cut;
    })

-- ---- What a run requires.

pub copy_run-requires-clause-steps : goal.copy_run-requires-clause-steps
copy_run-requires-clause-steps g c = (c.steps-total.result, c.steps-total.ensures, omega arith, omega (arith, c.min.ensures, c.loop-done-test.true))

pub copy_run-requires-clause-room : goal.copy_run-requires-clause-room
copy_run-requires-clause-room g c =
    let size = c.args.shape.size in
    let low : c.fitting-most.result * 1 ≤ c.fitting-most.result * (2 * size + c.between.result) = mul-le-mul_left c.fitting-most.result (let le : 1 ≤ 2 * size + c.between.result = omega arith in le) in
    let few : c.min.result * (2 * size + c.between.result) ≤ c.fitting-most.result * (2 * size + c.between.result) = mul-le-mul_right (2 * size + c.between.result) (let le : c.min.result ≤ c.fitting-most.result = omega (arith, c.min.ensures) in le) in (
      omega (arith, c.min.ensures, c.loop-done-test.true, c.fitting-most.ensures.some),
      omega (arith, c.min.ensures, low, c.fitting-most.ensures.fits, c.requires.room.1, c.requires.size.1, c.between.ensures.few),
      c.requires.size.1,
      subst (λ (k : ℕ). c.min.result * (2 * size + k) ≤ length c.loop-done.room + size + k) c.between.ensures.value (omega (arith, few, c.fitting-most.ensures.fits, c.loop-done.auto.room)),
    )

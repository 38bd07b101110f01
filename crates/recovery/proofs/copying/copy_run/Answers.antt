use Rattle.std.proofs.Common.{◌≡◌, ◌<◌, ◌≤◌, ◌+◌, ◌-◌, ◌*◌, ℕ, List, [], length, get_or, take, refl, sym, arith, ap, subst, rules, Ok}
use Rattle.recovery.proofs.Below.{during, part, Writes, Db, no_calls, keeps_still, keeps_then, keeps_write, still, still_looks, still_sound}
use Rattle.recovery.proofs.CopiedRuns.{run_room, run_bytes, piece_long, piece_there, front_long, run_long, run_content, still_calls, run_calls, run_none, run_unread, run_unwritten, run_put, filling_put}
use Rattle.recovery.proofs.FilledFile.{filling_still}
use Rattle.recovery.proofs.ToldRefusals.{called_quiet, tells_ok, tells_then, turned}
use Rattle.recovery.proofs.copying.copy_run.Goals as goal

pub returns-in_default-clause-disk : goal.returns-in_default-clause-disk
returns-in_default-clause-disk g c = during (search rules) (λ word.
    let sound = g.met.D.Disk.sound c.args.disk.now word in
    record {
      log = keeps_still _ _ sound (still _ sound);
      calls = λ most within. no_calls _;
      told = λ more. absurd (omega (arith, more));
      pages = λ db w are is small so_far. run_none g.P.CopyPlan.kind c.args.plan.now c.args.shape.size c.args.shape.count db w c.args.done g.E.DeviceError.device 1 _ refl (c.in_default.ensures.copies w is) so_far;
      filling = λ w d are is filling. filling;
    })

pub returns-in_err-read_at-clause-disk : goal.returns-in_err-read_at-clause-disk
returns-in_err-read_at-clause-disk g c = during c.read_at.ensures.word (λ word.
    let sound = g.met.D.Disk.sound c.args.disk.now word in
    let size = c.args.shape.size in
    let run = c.in-Some.next in
    let n = run.count in
    let b = c.between-between.result in
    let fit = c.in-Some.ensures.within in
    let gap : b ≡ g.P.CopyPlan.kind.between = c.between-between.ensures.value in
    let wide = subst (λ (k : ℕ). c.args.most * (2 * size + k) ≤ length c.args.room.now + size + k) (sym gap) c.requires.room.3 in
    let room = run_room n c.args.most size b (length c.args.room.now) fit.some fit.few wide in
    let inside = λ (w : List ℕ) (is : g.P.CopyPlan.kind.IsOf c.args.plan.now size c.args.shape.count w). subst (λ (k : ℕ). run.at + (n - 1) * (size + k) + size ≤ length w) (sym gap) (c.in-Some.ensures.copies w is).inside in
    let read = still_looks _ c.read_at.result _ _ sound (c.read_at.ensures.state word) in
    let piece = piece_long ((n - 1) * size) (n * (size + b) - b) ((n - 1) * size + n * (size + b) - b - (n - 1) * size) c.args.room.now [] (omega arith) room in
    let device = turned g.E.DeviceError.device _ c.from_residual.result c.from_residual.ensures.1 (g.met.E.DeviceError.device_gives _) in
    record {
      log = keeps_still _ _ sound read;
      calls = λ most within. still_calls _ _ read;
      told = λ more. device;
      pages = λ db w are is small so_far. run_unread g.P.CopyPlan.kind c.args.plan.now size c.args.shape.count db w c.args.done g.E.DeviceError.device _ c.read_at.result _ c.from_residual.result _ _ sound
          (omega (arith, piece, run_long size b run.at n w fit.some (inside w is))) are c.in_err-read_at.was device (c.read_at.ensures.state word);
      filling = λ w d are is filling. filling_still size d (g.P.CopyPlan.kind.Lacks c.args.plan.now size w) _ _ filling read;
    })

pub returns-in_err-write_at-clause-disk : goal.returns-in_err-write_at-clause-disk
returns-in_err-write_at-clause-disk g c = during (search rules) (λ word.
    let sound = g.met.D.Disk.sound c.args.disk.now word in
    let size = c.args.shape.size in
    let run = c.in-Some.next in
    let n = run.count in
    let b = c.between-between.result in
    let fit = c.in-Some.ensures.within in
    let gap : b ≡ g.P.CopyPlan.kind.between = c.between-between.ensures.value in
    let wide = subst (λ (k : ℕ). c.args.most * (2 * size + k) ≤ length c.args.room.now + size + k) (sym gap) c.requires.room.3 in
    let room = run_room n c.args.most size b (length c.args.room.now) fit.some fit.few wide in
    let inside = λ (w : List ℕ) (is : g.P.CopyPlan.kind.IsOf c.args.plan.now size c.args.shape.count w). subst (λ (k : ℕ). run.at + (n - 1) * (size + k) + size ≤ length w) (sym gap) (c.in-Some.ensures.copies w is).inside in
    let read = still_looks _ c.read_at.result _ _ sound (c.read_at.ensures.state word) in
    let piece = piece_long ((n - 1) * size) (n * (size + b) - b) ((n - 1) * size + n * (size + b) - b - (n - 1) * size) c.args.room.now [] (omega arith) room in
    let long = front_long (n * size) c.gather.new.room (omega (arith, c.gather.auto.room, run_bytes n c.args.most size b (length c.args.room.now) fit.some fit.few wide)) in
    let call = subst (λ (k : ℕ). Writes Db k (take (n * size) c.gather.new.room) c.write_at.result (g.D.Disk.state c.read_at.new.self) (g.D.Disk.state c.write_at.new.self)) (ap (λ (k : ℕ). k * size) c.from.ensures) (c.write_at.ensures.state (c.read_at.ensures.word.0 word)) in
    let device = turned g.E.DeviceError.device _ c.from_residual-in_err-write_at.result c.from_residual-in_err-write_at.ensures.1 (g.met.E.DeviceError.device_gives _) in
    record {
      log = keeps_then _ _ _ (keeps_still _ _ sound read) (keeps_write _ _ c.write_at.result _ _ (still_sound _ _ sound read) call);
      calls = λ most within. run_calls size c.args.shape.count c.write_at.result most c.args.most run _ (g.D.Disk.state c.args.disk.now) (g.D.Disk.state c.read_at.new.self) (g.D.Disk.state c.write_at.new.self) fit long within read call;
      told = λ more. device;
      pages = λ db w are is small so_far. run_unwritten g.P.CopyPlan.kind c.args.plan.now size c.args.shape.count db w c.args.done g.E.DeviceError.device run c.args.most _ c.write_at.result _ c.from_residual-in_err-write_at.result _ _ _ fit long small read
          c.in_err-write_at.was device call;
      filling = λ w d are is filling. filling_put g.P.CopyPlan.kind c.args.plan.now size c.args.shape.count w c.args.done d run c.args.most _ c.write_at.result _ _ _ fit (c.in-Some.ensures.copies w is) long read call filling;
    })

pub returns-clause-disk : goal.returns-clause-disk
returns-clause-disk g c = during (search rules) (λ word.
    let sound = g.met.D.Disk.sound c.args.disk.now word in
    let size = c.args.shape.size in
    let run = c.in-Some.next in
    let n = run.count in
    let b = c.between-between.result in
    let fit = c.in-Some.ensures.within in
    let gap : b ≡ g.P.CopyPlan.kind.between = c.between-between.ensures.value in
    let wide = subst (λ (k : ℕ). c.args.most * (2 * size + k) ≤ length c.args.room.now + size + k) (sym gap) c.requires.room.3 in
    let room = run_room n c.args.most size b (length c.args.room.now) fit.some fit.few wide in
    let inside = λ (w : List ℕ) (is : g.P.CopyPlan.kind.IsOf c.args.plan.now size c.args.shape.count w). subst (λ (k : ℕ). run.at + (n - 1) * (size + k) + size ≤ length w) (sym gap) (c.in-Some.ensures.copies w is).inside in
    let read = still_looks _ c.read_at.result _ _ sound (c.read_at.ensures.state word) in
    let piece = piece_long ((n - 1) * size) (n * (size + b) - b) ((n - 1) * size + n * (size + b) - b - (n - 1) * size) c.args.room.now [] (omega arith) room in
    let long = front_long (n * size) c.gather.new.room (omega (arith, c.gather.auto.room, run_bytes n c.args.most size b (length c.args.room.now) fit.some fit.few wide)) in
    let call = subst (λ (k : ℕ). Writes Db k (take (n * size) c.gather.new.room) c.write_at.result (g.D.Disk.state c.read_at.new.self) (g.D.Disk.state c.write_at.new.self)) (ap (λ (k : ℕ). k * size) c.from.ensures) (c.write_at.ensures.state (c.read_at.ensures.word.0 word)) in
    let done = subst (λ (k : ℕ). Writes Db k (take (n * size) c.gather.new.room) (Ok (tt {0})) (g.D.Disk.state c.read_at.new.self) (g.D.Disk.state c.write_at.new.self)) (ap (λ (k : ℕ). k * size) c.from.ensures) (c.in_ok-write_at.ensures.state (c.read_at.ensures.word.0 word)) in
    record {
      log = keeps_then _ _ _ (keeps_still _ _ sound read) (keeps_write _ _ c.write_at.result _ _ (still_sound _ _ sound read) call);
      calls = λ most within. run_calls size c.args.shape.count c.write_at.result most c.args.most run _ (g.D.Disk.state c.args.disk.now) (g.D.Disk.state c.read_at.new.self) (g.D.Disk.state c.write_at.new.self) fit long within read call;
      told = tells_then g.E.DeviceError.device (Ok n) (g.D.Disk.state c.args.disk.now) (g.D.Disk.state c.read_at.new.self) (g.D.Disk.state c.write_at.new.self)
          (called_quiet c.read_at.result _ (g.D.Disk.state c.args.disk.now) (g.D.Disk.state c.read_at.new.self) c.in_ok-read_at.was (c.read_at.ensures.state word).refused)
          (tells_ok g.E.DeviceError.device (Ok n) c.write_at.result _ (g.D.Disk.state c.read_at.new.self) (g.D.Disk.state c.write_at.new.self) c.in_ok-write_at.was call.elsewhere.refused);
      pages = λ db w are is small so_far.
          let each = run_content size b n ((n - 1) * size) run.at w c.read_at.new.out _ c.gather.new.room (g.D.Disk.state c.args.disk.now).log fit.some (inside w is) are
          (piece_there ((n - 1) * size) (n * (size + b) - b) ((n - 1) * size + n * (size + b) - b - (n - 1) * size) c.args.room.now c.read_at.new.out (omega arith) room c.read_at.auto.out)
          (λ i lt. c.in_ok-read_at.ensures.bytes word i (omega (arith, lt, c.read_at.auto.out, piece)))
          c.gather.ensures in
          run_put g.P.CopyPlan.kind c.args.plan.now size c.args.shape.count db w c.args.done run c.args.most _ _ _ _ fit (c.in-Some.ensures.copies w is) long (subst (λ (k : ℕ). (j i : ℕ) → j < n → i < size → get_or (take (n * size) c.gather.new.room) (j * size + i) 0 ≡ get_or (part w (run.at + j * (size + k)) size) i 0) gap each) read g.E.DeviceError.device so_far done;
      filling = λ w d are is filling. filling_put g.P.CopyPlan.kind c.args.plan.now size c.args.shape.count w c.args.done d run c.args.most _ c.write_at.result _ _ _ fit (c.in-Some.ensures.copies w is) long read call filling;
    })

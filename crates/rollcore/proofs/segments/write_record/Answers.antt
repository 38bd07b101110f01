use Rattle.rollcore.proofs.Facts.{Device, Later, List, Log, Looks, MayCommit, Ok, Writes, ap, arith, asks_device, asks_done, asks_then, byte, drop, during, later_still, later_then, later_write, length, length-drop, length-take-le, middle, passed, record_bytes, record_fits, record_may, refl, rules, same_len_mid, step_put, step_unread, step_unwritten, still_looks, subst, take, ℕ, ◌*◌, ◌+◌, ◌-◌, ◌∙◌, ◌≡◌}
use Rattle.rollcore.proofs.segments.write_record.Goals as goal

pub returns-in_err-read_at-clause-disk : goal.returns-in_err-read_at-clause-disk
returns-in_err-read_at-clause-disk g c = during (search rules) (λ word.
    let sound = g.met.D.Disk.sound c.args.disk.now word in
    record {
      asks = λ sector. asks_device c.from_residual.result _ _ (passed c.from_residual.result Device c.from_residual.ensures.1) (later_still _ _ sound (still_looks _ c.read_at.result _ _ sound (c.read_at.ensures.state word)));
      step = λ fits.
          let r = c.args.buffer.now in
          let n : ℕ = length r - 8 in
          let from : ℕ = c.from.result * (length r - 4 - 4) in
          let short : length r - 4 - 4 ≡ n = omega arith in
          let place : from ≡ (c.args.page - 1) * n = ap (λ (k : ℕ). c.from.result * k) short ∙ ap (λ (k : ℕ). k * n) c.from.ensures in
          let long : length (take (length r - 4 - 4) (drop 4 r)) ≡ n = length-take-le (length r - 4 - 4) (drop 4 r) (omega (arith, length-drop 4 r)) ∙ short in
          step_unread n c.args.page c.args.nonce c.args.at from c.read_at.result _ c.from_residual.result _ _ sound (record_fits n c.args.page from c.requires.page fits place)
          c.in_err-read_at.was (passed c.from_residual.result Device c.from_residual.ensures.1)
          (subst (λ (k : ℕ). Looks (from + k) c.read_at.result (g.D.Disk.state c.args.disk.now) (g.D.Disk.state c.read_at.new.self)) long (c.read_at.ensures.state word));
    })

pub returns-in_err-write_at-clause-disk : goal.returns-in_err-write_at-clause-disk
returns-in_err-write_at-clause-disk g c = during (search rules) (λ word.
    let sound = g.met.D.Disk.sound c.args.disk.now word in
    let r = c.args.buffer.now in
    let out = c.read_at.new.out in
    let all = same_len_mid 4 (length r - 4 - 4) r out c.read_at.auto.out in
    record {
      asks = λ sector.
          let full : length out ≡ length r - 8 = c.read_at.auto.out ∙ length-take-le (length r - 4 - 4) (drop 4 r) (omega (arith, length-drop 4 r)) ∙ (let short : length r - 4 - 4 ≡ length r - 8 = omega arith in short) in
          let bytes = c.frame_record.ensures ∙ ap (λ (x : List ℕ). record_bytes c.args.page c.args.nonce x) (middle r out (drop (length r - 4 - 4) (drop 4 r)) (omega arith) (omega (arith, all, full))) in
          let looked = c.read_at.ensures.state word in
          let first : Later (MayCommit (length r - 8) sector) (g.D.Disk.state c.args.disk.now) (g.D.Disk.state c.read_at.new.self) = later_still _ _ sound (still_looks _ c.read_at.result _ _ sound looked) in
          let wrote = c.write_at.ensures.state (c.read_at.ensures.word.0 word) in
          let last : Later (MayCommit (length r - 8) sector) (g.D.Disk.state c.read_at.new.self) (g.D.Disk.state c.write_at.new.self) = later_write Log c.args.at _ c.write_at.result _ _ (record_may (length r - 8) sector c.args.at c.args.page c.args.nonce out _ full bytes (omega (arith, c.frame_record.auto.buffer, all))) first.sound wrote in
          asks_device c.from_residual-in_err-write_at.result _ _ (passed c.from_residual-in_err-write_at.result Device c.from_residual-in_err-write_at.ensures.1) (later_then _ _ _ first last);
      step = λ fits.
          let n : ℕ = length r - 8 in
          let short : length r - 4 - 4 ≡ n = omega arith in
          let place : c.from.result * (length r - 4 - 4) ≡ (c.args.page - 1) * n = ap (λ (k : ℕ). c.from.result * k) short ∙ ap (λ (k : ℕ). k * n) c.from.ensures in
          let long : length (take (length r - 4 - 4) (drop 4 r)) ≡ n = length-take-le (length r - 4 - 4) (drop 4 r) (omega (arith, length-drop 4 r)) ∙ short in
          let full : length out ≡ n = c.read_at.auto.out ∙ long in
          let bytes = c.frame_record.ensures ∙ ap (λ (x : List ℕ). record_bytes c.args.page c.args.nonce x) (middle r out (drop (length r - 4 - 4) (drop 4 r)) (omega arith) (omega (arith, all, full))) in
          let wrote = subst (λ (x : List ℕ). Writes Log c.args.at x c.write_at.result (g.D.Disk.state c.read_at.new.self) (g.D.Disk.state c.write_at.new.self)) bytes (c.write_at.ensures.state (c.read_at.ensures.word.0 word)) in
          step_unwritten n c.args.page c.args.nonce c.args.at out full _ _ _
          (λ i lt. c.in_ok-read_at.ensures.bytes word i (omega (arith, full)) ∙ ap (λ (k : ℕ). byte (g.D.Disk.state c.args.disk.now).db (k + i)) place)
          (still_looks _ c.read_at.result _ _ sound (c.read_at.ensures.state word)) c.write_at.result _ c.from_residual-in_err-write_at.result (omega arith)
          c.in_err-write_at.was (passed c.from_residual-in_err-write_at.result Device c.from_residual-in_err-write_at.ensures.1) wrote;
    })

pub returns-clause-disk : goal.returns-clause-disk
returns-clause-disk g c = during (search rules) (λ word.
    let sound = g.met.D.Disk.sound c.args.disk.now word in
    let r = c.args.buffer.now in
    let out = c.read_at.new.out in
    let all = same_len_mid 4 (length r - 4 - 4) r out c.read_at.auto.out in
    record {
      asks = λ sector.
          let full : length out ≡ length r - 8 = c.read_at.auto.out ∙ length-take-le (length r - 4 - 4) (drop 4 r) (omega (arith, length-drop 4 r)) ∙ (let short : length r - 4 - 4 ≡ length r - 8 = omega arith in short) in
          let bytes = c.frame_record.ensures ∙ ap (λ (x : List ℕ). record_bytes c.args.page c.args.nonce x) (middle r out (drop (length r - 4 - 4) (drop 4 r)) (omega arith) (omega (arith, all, full))) in
          let looked = c.read_at.ensures.state word in
          let first : Later (MayCommit (length r - 8) sector) (g.D.Disk.state c.args.disk.now) (g.D.Disk.state c.read_at.new.self) = later_still _ _ sound (still_looks _ c.read_at.result _ _ sound looked) in
          let wrote = c.write_at.ensures.state (c.read_at.ensures.word.0 word) in
          let last : Later (MayCommit (length r - 8) sector) (g.D.Disk.state c.read_at.new.self) (g.D.Disk.state c.write_at.new.self) = later_write Log c.args.at _ c.write_at.result _ _ (record_may (length r - 8) sector c.args.at c.args.page c.args.nonce out _ full bytes (omega (arith, c.frame_record.auto.buffer, all))) first.sound wrote in
          asks_then {U = Unit {0}} (Ok tt) (Ok tt) tt _ _ _ refl (asks_done (Ok tt) c.read_at.result _ _ _ c.in_ok-read_at.was looked.refused first) (asks_done (Ok tt) c.write_at.result _ _ _ c.in_ok-write_at.was wrote.elsewhere.refused last);
      step = λ fits.
          let n : ℕ = length r - 8 in
          let short : length r - 4 - 4 ≡ n = omega arith in
          let place : c.from.result * (length r - 4 - 4) ≡ (c.args.page - 1) * n = ap (λ (k : ℕ). c.from.result * k) short ∙ ap (λ (k : ℕ). k * n) c.from.ensures in
          let long : length (take (length r - 4 - 4) (drop 4 r)) ≡ n = length-take-le (length r - 4 - 4) (drop 4 r) (omega (arith, length-drop 4 r)) ∙ short in
          let full : length out ≡ n = c.read_at.auto.out ∙ long in
          let bytes = c.frame_record.ensures ∙ ap (λ (x : List ℕ). record_bytes c.args.page c.args.nonce x) (middle r out (drop (length r - 4 - 4) (drop 4 r)) (omega arith) (omega (arith, all, full))) in
          let wrote = subst (λ (x : List ℕ). Writes Log c.args.at x (Ok tt) (g.D.Disk.state c.read_at.new.self) (g.D.Disk.state c.write_at.new.self)) bytes (c.in_ok-write_at.ensures.state (c.read_at.ensures.word.0 word)) in
          step_put n c.args.page c.args.nonce c.args.at out full _ _ _
          (λ i lt. c.in_ok-read_at.ensures.bytes word i (omega (arith, full)) ∙ ap (λ (k : ℕ). byte (g.D.Disk.state c.args.disk.now).db (k + i)) place)
          (still_looks _ c.read_at.result _ _ sound (c.read_at.ensures.state word)) tt wrote;
    })

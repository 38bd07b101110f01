use Rattle.rollcore.proofs.Facts.{Bool, Device, IsTrue, Ok, break_failed, break_unread, during, false, magic_read, magic_there, passed, puts_zero, refl, rules, still_looks, tells_ok, told_then, true}
use Rattle.rollcore.proofs.disk.ToldRefusals.{told_device}
use Rattle.rollcore.proofs.opening.break_magic.Goals as goal

pub returns-then-not-is_magic-clause-disk : goal.returns-then-not-is_magic-clause-disk
returns-then-not-is_magic-clause-disk g c = during (search rules) (λ word.
    let sound = g.met.D.Disk.sound c.args.disk.now word in
    record {
      steps = (
        still_looks _ c.read_at.result (g.D.Disk.state c.args.disk.now) (g.D.Disk.state c.read_at.new.self) sound (c.read_at.ensures.state word),
        λ w are is.
            let yes : IsTrue c.is_magic.result = c.is_magic.ensures.1 (magic_read w (g.D.Disk.state c.args.disk.now).log c.args.at c.read_at.new.out are c.read_at.auto.out (c.in_ok-read_at.ensures.bytes word) is) in
            let no = c.if-not-is_magic.true in
            absurd (cc),
      );
      told = tells_ok {T = Bool} Device (Ok false) c.read_at.result _ (g.D.Disk.state c.args.disk.now) (g.D.Disk.state c.read_at.new.self) c.in_ok-read_at.was (c.read_at.ensures.state word).refused;
    })

pub returns-in_err-write_at-clause-disk : goal.returns-in_err-write_at-clause-disk
returns-in_err-write_at-clause-disk g c = during (search rules) (λ word.
    let sound = g.met.D.Disk.sound c.args.disk.now word in
    record {
      steps =
          let a = g.D.Disk.state c.args.disk.now in
          let b = g.D.Disk.state c.read_at.new.self in
          let is = still_looks _ c.read_at.result a b sound (c.read_at.ensures.state word) in
          let yes : IsTrue c.is_magic.result = c.if-not-is_magic.false in
          break_failed c.args.at a b (g.D.Disk.state c.write_at.new.self) sound is
          (λ w are. magic_there w a.log c.args.at c.read_at.new.out are c.read_at.auto.out (c.in_ok-read_at.ensures.bytes word) (c.is_magic.ensures.0 yes))
          c.write_at.result _ c.from_residual-in_err-write_at.result c.in_err-write_at.was (c.write_at.ensures.state (c.read_at.ensures.word.0 word)) c.requires (passed c.from_residual-in_err-write_at.result Device c.from_residual-in_err-write_at.ensures.1);
      told = told_device c.from_residual-in_err-write_at.result (g.D.Disk.state c.args.disk.now) (g.D.Disk.state c.write_at.new.self) (passed c.from_residual-in_err-write_at.result Device c.from_residual-in_err-write_at.ensures.1);
    })

pub returns-clause-disk : goal.returns-clause-disk
returns-clause-disk g c = during (search rules) (λ word.
    let sound = g.met.D.Disk.sound c.args.disk.now word in
    record {
      steps =
          let a = g.D.Disk.state c.args.disk.now in
          let b = g.D.Disk.state c.read_at.new.self in
          let is = still_looks _ c.read_at.result a b sound (c.read_at.ensures.state word) in
          let yes : IsTrue c.is_magic.result = c.if-not-is_magic.false in
          puts_zero c.args.at a b (g.D.Disk.state c.write_at.new.self) sound is
          (λ w are. magic_there w a.log c.args.at c.read_at.new.out are c.read_at.auto.out (c.in_ok-read_at.ensures.bytes word) (c.is_magic.ensures.0 yes))
          (Ok tt) (c.in_ok-write_at.ensures.state (c.read_at.ensures.word.0 word));
      told =
          told_then {T = Bool} (Ok true) {U = Unit {0}} (Ok tt) tt (g.D.Disk.state c.args.disk.now) (g.D.Disk.state c.read_at.new.self) (g.D.Disk.state c.write_at.new.self) refl (tells_ok {T = Unit {0}} Device (Ok tt) c.read_at.result _ (g.D.Disk.state c.args.disk.now) (g.D.Disk.state c.read_at.new.self) c.in_ok-read_at.was (c.read_at.ensures.state word).refused)
          (tells_ok {T = Bool} Device (Ok true) c.write_at.result _ (g.D.Disk.state c.read_at.new.self) (g.D.Disk.state c.write_at.new.self) c.in_ok-write_at.was (c.write_at.ensures.state (c.read_at.ensures.word.0 word)).elsewhere.refused);
    })

pub returns-in_err-read_at-clause-disk : goal.returns-in_err-read_at-clause-disk
returns-in_err-read_at-clause-disk g c = during (search rules) (λ word.
    let sound = g.met.D.Disk.sound c.args.disk.now word in
    record {
      steps = break_unread c.args.at _ _ sound _ c.read_at.result _ _ c.in_err-read_at.was (c.read_at.ensures.state word) c.requires (passed c.from_residual.result Device c.from_residual.ensures.1);
      told = told_device c.from_residual.result (g.D.Disk.state c.args.disk.now) (g.D.Disk.state c.read_at.new.self) (passed c.from_residual.result Device c.from_residual.ensures.1);
    })

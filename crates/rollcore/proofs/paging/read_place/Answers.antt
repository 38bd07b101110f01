use Rattle.rollcore.proofs.Facts.{Device, Ok, ap, during, inr, passed, place_read, place_refused, rules, sym, tells_ok, ◌+◌}
use Rattle.rollcore.proofs.disk.ToldRefusals.{told_device}
use Rattle.rollcore.proofs.paging.read_place.Goals as goal

pub returns-in_err-read_at-clause-disk : goal.returns-in_err-read_at-clause-disk
returns-in_err-read_at-clause-disk g c = during (search rules) (λ word.
    let sound = g.met.D.Disk.sound c.args.disk.now word in
    record {
      place =
          place_refused Device c.args.file c.args.at c.read_at.new.out _ _ sound c.from_residual.result _ c.read_at.result _ (ap (λ n. c.args.at + n) (sym c.read_at.auto.out)) c.in_err-read_at.was
          (passed c.from_residual.result Device c.from_residual.ensures.1) (c.read_at.ensures.state word);
      looks = inr (_, c.read_at.result, c.read_at.ensures.state word);
      told = told_device c.from_residual.result (g.D.Disk.state c.args.disk.now) (g.D.Disk.state c.read_at.new.self) (passed c.from_residual.result Device c.from_residual.ensures.1);
    })

pub returns-clause-disk : goal.returns-clause-disk
returns-clause-disk g c = during (search rules) (λ word.
    let sound = g.met.D.Disk.sound c.args.disk.now word in
    record {
      place = place_read Device c.args.file c.args.at c.read_at.new.out _ _ sound tt _ c.read_at.result (c.read_at.ensures.state word) (c.in_ok-read_at.ensures.bytes word);
      looks = inr (_, c.read_at.result, c.read_at.ensures.state word);
      told = tells_ok {T = Unit {0}} Device (Ok tt) c.read_at.result _ (g.D.Disk.state c.args.disk.now) (g.D.Disk.state c.read_at.new.self) c.in_ok-read_at.was (c.read_at.ensures.state word).refused;
    })

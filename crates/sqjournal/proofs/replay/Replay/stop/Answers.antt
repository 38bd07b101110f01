use Rattle.std.proofs.Common.{rules, sym, subst, arith}
use Rattle.sqjournal.specs.declared.reading.Why.{Why}
use Rattle.sqjournal.proofs.read.JournalOfTakenBytes.{Ends}
use Rattle.sqjournal.proofs.read.UniquenessOfReading.{stops_so}
use Rattle.sqjournal.proofs.read.BytesTakenByReplay.{ends_judged, ends_empty, ends_cut}
use Rattle.sqjournal.proofs.replay.Replay.stop.Goals as goal

pub returns-in-Some : goal.returns-in-Some
returns-in-Some c = λ b t.
    let s = c.args.self.now in
    let r = c.in-Some.reading in
    stops_so b s.records.items _ (subst (λ (w : Why). Ends b s.records.items r.at w) (sym c.why.ensures) (ends_judged b s r t c.in-Some.is))

pub returns-in-None : goal.returns-in-None
returns-in-None c = λ b t. stops_so b c.args.self.now.records.items _ (ends_empty b c.args.self.now t c.in-None.is (search rules))

pub returns-in-None-2 : goal.returns-in-None-2
returns-in-None-2 c = λ b t. stops_so b c.args.self.now.records.items _ (ends_cut b c.args.self.now t c.in-None-2.is (omega (arith, c.if-self-eq0.false)))

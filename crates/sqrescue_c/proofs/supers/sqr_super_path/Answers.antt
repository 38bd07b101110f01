use Rattle.std.proofs.Common.{◌≡◌, ⊎_elim, refl, arith}
use Rattle.fmt_super.proofs.EndOfJournal.{whole_end}
use Rattle.sqrescue_c.proofs.supers.sqr_super_path.Goals as goal

pub returns-in-Some-clause-none : goal.returns-in-Some-clause-none
returns-in-Some-clause-none c = (
  λ zero. absurd (⊎_elim (λ (two : c.written.result ≡ 2). omega (arith, zero, two)) (λ (three : c.written.result ≡ 3). omega (arith, zero, three)) c.written.ensures.one),
  λ other. absurd (other (c.if-not-names_super_journal.ensures.0 refl)),
)

pub returns-in-Some-clause-unnamed : goal.returns-in-Some-clause-unnamed
returns-in-Some-clause-unnamed c = λ one.
    absurd (⊎_elim (λ (two : c.written.result ≡ 2). omega (arith, one, two)) (λ (three : c.written.result ≡ 3). omega (arith, one, three)) c.written.ensures.one)

pub returns-in-Some-clause-named : goal.returns-in-Some-clause-named
returns-in-Some-clause-named c = λ two.
    (c.in-Some.path.now, c.in-Some.ensures c.args.journal.now (whole_end c.args.journal.now), c.written.ensures.path two)

pub returns-in-Some-clause-room : goal.returns-in-Some-clause-room
returns-in-Some-clause-room c = λ three.
    (c.in-Some.path.now, c.in-Some.ensures c.args.journal.now (whole_end c.args.journal.now), c.written.ensures.short (λ two. omega (arith, three, two)))

pub returns-in-None-clause-unnamed : goal.returns-in-None-clause-unnamed
returns-in-None-clause-unnamed c = λ _. c.in-None.ensures c.args.journal.now (whole_end c.args.journal.now)

use Rattle.std.proofs.Common.{◌≡◌, ◌∙◌, Bool, true, false, refl, sym, arith, rules}
use Rattle.std.specs.Int.{from_bool}
use Rattle.sqlocks_c.specs.Journals.{HasHeader}
use Rattle.sqlocks_c.proofs.journal.sqr_journal_is_hot.Goals as goal

one_true : (b : Bool) → from_bool b ≡ 1 → b ≡ true
one_true true e = refl
one_true false e = absurd (omega arith)

pub returns-in-Some-clause-yes : goal.returns-in-Some-clause-yes
returns-in-Some-clause-yes c = λ one.
    let there : HasHeader c.args.front.now = search rules in
    (there, λ journal l e. c.is_hot.ensures.yes (one_true c.is_hot.result (sym c.from.ensures ∙ one)) journal l (e ∙ sym c.in-Some.ensures.cases.same))

use Rattle.std.proofs.Common.{refl}
use Rattle.sqdeleted.proofs.FreedPlaces.{not_true, ends_there, ends_nowhere}
use Rattle.sqdeleted.proofs.freed.ends_here.Goals as goal

pub returns-in-Some : goal.returns-in-Some
returns-in-Some c =
    ends_there c.args.page.used.now c.args.page.whole.now.begin.items c.args.last c.args.end c.in-Some.inner c.ended_at-in-Some.result
    (λ e. not_true c.ended_at.result c.if-ended_at.false (c.ended_at.ensures.1 e)) ((c.in-Some.ensures c.in-Some.inner).0 refl) c.ended_at-in-Some.ensures

pub returns-in-None : goal.returns-in-None
returns-in-None c =
    ends_nowhere c.args.page.used.now c.args.page.whole.now.begin.items c.args.last c.args.end
    (λ e. not_true c.ended_at.result c.if-ended_at.false (c.ended_at.ensures.1 e)) (λ inner w. (let some = (c.in-None.ensures inner).1 w in cc))

use Rattle.std.proofs.Common.{◌≤◌, arith}
use Rattle.std.proofs.lemmas.Bool.{leb-true}
use Rattle.sqlocks_c.proofs.HotFronts.{hot_front, refused_front}
use Rattle.sqlocks_c.proofs.journal.is_hot.Goals as goal

pub returns-in-Ok-clause-yes : goal.returns-in-Ok-clause-yes
returns-in-Ok-clause-yes c = λ t.
    let le : c.from.result ≤ c.args.length = leb-true c.from.result c.args.length t in
    hot_front c.args.front.now c.args.length c.in-Ok.header c.in-Ok.ensures.0 c.in-Ok.ensures.1 (omega (arith, c.from.ensures))

pub returns-in-Err-clause-not : goal.returns-in-Err-clause-not
returns-in-Err-clause-not c = λ _. refused_front c.args.front.now c.args.length c.in-Err.field-0 c.in-Err.ensures

use Rattle.std.proofs.Common.{refl}
use Rattle.cli_show_deleted.proofs.CutsTold.{whole_of, whole_none}
use Rattle.cli_show_deleted.proofs.cut_page.whole_in.Goals as goal

pub returns-in-Ok-clause-ok : goal.returns-in-Ok-clause-ok
returns-in-Ok-clause-ok c = whole_of c.args.role c.args.used.now c.args.number c.in-Some.cells c.in-Ok.whole c.in-Some.ensures.left c.in-Ok.ensures

pub returns-in-None-clause-ok : goal.returns-in-None-clause-ok
returns-in-None-clause-ok c =
    whole_none c.args.role c.args.used.now c.args.number c.none.result c.none.ensures.0 c.none.ensures.1 (c.in-None.ensures.none refl)

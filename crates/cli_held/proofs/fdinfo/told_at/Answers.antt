use Rattle.std.proofs.Common.{inr}
use Rattle.cli_held.proofs.fdinfo.told_at.Goals as goal

-- src/fdinfo.rt:101:1
pub returns-in-Ok : goal.returns-in-Ok
returns-in-Ok g c = inr (record { text = c.args.text.now; file = c.in-Some.file; index = c.in_ok-index.index; so = c.in-Ok.ensures })

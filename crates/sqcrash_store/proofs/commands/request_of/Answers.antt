use Rattle.clap.specs.Words.{app_of}
use Rattle.sqcrash_store.proofs.WordsAsked.{asks_line, is_line}
use Rattle.sqcrash_store.proofs.commands.request_of.Goals as goal

pub read-requires : goal.read-requires
read-requires c = is_line (app_of c.in-Ok.command) c.in-Ok.ensures

pub returns-in-Ok : goal.returns-in-Ok
returns-in-Ok c = asks_line (app_of c.in-Ok.command) _ c.read.result c.in-Ok.ensures c.read.ensures

use Rattle.std.proofs.Common.{inl, inr, refl}
use Rattle.clap.specs.Words.{app_of}
use Rattle.sqcrash.proofs.WordsAsked.{asks_line, both, is_line}
use Rattle.sqcrash.proofs.commands.request.Goals as goal

pub read-requires : goal.read-requires
read-requires c = is_line (app_of c.in-Ok.command) c.in-Ok.ensures

pub returns-then-asks_version-clause-read : goal.returns-then-asks_version-clause-read
returns-then-asks_version-clause-read c = inl (c.asks_version.ensures.0 c.if-asks_version.true, refl)

pub returns-in-Ok-clause-read : goal.returns-in-Ok-clause-read
returns-in-Ok-clause-read c =
    inr (λ asks. both c.asks_version.result (c.asks_version.ensures.1 asks) c.if-asks_version.false, asks_line (app_of c.in-Ok.command) _ c.read.result c.in-Ok.ensures c.read.ensures)

pub returns-in-Err-clause-read : goal.returns-in-Err-clause-read
returns-in-Err-clause-read c = inr (λ asks. both c.asks_version.result (c.asks_version.ensures.1 asks) c.if-asks_version.false, tt)

use Rattle.std.proofs.Common.{List, map, sym, subst}
use Rattle.clap.specs.Words.{Row, app_of, found_of, rows_of}
use Rattle.sqcrash_store.specs.Words.{IsRequest}
use Rattle.sqcrash_store.proofs.WordsAsked.{simple_of, told, told_no_part}
use Rattle.sqcrash_store.proofs.commands.read.Goals as goal

pub returns-in-Some-matched : goal.returns-in-Some-matched
returns-in-Some-matched c = (
  c.in-Ok.ensures.kinds c.requires,
  subst (λ (rows : List Row). IsRequest rows c.in-Some-matched.request) (c.in-Ok.ensures.ok.2 (simple_of (app_of c.args.command.now) c.requires)).0 c.in-Some-matched.ensures,
)

pub returns-in-Ok : goal.returns-in-Ok
returns-in-Ok c =
    told_no_part (app_of c.args.command.now) (map (λ w. w.now) c.args.words.now) (rows_of (found_of c.in-Ok.matches)) c.no_part.result (c.in-Ok.ensures.kinds c.requires)
    (sym (c.in-Ok.ensures.ok.2 (simple_of (app_of c.args.command.now) c.requires)).0) c.in-None.ensures c.no_part.ensures

pub returns : goal.returns
returns c = told (app_of c.args.command.now) _ c.in-Err.error c.refused.result c.refused.ensures (c.in-Err.ensures.kinds c.requires)

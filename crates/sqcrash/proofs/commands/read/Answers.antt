use Rattle.std.proofs.Common.{List, map, subst}
use Rattle.clap.specs.Words.{Row, app_of, found_of, rows_of}
use Rattle.sqcrash.specs.Words.{IsRequest, IsVersionFound}
use Rattle.sqcrash.proofs.WordsAsked.{both, simple_of, told, told_no_part}
use Rattle.sqcrash.proofs.commands.read.Goals as goal

pub returns-then-is_version_found : goal.returns-then-is_version_found
returns-then-is_version_found c =
    let words = map (λ w. w.now) c.args.words.now in
    let same = (c.in-Ok.ensures.ok.2 (simple_of (app_of c.args.command.now) c.requires)).0 in (
      c.in-Ok.ensures.kinds c.requires,
      subst (λ (rows : List Row). IsVersionFound words rows) same (c.is_version_found.ensures.0 c.if-is_version_found.true),
    )

pub returns-in-Some-matched : goal.returns-in-Some-matched
returns-in-Some-matched c =
    let words = map (λ w. w.now) c.args.words.now in
    let same = (c.in-Ok.ensures.ok.2 (simple_of (app_of c.args.command.now) c.requires)).0 in
    let other : ¬ IsVersionFound words (rows_of (found_of c.in-Ok.matches)) = λ found. both c.is_version_found.result (c.is_version_found.ensures.1 found) c.if-is_version_found.false in (
      c.in-Ok.ensures.kinds c.requires,
      subst (λ (rows : List Row). ¬ IsVersionFound words rows) same other,
      subst (λ (rows : List Row). IsRequest rows c.in-Some-matched.request) same c.in-Some-matched.ensures,
    )

pub returns-in-Ok : goal.returns-in-Ok
returns-in-Ok c =
    let words = map (λ w. w.now) c.args.words.now in
    let same = (c.in-Ok.ensures.ok.2 (simple_of (app_of c.args.command.now) c.requires)).0 in
    let other : ¬ IsVersionFound words (rows_of (found_of c.in-Ok.matches)) = λ found. both c.is_version_found.result (c.is_version_found.ensures.1 found) c.if-is_version_found.false in
    told_no_part (app_of c.args.command.now) words (rows_of (found_of c.in-Ok.matches)) c.no_part.result (c.in-Ok.ensures.kinds c.requires) same other c.in-None.ensures c.no_part.ensures

pub returns : goal.returns
returns c = told (app_of c.args.command.now) _ c.in-Err.error c.refused.result c.refused.ensures (c.in-Err.ensures.kinds c.requires)

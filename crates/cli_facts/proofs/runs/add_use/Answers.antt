use Rattle.std.proofs.Common.{◌≡◌, length, arith}
use Rattle.cli_facts.proofs.ExpansionOfRuns.{longer_run}
use Rattle.cli_facts.proofs.runs.add_use.Goals as goal

pub returns-then-index-lt4294967295 : goal.returns-then-index-lt4294967295
returns-then-index-lt4294967295 c =
    let long : c.len-end.result ≡ length c.args.runs.now.items = omega (arith, c.len-end.ensures) in
    longer_run c.args.runs.now.items c.len-end.result c.index.result.now c.index_mut.result.now c.args.used long
    c.if-end-gt0.true c.index.ensures c.index_mut.ensures.value (c.is_same.ensures c.if-is_same.true)

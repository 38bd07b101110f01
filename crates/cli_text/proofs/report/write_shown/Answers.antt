use Rattle.std.proofs.Common.{List, ℕ, ◌++◌, codes}
use Rattle.std.specs.Fmt.{decimal}
use Rattle.cli_text.specs.internal.Logs.{log_of}
use Rattle.cli_text.specs.Reports.{commits_entries, slots_behind, wal_start}
use Rattle.cli_text.proofs.WrittenTexts.{appends_three}
use Rattle.cli_text.proofs.report.write_shown.Goals as goal

pub returns : goal.returns
returns g c =
    let log = log_of c.args.log.now in
    let slots = slots_behind log c.args.length in
    let end : List ℕ = codes "],\"behind frames\":" ++ (decimal slots.0 ++ (codes ",\"bytes over\":" ++ (decimal slots.1 ++ codes "}"))) in
    appends_three c.write.result (g.W.Write.contents c.args.out.now) (g.W.Write.contents c.write_wal_start.new.out)
    (g.W.Write.contents c.write_commits.new.out) (g.W.Write.contents c.write.new.self)
    (wal_start log) (commits_entries log.entries c.args.commits.now) end
    c.in_ok-write_wal_start.ensures c.in_ok-write_commits.ensures (rw c.behind-count.ensures at c.write.ensures.bytes)

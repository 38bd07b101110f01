use Rattle.std.proofs.Common.{[], List, sym, subst}
use Rattle.std.specs.Io.KnownBytes.{Appends}
use Rattle.std.proofs.KnownBytes.{Appends-trans}
use Rattle.sqwal.specs.declared.scan.Entry.{Entry}
use Rattle.cli_text.specs.Logs.{Log, ShowsLog, commits_text}
use Rattle.cli_show.specs.Commits.{commits_lines, known_commits_text}
use Rattle.cli_show.proofs.WrittenLogs.{on_ok}
use Rattle.cli_show.proofs.WrittenCommits.{entries_one}
use Rattle.cli_show.proofs.commits.write_known_commits.Goals as goal

pub returns : goal.returns
returns g c = λ most wal took.
    let style = c.args.style in
    let commits = c.args.commits.now in
    let known = c.args.known.now in
    let old = g.W.Write.contents c.args.out.now in
    let mid = g.W.Write.contents c.write_commit_lines.new.out in
    let new = g.W.Write.contents c.write_commits.new.out in
    let shown = c.write_commits.ensures most wal took in
    let entries : List Entry = c.entries.result.now in
    let same = entries_one most wal shown.0.entries entries shown.1.entries (c.entries.ensures most wal took) in
    let lines : Appends old mid (commits_lines style shown.0.entries known commits) =
    subst (λ (l : List Entry). Appends old mid (commits_lines style l known commits)) (sym same) c.in_ok-write_commit_lines.ensures in
    on_ok c.write_commits.result (Appends mid new (commits_text style shown.0 []))
    ((log : Log) × ShowsLog most wal log × Appends old new (known_commits_text style log known commits))
    (λ tail. (shown.0, shown.1, Appends-trans old mid new (commits_lines style shown.0.entries known commits) (commits_text style shown.0 []) lines tail)) shown.2

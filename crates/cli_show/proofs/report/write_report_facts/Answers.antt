use Rattle.std.proofs.Common.{List, ℕ, ◌++◌, codes, subst}
use Rattle.std.specs.Io.KnownBytes.{Appends}
use Rattle.cli_words.specs.declared.requests.Style.TheVariants.{Json}
use Rattle.cli_show.specs.Reports.{ArePartsOf, IsLogObject, Parts, front_text, list_text, report_text, runs_text, size_in}
use Rattle.cli_show.specs.Verdicts.{verdict_text}
use Rattle.cli_show.proofs.PartsOfReports.{all_parts}
use Rattle.cli_show.proofs.WrittenLogs.{on_ok}
use Rattle.cli_show.proofs.report.write_report_facts.Goals as goal

pub returns : goal.returns
returns g c limits wal journal found =
    let facts = c.args.facts.now in
    let version = c.args.version.now in
    let file = c.args.file.now in
    let old = g.W.Write.contents c.args.out.now in
    let first = g.W.Write.contents c.write_front.new.out in
    let before = g.W.Write.contents c.write_lists.new.out in
    let new = g.W.Write.contents c.write_log_part.new.out in
    let most = limits.frames in
    let front : Appends old first (front_text version file (size_in facts.found)) =
    subst (λ (size : ℕ). Appends old first (front_text version file size)) c.page_size_of.ensures c.in_ok-write_front.ensures in
    let head = c.in_ok-write_header_part.ensures in
    let lists = c.in_ok-write_lists.ensures in
    on_ok c.write_log_part.result
    ((log : List ℕ) × IsLogObject most wal journal facts.log log × Appends before new (codes "\"log\":" ++ (log ++ codes "}\n")))
    ((parts : Parts) × ArePartsOf most wal journal facts parts × Appends old new (report_text version file facts parts))
    (λ log.
    let parts : Parts = record { head = head.0; trees = lists.0; logged = lists.1; log = log.0 } in (
      parts,
      record { head = head.1; trees = lists.2; logged = lists.3; log = log.1 },
      all_parts old first (g.W.Write.contents c.write_verdict.new.out) (g.W.Write.contents c.write_header_part.new.out) before new
          (front_text version file (size_in facts.found)) (verdict_text Json facts.found) (codes ",\"header\":{") head.0 (codes "},\n")
          (list_text (codes "trees") lists.0) (list_text (codes "runs") (runs_text 1 facts.runs.items)) (list_text (codes "logged") lists.1)
          (codes "\"log\":") log.0 (codes "}\n") front c.in_ok-write_verdict.ensures.text head.2 lists.4 log.2,
    )) (c.write_log_part.ensures limits wal journal found)

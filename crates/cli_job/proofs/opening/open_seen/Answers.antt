use Rattle.std.proofs.Common.{◌≡◌, ◌≢◌, ◌⊎◌, ℕ, Option, Some, false, inl, inr, ⊎_elim, sym, subst}
use Rattle.std.specs.Fs.{metadata_len}
use Rattle.cli_words.specs.declared.requests.SuperJournal.{SuperJournal}
use Rattle.cli_files.specs.Journals.{MayBeGone}
use Rattle.cli_files.specs.Files.{AreRegular, IsMissing, IsOpenedAt, IsOpenedOf}
use Rattle.cli_files.specs.declared.logs.Beheld.{Beheld}
use Rattle.cli_files.specs.declared.opened_file.OpenedFile.{OpenedFile}
use Rattle.cli_files.specs.declared.paths.Paths.{Paths}
use Rattle.cli_show.specs.declared.contents.Contents.{Contents}
use Rattle.cli_job.specs.Opened.{AreLogsOf, AreOpened}
use Rattle.cli_job.proofs.opening.open_seen.Goals as goal

-- the files that were opened, of which at front 0 the logs are left out
opened_all : {F : Type 0} (paths : Paths) (said : Option SuperJournal) (front : Option ℕ) (found : Beheld) (db wal journal : OpenedFile F) (files : Contents (OpenedFile F))
    → AreRegular found → IsOpenedAt db paths.db (metadata_len found.db) → IsOpenedOf wal paths.wal 1 found.wal
    → ((MayBeGone said × IsMissing journal) ⊎ IsOpenedOf journal paths.journal 28 found.journal) → files.db ≡ db
    → (front ≡ Some 0 → IsMissing files.wal × IsMissing files.journal) → (front ≢ Some 0 → files ≡ record { db = db; wal = wal; journal = journal })
    → AreOpened false paths said front files
opened_all {F} paths said front found db wal journal files regular opened by_wal by_journal same alone logs = record {
  found = found;
  regular = regular;
  wanted = (
    subst (λ (d : OpenedFile F). IsOpenedAt d paths.db (metadata_len found.db)) (sym same) opened,
    alone,
    λ other. subst (λ (f : Contents (OpenedFile F)). AreLogsOf paths said found f.wal f.journal) (sym (logs other)) (by_wal, by_journal),
  );
}

pub returns-clause-refused : goal.returns-clause-refused
returns-clause-refused g c =
    let opened : AreOpened false c.args.paths.now c.args.super_journal c.args.front c.up_to-files.result =
    opened_all c.args.paths.now c.args.super_journal c.args.front c.in_ok-found.field-0.found c.in-Ok.db c.in_ok-found.field-0.wal c.in_ok-found.field-0.journal
    c.up_to-files.result c.in_ok-found.ensures.regular c.in-Ok.ensures.opened c.in_ok-found.ensures.wal c.in_ok-found.ensures.journal
    c.up_to-files.ensures.db c.up_to-files.ensures.alone c.up_to-files.ensures.logs in
    ⊎_elim inl (λ u. inr (c.up_to-files.result, opened, u)) c.in-Err-tell_by_log.ensures

pub returns-in-Ok-tell_by_log-clause-opened : goal.returns-in-Ok-tell_by_log-clause-opened
returns-in-Ok-tell_by_log-clause-opened g c =
    opened_all c.args.paths.now c.args.super_journal c.args.front c.in_ok-found.field-0.found c.in-Ok.db c.in_ok-found.field-0.wal c.in_ok-found.field-0.journal
    c.up_to-files.result c.in_ok-found.ensures.regular c.in-Ok.ensures.opened c.in_ok-found.ensures.wal c.in_ok-found.ensures.journal
    c.up_to-files.ensures.db c.up_to-files.ensures.alone c.up_to-files.ensures.logs

use Rattle.crashdisk.proofs.Facts.{ap, file_of, named_digits, naming_at, refl, size_positive, ◌∙◌}
use Rattle.crashdisk.proofs.image.NumberOfChoice.{each_is_counted}
use Rattle.crashdisk.proofs.model.ModelDisk.choice_at.Goals as goal

pub returns-clause-named : goal.returns-clause-named
returns-clause-named c = record { db_named = c.in_ok-db.ensures.named; log_named = c.in_ok-log.ensures.named ∙ ap (λ m. naming_at c.args.self.now.sector (file_of c.args.self.now.sector c.args.self.now.log) m) c.in_ok-db.ensures.rest }

pub returns-clause-db : goal.returns-clause-db
returns-clause-db c = named_digits _ c.args.self.now.tears _ _ _ _ c.args.self.now.is_size c.args.self.now.db_solid c.in_ok-db.ensures.named refl

pub returns-clause-log : goal.returns-clause-log
returns-clause-log c = named_digits _ c.args.self.now.tears _ _ _ _ c.args.self.now.is_size c.args.self.now.log_solid c.in_ok-log.ensures.named c.in_ok-db.ensures.rest

pub returns-clause-each : goal.returns-clause-each
returns-clause-each c =
    let disk = c.args.self.now in
    each_is_counted disk.sector (file_of disk.sector disk.db) (file_of disk.sector disk.log) (size_positive disk.sector disk.is_size).0 disk.db_solid disk.log_solid

pub returns-in_err-db-clause-each : goal.returns-in_err-db-clause-each
returns-in_err-db-clause-each c =
    let disk = c.args.self.now in
    each_is_counted disk.sector (file_of disk.sector disk.db) (file_of disk.sector disk.log) (size_positive disk.sector disk.is_size).0 disk.db_solid disk.log_solid

pub returns-in_err-log-clause-each : goal.returns-in_err-log-clause-each
returns-in_err-log-clause-each c =
    let disk = c.args.self.now in
    each_is_counted disk.sector (file_of disk.sector disk.db) (file_of disk.sector disk.log) (size_positive disk.sector disk.is_size).0 disk.db_solid disk.log_solid

use Rattle.crashdisk.proofs.Facts.{ap, arith, file_of, named_digits, naming_at, none_left, refl, some_choice, ◌∙◌}
use Rattle.crashdisk.proofs.model.ModelDisk.choice.Goals as goal

pub returns-then-rest-gt0-clause-found : goal.returns-then-rest-gt0-clause-found
returns-then-rest-gt0-clause-found c =
    let disk = c.args.self.now in
    let both = none_left c.args.n _ _ _ _ (some_choice disk.sector (file_of disk.sector disk.db)) (some_choice disk.sector (file_of disk.sector disk.log)) c.in_ok-db.ensures.rest c.in_ok-log.ensures.rest in
    ((λ e. absurd (cc e)), (λ lt. absurd (omega (arith, both.1 lt, c.if-rest-gt0.true))))

pub returns-clause-found : goal.returns-clause-found
returns-clause-found c =
    let disk = c.args.self.now in
    let both = none_left c.args.n _ _ _ _ (some_choice disk.sector (file_of disk.sector disk.db)) (some_choice disk.sector (file_of disk.sector disk.log)) c.in_ok-db.ensures.rest c.in_ok-log.ensures.rest in
    ((λ e. both.0 (omega (arith, c.if-rest-gt0.false))), (λ lt. refl))

pub returns-clause-named : goal.returns-clause-named
returns-clause-named c = record { db_named = c.in_ok-db.ensures.named; log_named = c.in_ok-log.ensures.named ∙ ap (λ m. naming_at c.args.self.now.sector (file_of c.args.self.now.sector c.args.self.now.log) m) c.in_ok-db.ensures.rest }

pub returns-clause-db : goal.returns-clause-db
returns-clause-db c = named_digits _ c.args.self.now.tears _ _ _ _ c.args.self.now.is_size c.args.self.now.db_solid c.in_ok-db.ensures.named refl

pub returns-clause-log : goal.returns-clause-log
returns-clause-log c = named_digits _ c.args.self.now.tears _ _ _ _ c.args.self.now.is_size c.args.self.now.log_solid c.in_ok-log.ensures.named c.in_ok-db.ensures.rest

use Rattle.rollcore.proofs.Facts.{Device, HeaderAnswer, Later, Log, MayCommit, Ok, Result, RollError, ap, arith, asks_device, asks_done, asks_then, during, header_bytes, header_done, header_failed, header_may, header_unsynced, inl, later_sync, later_then, later_write, length, passed, refl, replicate, rules, subst, sym, ℕ, ◌++◌, ◌-◌, ◌∙◌, ◌≡◌}
use Rattle.rollcore.proofs.segments.write_header.Goals as goal

pub returns-in_err-write_at-clause-disk : goal.returns-in_err-write_at-clause-disk
returns-in_err-write_at-clause-disk g c = during (search rules) (λ word.
    record {
      asks = λ wide size.
          let padded = c.fill_header.ensures.bytes ∙ ap (λ (n : ℕ). header_bytes c.args.head.now ++ replicate (n - 28) 0) wide in
          let wrote = c.write_at.ensures.state word in
          let first : Later (MayCommit size c.args.head.now.sector) (g.D.Disk.state c.args.disk.now) (g.D.Disk.state c.write_at.new.self) =
          later_write Log c.args.place _ c.write_at.result _ _ (header_may size c.args.head.now.sector c.args.place c.args.head.now _ refl padded (omega (arith, c.fill_header.auto.header))) (g.met.D.Disk.sound c.args.disk.now word) wrote in
          asks_device c.from_residual.result _ _ (passed c.from_residual.result Device c.from_residual.ensures.1) first;
      header = λ size sector d named part w nonce is wide few head.
          let padded = c.fill_header.ensures.bytes ∙ ap (λ (n : ℕ). header_bytes c.args.head.now ++ replicate (n - 28) 0) wide in
          let long : length c.fill_header.new.header ≡ sector = c.fill_header.auto.header ∙ wide in
          subst (λ (x : Result (Unit {0}) RollError). HeaderAnswer size sector d named c.args.place w part nonce x (g.D.Disk.state c.args.disk.now) (g.D.Disk.state c.write_at.new.self))
          (sym (passed c.from_residual.result Device c.from_residual.ensures.1))
          (header_failed size sector d named part nonce c.args.place c.args.head.now w c.fill_header.new.header few head c.fill_header.ensures.names padded long _ is c.requires.place c.write_at.result _ _ c.in_err-write_at.was (c.write_at.ensures.state word));
    })

pub returns-in_err-sync-clause-disk : goal.returns-in_err-sync-clause-disk
returns-in_err-sync-clause-disk g c = during (search rules) (λ word.
    record {
      asks = λ wide size.
          let padded = c.fill_header.ensures.bytes ∙ ap (λ (n : ℕ). header_bytes c.args.head.now ++ replicate (n - 28) 0) wide in
          let wrote = c.write_at.ensures.state word in
          let first : Later (MayCommit size c.args.head.now.sector) (g.D.Disk.state c.args.disk.now) (g.D.Disk.state c.write_at.new.self) =
          later_write Log c.args.place _ c.write_at.result _ _ (header_may size c.args.head.now.sector c.args.place c.args.head.now _ refl padded (omega (arith, c.fill_header.auto.header))) (g.met.D.Disk.sound c.args.disk.now word) wrote in
          let synced = c.sync.ensures.state (c.write_at.ensures.word.0 word) in
          let last : Later (MayCommit size c.args.head.now.sector) (g.D.Disk.state c.write_at.new.self) (g.D.Disk.state c.sync.new.self) = later_sync Log c.sync.result _ _ (inl tt) first.sound synced in
          asks_device c.from_residual-in_err-sync.result _ _ (passed c.from_residual-in_err-sync.result Device c.from_residual-in_err-sync.ensures.1) (later_then _ _ _ first last);
      header = λ size sector d named part w nonce is wide few head.
          let padded = c.fill_header.ensures.bytes ∙ ap (λ (n : ℕ). header_bytes c.args.head.now ++ replicate (n - 28) 0) wide in
          let long : length c.fill_header.new.header ≡ sector = c.fill_header.auto.header ∙ wide in
          subst (λ (x : Result (Unit {0}) RollError). HeaderAnswer size sector d named c.args.place w part nonce x (g.D.Disk.state c.args.disk.now) (g.D.Disk.state c.sync.new.self))
          (sym (passed c.from_residual-in_err-sync.result Device c.from_residual-in_err-sync.ensures.1))
          (header_unsynced size sector d named part nonce c.args.place c.args.head.now w c.fill_header.new.header few head c.fill_header.ensures.names padded long _ is c.requires.place _ _ (c.in_ok-write_at.ensures.state word)
          c.sync.result _ c.in_err-sync.was (c.sync.ensures.state (c.write_at.ensures.word.0 word)));
    })

pub returns-clause-disk : goal.returns-clause-disk
returns-clause-disk g c = during (search rules) (λ word.
    record {
      asks = λ wide size.
          let padded = c.fill_header.ensures.bytes ∙ ap (λ (n : ℕ). header_bytes c.args.head.now ++ replicate (n - 28) 0) wide in
          let wrote = c.write_at.ensures.state word in
          let first : Later (MayCommit size c.args.head.now.sector) (g.D.Disk.state c.args.disk.now) (g.D.Disk.state c.write_at.new.self) =
          later_write Log c.args.place _ c.write_at.result _ _ (header_may size c.args.head.now.sector c.args.place c.args.head.now _ refl padded (omega (arith, c.fill_header.auto.header))) (g.met.D.Disk.sound c.args.disk.now word) wrote in
          let synced = c.sync.ensures.state (c.write_at.ensures.word.0 word) in
          let last : Later (MayCommit size c.args.head.now.sector) (g.D.Disk.state c.write_at.new.self) (g.D.Disk.state c.sync.new.self) = later_sync Log c.sync.result _ _ (inl tt) first.sound synced in
          asks_then {U = Unit {0}} (Ok tt) (Ok tt) tt _ _ _ refl (asks_done (Ok tt) c.write_at.result _ _ _ c.in_ok-write_at.was wrote.elsewhere.refused first) (asks_done (Ok tt) c.sync.result _ _ _ c.in_ok-sync.was synced.elsewhere.refused last);
      header = λ size sector d named part w nonce is wide few head.
          let padded = c.fill_header.ensures.bytes ∙ ap (λ (n : ℕ). header_bytes c.args.head.now ++ replicate (n - 28) 0) wide in
          let long : length c.fill_header.new.header ≡ sector = c.fill_header.auto.header ∙ wide in
          header_done size sector d named part nonce c.args.place c.args.head.now w c.fill_header.new.header few head c.fill_header.ensures.names padded long _ is c.requires.place _ _ (c.in_ok-write_at.ensures.state word)
          (c.in_ok-sync.ensures.state (c.write_at.ensures.word.0 word));
    })

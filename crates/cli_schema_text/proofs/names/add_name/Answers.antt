use Rattle.cli_schema_text.proofs.NamesSeen.{name_added}
use Rattle.cli_schema_text.proofs.names.add_name.Goals as goal

pub returns-clause-held : goal.returns-clause-held
returns-clause-held c = λ key. rw (← c.in_ok-key.ensures) (name_added c.args.seen.now c.insert.new.self (λ k. k.items) c.in_ok-key.key.items c.in_ok-insert.ensures.updates key)

use Rattle.sqschema.proofs.NamesAdded.{name_added}
use Rattle.sqschema.proofs.names.Names.add.Goals as goal

pub returns-clause-held : goal.returns-clause-held
returns-clause-held c = λ key. rw (← c.in_ok-key.ensures) (name_added c.args.self.now.keys c.insert.new.self (λ k. k.items) c.in_ok-key.key.items c.in_ok-insert.ensures.updates key)

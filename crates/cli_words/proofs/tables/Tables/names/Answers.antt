use Rattle.std.proofs.Common.{map, ap, ◌∙◌}
use Rattle.std.specs.Prelude.{codes}
use Rattle.cli_words.proofs.TablesNamed.{one_more, none_more_named}
use Rattle.cli_words.proofs.tables.Tables.names.Goals as goal
use Rattle.cli_words.proofs.tables.Tables.names.Goals.{in-Some+in_ok-push, in_default}

pub loop-i-preserved : goal.loop-i-preserved
loop-i-preserved c = elim c.match-given_at.branch [
  | in-Some+in_ok-push w ↦ one_more (codes "--table") (map (λ w. w.now) c.args.self.options.now) c.loop-i.i c.loop-i.names.items c.match-given_at.names.items w.in-Some.name c.loop-i.invariant w.in-Some.ensures (ap (λ v. v.items) w.names-is ∙ w.in_ok-push.ensures.items)
  | in_default w ↦ none_more_named (codes "--table") (map (λ w. w.now) c.args.self.options.now) c.loop-i.i _ (rw w.names-is c.loop-i.invariant) w.in_default.ensures
]

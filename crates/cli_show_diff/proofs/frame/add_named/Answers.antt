use Rattle.cli_show_diff.proofs.frame.add_named.Goals as goal

pub returns-in-Ok-write_named-clause-ok : goal.returns-in-Ok-write_named-clause-ok
returns-in-Ok-write_named-clause-ok c = (c.in-Ok.stays, c.in-Ok.ensures, c.in-Ok-write_named.ensures)

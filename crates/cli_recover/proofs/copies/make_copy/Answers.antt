use Rattle.cli_recover.proofs.copies.make_copy.Goals as goal

pub returns-in-Ok-end_file-clause-begun : goal.returns-in-Ok-end_file-clause-begun
returns-in-Ok-end_file-clause-begun g c = (c.in_ok-made.made, c.args.found.mode, c.in_ok-made.ensures.begun)

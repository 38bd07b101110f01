use Rattle.cli_show_deep.proofs.parts.write_nevers.Goals as goal

pub returns : goal.returns
returns g c = rw (c.things_of.ensures, c.things_of-2.ensures, c.things_of-3.ensures, c.things_of-4.ensures) at c.write.ensures.bytes

use Rattle.cli_text.proofs.logs.shown_by.Goals as goal

pub returns : goal.returns
returns c most b took = record {
  header = c.header.ensures most b took;
  entries = c.entries.ensures most b took;
  front = c.committed.ensures most b took;
  stop = c.stop.ensures most b took;
}

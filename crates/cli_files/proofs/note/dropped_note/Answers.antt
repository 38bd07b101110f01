use Rattle.cli_files.proofs.note.dropped_note.Goals as goal

pub returns : goal.returns
returns c most wal took = record {
  header = c.header-header.result;
  front = c.committed-front.result;
  stop = c.stop-stop.result;
  named = c.header-header.ensures most wal took;
  committed = c.committed-front.ensures most wal took;
  stops = c.stop-stop.ensures most wal took;
  text_is = c.note_behind.ensures;
}

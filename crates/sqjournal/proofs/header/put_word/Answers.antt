use Rattle.byteorder.specs.Endian.{big_bytes}
use Rattle.sqjournal.proofs.journal.WordsOfHeader.{put_at}
use Rattle.sqjournal.proofs.header.put_word.Goals as goal

pub returns : goal.returns
returns c = put_at c.args.at c.args.bytes.now (big_bytes 4 c.args.value) c.write_u32.new.buf c.requires c.write_u32.ensures

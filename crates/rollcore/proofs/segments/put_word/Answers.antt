use Rattle.rollcore.proofs.Facts.{big_bytes, put_at}
use Rattle.rollcore.proofs.segments.put_word.Goals as goal

pub returns : goal.returns
returns c = put_at c.args.at c.args.bytes.now (big_bytes 4 c.args.value) c.write_u32.new.buf c.requires c.write_u32.ensures

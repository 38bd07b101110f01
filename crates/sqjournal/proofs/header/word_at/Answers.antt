use Rattle.std.proofs.Common.{sym, ◌∙◌, ap}
use Rattle.std.proofs.lemmas.List.{take_rest}
use Rattle.byteorder.specs.Endian.{big_number}
use Rattle.sqjournal.proofs.journal.WordsOfHeader.{word_front}
use Rattle.sqjournal.proofs.header.word_at.Goals as goal

pub returns : goal.returns
returns c =
    c.read_u32.ensures ∙ ap (big_number 4) (take_rest c.args.bytes.now c.args.at) ∙ sym (word_front c.args.bytes.now c.args.at)

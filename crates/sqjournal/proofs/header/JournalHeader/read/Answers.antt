use Rattle.std.proofs.Common.{rules, ◌≡◌, IsSome, subst}
use Rattle.sqval.specs.Bytes.{word}
use Rattle.sqval.specs.PageSize.{IsPageSize}
use Rattle.sqjournal.proofs.header.JournalHeader.read.Goals as goal

pub returns : goal.returns
returns c =
    let some : IsSome c.new.result = search rules in
    let sector : IsPageSize c.word_at-sector.result = c.new.ensures.valid.0 some in
    let read : c.word_at-sector.result ≡ word c.args.bytes.now 20 = c.word_at-sector.ensures in
    let some_size : IsSome c.new-2.result = search rules in
    let size : IsPageSize c.word_at.result = c.new-2.ensures.valid.0 some_size in
    let read_size : c.word_at.result ≡ word c.args.bytes.now 24 = c.word_at.ensures in
    (record { magic = search rules; sector = subst IsPageSize read sector; size = subst IsPageSize read_size size }, record { count = search rules; nonce = search rules; first_size = search rules; sector = read; size = search rules })

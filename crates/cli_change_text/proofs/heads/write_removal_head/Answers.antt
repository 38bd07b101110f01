use Rattle.std.proofs.Common.{◌++◌, codes}
use Rattle.std.specs.Io.KnownBytes.{Appends}
use Rattle.std.proofs.KnownBytes.{Appends-trans}
use Rattle.cli_row_text.specs.Inserts.{rowid_name}
use Rattle.cli_change_text.specs.Heads.{key_text, removal_head, removal_start}
use Rattle.cli_change_text.proofs.Answered.{on_ok}
use Rattle.cli_change_text.proofs.heads.write_removal_head.Goals as goal

pub returns : goal.returns
returns g c =
    let old = g.W.Write.contents c.args.out.now in
    let parted = g.W.Write.contents c.write_removal_start.new.out in
    let keyed = g.W.Write.contents c.write_key.new.out in
    let new = g.W.Write.contents c.write_all.new.self in
    let key = key_text c.args.columns.now (rowid_name c.args.rowid) in
    on_ok c.write_all.result (Appends keyed new (codes "=")) (Appends old new (removal_head c.args.table.now c.args.columns.now (rowid_name c.args.rowid)))
    (λ last. Appends-trans old parted new (removal_start c.args.table.now) (key ++ codes "=") c.in_ok-write_removal_start.ensures
    (Appends-trans parted keyed new key (codes "=") c.in_ok-write_key.ensures last))
    c.write_all.ensures.bytes

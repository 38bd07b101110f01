use Rattle.sqcrash_store.specs.Objects.{comma, range_object}
use Rattle.sqcrash_store.proofs.AppendedBytes.{appends_more}
use Rattle.sqcrash_store.proofs.objects.write_range.Goals as goal

pub returns : goal.returns
returns g c =
    appends_more (g.O.Write.contents c.args.out.now) (g.O.Write.contents c.write_comma.new.out) (g.O.Write.contents c.write.new.self) (comma c.args.first) (range_object c.args.range)
    c.in_ok-write_comma.ensures c.in_ok-write.ensures.bytes

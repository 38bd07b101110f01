use Rattle.std.proofs.Common.{map}
use Rattle.std.specs.String.{string_bytes}
use Rattle.sqcrash_store.specs.Objects.{comma, difference_object}
use Rattle.sqcrash_store.proofs.AppendedBytes.{appends_more}
use Rattle.sqcrash_store.proofs.objects.write_next.Goals as goal

pub returns : goal.returns
returns g c =
    appends_more (g.O.Write.contents c.args.out.now) (g.O.Write.contents c.write_comma.new.out) (g.O.Write.contents c.write_difference.new.out) (comma c.args.first)
    (difference_object (map (λ n. string_bytes n) c.args.names.now) c.args.difference.now) c.in_ok-write_comma.ensures c.in_ok-write_difference.ensures

use Rattle.std.proofs.Common.{lit<, refl}
use Rattle.sqwal.proofs.scan.Scan.within.Goals as goal

pub returns : goal.returns
returns c = record {
  bytes = λ i. lit< tt;
  limit = refl;
  parts = record { short = lit< tt; all = c.new.ensures.items; nothing = c.new-2.ensures.items; next = refl; front = refl; refused = refl };
}

use Rattle.std.proofs.Common.{refl}
use Rattle.sqrows.specs.Trees.{Entry, entry_of}
use Rattle.sqindex.proofs.PayloadsWhole.{whole_payload}
use Rattle.sqindex.proofs.walk.Walk.load_whole.Goals as goal

pub returns-in-Ok-put-clause-yes : goal.returns-in-Ok-put-clause-yes
returns-in-Ok-put-clause-yes c = λ yes d.
    let cell = c.in-Ok.cell in
    let e : Entry = entry_of c.args.self.now.cells.at cell in
    let whole = c.is_whole.ensures c.if-not-is_whole.false in (
      e,
      (c.in-Ok.ensures.ok.1 e).1 refl,
      record {
        page = refl;
        cell = c.index.ensures;
        rowid = refl;
        payload = record { cell = cell; is = refl; payload = whole_payload d cell c.put.new.out.items whole.0 whole.1 c.in-Ok.ensures.part.1 c.in-Ok-put.ensures };
      },
    )

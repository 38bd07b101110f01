use Rattle.std.proofs.Common.{◌≡◌, int_le, rules, tests}
use Rattle.std.specs.List.{filter}
use Rattle.std.proofs.lemmas.Fn.{filter_same}
use Rattle.sqindex.specs.declared.entries.Held.{Held}
use Rattle.sqindex.proofs.EntriesInSpans.{all_kept_to}
use Rattle.sqindex.proofs.entries.Entries.retain_to.Goals as goal

pub returns : goal.returns
returns c =
    let list = c.args.self.now.list.items in
    let same : c.retain.new.self.items ≡ filter (λ (p : Held). int_le p.rowid c.args.last) list = filter_same _ (λ (p : Held). int_le p.rowid c.args.last) _ (λ x b q k. search (rules, tests)) _ _ c.retain.ensures.filtered in
    all_kept_to c.args.last list c.retain.new.self.items c.args.self.now.bytes.items same

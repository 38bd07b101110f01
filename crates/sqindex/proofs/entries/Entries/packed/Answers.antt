use Rattle.std.proofs.Common.{◌<◌, ◌≤◌, ◌∙◌, length, arith, rules, FitsSigned, w64}
use Rattle.std.proofs.lemmas.Int.{to_z-of_z}
use Rattle.std.proofs.lemmas.List.{length-map, take_all}
use Rattle.sqindex.specs.internal.Held.{held_by, held_in}
use Rattle.sqindex.proofs.EntriesInSpans.{none_packed, one_packed}
use Rattle.sqindex.proofs.entries.Entries.packed.Goals as goal

pub entries-init : goal.entries-init
entries-init c = record { same = c.new-kept.ensures; numbered = λ key w. none_packed key c.new-kept.result c.new-kept.ensures }

pub entries-preserved : goal.entries-preserved
entries-preserved c =
    let self = c.args.self.now in
    let i = c.entries.i in
    let inv = c.entries.invariant in
    let old = c.entries.kept in
    let new = c.add.new.self in
    let held = c.index-held.result.now in
    let a = c.in_ok-add.ensures in
    let many = length-map self.list.items (held_in self.bytes.items) in
    let fits : FitsSigned w64 held.rowid = search rules in
    let below : i < length self.list.items = omega (arith, many, c.len-i-end.ensures, c.entries-test.true) in
    let p = one_packed self old new i held c.found.result c.payload.result.now a.last.0 below c.index-held.ensures c.found.ensures.0 c.found.ensures.1 c.payload.ensures inv.same a.held a.last.1 (a.last.2 ∙ to_z-of_z w64 held.rowid fits) in
    record { same = p.0; numbered = λ key w. p.1 key w (inv.numbered key w) }

pub returns : goal.returns
returns c =
    let xs = held_by c.args.self.now in
    let inv = c.entries.invariant in
    let end : length xs ≤ c.entries.i = omega (arith, c.len-i-end.ensures, c.entries-test.false) in
    (inv.same ∙ take_all c.entries.i xs end, inv.numbered)

use Rattle.std.proofs.Common.{◌+◌, ◌∙◌, List, [], get_or, pos, sym, ap, subst, arith}
use Rattle.std.proofs.lemmas.Option.{slice_get-get_or, get_or_from_slice_get}
use Rattle.sqindex.specs.declared.entries.Held.{Held}
use Rattle.sqindex.specs.Stored.{Stored}
use Rattle.sqindex.specs.internal.Held.{held_by, entry_in, held_in, nothing}
use Rattle.sqindex.specs.internal.Judging.{RowidsRise, IsTie}
use Rattle.sqindex.proofs.EntriesJudged.{sorted_same, tied}
use Rattle.sqindex.proofs.Places.{map_get, contained}
use Rattle.sqindex.proofs.order.sort_entries.Goals as goal

pub returns-in-None-clause-ok : goal.returns-in-None-clause-ok
returns-in-None-clause-ok c = λ key each.
    let moved = sorted_same key c.args.entries.now c.sort.new.self c.sort.ensures.bytes c.sort.ensures.same each in
    (record { each = moved.0; rise = subst RowidsRise c.deref.ensures.value c.in-None.ensures }, moved.1)

pub returns-in-Some-clause-err : goal.returns-in-Some-clause-err
returns-in-Some-clause-err c = λ key each.
    let old = c.args.entries.now in
    let new = c.sort.new.self in
    let moved = sorted_same key old new c.sort.ensures.bytes c.sort.ensures.same each in
    let ps = new.list.items in
    let i = c.in-Some.i in
    let none : Held = record { rowid = pos 0; page = 0; cell = 0; size = 0; body = [] } in
    let tie = subst (λ (z : List Held). IsTie z i) c.deref.ensures.value c.in-Some.ensures in
    let p = get_or ps i none in
    let q = get_or ps (i + 1) none in
    let first = slice_get-get_or ps i none (omega (arith, tie.0)) in
    let second = slice_get-get_or ps (i + 1) none tie.0 in
    let t = tied key (held_by old) new i p q moved.0 moved.1 first second (tie.1 c.sort.ensures.sorted p q first second) in
    let is = get_or_from_slice_get (held_by new) (i + 1) (entry_in new q) nothing (map_get (held_in new.bytes.items) ps (i + 1) q second) in (
      entry_in new q,
      contained (held_by old) t.0 (entry_in new q) t.1,
      sym (ap (λ (z : Stored). z.page) is) ∙ c.fault.ensures.page,
      sym (ap (λ (z : Stored). z.cell) is) ∙ c.fault.ensures.cell,
      c.fault.ensures.is,
      t.2,
    )

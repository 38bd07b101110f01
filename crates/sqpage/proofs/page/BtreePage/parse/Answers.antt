use Rattle.std.proofs.Common.{◌+◌, ◌*◌, ◌≤◌, length, take, refl, arith}
use Rattle.std.proofs.lemmas.List.{length-take-le}
use Rattle.sqpage.specs.Page.{cell_count_in}
use Rattle.sqpage.proofs.btree.PartsOfCells.{LieWithin, read_within, sound, page_of}
use Rattle.sqpage.proofs.page.BtreePage.parse.Goals as goal

room : (c : goal.Else-not-read_parts) → cell_count_in (take c.args.usable c.args.bytes.now) c.args.number ≤ length c.read_parts.new.parts
room c =
    let fits : c.pointers.result + 2 * c.count.result ≤ length (take c.args.usable c.args.bytes.now) = omega (arith, c.if-pointers-count.false) in
    omega (arith, fits, c.read_parts.ensures.length, c.count.ensures.value, length-take-le c.args.usable c.args.bytes.now c.requires.usable.most, c.requires.room)

lies : (c : goal.Else-not-read_parts) → LieWithin c.in-Some.kind (take c.args.usable c.args.bytes.now) c.args.number (cell_count_in (take c.args.usable c.args.bytes.now) c.args.number)
lies c = read_within _ _ _ _ c.read_parts.new.parts (room c) (c.read_parts.ensures.yes c.if-not-read_parts.false)

pub invariant_of-result : goal.invariant_of-result
invariant_of-result c =
    sound c.args.bytes.now c.args.usable c.args.number c.in-Some.kind c.head.result c.pointers.result c.count.result c.content_start.result c.requires.usable c.head.ensures.value ((c.in-Some.ensures c.in-Some.kind).0 refl)
    c.pointers.ensures.value c.count.ensures.value c.content_start.ensures (omega (arith, c.if-pointers-count.false)) (omega (arith, c.if-content_start-used.false)) (lies c)

pub returns-clause-ok : goal.returns-clause-ok
returns-clause-ok c = page_of (take c.args.usable c.args.bytes.now) c.args.number c.in-Some.kind (invariant_of-result c) (lies c)

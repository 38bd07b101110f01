use Rattle.std.proofs.Common.{◌≡◌, ◌%◌, drop, length, ap, ◌∙◌, arith, length-drop}
use Rattle.std.proofs.lemmas.List.{take_rest}
use Rattle.sqwal.proofs.feed.ScanUnderMoreBytes.{page_size_even}
use Rattle.sqwal.proofs.feed.ScanWithNextFrame.{goes_over}
use Rattle.sqwal.proofs.scan.sum_over.Goals as goal

pub add-requires-2 : goal.add-requires-2
add-requires-2 c =
    let f = c.args.frame.now in
    ap (λ x. length x % 8) (take_rest f 24) ∙ (let e : length (drop 24 f) % 8 ≡ 0 = omega (arith, length-drop 24 f, page_size_even c.args.header.now.page_size c.requires.page_size) in e)

pub returns : goal.returns
returns c = goes_over c.args.header.now c.args.frame.now c.args.before c.add.result c.add-2.result c.requires.whole c.add.ensures (rw (take_rest c.args.frame.now 24) at c.add-2.ensures)

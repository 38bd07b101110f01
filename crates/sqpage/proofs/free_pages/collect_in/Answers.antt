use Rattle.std.proofs.Common.{◌≡◌, ◌≤◌, length, take, ◌∙◌, arith}
use Rattle.std.proofs.lemmas.List.{length-take-le}
use Rattle.sqpage.proofs.file.PagesInMemory.{least_page_size, most_page_size}
use Rattle.sqpage.proofs.free_pages.collect_in.Goals as goal

pub collect-requires-clause-room : goal.collect-requires-clause-room
collect-requires-clause-room g c =
    let size = c.get-size.result in
    let least : 512 ≤ size = least_page_size size c.get-size.ensures.valid in
    let most : size ≤ 65536 = most_page_size size c.get-size.ensures.valid in
    let room = c.requires.room in
    let fits : size ≤ length c.args.buffer.now = omega arith in
    let e : length (take size c.args.buffer.now) ≡ size = length-take-le size c.args.buffer.now fits in
    let same : size ≡ g.S.PageSource.size c.args.source.now = cc in
    (e ∙ same, omega (arith, e, least))

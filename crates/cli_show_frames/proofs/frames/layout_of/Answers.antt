use Rattle.std.proofs.Common.{◌≡◌, ◌∙◌, length, arith}
use Rattle.sqval.proofs.page.FilePages.{size_some}
use Rattle.sqpage.proofs.file.PagesInMemory.{most_page_size}
use Rattle.cli_show_frames.proofs.frames.layout_of.Goals as goal

pub layout_in-requires : goal.layout_in-requires
layout_in-requires g c =
    let size = c.get-size.result in
    let many : length c.deref.result.now ≡ size = c.deref.ensures.len ∙ c.in-Ok.ensures.len in
    (omega (arith, size_some size c.get-size.ensures.valid, many), omega (arith, most_page_size size c.get-size.ensures.valid, many))

use Rattle.std.proofs.Common.{◌≡◌, ◌++◌, length, take, drop, ◌∙◌, ap, arith}
use Rattle.std.proofs.lemmas.List.{take_at}
use Rattle.sqpage.proofs.file.PagesInMemory.{least_page_size}
use Rattle.rig_judge.proofs.leaves.leaf_count.Goals as goal

pub leaf_count_of-requires : goal.leaf_count_of-requires
leaf_count_of-requires g c =
    let out = c.page.new.out in
    let bytes = c.in_ok-bytes.bytes in
    let long : length out ≡ length bytes.items = omega (arith, ap length c.deref_mut.ensures.value) in
    let whole : length out ≡ bytes.len = omega (arith, long, bytes.ok.0) in
    let kept : take bytes.len (out ++ drop (length out) bytes.items) ≡ out = take_at out (drop (length out) bytes.items) bytes.len whole in
    omega (arith, ap length (c.deref.ensures.value ∙ kept), whole, c.in_ok-bytes.ensures.len, least_page_size c.get.result c.get.ensures.valid)

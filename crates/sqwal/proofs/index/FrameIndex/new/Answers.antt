use Rattle.sqwal.proofs.find.FrameChainsOfPages.{index_none, table_none}
use Rattle.sqwal.proofs.index.FrameIndex.new.Goals as goal

pub invariant_of-result : goal.invariant_of-result
invariant_of-result c = index_none c.new.result.items c.new-2.result.items _ c.new.ensures.items c.new-2.ensures.items

pub returns : goal.returns
returns c = table_none c.new.result.items c.new-2.result.items c.new.ensures.items c.new-2.ensures.items

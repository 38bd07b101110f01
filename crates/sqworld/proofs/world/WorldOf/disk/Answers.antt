use Rattle.sqworld.proofs.Facts.{refl, rules}
use Rattle.sqworld.proofs.world.WorldOf.disk.Goals as goal

pub returns-in-Ok-clause-served : goal.returns-in-Ok-clause-served
returns-in-Ok-clause-served g c base events h =
    record { engine = h.engine; is_there = search rules; page_size = h.page_size; tears = h.tears; served = h.served; life = h.life }

pub returns-in-Err-clause-served : goal.returns-in-Err-clause-served
returns-in-Err-clause-served g c base events h =
    record { engine = h.engine; is_there = search rules; page_size = h.page_size; tears = h.tears; served = h.served; life = h.life }

pub returns-in-Ok-clause-same : goal.returns-in-Ok-clause-same
returns-in-Ok-clause-same g c = let stays = c.copy_disk-copied.ensures.same in let there = c.in-Some.is in
    record { page_size = refl; tears = refl; engine = cc; run = refl; served = refl; failed = refl }

pub returns-in-Err-clause-same : goal.returns-in-Err-clause-same
returns-in-Err-clause-same g c = let stays = c.copy_disk-copied.ensures.same in let there = c.in-Some.is in
    record { page_size = refl; tears = refl; engine = cc; run = refl; served = refl; failed = refl }

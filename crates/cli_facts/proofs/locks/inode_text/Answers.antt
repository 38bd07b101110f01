use Rattle.std.proofs.lemmas.Fmt.{contents_after_writes}
use Rattle.cli_facts.proofs.locks.inode_text.Goals as goal

pub returns : goal.returns
returns c = rw c.new-text.ensures at (contents_after_writes _ (λ t. t.bytes) (λ _ _ _ t. t) _ _ _ c.in_ok-write.ensures.writes)

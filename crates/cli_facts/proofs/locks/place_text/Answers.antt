use Rattle.cli_facts.specs.Locks.{place_text}
use Rattle.cli_facts.proofs.TextsOfLockLines.{holds_text}
use Rattle.cli_facts.proofs.locks.place_text.Goals as goal

pub returns : goal.returns
returns c = holds_text _ (λ t. t.bytes) (λ _ _ _ t. t) _ _ _ c.in_ok-write.ensures.writes c.new-text.ensures (place_text c.args.file) (rw (c.in_radix.ensures, c.laid_out.ensures, c.in_radix-2.ensures, c.laid_out-2.ensures))

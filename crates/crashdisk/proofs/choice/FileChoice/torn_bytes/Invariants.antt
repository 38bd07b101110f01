use Rattle.crashdisk.proofs.Words.{MatchOption, None, Some, last_torn, map, take, ◌≡◌}
use Rattle.crashdisk.proofs.choice.FileChoice.torn_bytes.Given as goal

abbrev pub invariant-loop-entry : goal.invariant-loop-entry
invariant-loop-entry l =
    MatchOption l.found (last_torn (map (λ entry. (entry.0, entry.1.items)) (take l.entry-index l.self.torn.items)) l.k ≡ None) (λ bytes. last_torn (map (λ entry. (entry.0, entry.1.items)) (take l.entry-index l.self.torn.items)) l.k ≡ Some bytes.now)

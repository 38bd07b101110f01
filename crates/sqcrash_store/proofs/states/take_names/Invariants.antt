use Rattle.std.proofs.Common.{◌≡◌, map, take}
use Rattle.std.specs.String.{string_bytes}
use Rattle.sqcrash_store.specs.States.{names_told}
use Rattle.sqcrash_store.proofs.states.take_names.Given as goal

abbrev pub invariant-loop-call : goal.invariant-loop-call
invariant-loop-call l = map (λ name. string_bytes name) l.names.items ≡ names_told l.trace (take l.call-index l.calls)

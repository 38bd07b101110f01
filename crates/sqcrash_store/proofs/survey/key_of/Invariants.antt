use Rattle.std.proofs.Common.{◌≡◌, take}
use Rattle.std.specs.Prelude.{fold, map, option_map}
use Rattle.std.specs.Hash.FoldHasher.{initial}
use Rattle.sqcrash_store.specs.Keys.{hashed}
use Rattle.sqcrash_store.proofs.survey.key_of.Given as goal

abbrev pub invariant-loop-shown : goal.invariant-loop-shown
invariant-loop-shown l = l.hasher ≡ fold hashed initial (map (λ bytes. option_map (λ v. v.items) bytes) (take l.shown-index l.shown-items))

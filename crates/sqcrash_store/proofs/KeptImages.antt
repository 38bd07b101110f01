-- Images that are handed over one behind the other.
use Rattle.std.proofs.Common.{List, [], ◌++◌, Option, Some, None, sym, ◌∙◌, ap, append_assoc}
use Rattle.std.proofs.lemmas.List.{append-nil}
use Rattle.sqcrash_store.specs.Judged.{Judged, Keeps}

-- none was handed over
pub keeps_none : (old : Option (List Judged)) → Keeps old old []
keeps_none None = tt
keeps_none (Some kept) = sym (append-nil kept)

-- more behind the first
pub keeps_more : (old mid new : Option (List Judged)) (xs ys : List Judged) → Keeps old mid xs → Keeps mid new ys → Keeps old new (xs ++ ys)
keeps_more None mid new xs ys first more = tt
keeps_more (Some kept) None new xs ys first more = absurd first
keeps_more (Some kept) (Some longer) None xs ys first more = absurd more
keeps_more (Some kept) (Some longer) (Some all) xs ys first more = more ∙ ap (λ (l : List Judged). l ++ ys) first ∙ append_assoc kept xs ys

-- What a moment makes is determined.
use Rattle.walcore.proofs.Below.{Act, Answer, BeginsLog, Bool, Checkpoints, Commits, Copies, Extends, IfBegun, IsExtended, List, Made, MadeByCommit, MadeByCopy, MadeByRestart, MadeBySync, Makes, Opens, Pages, Restarts, [], ap, content_of, false, has_begun, length, not, page_of, size_of, subst, sym, true, ℕ, ◌%◌, ◌&&◌, ◌==◌, ◌∙◌, ◌∷◌, ◌≡◌}
use Rattle.walcore.specs.Machine.{Syncs}
use Rattle.walcore.proofs.log.UniquenessOfExtendedLog.{begun_unique, extended_unique, count_unique}

begins_once : (size sequence salt1 salt2 : ℕ) (old new other : Made) → BeginsLog size sequence salt1 salt2 old new → BeginsLog size sequence salt1 salt2 old other → new ≡ other
begins_once size sequence salt1 salt2 old new other h g =
    h.2 ∙ (ap (λ (e : List ℕ). record { logs = e ∷ old.logs; unsynced = false }) (begun_unique size sequence salt1 salt2 h.0 g.0 h.1 g.1) ∙ sym g.2)

extends_once : (size : ℕ) (pages : Pages) (s : ℕ) (unsynced : Bool) (e : List ℕ) (rest : List (List ℕ)) (new other : Made) → Extends size pages s unsynced e rest new → Extends size pages s unsynced e rest other → new ≡ other
extends_once size pages s unsynced e rest new other h g =
    let n = count_unique size e g.1 h.1 g.2 h.2 in
    let is : IsExtended size e h.1 pages s g.0 = subst (λ n. IsExtended size e n pages s g.0) n g.3 in
    h.4 ∙ (ap (λ (f : List ℕ). record { logs = f ∷ rest; unsynced = unsynced }) (extended_unique size e h.1 pages s h.0 g.0 h.2 h.3 is) ∙ sym g.4)

copies_once : (size : ℕ) (e : List ℕ) (rest : List (List ℕ)) (new other : Made) → Copies size e rest new → Copies size e rest other → new ≡ other
copies_once size e rest new other h g =
    let n = count_unique size e g.0 h.0 g.1 h.1 in
    extends_once size ((page_of size e h.0, content_of size e h.0) ∷ []) (size_of size e h.0) false e rest new other h.2
    (subst (λ n. Extends size ((page_of size e n, content_of size e n) ∷ []) (size_of size e n) false e rest other) n g.2)

same : {old new other : Made} → new ≡ old → other ≡ old → new ≡ other
same h g = h ∙ sym g

restart_once : (size salt2 : ℕ) (logs : List (List ℕ)) (old new other : Made) → MadeByRestart size salt2 logs old new → MadeByRestart size salt2 logs old other → new ≡ other
restart_once size salt2 [] old new other h g = same h g
restart_once size salt2 (e ∷ rest) old new other h g = begins_once size _ _ salt2 old new other h g

commit_once : (size : ℕ) (pages : Pages) (s : ℕ) (logs : List (List ℕ)) (old new other : Made) → MadeByCommit size pages s logs old new → MadeByCommit size pages s logs old other → new ≡ other
commit_once size pages s [] old new other h g = same h g
commit_once size pages s (e ∷ rest) old new other h g = extends_once size pages s true e rest new other h g

copy_once : (copies : Bool) (size : ℕ) (e : List ℕ) (rest : List (List ℕ)) (new other : Made) → MadeByCopy copies size e rest new → MadeByCopy copies size e rest other → new ≡ other
copy_once true size e rest new other h g = copies_once size e rest new other h g
copy_once false size e rest new other h g = h ∙ sym g

sync_once : (size sector : ℕ) (tears : Bool) (logs : List (List ℕ)) (old new other : Made) → MadeBySync size sector tears logs old new → MadeBySync size sector tears logs old other → new ≡ other
sync_once size sector tears [] old new other h g = same h g
sync_once size sector tears (e ∷ rest) old new other h g = copy_once (tears && (old.unsynced && not (length e % sector == 0))) size e rest new other h g

if_begun : (begun : Bool) (old new other : Made) (P : Made → Type 0) → (P new → P other → new ≡ other) → IfBegun begun old new (P new) → IfBegun begun old other (P other) → new ≡ other
if_begun true old new other P once h g = once h g
if_begun false old new other P once h g = same h g

pub makes_once : (size sector : ℕ) (tears : Bool) (old : Made) (act : Act) (answer : Answer) (new other : Made) → Makes size sector tears old act answer new → Makes size sector tears old act answer other → new ≡ other
makes_once size sector tears old (Opens salts found) answer new other h g = begins_once size 0 salts.0 salts.1 old new other h g
makes_once size sector tears old (Restarts salt2) answer new other h g = if_begun (has_begun answer) old new other (MadeByRestart size salt2 old.logs old) (restart_once size salt2 old.logs old new other) h g
makes_once size sector tears old (Commits pages s) answer new other h g = if_begun (has_begun answer) old new other (MadeByCommit size pages s old.logs old) (commit_once size pages s old.logs old new other) h g
makes_once size sector tears old Syncs answer new other h g = if_begun (has_begun answer) old new other (MadeBySync size sector tears old.logs old) (sync_once size sector tears old.logs old new other) h g
makes_once size sector tears old Checkpoints answer new other h g = if_begun (has_begun answer) old new other (MadeBySync size sector tears old.logs old) (sync_once size sector tears old.logs old new other) h g
makes_once size sector tears old _ answer new other h g = same h g

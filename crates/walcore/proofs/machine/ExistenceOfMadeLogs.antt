-- Each moment of a run makes something of the logs.
use Rattle.walcore.proofs.Below.{Act, Answer, AreBytes, AreWords, BeginsLog, Bool, Checkpoints, CommitStep, Commits, Copies, Done, Extends, HasNewest, IfBegun, IsBegun, IsExtended, IsFaultless, IsInForce, IsLog, IsPageSize, List, Made, MadeByCommit, MadeByCopy, MadeByRestart, MadeBySync, Makes, None, Opens, Option, Pages, Passes, Refused, Refuses, Restarts, Some, State, Step, [], arith, begun_exists, closed, commit_refusal, committed, cond, cond_none, content_of, drop, false, few_refusals, frame_at, frame_at-end, frame_end, frame_end-le, frame_end-suc, frame_end-zero, get_or, get_or-drop, granted, has_begun, length, length-drop, length-take-le, lit<, mod_below, nat_tests, newest, not, page_of, part, refl, refusal_of, size_of, subst, suc, sym, take, true, word, word_fits, zero, ℕ, ◌%◌, ◌&&◌, ◌+◌, ◌<◌, ◌==◌, ◌^◌, ◌∙◌, ◌∷◌, ◌≡◌, ◌≤◌}
use Rattle.walcore.specs.Machine.{Syncs}
use Rattle.walcore.proofs.log.ExistenceOfExtendedLog.{IsFrame, AreFrames, size_fits, extended_exists}

-- something is made, of which the newest is a log again
abbrev MadeNext : (size : ℕ) → (Made → Type 0) → Type 0
MadeNext size P = (new : Made) × P new × HasNewest size new

newest_of : (size : ℕ) (e : List ℕ) (rest : List (List ℕ)) (unsynced : Bool) → IsInForce size unsynced e → HasNewest size (record { logs = e ∷ rest; unsynced = unsynced })
newest_of size e rest unsynced is f others same = let first : e ≡ f = cc same in subst (λ x. IsInForce size unsynced x) first is

begins_some : (size sequence salt1 salt2 : ℕ) (old : Made) → IsPageSize size → sequence < 2 ^ 32 → salt1 < 2 ^ 32 → salt2 < 2 ^ 32 → MadeNext size (BeginsLog size sequence salt1 salt2 old)
begins_some size sequence salt1 salt2 old is f0 f1 f2 =
    let begun = begun_exists size sequence salt1 salt2 is f0 f1 f2 in
    let e : List ℕ = begun.0 in
    let b : IsBegun size sequence salt1 salt2 e = begun.1 in
    let log : IsLog size e 0 = record { header = b.header; whole = b.alone ∙ sym (frame_end-zero size); all = λ j a z. absurd (omega arith) } in
    (record { logs = e ∷ old.logs; unsynced = false }, (e, b, refl), newest_of size e old.logs false (record { bytes = b.bytes; log = (0, log); frame = λ z. absurd (cc z) }))

extends_some : (size : ℕ) (pages : Pages) (s : ℕ) (unsynced : Bool) (e : List ℕ) (n : ℕ) (rest : List (List ℕ)) → AreBytes e → IsLog size e n → 1 ≤ length pages → AreFrames size pages s → MadeNext size (Extends size pages s unsynced e rest)
extends_some size pages s unsynced e n rest bytes log some frames =
    let extended = extended_exists size e n pages s bytes log frames in
    let f : List ℕ = extended.0 in
    let x : IsExtended size e n pages s f = extended.1 in
    let long : 32 < length f = omega (arith, x.log.whole, frame_end-le size 1 (n + length pages) (omega arith), frame_end-suc size 0, frame_end-zero size) in
    (record { logs = f ∷ rest; unsynced = unsynced }, (f, n, log, x, refl), newest_of size f rest unsynced (record { bytes = x.bytes; log = (n + length pages, x.log); frame = λ z. long }))

take_bytes : (n : ℕ) (xs : List ℕ) → AreBytes xs → AreBytes (take n xs)
take_bytes zero xs bytes i = lit< tt
take_bytes (suc n) [] bytes i = lit< tt
take_bytes (suc n) (x ∷ xs) bytes zero = bytes 0
take_bytes (suc n) (x ∷ xs) bytes (suc i) = take_bytes n xs (λ j. bytes (suc j)) i

part_bytes : (w : List ℕ) (at n : ℕ) → AreBytes w → AreBytes (part w at n)
part_bytes w at n bytes = take_bytes n (drop at w) (λ i. subst (λ x. x < 256) (sym (get_or-drop at w i 0)) (bytes (at + i)))

only : (P : ℕ → Type 0) (k : ℕ) → k < 1 → P 0 → P k
only P zero lt p = p
only P (suc k) lt p = absurd (omega arith)

-- the last frame of a log can be made again
copied_frames : (size : ℕ) (e : List ℕ) (n : ℕ) → AreBytes e → IsLog size e (suc n) → AreFrames size ((page_of size e (suc n), content_of size e (suc n)) ∷ []) (size_of size e (suc n))
copied_frames size e n bytes log =
    let passes : Passes size e (suc n) = log.all (suc n) (omega arith) (omega arith) in
    let at : ℕ = frame_at size (suc n) in
    let ends : at + 24 + size ≡ frame_end size (suc n) = frame_at-end size (suc n) (omega arith) in
    let pages : Pages = (page_of size e (suc n), content_of size e (suc n)) ∷ [] in
    let frame : IsFrame size (page_of size e (suc n)) (size_of size e (suc n)) (content_of size e (suc n)) = record {
      some = passes.page;
      page_fits = word_fits e at bytes;
      size_fits = word_fits e (at + 4) bytes;
      full = length-take-le size (drop (at + 24) e) (omega (arith, length-drop (at + 24) e, log.whole));
      bytes = part_bytes e (at + 24) size bytes;
    } in
    record { each = λ k lt. only (λ k. IsFrame size (get_or pages k (0, [])).0 (cond (suc k == length pages) (size_of size e (suc n)) 0) (get_or pages k (0, [])).1) k lt frame }

copies_some : (size : ℕ) (e : List ℕ) (n : ℕ) (rest : List (List ℕ)) → AreBytes e → IsLog size e n → 32 < length e → MadeNext size (Copies size e rest)
copies_some size e zero rest bytes log long = absurd (omega (arith, log.whole, frame_end-zero size))
copies_some size e (suc n) rest bytes log long =
    let more = extends_some size ((page_of size e (suc n), content_of size e (suc n)) ∷ []) (size_of size e (suc n)) false e (suc n) rest bytes log (omega arith) (copied_frames size e n bytes log) in
    (more.0, (suc n, log, more.1), more.2)

restart_some : (size salt2 : ℕ) (logs : List (List ℕ)) (old : Made) → IsPageSize size → salt2 < 2 ^ 32 → HasNewest size old → MadeNext size (MadeByRestart size salt2 logs old)
restart_some size salt2 [] old is fit has = (old, refl, has)
restart_some size salt2 (e ∷ rest) old is fit has = begins_some size ((word e 12 + 1) % 2 ^ 32) ((word e 16 + 1) % 2 ^ 32) salt2 old is (mod_below _ (2 ^ 32) (lit< tt)) (mod_below _ (2 ^ 32) (lit< tt)) fit

commit_some : (size : ℕ) (pages : Pages) (s : ℕ) (logs : List (List ℕ)) (old : Made) → old.logs ≡ logs → HasNewest size old → 1 ≤ length pages → AreFrames size pages s → MadeNext size (MadeByCommit size pages s logs old)
commit_some size pages s [] old same has some frames = (old, refl, has)
commit_some size pages s (e ∷ rest) old same has some frames =
    let force : IsInForce size old.unsynced e = has e rest same in
    extends_some size pages s true e force.log.0 rest force.bytes force.log.1 some frames

copy_some : (copies : Bool) (size : ℕ) (e : List ℕ) (n : ℕ) (rest : List (List ℕ)) → AreBytes e → IsLog size e n → (copies ≡ true → 32 < length e) → MadeNext size (MadeByCopy copies size e rest)
copy_some true size e n rest bytes log long = copies_some size e n rest bytes log (long refl)
copy_some false size e n rest bytes log long = (record { logs = e ∷ rest; unsynced = false }, refl, newest_of size e rest false (record { bytes = bytes; log = (n, log); frame = λ z. absurd (cc z) }))

middle : (a b c : Bool) → (a && (b && c)) ≡ true → b ≡ true
middle true true c h = refl
middle true false c h = absurd (cc h)
middle false b c h = absurd (cc h)

sync_some : (size sector : ℕ) (tears : Bool) (logs : List (List ℕ)) (old : Made) → old.logs ≡ logs → HasNewest size old → MadeNext size (MadeBySync size sector tears logs old)
sync_some size sector tears [] old same has = (old, refl, has)
sync_some size sector tears (e ∷ rest) old same has =
    let force : IsInForce size old.unsynced e = has e rest same in
    copy_some (tears && (old.unsynced && not (length e % sector == 0))) size e force.log.0 rest force.bytes force.log.1 (λ z. force.frame (middle tears old.unsynced (not (length e % sector == 0)) z))

-- a call that hasn't begun makes nothing
if_begun_some : (size : ℕ) (begun : Bool) (old : Made) (P : Made → Type 0) → HasNewest size old → (begun ≡ true → MadeNext size P) → MadeNext size (λ new. IfBegun begun old new (P new))
if_begun_some size true old P has some = some refl
if_begun_some size false old P has some = (old, refl, has)

not_fifteen : {S : Type 0} (first : Option ℕ) (n : ℕ) (m : Bool) (failed : S) (b a : ℕ) (old new : S) → n ≡ 15 → ((k : ℕ) → first ≡ Some k → k < 11) → Refuses first m failed b a old n new → first ≡ None
not_fifteen None n m failed b a old new e few h = refl
not_fifteen (Some k) n m failed b a old new e few h = let lt : k < 11 = few k refl in let same : n ≡ k = h.0 in absurd (omega arith)

begun_granted : (s : State) (pages : Pages) (size : ℕ) (answer : Answer) (b a : ℕ) (t : State) → CommitStep s pages size answer b a t → has_begun answer ≡ true → commit_refusal s pages size ≡ None
begun_granted s pages size Done b a t h begun = h.0
begun_granted s pages size (Refused n) b a t h begun =
    not_fifteen (commit_refusal s pages size) n true (closed (committed s pages size)) b a s t (let e : n ≡ 15 = grind (arith, nat_tests, begun) in e) (few_refusals s pages size) h
begun_granted s pages size _ b a t h begun = absurd h

pub makes_some : (sector : ℕ) (tears : Bool) (s : State) (old : Made) (act : Act) (answer : Answer) (b a : ℕ) (t : State) → IsPageSize s.page_size → HasNewest s.page_size old → AreWords act → Step s act answer b a t
    → MadeNext s.page_size (Makes s.page_size sector tears old act answer)
makes_some sector tears s old (Opens salts found) answer b a t is has fit h = begins_some s.page_size 0 salts.0 salts.1 old is (lit< tt) fit.0 fit.1
makes_some sector tears s old (Restarts salt2) answer b a t is has fit h =
    if_begun_some s.page_size (has_begun answer) old (MadeByRestart s.page_size salt2 old.logs old) has (λ _. restart_some s.page_size salt2 old.logs old is fit has)
makes_some sector tears s old (Commits pages size) answer b a t is has fit h =
    if_begun_some s.page_size (has_begun answer) old (MadeByCommit s.page_size pages size old.logs old) has (λ begun.
    let none = cond_none s.is_open (refusal_of (length (newest s.history)) s.page_size s.used pages size) (begun_granted s pages size answer b a t h begun) in
    let g : IsFaultless (length (newest s.history)) s.page_size pages size = granted (length (newest s.history)) s.page_size s.used pages size none in
    commit_some s.page_size pages size old.logs old refl has g.some (record {
      each = λ k lt. record {
        some = let page : 1 ≤ (get_or {A = ℕ × List ℕ} pages k (0, [])).0 = g.above_zero k lt in omega arith;
        page_fits = (fit.1 k lt).0;
        size_fits = size_fits (suc k == length pages) size fit.0;
        full = g.full k lt;
        bytes = (fit.1 k lt).1;
      };
    }))
makes_some sector tears s old Syncs answer b a t is has fit h =
    if_begun_some s.page_size (has_begun answer) old (MadeBySync s.page_size sector tears old.logs old) has (λ _. sync_some s.page_size sector tears old.logs old refl has)
makes_some sector tears s old Checkpoints answer b a t is has fit h =
    if_begun_some s.page_size (has_begun answer) old (MadeBySync s.page_size sector tears old.logs old) has (λ _. sync_some s.page_size sector tears old.logs old refl has)
makes_some sector tears s old _ answer b a t is has fit h = (old, refl, has)

-- Commits at marks that wait, the next one last.
use Rattle.std.proofs.Common.{◌≡◌, ℕ, ◌-◌, ◌<◌, Bool, cond, List, [], ◌∷◌, ◌++◌, length, get_or, drop, map, reverse, refl, sym, ◌∙◌, ap, subst, length-append, arith}
use Rattle.std.proofs.lemmas.List.{reverse-append, reverse-reverse}
use Rattle.rig_images.specs.Left.{IsPresent}
use Rattle.rig_images.specs.declared.image.Image.{Image}
use Rattle.rig_judge.specs.Shown.{IsShowing, commit_of}
use Rattle.rig_judge.specs.declared.snapshot.Snapshot.{Snapshot}
use Rattle.sqcrash.specs.Runs.{RunState, TakesWaiting}
use Rattle.sqcrash.specs.Snapshots.{TakesLastOf}

-- the last of a list is the first of it turned
pub split_last : {X : Type 0} (xs rest : List X) (next : X) → reverse xs ≡ next ∷ rest → xs ≡ reverse rest ++ next ∷ []
split_last xs rest next e = sym (reverse-reverse xs) ∙ ap reverse e ∙ reverse-append (next ∷ []) rest

last_behind : {X : Type 0} (before : List X) (next d : X) → get_or (before ++ next ∷ []) (length before) d ≡ next
last_behind [] next d = refl
last_behind (x ∷ before) next d = last_behind before next d

pub last_of : {X : Type 0} (xs rest : List X) (next d : X) → reverse xs ≡ next ∷ rest → get_or xs (length xs - 1) d ≡ next
last_of xs rest next d e =
    let before = reverse rest in
    let whole = split_last xs rest next e in
    let n : length xs - 1 ≡ length before = omega (arith, ap length whole, length-append before (next ∷ [])) in
    ap (λ (k : ℕ). get_or xs k d) n ∙ ap (λ l. get_or l (length before) d) whole ∙ last_behind before next d

-- what is taken from the end
pub taken_last : {X : Type 0} (xs left rest : List X) (next t : X) → xs ≡ left ++ t ∷ [] → reverse xs ≡ next ∷ rest → t ∷ reverse left ≡ next ∷ rest
taken_last xs left rest next t is e = sym (reverse-append left (t ∷ [])) ∙ sym (ap reverse is) ∙ e

pub first_of : {X : Type 0} (t next : X) (left rest : List X) → t ∷ left ≡ next ∷ rest → t ≡ next
first_of t next left rest e = ap (λ l. get_or l 0 t) e

pub rest_of : {X : Type 0} (t next : X) (left rest : List X) → t ∷ left ≡ next ∷ rest → left ≡ rest
rest_of t next left rest e = ap (λ l. drop 1 l) e

-- the next one is taken where it is shown
pub takes_waiting : (turned : List Snapshot) (thread : ℕ) (old new : RunState) (present : Image) (shown : Bool) → IsPresent old.files present
    → ((next : Snapshot) (rest : List Snapshot) → turned ≡ next ∷ rest → IsShowing (commit_of next) present.db.items present.wal.items present.journal.items shown)
    → (turned ≡ [] → new ≡ old)
    → ((next : Snapshot) (rest : List Snapshot) → turned ≡ next ∷ rest
    → new ≡ cond shown (record old { commits = old.commits ++ commit_of next ∷ []; makers = old.makers ++ thread ∷ []; waiting = map commit_of rest }) old)
    → TakesWaiting (map commit_of turned) thread old new
takes_waiting [] thread old new present shown is_present is_shown none goes = none refl
takes_waiting (next ∷ rest) thread old new present shown is_present is_shown none goes =
    record { present = present; is_present = is_present; shown = shown; is_shown = is_shown next rest refl; goes = goes next rest refl }

-- none is left
pub takes_none : (items : List Snapshot) (thread : ℕ) (s : RunState) → length items ≡ 0 → TakesWaiting (map commit_of (reverse items)) thread s s
takes_none [] thread s e = refl
takes_none (x ∷ items) thread s e = absurd (omega arith)

-- some are
pub some_left : (items : List Snapshot) → 0 < length items → reverse items ≡ [] → ⊥
some_left items some e = let none : items ≡ [] = sym (reverse-reverse items) ∙ ap reverse e in let n : length items ≡ 0 = ap length none in omega arith

-- the one that was taken from the end
pub took_last : (items left : List Snapshot) (t : Snapshot) (thread : ℕ) (old new : RunState) → items ≡ left ++ t ∷ []
    → new ≡ record old { commits = old.commits ++ commit_of t ∷ []; makers = old.makers ++ thread ∷ []; waiting = map commit_of (reverse left) }
    → TakesLastOf items thread old new
took_last items left t thread old new is goes next rest e =
    let both = taken_last items left rest next t is e in
    goes
    ∙ ap (λ (s : Snapshot). record old { commits = old.commits ++ commit_of s ∷ []; makers = old.makers ++ thread ∷ []; waiting = map commit_of (reverse left) }) (first_of t next (reverse left) rest both)
    ∙ ap (λ (l : List Snapshot). record old { commits = old.commits ++ commit_of next ∷ []; makers = old.makers ++ thread ∷ []; waiting = map commit_of l }) (rest_of t next (reverse left) rest both)

-- files show a commit, by their bytes
pub showing_of : (s t : Snapshot) (a b d db wal journal : List ℕ) (shown : Bool) → s ≡ t → a ≡ db → b ≡ wal → d ≡ journal → IsShowing (commit_of s) a b d shown → IsShowing (commit_of t) db wal journal shown
showing_of s t a b d db wal journal shown h e f g is =
    subst (λ (x : Snapshot). IsShowing (commit_of x) db wal journal shown) h
    (subst (λ (x : List ℕ). IsShowing (commit_of s) x wal journal shown) e
    (subst (λ (x : List ℕ). IsShowing (commit_of s) a x journal shown) f
    (subst (λ (x : List ℕ). IsShowing (commit_of s) a b x shown) g is)))

pub some_listed : {X : Type 0} (xs rest : List X) (next : X) → reverse xs ≡ next ∷ rest → 0 < length xs
some_listed xs rest next e = let n = ap length (split_last xs rest next e) in omega (arith, n, length-append (reverse rest) (next ∷ []))

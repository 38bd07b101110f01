-- Calls of a disk, one after another.
use Rattle.crashdisk.proofs.Words.{Bool, Change, Cuts, Db, DiskError, DiskState, Elsewhere, Err, File, GoesThrough, HasCalls, IsCall, List, Log, Looks, Ok, Result, SinceSync, Syncs, Writes, [], false, inl, inr, refl, set_len, subst, sync, true, with_write, write, ℕ, ◌++◌, ◌∙◌, ◌∷◌, ◌≡◌}

pub no_calls : {May : Change → Type 0} (s : DiskState) → HasCalls May s s
no_calls s = record { states = []; each = refl }

one : {May : Change → Type 0} (a b : DiskState) → IsCall May a b → HasCalls May a b
one a b call = record { states = b ∷ []; each = (call, refl) }

further : (May : Change → Type 0) (first second : List DiskState) (a b c : DiskState) → GoesThrough May first a b → GoesThrough May second b c → GoesThrough May (first ++ second) a c
further May [] second a b c same then = subst (λ (s : DiskState). GoesThrough May second s c) same then
further May (mid ∷ first) second a b c calls then = (calls.0, further May first second mid b c calls.1 then)

pub calls_then : {May : Change → Type 0} (a b c : DiskState) → HasCalls May a b → HasCalls May b c → HasCalls May a c
calls_then {May} a b c first second = record { states = first.states ++ second.states; each = further May first.states second.states a b c first.each second.each }

-- where more may be asked for
module _ {May Might : Change → Type 0} (more : (change : Change) → May change → Might change) where
  wider_call : (a b : DiskState) → IsCall May a b → IsCall Might a b
  wider_call a b (inl is) = inl (is.0, is.1, is.2, is.3, more (write is.0 is.1 is.2) is.4, is.5)
  wider_call a b (inr (inl is)) = inr (inl (is.0, is.1, is.2, more (set_len is.0 is.1) is.3, is.4))
  wider_call a b (inr (inr (inl is))) = inr (inr (inl (is.0, is.1, more (sync is.0) is.2, is.3)))
  wider_call a b (inr (inr (inr look))) = inr (inr (inr look))

  wider_states : (states : List DiskState) (a b : DiskState) → GoesThrough May states a b → GoesThrough Might states a b
  wider_states [] a b same = same
  wider_states (mid ∷ states) a b calls = (wider_call a mid calls.0, wider_states states mid b calls.1)

  pub calls_wider : (a b : DiskState) → HasCalls May a b → HasCalls Might a b
  calls_wider a b calls = record { states = calls.states; each = wider_states calls.states a b calls.each }

-- ---- One call, whatever its answer gives.

module _ {T : Type 0} where
  abbrev bare : Result T DiskError → Result (Unit {0}) DiskError
  bare (Ok _) = Ok tt
  bare (Err e) = Err e

  bare_look : (end : ℕ) (r : Result T DiskError) (a b : DiskState) → Looks end r a b → Looks end (bare r) a b
  bare_look end (Ok x) a b is = assumption
  bare_look end (Err e) a b is = assumption

  pub one_look : {May : Change → Type 0} (end : ℕ) (r : Result T DiskError) (a b : DiskState) → Looks end r a b → HasCalls May a b
  one_look end r a b is = one a b (inr (inr (inr (end, bare r, bare_look end r a b is))))

  bare_place : (f : File) (r : Result T DiskError) (a b : DiskState) → Elsewhere f r a b → Elsewhere f (bare r) a b
  bare_place f (Ok x) a b is = assumption
  bare_place f (Err e) a b is = assumption

  bare_cut : (f : File) (n : ℕ) (r : Result T DiskError) (a b : DiskState) → Cuts f n r a b → Cuts f n (bare r) a b
  bare_cut f n (Ok x) a b is = assumption (bare_place f (Ok x) a b is.elsewhere)
  bare_cut f n (Err e) a b is = assumption (bare_place f (Err e) a b is.elsewhere)

  pub one_cut : {May : Change → Type 0} (f : File) (n : ℕ) (r : Result T DiskError) (a b : DiskState) → May (set_len f n) → Cuts f n r a b → HasCalls May a b
  one_cut f n r a b may is = one a b (inr (inl (f, n, bare r, may, bare_cut f n r a b is)))

  bare_handed : (tears : Bool) (f : File) (r : Result T DiskError) (at : ℕ) (bytes : List ℕ) (handed : List (ℕ × List ℕ)) → with_write tears f r at bytes handed ≡ with_write tears f (bare r) at bytes handed
  bare_handed true Log (Ok x) at bytes handed = refl
  bare_handed true Log (Err e) at bytes handed = refl
  bare_handed true Db r at bytes handed = refl
  bare_handed false f r at bytes handed = refl

  bare_write : (f : File) (at : ℕ) (bytes : List ℕ) (r : Result T DiskError) (a b : DiskState) → Writes f at bytes r a b → Writes f at bytes (bare r) a b
  bare_write f at bytes (Ok x) a b is = assumption (bare_place f (Ok x) a b is.elsewhere, is.handed ∙ bare_handed a.tears f (Ok x) at bytes a.handed)
  bare_write f at bytes (Err e) a b is = assumption (bare_place f (Err e) a b is.elsewhere, is.handed ∙ bare_handed a.tears f (Err e) at bytes a.handed)

  pub one_write : {May : Change → Type 0} (f : File) (at : ℕ) (bytes : List ℕ) (r : Result T DiskError) (a b : DiskState) → May (write f at bytes) → Writes f at bytes r a b → HasCalls May a b
  one_write f at bytes r a b may is = one a b (inl (f, at, bytes, bare r, may, bare_write f at bytes r a b is))

  bare_since : (tears : Bool) (f : File) (r : Result T DiskError) (a b : DiskState) → SinceSync tears f r a b → SinceSync tears f (bare r) a b
  bare_since true Log (Ok x) a b is = is
  bare_since true Log (Err e) a b is = is
  bare_since true Db r a b is = is
  bare_since false f r a b is = is

  bare_sync : (f : File) (r : Result T DiskError) (a b : DiskState) → Syncs f r a b → Syncs f (bare r) a b
  bare_sync f (Ok x) a b is = assumption (bare_place f (Ok x) a b is.elsewhere, bare_since a.tears f (Ok x) a b is.since)
  bare_sync f (Err e) a b is = assumption (bare_place f (Err e) a b is.elsewhere, bare_since a.tears f (Err e) a b is.since)

  pub one_sync : {May : Change → Type 0} (f : File) (r : Result T DiskError) (a b : DiskState) → May (sync f) → Syncs f r a b → HasCalls May a b
  one_sync f r a b may is = one a b (inr (inr (inl (f, bare r, may, bare_sync f r a b is))))

-- The entries of an index, judged one after another.
use Rattle.std.proofs.Common.{◌≡◌, ◌<◌, ◌≤◌, ◌+◌, zero, suc, take, ◌∙◌, ⊎_elim, inl, inr, ℕ, Bool, true, false, cond, List, [], ◌∷◌, ◌++◌, length, slice_get, Option, Some, None, is_some, ℤ, refl, sym, ap, subst, arith, count_by}
use Rattle.std.proofs.lemmas.List.Elements.{All-push}
use Rattle.std.proofs.lemmas.List.Sums.{sum_by-append}
use Rattle.std.proofs.lemmas.Option.{slice_get_within}
use Rattle.sqlite_record.specs.Record.{decode}
use Rattle.std.specs.Ordering.{ordering_then}
use Rattle.std.specs.declared.cmp.Ordering.TheVariants.{Less}
use Rattle.sqlite_value.specs.declared.keys.Order.{Order}
use Rattle.sqlite_value.specs.declared.value.Value.TheVariants.{Int}
use Rattle.sqlite_value.specs.Keys.{by_key, first_key, later, entry_cmp, prefix_cmp}
use Rattle.sqlite_value.specs.Order.{Row}
use Rattle.sqkeys.specs.declared.key.IndexKey.{IndexKey}
use Rattle.sqindex.specs.declared.error.EntryError.{EntryError}
use Rattle.sqindex.specs.declared.fault.IndexFault.{IndexFault}
use Rattle.sqindex.specs.declared.fault.IndexFault.TheVariants as faults
use Rattle.sqindex.specs.declared.last.Last.{Last}
use Rattle.sqindex.specs.Stored.{Stored}
use Rattle.sqindex.specs.Keys.{values_of, has_rowid, IsKeyed}
use Rattle.sqindex.specs.Rules.{width, IsSameKey}
use Rattle.sqindex.specs.Indexes.{EntryRefused}
use Rattle.sqindex.specs.internal.Judging.{IsBehind, NotBehind, AreSoundEntries}
use Rattle.sqindex.specs.internal.KeyedScanning.{IsBefore}
use Rattle.sqindex.specs.internal.Streaming.{before_of, IsNext, MayStand, MayNotStand, IsStream}
use Rattle.sqindex.proofs.Places.{at_once, some_once, get_left, get_here, get_push}

-- rows whose first columns rise
less_first : (o : Order) (a b : Row) (m n : ℤ) → slice_get a 0 ≡ Some (Int m) → slice_get b 0 ≡ Some (Int n) → by_key (first_key o) (Int m) (Int n) ≡ Less → entry_cmp o a b ≡ Less
less_first o [] b m n front next less = absurd (cc)
less_first o (x ∷ a) [] m n front next less = absurd (cc)
less_first o (x ∷ a) (y ∷ b) m n front next less =
    let e : by_key (first_key o) x y ≡ Less = ap (λ v. by_key (first_key o) v y) (some_once x (Int m) front) ∙ ap (by_key (first_key o) (Int m)) (some_once y (Int n) next) ∙ less in
    ap (λ z. ordering_then z (entry_cmp (later o) a b)) e

less_prefix : (o : Order) (a b : Row) (m n : ℤ) (k : ℕ) → 0 < k → slice_get a 0 ≡ Some (Int m) → slice_get b 0 ≡ Some (Int n) → by_key (first_key o) (Int m) (Int n) ≡ Less → prefix_cmp o a (take k b) ≡ Less
less_prefix o a b m n zero some front next less = absurd (omega (arith, some))
less_prefix o [] b m n (suc k) some front next less = absurd (cc)
less_prefix o (x ∷ a) [] m n (suc k) some front next less = absurd (cc)
less_prefix o (x ∷ a) (y ∷ b) m n (suc k) some front next less =
    let e : by_key (first_key o) x y ≡ Less = ap (λ v. by_key (first_key o) v y) (some_once x (Int m) front) ∙ ap (by_key (first_key o) (Int m)) (some_once y (Int n) next) ∙ less in
    ap (λ z. ordering_then z (prefix_cmp (later o) a (take k b))) e

pub behind_by_first : (key : IndexKey) (a b : Row) (m n : ℤ) → 0 < width key → slice_get a 0 ≡ Some (Int m) → slice_get b 0 ≡ Some (Int n) → by_key (first_key key.order) (Int m) (Int n) ≡ Less → IsBehind key a b
behind_by_first key a b m n some front next less = record {
  behind = less_first key.order a b m n front next less;
  apart = λ unique same. let e = less_prefix key.order a b m n (width key) some front next less in let h = sym e ∙ same.0 in cc;
}

-- the entry that came last, as it is held
pub none_before : (last : Last) → last.some ≡ false → IsBefore [] (before_of last)
none_before last none = subst (λ (b : Bool). IsBefore [] (cond b (Some last.bytes.items) None)) (sym none) refl

pub held_before : (xs : List Stored) (last : Last) (bytes : List ℕ) → last.some ≡ true → last.bytes.items ≡ bytes → IsBefore xs (Some bytes) → IsBefore xs (before_of last)
held_before xs last bytes some is h =
    subst (λ (b : Bool). IsBefore xs (cond b (Some last.bytes.items) None)) (sym some) (subst (λ (z : List ℕ). IsBefore xs (Some z)) (sym is) h)

pub next_of_none : (key : IndexKey) (last : Last) (entry : List ℕ) → last.some ≡ false → IsNext key (before_of last) entry
next_of_none key last entry none = subst (λ (b : Bool). IsNext key (cond b (Some last.bytes.items) None) entry) (sym none) tt

pub next_of_some : (key : IndexKey) (last : Last) (entry : List ℕ) → last.some ≡ true → IsBehind key (decode last.bytes.items) (decode entry) → IsNext key (before_of last) entry
next_of_some key last entry some h = subst (λ (b : Bool). IsNext key (cond b (Some last.bytes.items) None) entry) (sym some) h

pub not_next : (key : IndexKey) (last : Last) (entry : List ℕ) (fault : IndexFault) → last.some ≡ true → NotBehind key (decode last.bytes.items) (decode entry) fault → MayNotStand key (before_of last) entry fault
not_next key last entry fault some h = inr (last.bytes.items, subst (λ (b : Bool). cond b (Some last.bytes.items) None ≡ Some last.bytes.items) (sym some) refl, h)

module _ (key : IndexKey) where
  pub none_streamed : IsStream key [] None
  none_streamed = record { formed = λ i d less. absurd (omega (arith, less)); ascend = λ i a b at next. absurd (cc); apart = λ unique i a b at next. absurd (cc) }

  -- what holds of each entry and the next one goes on holding with one more
  next_push : (R : Stored → Stored → Type 0) (xs : List Stored) (x : Stored) → ((i : ℕ) (a b : Stored) → slice_get xs i ≡ Some a → slice_get xs (i + 1) ≡ Some b → R a b)
      → ((h : ℕ) (a : Stored) → h + 1 ≡ length xs → slice_get xs h ≡ Some a → R a x) → (i : ℕ) (a b : Stored) → slice_get (xs ++ x ∷ []) i ≡ Some a → slice_get (xs ++ x ∷ []) (i + 1) ≡ Some b → R a b
  next_push R xs x up last i a b at next = ⊎_elim
      (λ (old : slice_get xs (i + 1) ≡ Some b). ⊎_elim
      (λ (here : slice_get xs i ≡ Some a). up i a b here old)
      (λ new. absurd (let within = slice_get_within xs (i + 1) b old in omega (arith, new.0, within)))
      (get_push xs x i a at))
      (λ new. ⊎_elim
      (λ (here : slice_get xs i ≡ Some a). subst (λ (z : Stored). R a z) (sym new.1) (last i a new.0 here))
      (λ also. absurd (omega (arith, new.0, also.0)))
      (get_push xs x i a at))
      (get_push xs x (i + 1) b next)

  -- the entry before one
  before_is : (xs : List Stored) (before : Option (List ℕ)) (x : Stored) (h : ℕ) (a : Stored) → IsBefore xs before → IsNext key before x.bytes → h + 1 ≡ length xs → slice_get xs h ≡ Some a
      → IsBehind key (values_of a) (values_of x)
  before_is xs None x h a none next end at = absurd (let few : length xs ≡ 0 = ap length none in omega (arith, few, end))
  before_is xs (Some bytes) x h a held next end at =
      let place : h ≡ held.0 = omega (arith, end, held.2) in
      let same : a ≡ held.1 = at_once xs held.0 a held.1 (subst (λ k. slice_get xs k ≡ Some a) place at) held.3 in
      let of_a : a.bytes ≡ bytes = ap (λ (z : Stored). z.bytes) same ∙ held.4 in
      subst (λ (z : List ℕ). IsBehind key (decode z) (values_of x)) (sym of_a) next

  pub streamed_next : (xs : List Stored) (before : Option (List ℕ)) (x : Stored) → AreSoundEntries key xs → IsBefore xs before → MayStand key before x.bytes → AreSoundEntries key (xs ++ x ∷ [])
  streamed_next xs before x w held may = record {
    formed = All-push (λ entry. (rowid : ℤ) × IsKeyed (width key) rowid (values_of entry)) xs x w.formed may.formed;
    ascend = next_push (λ a b. entry_cmp key.order (values_of a) (values_of b) ≡ Less) xs x w.ascend (λ h a end at. (before_is xs before x h a held may.behind end at).behind);
    apart = λ unique. next_push (λ a b. ¬ IsSameKey key.order (width key) (values_of a) (values_of b)) xs x (w.apart unique) (λ h a end at. (before_is xs before x h a held may.behind end at).apart unique);
  }

  -- the fault of an entry that may not stand there
  pub streamed_fault : (xs : List Stored) (before : Option (List ℕ)) (x : Stored) (fault : IndexFault) → IsBefore xs before → MayNotStand key before x.bytes fault
      → IsStream key (xs ++ x ∷ []) (Some (record { fault = fault; page = x.page; cell = x.cell }))
  streamed_fault xs before x fault held (inl h) = (length xs, x, get_here xs x [], refl, refl, subst (EntryRefused key (xs ++ x ∷ []) (length xs) x) (sym h.0) h.1)
  streamed_fault xs before x fault held (inr h) = (length xs, x, get_here xs x [], refl, refl, behind fault (subst (IsBefore xs) h.1 held) h.2)
    where
      behind : (fault : IndexFault) → IsBefore xs (Some h.0) → NotBehind key (decode h.0) (decode x.bytes) fault → EntryRefused key (xs ++ x ∷ []) (length xs) x fault
      behind faults.EntryOrder b n =
          (b.0, b.1, b.2, get_left xs (x ∷ []) b.0 b.1 b.3, subst (λ (z : List ℕ). NotBehind key (decode z) (decode x.bytes) faults.EntryOrder) (sym b.4) n)
      behind faults.KeyTwice b n =
          let m = subst (λ (z : List ℕ). NotBehind key (decode z) (decode x.bytes) faults.KeyTwice) (sym b.4) n in
          (m.0, (b.0, b.1, b.2, get_left xs (x ∷ []) b.0 b.1 b.3, m.1))
      behind faults.EntryForm b n = absurd n
      behind faults.EntryOfNoRow b n = absurd n
      behind faults.RowWithoutEntry b n = absurd n
      behind faults.RowTwice b n = absurd n

  -- the first fault stays
  stays : (xs : List Stored) (x y : Stored) (i : ℕ) (fault : IndexFault) → EntryRefused key xs i y fault → EntryRefused key (xs ++ x ∷ []) i y fault
  stays xs x y i faults.EntryForm h = h
  stays xs x y i faults.EntryOrder h = (h.0, h.1, h.2, get_left xs (x ∷ []) h.0 h.1 h.3, h.4)
  stays xs x y i faults.KeyTwice h = let b = h.1 in (h.0, (b.0, b.1, b.2, get_left xs (x ∷ []) b.0 b.1 b.3, b.4))
  stays xs x y i faults.RowTwice h =
      let test : Stored → Bool = λ e. has_rowid (width key) h.0 (values_of e) in
      let all : count_by test (xs ++ x ∷ []) ≡ count_by test xs + count_by test (x ∷ []) = sum_by-append (λ e. cond (test e) 1 0) xs (x ∷ []) in
      let two : 2 ≤ count_by test xs = h.2 in
      (h.0, h.1, omega (arith, all, two))
  stays xs x y i faults.EntryOfNoRow h = absurd h
  stays xs x y i faults.RowWithoutEntry h = absurd h

  pub streamed_still : (xs : List Stored) (x : Stored) (fault : Option EntryError) → is_some fault ≡ true → IsStream key xs fault → IsStream key (xs ++ x ∷ []) fault
  streamed_still xs x None some w = absurd (cc)
  streamed_still xs x (Some e) some w = (w.0, w.1, get_left xs (x ∷ []) w.0 w.1 w.2, w.3, w.4, stays xs x w.1 w.0 e.fault w.5)

  pub streamed_sound : (xs : List Stored) (fault : Option EntryError) → is_some fault ≡ false → IsStream key xs fault → AreSoundEntries key xs
  streamed_sound xs None none w = w
  streamed_sound xs (Some e) none w = absurd (cc)

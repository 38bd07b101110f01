-- Entries that lie in memory.
use Rattle.std.proofs.Common.{◌≡◌, ◌≤◌, ◌<◌, ◌+◌, ◌∙◌, ⊎_elim, ℕ, Bool, true, false, zero, suc, List, [], ◌∷◌, ◌++◌, map, length, take, drop, None, refl, sym, ap, ap₂, arith, All, length-drop, length-append, append-nil, slice_set, get_or}
use Rattle.std.specs.Prelude.{nat_le, if◌then◌else◌}
use Rattle.std.proofs.lemmas.Bool.{cases_lt}
use Rattle.std.proofs.lemmas.Bool.Decides.{nat_tests}
use Rattle.std.proofs.lemmas.List.{map-append, take-append-le, drop-append-le, take_all}
use Rattle.std.proofs.lemmas.List.Elements.{All-head, All-tail, All-push}
use Rattle.sqindex.specs.declared.entries.Held.{Held}
use Rattle.sqindex.specs.Stored.{Stored}
use Rattle.sqindex.specs.internal.Bodies.{start_in, size_in}
use Rattle.sqindex.specs.internal.Held.{payload_in, held_in}

at_end : (bytes more : List ℕ) → drop (length bytes) (bytes ++ more) ≡ more
at_end [] more = refl
at_end (b ∷ bytes) more = at_end bytes more

at_true : (c : Bool) (x y : List ℕ) → c ≡ true → (if c then x else y) ≡ x
at_true c x y is = ap (λ (b : Bool). if b then x else y) is

at_false : (c : Bool) (x y : List ℕ) → c ≡ false → (if c then x else y) ≡ y
at_false c x y is = ap (λ (b : Bool). if b then x else y) is

-- where the payload of an entry lies
pub inside : (bytes : List ℕ) (h : Held) → h.size ≤ 16 → payload_in bytes h ≡ take h.size h.body
inside bytes h few =
    let is : nat_le h.size 16 ≡ true = grind (arith, nat_tests) in
    at_true (nat_le h.size 16) (take h.size h.body) (take (size_in h.body) (drop (start_in h.body) bytes)) is

pub behind : (bytes : List ℕ) (h : Held) → 16 < h.size → payload_in bytes h ≡ take (size_in h.body) (drop (start_in h.body) bytes)
behind bytes h many =
    let is : nat_le h.size 16 ≡ false = grind (arith, nat_tests) in
    at_false (nat_le h.size 16) (take h.size h.body) (take (size_in h.body) (drop (start_in h.body) bytes)) is

-- what lies in the bytes lies there when more are behind
same_part : (bytes more : List ℕ) (start size : ℕ) → start + size ≤ length bytes → take size (drop start (bytes ++ more)) ≡ take size (drop start bytes)
same_part bytes more start size room =
    let front : drop start (bytes ++ more) ≡ drop start bytes ++ more = drop-append-le start bytes more (omega (arith, room)) in
    let part : take size (drop start bytes ++ more) ≡ take size (drop start bytes) = take-append-le size (drop start bytes) more (omega (arith, room, length-drop start bytes)) in
    ap (take size) front ∙ part

same_payload : (bytes more : List ℕ) (h : Held) → (16 < h.size → start_in h.body + size_in h.body ≤ length bytes) → payload_in (bytes ++ more) h ≡ payload_in bytes h
same_payload bytes more h within = ⊎_elim
    (λ (many : 16 < h.size). behind (bytes ++ more) h many ∙ same_part bytes more (start_in h.body) (size_in h.body) (within many) ∙ sym (behind bytes h many))
    (λ (few : h.size ≤ 16). inside (bytes ++ more) h few ∙ sym (inside bytes h few))
    (cases_lt 16 h.size)

with_bytes : Held → List ℕ → Stored
with_bytes h bytes = record { page = h.page; cell = h.cell; rowid = None; bytes = bytes }

all_held : (bytes more : List ℕ) (list : List Held) → All (λ h. 16 < h.size → start_in h.body + size_in h.body ≤ length bytes) list → map (held_in (bytes ++ more)) list ≡ map (held_in bytes) list
all_held bytes more [] within = refl
all_held bytes more (h ∷ list) within =
    let P : Held → Type 0 = λ h. 16 < h.size → start_in h.body + size_in h.body ≤ length bytes in
    ap₂ (λ (x : List ℕ) (xs : List Stored). record { page = h.page; cell = h.cell; rowid = None; bytes = x } ∷ xs) (same_payload bytes more h (All-head P h list within)) (all_held bytes more list (All-tail P h list within))

-- the bytes that hold the payloads with one more
abbrev pub bytes_with : (bytes payload : List ℕ) → List ℕ
bytes_with bytes payload = (if nat_le (length payload) 16 then bytes else bytes ++ payload)

more_held : (bytes more : List ℕ) (list : List Held) (payload : List ℕ) (h : Held) → All (λ h. 16 < h.size → start_in h.body + size_in h.body ≤ length bytes) list → payload_in (bytes ++ more) h ≡ payload
    → map (held_in (bytes ++ more)) (list ++ h ∷ []) ≡ map (held_in bytes) list ++ record { page = h.page; cell = h.cell; rowid = None; bytes = payload } ∷ []
more_held bytes more list payload h within own =
    map-append (held_in (bytes ++ more)) list (h ∷ [])
    ∙ ap₂ (λ (xs : List Stored) (x : List ℕ). xs ++ record { page = h.page; cell = h.cell; rowid = None; bytes = x } ∷ []) (all_held bytes more list within) own

-- an entry is added
pub held_more : (bytes new : List ℕ) (list : List Held) (payload : List ℕ) (h : Held) → All (λ h. 16 < h.size → start_in h.body + size_in h.body ≤ length bytes) list → new ≡ bytes_with bytes payload
    → (length payload ≤ 16 → (h.size ≡ length payload) × (take (length payload) h.body ≡ payload)) → (16 < length payload → (16 < h.size) × (start_in h.body ≡ length bytes) × (size_in h.body ≡ length payload))
    → map (held_in new) (list ++ h ∷ []) ≡ map (held_in bytes) list ++ record { page = h.page; cell = h.cell; rowid = None; bytes = payload } ∷ []
held_more bytes new list payload h within is few_in many_in = ⊎_elim
    (λ (many : 16 < length payload).
    let no : nat_le (length payload) 16 ≡ false = grind (arith, nat_tests) in
    let all : new ≡ bytes ++ payload = is ∙ at_false (nat_le (length payload) 16) bytes (bytes ++ payload) no in
    let m = many_in many in
    let size = m.2 in
    let own : take (size_in h.body) (drop (start_in h.body) (bytes ++ payload)) ≡ payload =
    ap (λ n. take (size_in h.body) (drop n (bytes ++ payload))) m.1 ∙ ap (take (size_in h.body)) (at_end bytes payload) ∙ take_all (size_in h.body) payload (omega (arith, size)) in
    ap (λ (z : List ℕ). map (held_in z) (list ++ h ∷ [])) all ∙ more_held bytes payload list payload h within (behind (bytes ++ payload) h m.0 ∙ own))
    (λ (few : length payload ≤ 16).
    let yes : nat_le (length payload) 16 ≡ true = grind (arith, nat_tests) in
    let all : new ≡ bytes ++ [] = is ∙ at_true (nat_le (length payload) 16) bytes (bytes ++ payload) yes ∙ sym (append-nil bytes) in
    let f = few_in few in
    let size = f.0 in
    ap (λ (z : List ℕ). map (held_in z) (list ++ h ∷ [])) all ∙ more_held bytes [] list payload h within (inside (bytes ++ []) h (omega (arith, few, size)) ∙ ap (λ n. take n h.body) size ∙ f.1))
    (cases_lt 16 (length payload))

-- what lies within bytes lies within more of them
pub all_within : (few many : ℕ) (list : List Held) → All (λ h. 16 < h.size → start_in h.body + size_in h.body ≤ few) list → few ≤ many → All (λ h. 16 < h.size → start_in h.body + size_in h.body ≤ many) list
all_within few many list within more = λ i d less out. let one = within i d less out in omega (arith, one, more)

-- an entry is added, whose payload lies within the bytes
pub one_within : (bytes new : List ℕ) (list : List Held) (payload : List ℕ) (h : Held) → All (λ h. 16 < h.size → start_in h.body + size_in h.body ≤ length bytes) list → new ≡ bytes_with bytes payload
    → (length payload ≤ 16 → (h.size ≡ length payload) × (take (length payload) h.body ≡ payload)) → (16 < length payload → (16 < h.size) × (start_in h.body ≡ length bytes) × (size_in h.body ≡ length payload))
    → All (λ h. 16 < h.size → start_in h.body + size_in h.body ≤ length new) (list ++ h ∷ [])
one_within bytes new list payload h within is few_in many_in =
    All-push (λ h. 16 < h.size → start_in h.body + size_in h.body ≤ length new) list h (all_within (length bytes) (length new) list within grows) own
  where
    no : 16 < length payload → new ≡ bytes ++ payload
    no many = let b : nat_le (length payload) 16 ≡ false = grind (arith, nat_tests) in is ∙ at_false (nat_le (length payload) 16) bytes (bytes ++ payload) b

    yes : length payload ≤ 16 → new ≡ bytes
    yes few = let b : nat_le (length payload) 16 ≡ true = grind (arith, nat_tests) in is ∙ at_true (nat_le (length payload) 16) bytes (bytes ++ payload) b

    grows : length bytes ≤ length new
    grows = ⊎_elim
        (λ (many : 16 < length payload). let all = ap length (no many) in omega (arith, all, length-append bytes payload))
        (λ (few : length payload ≤ 16). let all = ap length (yes few) in omega (arith, all))
        (cases_lt 16 (length payload))

    own : 16 < h.size → start_in h.body + size_in h.body ≤ length new
    own out = ⊎_elim
        (λ (many : 16 < length payload). let all = ap length (no many) in let m = many_in many in omega (arith, all, m.1, m.2, length-append bytes payload))
        (λ (few : length payload ≤ 16). let f = few_in few in absurd (omega (arith, f.0, few, out)))
        (cases_lt 16 (length payload))

-- an entry in whose place is one that stores the same
pub same_map : (bytes : List ℕ) (list : List Held) (i : ℕ) (h d : Held) → i < length list → held_in bytes h ≡ held_in bytes (get_or list i d) → map (held_in bytes) (slice_set list i h) ≡ map (held_in bytes) list
same_map bytes [] i h d less same = absurd (omega (arith, less))
same_map bytes (x ∷ list) zero h d less same = ap (λ (z : Stored). z ∷ map (held_in bytes) list) same
same_map bytes (x ∷ list) (suc i) h d less same = ap (λ (z : List Stored). held_in bytes x ∷ z) (same_map bytes list i h d (omega (arith, less)) same)

-- The shortest record: that there is one, and that none is shorter.
use Rattle.std.proofs.Common.{◌≡◌, ◌≢◌, ◌⊎◌, inl, inr, ℕ, zero, suc, ◌+◌, ◌-◌, ◌*◌, ◌/◌, ◌%◌, ◌^◌, ◌<◌, ◌≤◌, List, [], ◌∷◌, ◌++◌, length, take, drop, get_or, map, Result, Ok, Err, refl, sym, ap, ◌∙◌, arith, lit≤, lit<, pow-suc, pos, negsuc, length-append, length-drop, length-set, set}
use Rattle.std.specs.Prelude.{nat_le, ◌==◌, if◌then◌else◌, All, is_ok, OnOk, OnErr}
use Rattle.std.proofs.Math.Nat.{pow-le-pow_right}
use Rattle.std.proofs.lemmas.List.{length_push, get_or_push, get_or_append_left, get_or-drop, get_or-append-add, take_at, drop_at, length-take-le, append_assoc, append-nil, drop_all, get_or_past, take-append-le, drop-append-le, map-append, take_more, take_all, take-take, take-map, get_or-map, length-map}
use Rattle.std.proofs.lemmas.List.Elements.{All-push}
use Rattle.std.proofs.lemmas.List.Sums.{sum_by-cons, sum_by_push, sum_by-take-le}
use Rattle.std.proofs.lemmas.Bool.{cases_lt, cases_eq, cond-true, cond-false, eq-eqb, ne_eqb, lt-leb}
use Rattle.std.proofs.lemmas.Bool.Decides.{nat_tests}
use Rattle.sqval.specs.Bytes.{AreBytes}
use Rattle.sqval.specs.Varint.{number_of_sevens, Spells, Begins}
use Rattle.sqval.specs.declared.value.Value.{Value}
use Rattle.sqval.specs.Datum.{Datum, null, integer, real, text, blob, datum_of}
use Rattle.sqval.specs.Serial.{body_size, held, IsInternal}
use Rattle.sqval.specs.Record.{Lead, Hold, IsRecord, most_bytes}
use Rattle.sqval.specs.Shortest.{IsShortestRecord, IsSizeOfHeaderSize, IsTooLarge, AreTooLong, shortest_serial, varint_size, types_size, bodies_size}
use Rattle.sqval.specs.internal.Shortest.{IsShortestBody, IsWritable}
use Rattle.sqval.proofs.payload.VarintNumbers.{pow_more, sevens-push, sevens-below, spells_fewer, spells_nine, spells_shortest, shorter, begins_before}
use Rattle.sqval.proofs.payload.TwosComplementIntegers.{signed_least, serial_below}
use Rattle.sqval.proofs.payload.UniquenessOfReading.{lead_next}

-- ---- varints

-- the digits of a number to the base 128, each with the top bit set
abbrev digits : (count number : ℕ) → List ℕ
digits zero n = []
digits (suc k) n = digits k (n / 128) ++ (128 + n % 128) ∷ []

length-digits : (k n : ℕ) → length (digits k n) ≡ k
length-digits zero n = refl
length-digits (suc k) n = omega (arith, length_push (digits k (n / 128)) (128 + n % 128), length-digits k (n / 128))

digits_top : (k n i : ℕ) → i < length (digits k n) → 128 ≤ get_or (digits k n) i 0
digits_top zero n i h = absurd (omega arith)
digits_top (suc k) n i h =
    let size = length-digits k (n / 128) in
    let whole = length-digits (suc k) n in
    elim (cases_lt i k) [
      | inl less ↦ rw (get_or_append_left (digits k (n / 128)) ((128 + n % 128) ∷ []) 0 i (omega arith)) (digits_top k (n / 128) i (omega arith))
      | inr more ↦ let at : k ≡ i = omega arith in rw (get_or_push (digits k (n / 128)) (128 + n % 128) 0 i (size ∙ at)) (omega arith)
    ]

number_of_sevens-digits : (k n : ℕ) → n < 128 ^ k → number_of_sevens (digits k n) ≡ n
number_of_sevens-digits zero n less = omega arith
number_of_sevens-digits (suc k) n less =
    let power = pow-suc 128 k in
    omega (arith, sevens-push (digits k (n / 128)) (128 + n % 128), number_of_sevens-digits k (n / 128) (omega arith))

record IsVarintSize (number size : ℕ) : Type 0 where
  at_least_one : 1 ≤ size
  at_most_nine : size ≤ 9
  enough : size < 9 → number < 128 ^ size
  least : 1 < size → 128 ^ (size - 1) ≤ number

size_is : (n k : ℕ) → varint_size n ≡ k → IsVarintSize n k → IsVarintSize n (varint_size n)
size_is n k e is = rw e is

of_size : (n k : ℕ) → 1 ≤ k → k ≤ 9 → (k < 9 → n < 128 ^ k) → (1 < k → 128 ^ (k - 1) ≤ n) → IsVarintSize n k
of_size n k some few enough least = record { at_least_one = some; at_most_nine = few; enough = enough; least = least }

varint_size_is : (n : ℕ) → IsVarintSize n (varint_size n)
varint_size_is n =
    elim (cases_lt n (128 ^ 1)) [
      | inl a ↦ size_is n 1 (grind (arith, nat_tests)) (of_size n 1 (lit≤ tt) (lit≤ tt) (λ _. a) (λ h. absurd (omega arith)))
      | inr a ↦ elim (cases_lt n (128 ^ 2)) [
        | inl b ↦ size_is n 2 (grind (arith, nat_tests)) (of_size n 2 (lit≤ tt) (lit≤ tt) (λ _. b) (λ _. a))
        | inr b ↦ elim (cases_lt n (128 ^ 3)) [
          | inl d ↦ size_is n 3 (grind (arith, nat_tests)) (of_size n 3 (lit≤ tt) (lit≤ tt) (λ _. d) (λ _. b))
          | inr d ↦ elim (cases_lt n (128 ^ 4)) [
            | inl e ↦ size_is n 4 (grind (arith, nat_tests)) (of_size n 4 (lit≤ tt) (lit≤ tt) (λ _. e) (λ _. d))
            | inr e ↦ elim (cases_lt n (128 ^ 5)) [
              | inl f ↦ size_is n 5 (grind (arith, nat_tests)) (of_size n 5 (lit≤ tt) (lit≤ tt) (λ _. f) (λ _. e))
              | inr f ↦ elim (cases_lt n (128 ^ 6)) [
                | inl g ↦ size_is n 6 (grind (arith, nat_tests)) (of_size n 6 (lit≤ tt) (lit≤ tt) (λ _. g) (λ _. f))
                | inr g ↦ elim (cases_lt n (128 ^ 7)) [
                  | inl h ↦ size_is n 7 (grind (arith, nat_tests)) (of_size n 7 (lit≤ tt) (lit≤ tt) (λ _. h) (λ _. g))
                  | inr h ↦ elim (cases_lt n (128 ^ 8)) [
                    | inl i ↦ size_is n 8 (grind (arith, nat_tests)) (of_size n 8 (lit≤ tt) (lit≤ tt) (λ _. i) (λ _. h))
                    | inr i ↦ size_is n 9 (grind (arith, nat_tests)) (of_size n 9 (lit≤ tt) (lit≤ tt) (λ h. absurd (omega arith)) (λ _. i))
                  ]
                ]
              ]
            ]
          ]
        ]
      ]
    ]

-- every varint of the number has that many bytes or more
pub varint_size_least : (n : ℕ) (bytes : List ℕ) → Spells n bytes → varint_size n ≤ length bytes
varint_size_least n bytes spells =
    let is = varint_size_is n in
    spells_shortest n (varint_size n) is.at_most_nine is.least bytes spells

-- and one has just as many
pub spelled : (n : ℕ) → n < 2 ^ 64 → (bytes : List ℕ) × Spells n bytes × (length bytes ≡ varint_size n)
spelled n less = with_size n (varint_size n) less (varint_size_is n)
  where
    with_size : (n k : ℕ) → n < 2 ^ 64 → IsVarintSize n k → (bytes : List ℕ) × Spells n bytes × (length bytes ≡ k)
    with_size n k less is =
        elim (cases_lt k 9) [
          | inl few ↦
              let i : ℕ = k - 1 in
              let back : i + 1 ≡ k = omega (arith, is.at_least_one) in
              let size = length-digits i (n / 128) in
              let low : n / 128 < 128 ^ i = shorter n k is.at_least_one (is.enough few) in
              let spells = spells_fewer (digits i (n / 128)) (0 ∷ []) n i size (omega arith) (lit≤ tt) (number_of_sevens-digits i (n / 128) low) (digits_top i (n / 128)) in
              let long : length (set (digits i (n / 128) ++ 0 ∷ []) i (n % 128)) ≡ i + 1 =
              length-set (digits i (n / 128) ++ 0 ∷ []) i (n % 128) ∙ omega (arith, length_push (digits i (n / 128)) 0) in (
                take (i + 1) (set (digits i (n / 128) ++ 0 ∷ []) i (n % 128)),
                spells,
                length-take-le (i + 1) (set (digits i (n / 128) ++ 0 ∷ []) i (n % 128)) (omega arith) ∙ back,
              )
          | inr many ↦
              let nine : k ≡ 9 = omega (arith, is.at_most_nine) in
              let size = length-digits 8 (n / 256) in
              let low : n / 256 < 128 ^ 8 = omega arith in
              let spells = spells_nine (digits 8 (n / 256)) (0 ∷ []) n (n % 256) size (lit≤ tt) (number_of_sevens-digits 8 (n / 256) low) (digits_top 8 (n / 256)) refl in
              let long : length (set (digits 8 (n / 256) ++ 0 ∷ []) 8 (n % 256)) ≡ 9 =
              length-set (digits 8 (n / 256) ++ 0 ∷ []) 8 (n % 256) ∙ omega (arith, length_push (digits 8 (n / 256)) 0) in (
                take 9 (set (digits 8 (n / 256) ++ 0 ∷ []) 8 (n % 256)),
                spells,
                length-take-le 9 (set (digits 8 (n / 256) ++ 0 ∷ []) 8 (n % 256)) (omega arith) ∙ sym nine,
              )
        ]

-- ---- the header's size

one_size : (n k l : ℕ) → IsVarintSize n k → IsVarintSize n l → ¬ (k < l)
one_size n k l a b less =
    let power : 128 ^ k ≤ 128 ^ (l - 1) = pow-le-pow_right (lit≤ tt) (omega arith) in
    omega (arith, a.enough (omega (arith, b.at_most_nine)), b.least (omega (arith, a.at_least_one)))

pub varint_size-header : (types size : ℕ) → IsSizeOfHeaderSize types size → varint_size (size + types) ≡ size
varint_size-header types size is =
    let mine : IsVarintSize (size + types) size =
    of_size (size + types) size is.at_least_one (omega (arith, is.at_most_five)) (λ _. omega (arith, is.enough)) (λ h. omega (arith, is.least h)) in
    let read = varint_size_is (size + types) in
    omega (arith, one_size (size + types) (varint_size (size + types)) size read mine, one_size (size + types) size (varint_size (size + types)) mine read)

-- a longer varint gains more numbers than it takes bytes
power_gap : (d k : ℕ) → 128 ^ k + (k + d) ≤ 128 ^ (k + d) + k
power_gap zero k = let none : k + 0 ≡ k = omega arith in rw none (omega arith)
power_gap (suc d) k =
    let next : k + suc d ≡ k + d + 1 = omega arith in
    let some : 1 ≤ 128 ^ (k + d) = pow-le-pow_right {n = 128} (lit≤ tt) {i = 0} {j = k + d} (omega arith) in
    rw (next, pow_more (k + d)) (omega (arith, power_gap d k))

pub header_least : (types size : ℕ) → IsSizeOfHeaderSize types size → (more : ℕ) (spelling : List ℕ) → types ≤ more
    → Spells (length spelling + more) spelling → size ≤ length spelling
header_least types size is more spelling enough spells =
    elim (cases_lt (length spelling) size) [
      | inr most ↦ most
      | inl less ↦
          let few : length spelling < 9 = omega (arith, is.at_most_five) in
          let number : length spelling + more < 128 ^ length spelling = omega (arith, spells.short few, sevens-below spelling) in
          let sum : length spelling + (size - 1 - length spelling) ≡ size - 1 = omega arith in
          let gap : 128 ^ length spelling + (size - 1) ≤ 128 ^ (size - 1) + length spelling =
          rw sum at (power_gap (size - 1 - length spelling) (length spelling)) in
          absurd (omega (arith, is.least (omega (arith, spells.at_least_one))))
    ]

-- ---- no column is shorter

held_long : (serial : ℕ) (body : List ℕ) → 12 ≤ serial → held serial body ≡ (if serial % 2 == 0 then blob body else text body)
held_long serial body long =
    cond-false (serial == 0) _ _ (ne_eqb serial 0 (omega arith))
    ∙ cond-false (nat_le serial 6) _ _ (lt-leb serial 6 (omega arith))
    ∙ cond-false (serial == 7) _ _ (ne_eqb serial 7 (omega arith))
    ∙ cond-false (serial == 8) _ _ (ne_eqb serial 8 (omega arith))
    ∙ cond-false (serial == 9) _ _ (ne_eqb serial 9 (omega arith))

body_size_long : (serial : ℕ) → 12 ≤ serial → body_size serial ≡ (serial - 12) / 2
body_size_long serial long = grind (arith, nat_tests)

-- the value of a column of this type is written with this type, or with less
abbrev pub IsNoLonger : (serial : ℕ) → Datum → List ℕ → Type 0
IsNoLonger serial value body =
    (shortest_serial value ≡ serial) ⊎ ((shortest_serial value < 128) × (body_size (shortest_serial value) ≤ length body))

long_column : (serial : ℕ) (body : List ℕ) → 12 ≤ serial → length body ≡ body_size serial → shortest_serial (held serial body) ≡ serial
long_column serial body long size =
    let half = body_size_long serial long in
    rw (held_long serial body long)
    (elim (cases_eq (serial % 2) 0) [
      | inl even ↦ rw (cond-true (serial % 2 == 0) (blob body) (text body) (eq-eqb (serial % 2) 0 even)) (omega arith)
      | inr odd ↦ rw (cond-false (serial % 2 == 0) (blob body) (text body) (ne_eqb (serial % 2) 0 odd)) (omega arith)
    ])

no_longer : (serial : ℕ) (body : List ℕ) → ¬ IsInternal serial → length body ≡ body_size serial → AreBytes body → IsNoLonger serial (held serial body) body
no_longer zero body outer size bytes = inl refl
no_longer (suc zero) body outer size bytes = inr (signed_least body 1 (2 ^ 7) (2 ^ 8) size bytes (inl refl) refl refl refl refl)
no_longer (suc (suc zero)) body outer size bytes = inr (signed_least body 2 (2 ^ 15) (2 ^ 16) size bytes (inr (inl refl)) refl refl refl refl)
no_longer (suc (suc (suc zero))) body outer size bytes = inr (signed_least body 3 (2 ^ 23) (2 ^ 24) size bytes (inr (inr (inl refl))) refl refl refl refl)
no_longer (suc (suc (suc (suc zero)))) body outer size bytes =
    inr (signed_least body 4 (2 ^ 31) (2 ^ 32) size bytes (inr (inr (inr (inl refl)))) refl refl refl refl)
no_longer (suc (suc (suc (suc (suc zero))))) body outer size bytes =
    inr (signed_least body 6 (2 ^ 47) (2 ^ 48) size bytes (inr (inr (inr (inr (inl refl))))) refl refl refl refl)
no_longer (suc (suc (suc (suc (suc (suc zero)))))) body outer size bytes =
    inr (signed_least body 8 (2 ^ 63) (2 ^ 64) size bytes (inr (inr (inr (inr (inr refl))))) refl refl refl refl)
no_longer (suc (suc (suc (suc (suc (suc (suc zero))))))) body outer size bytes = inl refl
no_longer (suc (suc (suc (suc (suc (suc (suc (suc zero)))))))) body outer size bytes = inl refl
no_longer (suc (suc (suc (suc (suc (suc (suc (suc (suc zero))))))))) body outer size bytes = inl refl
no_longer (suc (suc (suc (suc (suc (suc (suc (suc (suc (suc zero)))))))))) body outer size bytes = absurd (outer (inl refl))
no_longer (suc (suc (suc (suc (suc (suc (suc (suc (suc (suc (suc zero))))))))))) body outer size bytes = absurd (outer (inr refl))
no_longer (suc (suc (suc (suc (suc (suc (suc (suc (suc (suc (suc (suc n)))))))))))) body outer size bytes =
    inl (long_column (suc (suc (suc (suc (suc (suc (suc (suc (suc (suc (suc (suc n)))))))))))) body (omega arith) size)

types_size-cons : (value : Datum) (values : List Datum) → types_size (value ∷ values) ≡ varint_size (shortest_serial value) + types_size values
unfolding types_size
types_size-cons value values = sum_by-cons (λ v. varint_size (shortest_serial v)) value values

bodies_size-cons : (value : Datum) (values : List Datum) → bodies_size (value ∷ values) ≡ body_size (shortest_serial value) + bodies_size values
unfolding bodies_size
bodies_size-cons value values = sum_by-cons (λ v. body_size (shortest_serial v)) value values

types_size-none : types_size [] ≡ 0
unfolding types_size
types_size-none = refl

bodies_size-none : bodies_size [] ≡ 0
unfolding bodies_size
bodies_size-none = refl

bytes_left : (xs ys : List ℕ) → AreBytes (xs ++ ys) → AreBytes xs
bytes_left xs ys bytes i =
    elim (cases_lt i (length xs)) [
      | inl less ↦ rw (get_or_append_left xs ys 0 i less) at (bytes i)
      | inr past ↦ rw (get_or_past xs i 0 past) (lit≤ tt)
    ]

bytes_right : (xs ys : List ℕ) → AreBytes (xs ++ ys) → AreBytes ys
bytes_right xs ys bytes i = rw (get_or-append-add xs ys i 0) at (bytes (length xs + i))

column_least : (serial size : ℕ) (value : Datum) (body bytes : List ℕ) → IsNoLonger serial value body → length body ≡ body_size serial → Begins serial size bytes
    → (varint_size (shortest_serial value) ≤ size) × (body_size (shortest_serial value) ≤ length body)
column_least serial size value body bytes (inl same) e begins =
    let long : length (take size bytes) ≡ size = length-take-le size bytes begins.within in
    (rw same (omega (arith, varint_size_least serial (take size bytes) begins.front)), rw same (omega arith))
column_least serial size value body bytes (inr (small, fewer)) e begins =
    let long : length (take size bytes) ≡ size = length-take-le size bytes begins.within in
    let one : varint_size (shortest_serial value) ≡ 1 = grind (arith, nat_tests) in
    (omega (arith, begins.front.at_least_one), fewer)

pub columns_least : (types : List ℕ) (values : List Datum) (bytes bodies : List ℕ) → Lead types bytes [] → Hold types values bodies → AreBytes bodies
    → (types_size values ≤ length bytes) × (bodies_size values ≤ length bodies)
columns_least [] values bytes bodies lead (none, empty) are =
    (rw none (omega (arith, types_size-none)), rw none (omega (arith, bodies_size-none)))
columns_least (serial ∷ types) values bytes bodies (size, begins, outer, lead) (body, others, more, parts, e, first, rest) are =
    let whole : AreBytes (body ++ others) = rw parts at are in
    let behind = columns_least types more (drop size bytes) others lead rest (bytes_right body others whole) in
    let here = column_least serial size (held serial body) body bytes (no_longer serial body outer e (bytes_left body others whole)) e begins in (
      rw first (omega (arith, types_size-cons (held serial body) more, begins.within, length-drop size bytes)),
      rw first (omega (arith, bodies_size-cons (held serial body) more, ap length parts, length-append body others)),
    )

pub record_least : (values : List Datum) (size : ℕ) → IsSizeOfHeaderSize (types_size values) size → (other : List ℕ) → AreBytes other → IsRecord values other
    → size + types_size values + bodies_size values ≤ length other
record_least values size is other are r =
    let reads = r.reads in
    let has = reads.has in
    let tail : AreBytes r.bodies = rw reads.behind (λ i. rw (get_or-drop reads.header other i 0) (are (reads.header + i))) in
    let least = columns_least r.types values (drop reads.size (take reads.header other)) r.bodies reads.leads r.holds tail in
    let types = length-drop reads.size (take reads.header other) in
    let head = length-take-le reads.header other has.within in
    let long : length (take reads.size other) ≡ reads.size = length-take-le reads.size other has.begins.within in
    let bodies : length r.bodies ≡ length other - reads.header = ap length reads.behind ∙ length-drop reads.header other in
    let sum : length (take reads.size other) + (reads.header - reads.size) ≡ reads.header = omega (arith, has.counts_itself) in
    let spells : Spells (length (take reads.size other) + (reads.header - reads.size)) (take reads.size other) = rw sum has.begins.front in
    let header = header_least (types_size values) size is (reads.header - reads.size) (take reads.size other) (omega arith) spells in
    omega (arith, has.within, has.counts_itself)

-- ---- a record is put together

pub record_made : (types : List ℕ) (values : List Datum) (head front bodies : List ℕ) → Spells (length head + length front) head
    → Lead types front [] → Hold types values bodies → IsRecord values (head ++ (front ++ bodies))
record_made types values head front bodies spells lead hold =
    let h : ℕ = length head + length front in
    let whole : length (head ++ (front ++ bodies)) ≡ length head + (length front + length bodies) =
    omega (arith, length-append head (front ++ bodies), length-append front bodies) in
    let cut : take h (head ++ (front ++ bodies)) ≡ head ++ front =
    ap (λ xs. take h xs) (sym (append_assoc head front bodies)) ∙ take_at (head ++ front) bodies h (length-append head front) in
    let behind : drop h (head ++ (front ++ bodies)) ≡ bodies =
    ap (λ xs. drop h xs) (sym (append_assoc head front bodies)) ∙ drop_at (head ++ front) bodies h (length-append head front) in
    record {
      types = types;
      bodies = bodies;
      reads = record {
        header = h;
        size = length head;
        has = record { begins = begins_before h (length head) head (front ++ bodies) refl spells; counts_itself = omega arith; within = omega arith };
        leads = rw (cut, drop_at head front (length head) refl) lead;
        behind = sym behind;
      };
      holds = hold;
    }

-- one more varint behind the types, one more body behind the bodies
lead_before : (types : List ℕ) (bytes rest more : List ℕ) → Lead types bytes rest → Lead types (bytes ++ more) (rest ++ more)
lead_before [] bytes rest more e = ap (λ xs. xs ++ more) e
lead_before (serial ∷ types) bytes rest more (size, begins, outer, lead) =
    let there : Begins serial size (bytes ++ more) =
    record { within = omega (arith, begins.within, length-append bytes more); front = rw (take-append-le size bytes more begins.within) begins.front } in
    (size, there, outer, rw (drop-append-le size bytes more begins.within) (lead_before types (drop size bytes) rest more lead))

pub lead_push : (types : List ℕ) (bytes spelling : List ℕ) (serial : ℕ) → Lead types bytes [] → Spells serial spelling → ¬ IsInternal serial
    → Lead (types ++ serial ∷ []) (bytes ++ spelling) []
lead_push types bytes spelling serial lead spells outer =
    let begins : Begins serial (length spelling) spelling = rw append-nil at (begins_before serial (length spelling) spelling [] refl spells) in
    let longer = lead_next types (bytes ++ spelling) spelling serial (length spelling) (lead_before types bytes [] spelling lead) begins outer in
    rw (drop_all (length spelling) spelling (omega arith)) at longer

pub hold_push : (types : List ℕ) (values : List Datum) (bytes : List ℕ) (value : Datum) (body : List ℕ) → Hold types values bytes
    → IsShortestBody value body → Hold (types ++ shortest_serial value ∷ []) (values ++ value ∷ []) (bytes ++ body)
hold_push [] values bytes value body (none, empty) is =
    (body, [], [], rw (empty, append-nil) refl, is.size, rw (none, is.holds) refl, (refl, refl))
hold_push (serial ∷ types) values bytes value body (first, others, more, parts, e, head, rest) is =
    (first, others ++ body, more ++ value ∷ [], rw parts (append_assoc first others body), e, rw head refl, hold_push types more others value body rest is)

-- ---- values that a program can have

pub written_outer : (value : Datum) → ¬ IsInternal (shortest_serial value)
written_outer null = λ inner. elim inner [ inl e ↦ omega arith | inr e ↦ omega arith ]
written_outer (integer (pos n)) = λ inner. elim inner [ inl e ↦ grind (arith, nat_tests) | inr e ↦ grind (arith, nat_tests) ]
written_outer (integer (negsuc n)) = λ inner. elim inner [ inl e ↦ grind (arith, nat_tests) | inr e ↦ grind (arith, nat_tests) ]
written_outer (real bytes) = λ inner. elim inner [ inl e ↦ omega arith | inr e ↦ omega arith ]
written_outer (text bytes) = λ inner. elim inner [ inl e ↦ omega arith | inr e ↦ omega arith ]
written_outer (blob bytes) = λ inner. elim inner [ inl e ↦ omega arith | inr e ↦ omega arith ]

pub serial_fits : (value : Datum) → IsWritable value → shortest_serial value < 2 ^ 64
serial_fits null w = lit< tt
serial_fits (integer number) w = omega (arith, serial_below number)
serial_fits (real bytes) w = lit< tt
serial_fits (text bytes) w = omega arith
serial_fits (blob bytes) w = omega arith

pub text_body : (bytes : List ℕ) → IsShortestBody (text bytes) bytes
text_body bytes =
    let long : 12 ≤ 13 + 2 * length bytes = omega arith in
    let odd : (13 + 2 * length bytes) % 2 ≢ 0 = omega arith in
    record {
      size = rw (body_size_long (13 + 2 * length bytes) long) (omega arith);
      holds = held_long (13 + 2 * length bytes) bytes long ∙ cond-false ((13 + 2 * length bytes) % 2 == 0) _ _ (ne_eqb ((13 + 2 * length bytes) % 2) 0 odd);
    }

pub blob_body : (bytes : List ℕ) → IsShortestBody (blob bytes) bytes
blob_body bytes =
    let long : 12 ≤ 12 + 2 * length bytes = omega arith in
    let even : (12 + 2 * length bytes) % 2 ≡ 0 = omega arith in
    record {
      size = rw (body_size_long (12 + 2 * length bytes) long) (omega arith);
      holds = held_long (12 + 2 * length bytes) bytes long ∙ cond-true ((12 + 2 * length bytes) % 2 == 0) _ _ (eq-eqb ((12 + 2 * length bytes) % 2) 0 even);
    }

-- ---- appending

-- what an append that may fail leaves
pub appended : {A E : Type 0} (r : Result A E) (old new more : List ℕ) (Q : List ℕ → Type 0)
    → new ≡ (if is_ok r then old ++ more else old) → Q more → OnOk r ((x : List ℕ) × Q x × (new ≡ old ++ x))
appended (Ok a) old new more Q e q = (more, q, e)
appended (Err a) old new more Q e q = tt

pub unchanged : {A E : Type 0} (r : Result A E) (old new more : List ℕ)
    → new ≡ (if is_ok r then old ++ more else old) → OnErr r (new ≡ old)
unchanged (Ok a) old new more e = tt
unchanged (Err a) old new more e = e

-- what the writer of a varint appends
pub varint_written : {A E : Type 0} (r : Result A E) (old new out : List ℕ) (number size : ℕ) → number < 2 ^ 64 → size ≤ length out
    → Spells number (take size out) → ((bytes : List ℕ) → Spells number bytes → size ≤ length bytes)
    → new ≡ (if is_ok r then old ++ take size out else old)
    → OnOk r ((x : List ℕ) × Spells number x × (length x ≡ varint_size number) × (new ≡ old ++ x))
varint_written (Ok a) old new out number size less within spells least e =
    let one = spelled number less in
    let long = length-take-le size out within in
    (take size out, spells, omega (arith, varint_size_least number (take size out) spells, least one.0 one.1, one.2), e)
varint_written (Err a) old new out number size less within spells least e = tt

-- the types of the values stand behind what was there
pub record Typed (values : List Datum) (old new : List ℕ) : Type 0 where
  pub front : List ℕ
  pub lead : Lead (map shortest_serial values) front []
  pub size : length front ≡ types_size values
  pub grown : new ≡ old ++ front

types_size-push : (values : List Datum) (value : Datum) → types_size (values ++ value ∷ []) ≡ types_size values + varint_size (shortest_serial value)
unfolding types_size
types_size-push values value = sum_by_push (λ v. varint_size (shortest_serial v)) values value

bodies_size-push : (values : List Datum) (value : Datum) → bodies_size (values ++ value ∷ []) ≡ bodies_size values + body_size (shortest_serial value)
unfolding bodies_size
bodies_size-push values value = sum_by_push (λ v. body_size (shortest_serial v)) values value

pub typed_none : (old : List ℕ) → Typed [] old old
typed_none old = record { front = []; lead = refl; size = sym types_size-none; grown = sym (append-nil old) }

pub typed_push : (values : List Datum) (value : Datum) (old new next spelling : List ℕ) → Typed values old new
    → Spells (shortest_serial value) spelling → length spelling ≡ varint_size (shortest_serial value) → next ≡ new ++ spelling
    → Typed (values ++ value ∷ []) old next
typed_push values value old new next spelling typed spells size e =
    record {
      front = typed.front ++ spelling;
      lead = rw (map-append shortest_serial values (value ∷ [])) (lead_push (map shortest_serial values) typed.front spelling (shortest_serial value) typed.lead spells (written_outer value));
      size = omega (arith, length-append typed.front spelling, typed.size, types_size-push values value);
      grown = e ∙ ap (λ xs. xs ++ spelling) typed.grown ∙ append_assoc old typed.front spelling;
    }

-- the bodies of the values stand behind what was there
pub record Filled (values : List Datum) (old new : List ℕ) : Type 0 where
  pub bodies : List ℕ
  pub hold : Hold (map shortest_serial values) values bodies
  pub size : length bodies ≡ bodies_size values
  pub grown : new ≡ old ++ bodies

pub filled_none : (old : List ℕ) → Filled [] old old
filled_none old = record { bodies = []; hold = (refl, refl); size = sym bodies_size-none; grown = sym (append-nil old) }

pub filled_push : (values : List Datum) (value : Datum) (old new next body : List ℕ) → Filled values old new
    → IsShortestBody value body → next ≡ new ++ body → Filled (values ++ value ∷ []) old next
filled_push values value old new next body filled is e =
    record {
      bodies = filled.bodies ++ body;
      hold = rw (map-append shortest_serial values (value ∷ [])) (hold_push (map shortest_serial values) values filled.bodies value body filled.hold is);
      size = omega (arith, length-append filled.bodies body, filled.size, is.size, bodies_size-push values value);
      grown = e ∙ ap (λ xs. xs ++ body) filled.grown ∙ append_assoc old filled.bodies body;
    }

-- ---- over the values of the program

values_more : (values : List Value) (i : ℕ) (d : Value) → i < length values
    → map datum_of (take (i + 1) values) ≡ map datum_of (take i values) ++ datum_of (get_or values i d) ∷ []
values_more values i d less =
    ap (λ xs. map datum_of xs) (take_more values i d less) ∙ map-append datum_of (take i values) (get_or values i d ∷ [])

pub typed_next : (values : List Value) (i : ℕ) (d : Value) (old new next spelling : List ℕ) (serial : ℕ) → i < length values
    → Typed (map datum_of (take i values)) old new → serial ≡ shortest_serial (datum_of (get_or values i d)) → Spells serial spelling
    → length spelling ≡ varint_size serial → next ≡ new ++ spelling → Typed (map datum_of (take (i + 1) values)) old next
typed_next values i d old new next spelling serial less typed is spells size e =
    rw (values_more values i d less)
    (typed_push (map datum_of (take i values)) (datum_of (get_or values i d)) old new next spelling typed (rw is at spells) (rw is at size) e)

pub filled_next : (values : List Value) (i : ℕ) (d : Value) (old new next body : List ℕ) → i < length values
    → Filled (map datum_of (take i values)) old new → IsShortestBody (datum_of (get_or values i d)) body → next ≡ new ++ body
    → Filled (map datum_of (take (i + 1) values)) old next
filled_next values i d old new next body less filled is e =
    rw (values_more values i d less)
    (filled_push (map datum_of (take i values)) (datum_of (get_or values i d)) old new next body filled is e)

pub item_writable : (values : List Value) (i : ℕ) (d : Value) → i < length values → All IsWritable (map datum_of values)
    → IsWritable (datum_of (get_or values i d))
item_writable values i d less all =
    let same = get_or-map datum_of values i d (datum_of d) less in
    rw same at (all i (datum_of d) (rw length-map less))

-- the sizes of the values so far
pub record Summed (values : List Datum) (types bodies : ℕ) : Type 0 where
  pub types_is : types ≡ types_size values
  pub bodies_is : bodies ≡ bodies_size values
  pub within : types + bodies ≤ most_bytes
  pub writable : All IsWritable values

pub summed_none : Summed [] 0 0
summed_none = record { types_is = sym types_size-none; bodies_is = sym bodies_size-none; within = lit≤ tt; writable = λ k d h. absurd (omega arith) }

pub summed_next : (values : List Value) (i : ℕ) (d : Value) (types bodies serial type body : ℕ) → i < length values
    → Summed (map datum_of (take i values)) types bodies → IsWritable (datum_of (get_or values i d))
    → serial ≡ shortest_serial (datum_of (get_or values i d)) → type ≡ varint_size serial → body ≡ body_size serial
    → types + type + (bodies + body) ≤ most_bytes
    → Summed (map datum_of (take (i + 1) values)) (types + type) (bodies + body)
summed_next values i d types bodies serial type body less s w is a b within =
    rw (values_more values i d less) (record {
      types_is = omega (arith, s.types_is, types_size-push (map datum_of (take i values)) (datum_of (get_or values i d)), a ∙ ap varint_size is);
      bodies_is = omega (arith, s.bodies_is, bodies_size-push (map datum_of (take i values)) (datum_of (get_or values i d)), b ∙ ap body_size is);
      within = within;
      writable = All-push IsWritable (map datum_of (take i values)) (datum_of (get_or values i d)) s.writable w;
    })

-- more values take more bytes
types_size-take : (values : List Value) (i : ℕ) → types_size (map datum_of (take i values)) ≤ types_size (map datum_of values)
unfolding types_size
types_size-take values i =
    rw (← take-map datum_of i values) (sum_by-take-le (λ v. varint_size (shortest_serial v)) (map datum_of values) i)

bodies_size-take : (values : List Value) (i : ℕ) → bodies_size (map datum_of (take i values)) ≤ bodies_size (map datum_of values)
unfolding bodies_size
bodies_size-take values i =
    rw (← take-map datum_of i values) (sum_by-take-le (λ v. body_size (shortest_serial v)) (map datum_of values) i)

pub too_many : (values : List Value) (i : ℕ) (d : Value) (types bodies serial type body : ℕ) → i < length values
    → Summed (map datum_of (take i values)) types bodies
    → serial ≡ shortest_serial (datum_of (get_or values i d)) → type ≡ varint_size serial → body ≡ body_size serial
    → most_bytes < types + type + (bodies + body)
    → most_bytes < types_size (map datum_of values) + bodies_size (map datum_of values)
too_many values i d types bodies serial type body less s is a b more =
    let front = ap types_size (values_more values i d less) ∙ types_size-push (map datum_of (take i values)) (datum_of (get_or values i d)) in
    let behind = ap bodies_size (values_more values i d less) ∙ bodies_size-push (map datum_of (take i values)) (datum_of (get_or values i d)) in
    omega (arith, s.types_is, s.bodies_is, types_size-take values (i + 1), bodies_size-take values (i + 1), a ∙ ap varint_size is, b ∙ ap body_size is)

not_writable : (value : Datum) → ¬ IsWritable value → most_bytes < body_size (shortest_serial value)
not_writable null w = absurd (w tt)
not_writable (integer number) w = absurd (w tt)
not_writable (real bytes) w = absurd (w tt)
not_writable (text bytes) w =
    let size = (text_body bytes).size in elim (cases_lt most_bytes (length bytes)) [ inl more ↦ omega arith | inr few ↦ absurd (w few) ]
not_writable (blob bytes) w =
    let size = (blob_body bytes).size in elim (cases_lt most_bytes (length bytes)) [ inl more ↦ omega arith | inr few ↦ absurd (w few) ]

pub one_too_long : (values : List Value) (i : ℕ) (d : Value) → i < length values → ¬ IsWritable (datum_of (get_or values i d))
    → most_bytes < types_size (map datum_of values) + bodies_size (map datum_of values)
one_too_long values i d less w =
    let behind = ap bodies_size (values_more values i d less) ∙ bodies_size-push (map datum_of (take i values)) (datum_of (get_or values i d)) in
    omega (arith, bodies_size-take values (i + 1), not_writable (datum_of (get_or values i d)) w)

pub summed_all : (values : List Value) (i types bodies : ℕ) → length values ≤ i → Summed (map datum_of (take i values)) types bodies
    → Summed (map datum_of values) types bodies
summed_all values i types bodies past s = rw take_all at s

pub typed_all : (values : List Value) (i : ℕ) (old new : List ℕ) → length values ≤ i → Typed (map datum_of (take i values)) old new
    → Typed (map datum_of values) old new
typed_all values i old new past typed = rw take_all at typed

pub filled_all : (values : List Value) (i : ℕ) (old new : List ℕ) → length values ≤ i → Filled (map datum_of (take i values)) old new
    → Filled (map datum_of values) old new
filled_all values i old new past filled = rw take_all at filled

-- ---- the whole record

header_apart : (types a b : ℕ) → IsSizeOfHeaderSize types a → IsSizeOfHeaderSize types b → ¬ (a < b)
header_apart types a b is other less =
    let sum : a + (b - 1 - a) ≡ b - 1 = omega arith in
    let gap : 128 ^ a + (b - 1) ≤ 128 ^ (b - 1) + a = rw sum at (power_gap (b - 1 - a) a) in
    omega (arith, is.enough, other.least (omega (arith, is.at_least_one)))

header_once : (types a b : ℕ) → IsSizeOfHeaderSize types a → IsSizeOfHeaderSize types b → a ≡ b
header_once types a b is other = omega (arith, header_apart types a b is other, header_apart types b a other is)

sum_least : (values : List Datum) (other : List ℕ) → AreBytes other → IsRecord values other → types_size values + bodies_size values ≤ length other
sum_least values other are r =
    let reads = r.reads in
    let tail : AreBytes r.bodies = rw reads.behind (λ i. rw (get_or-drop reads.header other i 0) (are (reads.header + i))) in
    let least = columns_least r.types values (drop reads.size (take reads.header other)) r.bodies reads.leads r.holds tail in
    omega (
      arith,
      reads.has.within,
      length-drop reads.size (take reads.header other),
      length-take-le reads.header other reads.has.within,
      ap length reads.behind ∙ length-drop reads.header other,
    )

pub sum_too_large : (values : List Datum) → most_bytes < types_size values + bodies_size values → IsTooLarge values × AreTooLong values
sum_too_large values more = ((λ size is. omega arith), λ bytes are r. omega (arith, sum_least values bytes are r))

pub header_too_large : (values : List Datum) (types bodies size : ℕ) → types ≡ types_size values → bodies ≡ bodies_size values → IsSizeOfHeaderSize types size
    → most_bytes < types + size + bodies → IsTooLarge values × AreTooLong values
header_too_large values types bodies size e f is more =
    let there : IsSizeOfHeaderSize (types_size values) size = rw e at is in (
      (λ other is'. omega (arith, header_once (types_size values) size other there is')),
      λ bytes are r. omega (arith, record_least values size there bytes are r),
    )

pub begins_still : (old head one two : List ℕ) → one ≡ old ++ head → take (length one) two ≡ one → take (length old) two ≡ old
begins_still old head one two e begins =
    let longer : length old ≤ length one = omega (arith, ap length e, length-append old head) in
    sym (take-take (length old) (length one) two longer) ∙ ap (λ xs. take (length old) xs) (begins ∙ e) ∙ take_at old head (length old) refl

pub whole_record : {A E : Type 0} (r : Result A E) (values : List Datum) (header size : ℕ) (head front old one two three : List ℕ)
    → IsSizeOfHeaderSize (types_size values) size → header ≡ size + types_size values
    → Spells header head → length head ≡ varint_size header → one ≡ old ++ head
    → Lead (map shortest_serial values) front [] → length front ≡ types_size values → two ≡ one ++ front
    → OnOk r ((bodies : List ℕ) × Hold (map shortest_serial values) values bodies × (length bodies ≡ bodies_size values) × (three ≡ two ++ bodies))
    → OnOk r ((bytes : List ℕ) × IsRecord values bytes × (length bytes ≡ header + bodies_size values) × (three ≡ old ++ bytes))
whole_record (Err e) values header size head front old one two three is h spells hs e1 lead fs e2 rest = tt
whole_record (Ok a) values header size head front old one two three is h spells hs e1 lead fs e2 (bodies, hold, bs, e3) =
    let long : length head ≡ size = hs ∙ ap varint_size h ∙ varint_size-header (types_size values) size is in
    let sum : header ≡ length head + length front = omega arith in (
      head ++ (front ++ bodies),
      record_made (map shortest_serial values) values head front bodies (rw sum at spells) lead hold,
      omega (arith, length-append head (front ++ bodies), length-append front bodies),
      e3 ∙ ap (λ xs. xs ++ bodies) (e2 ∙ ap (λ xs. xs ++ front) e1) ∙ ap (λ xs. xs ++ bodies) (append_assoc old head front)
          ∙ append_assoc old (head ++ front) bodies ∙ ap (λ xs. old ++ xs) (append_assoc head front bodies),
    )

pub shortest : (values : List Datum) (header size : ℕ) (bytes : List ℕ) → IsSizeOfHeaderSize (types_size values) size → header ≡ size + types_size values
    → IsRecord values bytes → length bytes ≡ header + bodies_size values → IsShortestRecord values bytes
shortest values header size bytes is h r e =
    record { whole = r; least = λ other are there. omega (arith, record_least values size is other are there) }

-- The frames of each page in two lists.
use Rattle.std.proofs.Common.{◌≡◌, ◌≢◌, ⊎_elim, ℕ, zero, suc, ◌+◌, ◌-◌, ◌<◌, ◌≤◌, cond, List, [], ◌∷◌, ◌++◌, length, get_or, take, replicate, refl, sym, ◌∙◌, ap, subst, arith, eq-eqb, ne_eqb, length-append}
use Rattle.std.specs.Prelude.{slice_set}
use Rattle.std.proofs.lemmas.List.{get_or_append_left, get_or-append_right, get_or-set_same, get_or-set_other, set-set, set-get_or, set-append_left, length-set, length-replicate, get_or_default, take_all}
use Rattle.std.proofs.lemmas.Bool.{cases_lt, cases_eq}
use Rattle.sqwal.specs.Index.{FrameTable, IsNewest}
use Rattle.sqwal.specs.internal.Chains.{holder, named, IsChained, table_of, IsIndex}

-- ---- the page whose newest frame is f

holder_here : (newest : List ℕ) (f p : ℕ) → get_or newest (suc p) 0 ≡ f → holder newest f (suc p) ≡ suc p
unfolding holder
holder_here newest f p e = ap (λ b. cond b (suc p) (holder newest f p)) (eq-eqb (get_or newest (suc p) 0) f e)

holder_on : (newest : List ℕ) (f p : ℕ) → get_or newest (suc p) 0 ≢ f → holder newest f (suc p) ≡ holder newest f p
unfolding holder
holder_on newest f p ne = ap (λ b. cond b (suc p) (holder newest f p)) (ne_eqb (get_or newest (suc p) 0) f ne)

holder_zero : (newest : List ℕ) (f : ℕ) → holder newest f 0 ≡ 0
unfolding holder
holder_zero newest f = refl

holder_le : (newest : List ℕ) (f top : ℕ) → holder newest f top ≤ top
holder_le newest f zero = omega (arith, holder_zero newest f)
holder_le newest f (suc p) = ⊎_elim (λ e. omega (arith, holder_here newest f p e)) (λ ne. omega (arith, holder_on newest f p ne, holder_le newest f p)) (cases_eq (get_or newest (suc p) 0) f)

holder_is : (newest : List ℕ) (f top p : ℕ) → p ≤ top → get_or newest p 0 ≡ f → ((q : ℕ) → q ≤ top → get_or newest q 0 ≡ f → q ≡ p) → holder newest f top ≡ p
holder_is newest f zero p le e one = omega (arith, holder_zero newest f)
holder_is newest f (suc t) p le e one = ⊎_elim
    (λ z. holder_here newest f t (ap (λ q. get_or newest q 0) (sym z) ∙ e) ∙ sym z)
    (λ ne. holder_on newest f t (λ z. ne (sym (one (suc t) (omega arith) z))) ∙ holder_is newest f t p (omega arith) e (λ q a b. one q (omega arith) b))
    (cases_eq p (suc t))

holder_same : (a b : List ℕ) (f top : ℕ) → ((q : ℕ) → q ≤ top → get_or a q 0 ≡ get_or b q 0) → holder a f top ≡ holder b f top
holder_same a b f zero same = holder_zero a f ∙ sym (holder_zero b f)
holder_same a b f (suc t) same =
    let e : get_or a (suc t) 0 ≡ get_or b (suc t) 0 = same (suc t) (omega arith) in
    ⊎_elim
    (λ z. holder_here a f t z ∙ sym (holder_here b f t (sym e ∙ z)))
    (λ ne. holder_on a f t ne ∙ holder_same a b f t (λ q l. same q (omega arith)) ∙ sym (holder_on b f t (λ z. ne (e ∙ z))))
    (cases_eq (get_or a (suc t) 0) f)

holder_down : (a : List ℕ) (f top k : ℕ) → ((q : ℕ) → top < q → get_or a q 0 ≢ f) → holder a f (top + k) ≡ holder a f top
holder_down a f top zero none = ap (holder a f) (let e : top + 0 ≡ top = omega arith in e)
holder_down a f top (suc k) none =
    ap (holder a f) (let e : top + suc k ≡ suc (top + k) = omega arith in e)
    ∙ holder_on a f (top + k) (none (suc (top + k)) (omega arith))
    ∙ holder_down a f top k none

abbrev pub zeros : ℕ → List ℕ
zeros k = replicate k 0

zeros_at : (k q : ℕ) → get_or (zeros k) q 0 ≡ 0
zeros_at zero q = refl
zeros_at (suc k) zero = refl
zeros_at (suc k) (suc q) = zeros_at k q

-- past the end of a list with zeros behind it there is nothing else
past_zeros : (a : List ℕ) (k q : ℕ) → length a ≤ q → get_or (a ++ zeros k) q 0 ≡ 0
past_zeros a k q h = get_or-append_right a (zeros k) (length a) q 0 refl h ∙ zeros_at k (q - length a)

holder_more : (a : List ℕ) (k f : ℕ) → 1 ≤ f → 1 ≤ length a → holder (a ++ zeros k) f (length (a ++ zeros k) - 1) ≡ holder a f (length a - 1)
holder_more a k f some full =
    let b : List ℕ = a ++ zeros k in
    let top : length b - 1 ≡ length a - 1 + k = omega (arith, length-append a (zeros k), length-replicate {A = ℕ} k 0) in
    ap (holder b f) top
    ∙ holder_down b f (length a - 1) k (λ q lt z. absurd (omega (arith, z, past_zeros a k q (omega arith))))
    ∙ holder_same b a f (length a - 1) (λ q le. get_or_append_left a (zeros k) 0 q (omega arith))

-- ---- the pages that are named

pub length_named : (newest earlier : List ℕ) (n : ℕ) → length (named newest earlier n) ≡ n
unfolding named
length_named newest earlier zero = refl
length_named newest earlier (suc n) =
    let p : ℕ = holder newest (suc n) (length newest - 1) in
    let rest : List ℕ = slice_set newest p (get_or earlier n 0) in
    omega (arith, length-append (named rest earlier n) (p ∷ []), length_named rest earlier n)

-- what stands behind the first n frames isn't looked at
named_front : (newest earlier : List ℕ) (x n : ℕ) → n ≤ length earlier → named newest (earlier ++ x ∷ []) n ≡ named newest earlier n
unfolding named
named_front newest earlier x zero h = refl
named_front newest earlier x (suc n) h =
    let p : ℕ = holder newest (suc n) (length newest - 1) in
    ap (λ (v : ℕ). named (slice_set newest p v) (earlier ++ x ∷ []) n ++ p ∷ []) (get_or_append_left earlier (x ∷ []) 0 n h)
    ∙ ap (λ (ps : List ℕ). ps ++ p ∷ []) (named_front (slice_set newest p (get_or earlier n 0)) earlier x n (omega arith))

pub named_more : (newest earlier : List ℕ) (k n : ℕ) → 1 ≤ length newest → named (newest ++ zeros k) earlier n ≡ named newest earlier n
unfolding named
named_more newest earlier k zero h = refl
named_more newest earlier k (suc n) h =
    let p : ℕ = holder newest (suc n) (length newest - 1) in
    let v : ℕ = get_or earlier n 0 in
    let lt : p < length newest = omega (arith, holder_le newest (suc n) (length newest - 1)) in
    let len : 1 ≤ length (slice_set newest p v) = omega (arith, length-set newest p v) in
    ap (λ (q : ℕ). named (slice_set (newest ++ zeros k) q v) earlier n ++ q ∷ []) (holder_more newest k (suc n) (omega arith) h)
    ∙ ap (λ (l : List ℕ). named l earlier n ++ p ∷ []) (set-append_left newest (zeros k) p v lt)
    ∙ ap (λ (ps : List ℕ). ps ++ p ∷ []) (named_more (slice_set newest p v) earlier k n len)

-- one frame more
pub named_next : (newest earlier pages : List ℕ) (p n : ℕ) → IsChained newest earlier pages → p < length newest → n ≡ length earlier
    → named (slice_set newest p (n + 1)) (earlier ++ get_or newest p 0 ∷ []) (length (earlier ++ get_or newest p 0 ∷ [])) ≡ named newest earlier (length earlier) ++ p ∷ []
unfolding named
named_next newest earlier pages p n is lt count =
    let x : ℕ = get_or newest p 0 in
    let next : List ℕ = slice_set newest p (n + 1) in
    let len : length next ≡ length newest = length-set newest p (n + 1) in
    let here : get_or next p 0 ≡ suc n = get_or-set_same newest p (n + 1) 0 lt ∙ (let e : n + 1 ≡ suc n = omega arith in e) in
    let one : (q : ℕ) → q ≤ length next - 1 → get_or next q 0 ≡ suc n → q ≡ p = λ q le z. ⊎_elim (λ e. e) (λ ne.
    absurd (let other : get_or next q 0 ≡ get_or newest q 0 = get_or-set_other newest p q (n + 1) 0 ne in omega (arith, other, z, (is.newest_is q (omega arith)).there, is.count))) (cases_eq q p) in
    let at : holder next (suc n) (length next - 1) ≡ p = holder_is next (suc n) (length next - 1) p (omega arith) here one in
    let last : get_or (earlier ++ x ∷ []) n 0 ≡ x = get_or-append_right earlier (x ∷ []) n n 0 (sym count) (omega arith) ∙ ap (λ k. get_or (x ∷ []) k 0) (let e : n - n ≡ 0 = omega arith in e) in
    let back : slice_set next p x ≡ newest = set-set newest p (n + 1) x ∙ set-get_or newest p 0 in
    ap (named next (earlier ++ x ∷ [])) (let e : length (earlier ++ x ∷ []) ≡ suc n = omega (arith, length-append earlier (x ∷ [])) in e)
    ∙ ap (λ (q : ℕ). named (slice_set next q (get_or (earlier ++ x ∷ []) n 0)) (earlier ++ x ∷ []) n ++ q ∷ []) at
    ∙ ap (λ (v : ℕ). named (slice_set next p v) (earlier ++ x ∷ []) n ++ p ∷ []) last
    ∙ ap (λ (l : List ℕ). named l (earlier ++ x ∷ []) n ++ p ∷ []) back
    ∙ ap (λ (ps : List ℕ). ps ++ p ∷ []) (named_front newest earlier x n (omega arith) ∙ ap (named newest earlier) count)

-- ---- the newest frames

newest_front : (pages : List ℕ) (y page mark f : ℕ) → mark ≤ length pages → IsNewest pages page mark f → IsNewest (pages ++ y ∷ []) page mark f
newest_front pages y page mark f le is = record {
  within = is.within;
  there = omega (arith, is.within, length-append pages (y ∷ []));
  names = λ some. get_or_append_left pages (y ∷ []) 0 (f - 1) (omega (arith, is.within)) ∙ is.names some;
  newest = λ i a b c z. is.newest i a b (omega arith) (sym (get_or_append_left pages (y ∷ []) 0 (i - 1) (omega arith)) ∙ z);
}

-- a frame that names another page
newest_other : (pages : List ℕ) (y page f : ℕ) → page ≢ y → IsNewest pages page (length pages) f → IsNewest (pages ++ y ∷ []) page (length (pages ++ y ∷ [])) f
newest_other pages y page f ne is = record {
  within = omega (arith, is.within, length-append pages (y ∷ []));
  there = omega (arith, is.within, length-append pages (y ∷ []));
  names = λ some. get_or_append_left pages (y ∷ []) 0 (f - 1) (omega (arith, is.within)) ∙ is.names some;
  newest = λ i a b c z. ⊎_elim
      (λ low. is.newest i a (omega arith) (omega arith) (sym (get_or_append_left pages (y ∷ []) 0 (i - 1) (omega arith)) ∙ z))
      (λ high. ne (sym z ∙ get_or-append_right pages (y ∷ []) (length pages) (i - 1) 0 refl (omega arith) ∙ ap (λ k. get_or (y ∷ []) k 0) (let e : i - 1 - length pages ≡ 0 = omega (arith, length-append pages (y ∷ [])) in e)))
      (cases_lt (i - 1) (length pages));
}

pub chained_next : (newest earlier pages : List ℕ) (p n : ℕ) → IsChained newest earlier pages → p < length newest → n ≡ length earlier
    → IsChained (slice_set newest p (n + 1)) (earlier ++ get_or newest p 0 ∷ []) (pages ++ p ∷ [])
chained_next newest earlier pages p n is lt count = record {
  count = length-append earlier (get_or newest p 0 ∷ []) ∙ ap (λ k. k + 1) is.count ∙ sym (length-append pages (p ∷ []));
  bound = λ i le. ⊎_elim
      (λ low. omega (arith, length-set newest p (n + 1), get_or_append_left pages (p ∷ []) 0 i low, is.bound i low))
      (λ high. omega (arith, length-set newest p (n + 1), last i high le))
      (cases_lt i (length pages));
  newest_is = λ q le. ⊎_elim
      (λ e. subst (λ (x : ℕ). IsNewest (pages ++ p ∷ []) x (length (pages ++ p ∷ [])) (get_or (slice_set newest p (n + 1)) x 0)) (sym e)
      (subst (λ (f : ℕ). IsNewest (pages ++ p ∷ []) p (length (pages ++ p ∷ [])) f) (sym (get_or-set_same newest p (n + 1) 0 lt)) here))
      (λ ne. subst (λ (f : ℕ). IsNewest (pages ++ p ∷ []) q (length (pages ++ p ∷ [])) f) (sym (get_or-set_other newest p q (n + 1) 0 ne)) (newest_other pages p q (get_or newest q 0) ne (is.newest_is q (omega (arith, length-set newest p (n + 1))))))
      (cases_eq q p);
  earlier_is = λ i le. ⊎_elim
      (λ low.
      subst (λ (x : ℕ). IsNewest (pages ++ p ∷ []) x i (get_or (earlier ++ get_or newest p 0 ∷ []) i 0)) (sym (get_or_append_left pages (p ∷ []) 0 i low))
      (subst (λ (f : ℕ). IsNewest (pages ++ p ∷ []) (get_or pages i 0) i f) (sym (get_or_append_left earlier (get_or newest p 0 ∷ []) 0 i (omega (arith, is.count)))) (newest_front pages p (get_or pages i 0) i (get_or earlier i 0) (omega arith) (is.earlier_is i low))))
      (λ high.
      let at : i ≡ length pages = omega (arith, length-append pages (p ∷ [])) in
      subst (λ (x : ℕ). IsNewest (pages ++ p ∷ []) x i (get_or (earlier ++ get_or newest p 0 ∷ []) i 0)) (sym (last i high le))
      (subst (λ (f : ℕ). IsNewest (pages ++ p ∷ []) p i f) (sym (before i at))
      (newest_front pages p p i (get_or newest p 0) (omega arith) (subst (λ (m : ℕ). IsNewest pages p m (get_or newest p 0)) (sym at) (is.newest_is p lt)))))
      (cases_lt i (length pages));
}
  where
    last : (i : ℕ) → length pages ≤ i → i < length (pages ++ p ∷ []) → get_or (pages ++ p ∷ []) i 0 ≡ p
    last i high le = get_or-append_right pages (p ∷ []) (length pages) i 0 refl high ∙ ap (λ k. get_or (p ∷ []) k 0) (let e : i - length pages ≡ 0 = omega (arith, length-append pages (p ∷ [])) in e)

    before : (i : ℕ) → i ≡ length pages → get_or (earlier ++ get_or newest p 0 ∷ []) i 0 ≡ get_or newest p 0
    before i at = get_or-append_right earlier (get_or newest p 0 ∷ []) i i 0 (is.count ∙ sym at) (omega arith) ∙ ap (λ k. get_or (get_or newest p 0 ∷ []) k 0) (let e : i - i ≡ 0 = omega arith in e)

    here : IsNewest (pages ++ p ∷ []) p (length (pages ++ p ∷ [])) (n + 1)
    here = record {
      within = omega (arith, length-append pages (p ∷ []), is.count);
      there = omega (arith, length-append pages (p ∷ []), is.count);
      names = λ some. last (n + 1 - 1) (omega (arith, is.count)) (omega (arith, length-append pages (p ∷ []), is.count));
      newest = λ i a b c z. absurd (omega (arith, length-append pages (p ∷ []), is.count));
    }

pub chained_more : (newest earlier pages : List ℕ) (k : ℕ) → IsChained newest earlier pages → IsChained (newest ++ zeros k) earlier pages
chained_more newest earlier pages k is = record {
  count = is.count;
  bound = λ i lt. omega (arith, is.bound i lt, length-append newest (zeros k));
  newest_is = λ p lt. ⊎_elim
      (λ low. subst (λ (f : ℕ). IsNewest pages p (length pages) f) (sym (get_or_append_left newest (zeros k) 0 p low)) (is.newest_is p low))
      (λ high. subst (λ (f : ℕ). IsNewest pages p (length pages) f) (sym (past_zeros newest k p high)) (record {
        within = omega arith;
        there = omega arith;
        names = λ some. absurd (omega arith);
        newest = λ i a b c z. absurd (omega (arith, z, is.bound (i - 1) (omega arith)));
      }))
      (cases_lt p (length newest));
  earlier_is = is.earlier_is;
}

pub chained_none : (k : ℕ) → IsChained (zeros k) [] []
chained_none k = record {
  count = refl;
  bound = λ i lt. absurd (omega arith);
  newest_is = λ p lt. subst (λ (f : ℕ). IsNewest [] p 0 f) (sym (zeros_at k p)) (record {
    within = omega arith;
    there = omega arith;
    names = λ some. absurd (omega arith);
    newest = λ i a b c z. absurd (omega arith);
  });
  earlier_is = λ i lt. absurd (omega arith);
}

-- ---- the index

pub index_none : (newest earlier : List ℕ) (capacity : ℕ) → newest ≡ [] → earlier ≡ [] → IsIndex newest earlier 0 capacity
unfolding named
index_none newest earlier capacity a b = rw (a, b) (record { chained = chained_none 0; within = omega arith; fits = omega arith; some = λ h. absurd (omega arith) })

pub table_none : (newest earlier : List ℕ) → newest ≡ [] → earlier ≡ [] → table_of newest earlier 0 ≡ record { bound = 0; room = 0; pages = [] }
unfolding named
table_none newest earlier a b = rw (a, b) refl

pub index_next : (newest earlier : List ℕ) (room old new p n : ℕ) → IsIndex newest earlier room old → p ≤ length newest - 1 → n ≡ length earlier → n < room → room ≤ new
    → IsIndex (slice_set newest p (n + 1)) (earlier ++ get_or newest p 0 ∷ []) room new
index_next newest earlier room old new p n is le count lt fits =
    let pages : List ℕ = named newest earlier (length earlier) in
    let within : p < length newest = omega (arith, is.some (omega arith)) in
    record {
      chained = subst (λ (ps : List ℕ). IsChained (slice_set newest p (n + 1)) (earlier ++ get_or newest p 0 ∷ []) ps) (sym (named_next newest earlier pages p n is.chained within count)) (chained_next newest earlier pages p n is.chained within count);
      within = omega (arith, length-append earlier (get_or newest p 0 ∷ []));
      fits = fits;
      some = λ h. omega (arith, length-set newest p (n + 1));
    }

pub table_next : (newest earlier : List ℕ) (room capacity p n : ℕ) → IsIndex newest earlier room capacity → p ≤ length newest - 1 → n ≡ length earlier → n < room
    → table_of (slice_set newest p (n + 1)) (earlier ++ get_or newest p 0 ∷ []) room ≡ record (table_of newest earlier room) { pages = named newest earlier (length earlier) ++ p ∷ [] }
table_next newest earlier room capacity p n is le count lt =
    let within : p < length newest = omega (arith, is.some (omega arith)) in
    ap (λ (k : ℕ). record { bound = k - 1; room = room; pages = named (slice_set newest p (n + 1)) (earlier ++ get_or newest p 0 ∷ []) (length (earlier ++ get_or newest p 0 ∷ [])) }) (length-set newest p (n + 1))
    ∙ ap (λ (ps : List ℕ). record { bound = length newest - 1; room = room; pages = ps }) (named_next newest earlier (named newest earlier (length earlier)) p n is.chained within count)

pub index_cleared : (newest earlier : List ℕ) (room old new : ℕ) → IsIndex newest earlier room old → room ≤ new → IsIndex (zeros (length newest)) [] room new
unfolding named
index_cleared newest earlier room old new is fits = record { chained = chained_none (length newest); within = omega arith; fits = fits; some = λ h. omega (arith, is.some h, length-replicate {A = ℕ} (length newest) 0) }

pub table_cleared : (newest earlier : List ℕ) (room : ℕ) → table_of (zeros (length newest)) [] room ≡ record (table_of newest earlier room) { pages = [] }
unfolding named
table_cleared newest earlier room = ap (λ (k : ℕ). record { bound = k - 1; room = room; pages = [] }) (length-replicate {A = ℕ} (length newest) 0)

-- what a push finds, from the table that callers see
pub record MayPush (newest earlier : List ℕ) (room p n : ℕ) : Type 0 where
  pub page : p ≤ length newest - 1
  pub some : p < length newest
  pub room_left : n < room

pub may_push : (newest earlier : List ℕ) (room capacity p n : ℕ) (t : FrameTable) → table_of newest earlier room ≡ t → IsIndex newest earlier room capacity → n ≡ length earlier → p ≤ t.bound → length t.pages < t.room
    → MayPush newest earlier room p n
may_push newest earlier room capacity p n t view is count le lt =
    let page : p ≤ length newest - 1 = subst (λ (t : FrameTable). p ≤ t.bound) (sym view) le in
    let less : length (named newest earlier (length earlier)) < room = subst (λ (t : FrameTable). length t.pages < t.room) (sym view) lt in
    let left : n < room = omega (arith, length_named newest earlier (length earlier)) in
    record { page = page; some = omega (arith, is.some (omega arith)); room_left = left }

pub pushed : (newest earlier items : List ℕ) (x p : ℕ) → p < length newest → x ≡ get_or newest p x → items ≡ earlier ++ x ∷ [] → items ≡ earlier ++ get_or newest p 0 ∷ []
pushed newest earlier items x p lt e is = is ∙ ap (λ y. earlier ++ y ∷ []) (e ∙ get_or_default newest p x 0 lt)

-- more pages, and room for more frames
named_none : (a b c : List ℕ) (n : ℕ) → n ≡ 0 → named a c n ≡ named b c n
unfolding named
named_none a b c n z = rw z refl

named_grown : (newest earlier : List ℕ) (room capacity k : ℕ) → IsIndex newest earlier room capacity → named (newest ++ zeros k) earlier (length earlier) ≡ named newest earlier (length earlier)
named_grown newest earlier room capacity k is = ⊎_elim
    (λ some. named_more newest earlier k (length earlier) some)
    (λ none. let z : length earlier ≡ 0 = ⊎_elim (λ low. omega (arith, is.within)) (λ high. absurd (omega (arith, is.some high))) (cases_lt room 1) in named_none (newest ++ zeros k) newest earlier (length earlier) z)
    (cases_lt 0 (length newest))

pub index_grown : (newest earlier items : List ℕ) (room old k more new : ℕ) → IsIndex newest earlier room old → items ≡ newest ++ zeros k → 1 ≤ length newest + k → room ≤ more → more ≤ new → IsIndex items earlier more new
index_grown newest earlier items room old k more new is grown some wider fits = subst (λ (l : List ℕ). IsIndex l earlier more new) (sym grown) (record {
  chained = subst (λ (ps : List ℕ). IsChained (newest ++ zeros k) earlier ps) (sym (named_grown newest earlier room old k is)) (chained_more newest earlier (named newest earlier (length earlier)) k is.chained);
  within = omega (arith, is.within);
  fits = fits;
  some = λ h. omega (arith, length-append newest (zeros k), length-replicate {A = ℕ} k 0);
})

pub pages_grown : (newest earlier items : List ℕ) (room old k : ℕ) (t : FrameTable) → IsIndex newest earlier room old → table_of newest earlier room ≡ t → items ≡ newest ++ zeros k
    → named items earlier (length earlier) ≡ t.pages
pages_grown newest earlier items room old k t is view grown = ap (λ (l : List ℕ). named l earlier (length earlier)) grown ∙ named_grown newest earlier room old k is ∙ ap (λ (t : FrameTable). t.pages) view

-- what a resize makes
pub resized : (newest reserved items : List ℕ) (pages len : ℕ) → reserved ≡ newest → len ≡ length newest → length newest ≤ pages → items ≡ take pages reserved ++ replicate (pages - len) 0 → items ≡ newest ++ zeros (pages - length newest)
resized newest reserved items pages len same count le is =
    is
    ∙ ap (λ (l : List ℕ). take pages l ++ zeros (pages - len)) same
    ∙ ap (λ (n : ℕ). take pages newest ++ zeros (pages - n)) count
    ∙ ap (λ (l : List ℕ). l ++ zeros (pages - length newest)) (take_all pages newest le)

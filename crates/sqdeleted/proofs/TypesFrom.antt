-- Serial types from a place of a page on, one more at the end.
use Rattle.std.proofs.Common.{◌≡◌, ◌≢◌, ◌⊎◌, ℕ, ◌+◌, ◌-◌, ◌<◌, ◌≤◌, ◌^◌, nat_lt, Bool, true, false, if◌then◌else◌, lit≤, List, [], ◌∷◌, ◌++◌, ◌∙◌, take, drop, sum_by, length, inl, inr, refl, sym, ap, subst, arith, append-nil, length-append, length-drop, length-take}
use Rattle.std.proofs.lemmas.List.{drop-drop, drop-take, take-take}
use Rattle.std.proofs.lemmas.List.Sums.{sum_by-append, sum_by-cons, sum_by_push}
use Rattle.sqval.specs.Varint.{Begins}
use Rattle.sqval.specs.Serial.{body_size, IsInternal}
use Rattle.sqval.specs.Record.{Lead}
use Rattle.sqval.specs.Shortest.{varint_size}
use Rattle.sqval.proofs.payload.VarintNumbers.{begins_once}
use Rattle.sqval.proofs.payload.UniquenessOfReading.{lead_next}
use Rattle.sqdeleted.specs.Cut.{EndsHere}
use Rattle.sqdeleted.specs.declared.rest.Rest.{Rest}
use Rattle.sqdeleted.specs.internal.Rests.{AreTypesFrom, AreFirstFrom, IsTypeAt}
use Rattle.sqdeleted.proofs.BeginsOfRecords.{size_least, lead_least}

pushed_some : (xs : List ℕ) (x : ℕ) → xs ++ x ∷ [] ≢ []
pushed_some [] x e = cc
pushed_some (y ∷ ys) x e = cc

pick : (b : Bool) (m n : ℕ) → 1 ≤ m → 1 ≤ n → 1 ≤ (if b then m else n)
pick true m n one other = one
pick false m n one other = other

some_size : (n : ℕ) → 1 ≤ varint_size n
some_size n =
    pick (nat_lt n (128 ^ 1)) 1 _ (lit≤ tt) (pick (nat_lt n (128 ^ 2)) 2 _ (lit≤ tt) (pick (nat_lt n (128 ^ 3)) 3 _ (lit≤ tt) (pick (nat_lt n (128 ^ 4)) 4 _ (lit≤ tt)
    (pick (nat_lt n (128 ^ 5)) 5 _ (lit≤ tt) (pick (nat_lt n (128 ^ 6)) 6 _ (lit≤ tt) (pick (nat_lt n (128 ^ 7)) 7 _ (lit≤ tt) (pick (nat_lt n (128 ^ 8)) 8 9 (lit≤ tt) (lit≤ tt))))))))

-- where types take the fewest bytes together, the first one does
pub first_short : (f : ℕ) (others bytes rest : List ℕ) (lead : Lead (f ∷ others) bytes rest) → sum_by varint_size (f ∷ others) + length rest ≡ length bytes → lead.0 ≡ varint_size f
first_short f others bytes rest lead e =
    let one : varint_size f ≤ lead.0 = size_least f lead.0 bytes lead.1 in
    let within : lead.0 ≤ length bytes = lead.1.within in
    let more : sum_by varint_size others + length rest ≤ length (drop lead.0 bytes) = lead_least others (drop lead.0 bytes) rest lead.3 in
    omega (arith, one, within, more, e, length-drop lead.0 bytes, sum_by-cons varint_size f others)

-- a varint takes a byte at least
pub size_some : (serial size : ℕ) (bytes : List ℕ) → Begins serial size bytes → 1 ≤ size
size_some serial size bytes begins = omega (arith, begins.front.at_least_one, begins.within, length-take size bytes)

-- of two lists of types that begin at the same place one goes on where the other ends
pub lead_compare : (types others bytes rest end : List ℕ) → Lead types bytes rest → Lead others bytes end
    → ((more : List ℕ) × (others ≡ types ++ more) × Lead more rest end) ⊎ ((more : List ℕ) × (types ≡ others ++ more))
lead_compare [] others bytes rest end lead other = inl (others, refl, subst (λ (b : List ℕ). Lead others b end) lead other)
lead_compare (serial ∷ types) [] bytes rest end lead other = inr (serial ∷ types, refl)
lead_compare (serial ∷ types) (first ∷ others) bytes rest end lead other =
    let same = begins_once serial first lead.0 other.0 bytes lead.1 other.1 in
    let there : Lead others (drop lead.0 bytes) end = rw (same.1) other.3 in
    let one : serial ≡ first = same.0 in
    elim (lead_compare types others (drop lead.0 bytes) rest end lead.3 there) [
      | inl w ↦ inl (w.0, (let many : others ≡ types ++ w.0 = w.1 in cc), w.2)
      | inr w ↦ inr (w.0, (let many : types ≡ others ++ w.0 = w.1 in cc))
    ]

-- types that take the fewest bytes lead through just these
pub lead_alone : (serials bytes rest : List ℕ) → Lead serials bytes rest → sum_by varint_size serials + length rest ≡ length bytes → Lead serials (take (sum_by varint_size serials) bytes) []
lead_alone [] bytes rest lead e = refl
lead_alone (f ∷ others) bytes rest lead e =
    let size : lead.0 ≡ varint_size f = first_short f others bytes rest lead e in
    let n = sum_by varint_size others in
    let all : sum_by varint_size (f ∷ others) ≡ lead.0 + n = sum_by-cons varint_size f others ∙ ap (λ (k : ℕ). k + n) (sym size) in
    let within : lead.0 ≤ length bytes = lead.1.within in
    let tail : sum_by varint_size others + length rest ≡ length (drop lead.0 bytes) = omega (arith, e, all, within, length-drop lead.0 bytes) in
    let more : Lead others (take n (drop lead.0 bytes)) [] = lead_alone others (drop lead.0 bytes) rest lead.3 tail in
    let front : take lead.0 (take (lead.0 + n) bytes) ≡ take lead.0 bytes = take-take lead.0 (lead.0 + n) bytes (omega arith) in
    let begins : Begins f lead.0 (take (lead.0 + n) bytes) = record { within = omega (arith, within, length-take (lead.0 + n) bytes); front = rw front lead.1.front } in
    rw all (lead.0, begins, lead.2, rw (drop-take lead.0 n bytes) more)

-- Types from a place of a page on, each in the fewest bytes, that were read up to one: none of them whose bodies end where a cell
-- may ended there.
pub record Reading (used : List ℕ) (whole : List Bool) (last to from least most bodies end : ℕ) : Type 0 where
  pub serials : List ℕ
  pub lead : Lead serials (drop from used) (drop bodies used)
  pub short : bodies ≡ from + sum_by varint_size serials
  pub fills : end ≡ bodies + sum_by body_size serials
  pub within : end ≤ to
  pub ahead : (other : Rest) → AreTypesFrom used whole last to from least most other → bodies < other.bodies

pub reading_none : (used : List ℕ) (whole : List Bool) (last to from least most : ℕ) → from ≤ to → Reading used whole last to from least most from from
reading_none used whole last to from least most before = record {
  serials = [];
  lead = refl;
  short = omega arith;
  fills = omega arith;
  within = before;
  ahead = λ other are. some_ahead are.serials other.bodies are.some are.leads are.short;
}
  where
    some_ahead : (serials : List ℕ) (bodies : ℕ) → serials ≢ [] → Lead serials (drop from used) (drop bodies used) → bodies ≡ from + sum_by varint_size serials → from < bodies
    some_ahead [] bodies some lead short = absurd (some refl)
    some_ahead (serial ∷ serials) bodies some lead short = omega (arith, short, sum_by-cons varint_size serial serials, some_size serial)

-- what lies ahead goes on with the type that begins here
module _ (used : List ℕ) (whole : List Bool) (last to from least most bodies end : ℕ) (sized : to ≤ length used) (r : Reading used whole last to from least most bodies end)
    (other : Rest) (are : AreTypesFrom used whole last to from least most other) where
  within_used : (bodies ≤ length used) × (other.bodies ≤ length used)
  within_used =
      let own : end ≤ to = r.within in
      let fills : end ≡ bodies + sum_by body_size r.serials = r.fills in
      let before : other.end ≤ to = are.before in
      let filled : other.end ≡ other.bodies + sum_by body_size are.serials = are.fills in
      (omega (arith, own, fills, sized), omega (arith, before, filled, sized))

  pub goes_on : (serial size : ℕ) × (others : List ℕ) × (are.serials ≡ r.serials ++ serial ∷ others) × IsTypeAt (drop bodies used) serial size × Lead others (drop size (drop bodies used)) (drop other.bodies used)
  goes_on = elim (lead_compare r.serials are.serials (drop from used) (drop bodies used) (drop other.bodies used) r.lead are.leads) [
    | inl w ↦ more w.0 w.1 w.2
    | inr w ↦ absurd (behind w.0 w.1)
  ]
    where
      short : bodies ≡ from + sum_by varint_size r.serials
      short = r.short

      longer : other.bodies ≡ from + sum_by varint_size are.serials
      longer = are.short

      ahead : bodies < other.bodies
      ahead = r.ahead other are

      behind : (more : List ℕ) → r.serials ≡ are.serials ++ more → ⊥
      behind more e = omega (arith, short, longer, ahead, ap (λ (l : List ℕ). sum_by varint_size l) e, sum_by-append varint_size are.serials more)

      more : (more : List ℕ) → are.serials ≡ r.serials ++ more → Lead more (drop bodies used) (drop other.bodies used)
          → (serial size : ℕ) × (others : List ℕ) × (are.serials ≡ r.serials ++ serial ∷ others) × IsTypeAt (drop bodies used) serial size × Lead others (drop size (drop bodies used)) (drop other.bodies used)
      more [] e lead = absurd (omega (arith, short, longer, ahead, ap (λ (l : List ℕ). sum_by varint_size l) (e ∙ append-nil r.serials)))
      more (serial ∷ others) e lead =
          let sum : sum_by varint_size are.serials ≡ sum_by varint_size r.serials + sum_by varint_size (serial ∷ others) =
          ap (λ (l : List ℕ). sum_by varint_size l) e ∙ sum_by-append varint_size r.serials (serial ∷ others) in
          let lens : sum_by varint_size (serial ∷ others) + length (drop other.bodies used) ≡ length (drop bodies used) =
          omega (arith, short, longer, sum, within_used.0, within_used.1, length-drop bodies used, length-drop other.bodies used) in
          (serial, lead.0, others, e, record { begins = lead.1; outer = lead.2; short = first_short serial others (drop bodies used) (drop other.bodies used) lead lens }, lead.3)

  -- of this many bytes, and behind it
  module _ (serial size body : ℕ) (here : IsTypeAt (drop bodies used) serial size) (sized_body : body ≡ body_size serial) where
    pub behind_it : (others : List ℕ) × (other.bodies ≡ bodies + size + sum_by varint_size others) × (other.end ≡ end + (size + body) + (sum_by varint_size others + sum_by body_size others))
        × (are.serials ≡ r.serials ++ serial ∷ others)
    behind_it =
        let g = goes_on in
        let same = begins_once g.0 serial g.1 size (drop bodies used) g.4.begins here.begins in
        let one : g.0 ≡ serial = same.0 in
        let e : are.serials ≡ r.serials ++ serial ∷ g.2 = subst (λ (s : ℕ). are.serials ≡ r.serials ++ s ∷ g.2) one g.3 in
        let short : bodies ≡ from + sum_by varint_size r.serials = r.short in
        let fills : end ≡ bodies + sum_by body_size r.serials = r.fills in
        let longer : other.bodies ≡ from + sum_by varint_size are.serials = are.short in
        let filled : other.end ≡ other.bodies + sum_by body_size are.serials = are.fills in
        let least_size : size ≡ varint_size serial = here.short in
        let sum : sum_by varint_size are.serials ≡ sum_by varint_size r.serials + (varint_size serial + sum_by varint_size g.2) = sums varint_size serial g.2 e in
        let bodies_sum : sum_by body_size are.serials ≡ sum_by body_size r.serials + (body_size serial + sum_by body_size g.2) = sums body_size serial g.2 e in
        (g.2, omega (arith, short, longer, sum, least_size), omega (arith, short, fills, longer, filled, sum, bodies_sum, least_size, sized_body), e)
      where
        sums : (f : ℕ → ℕ) (s : ℕ) (others : List ℕ) → are.serials ≡ r.serials ++ s ∷ others → sum_by f are.serials ≡ sum_by f r.serials + (f s + sum_by f others)
        sums f s others e = ap (λ (l : List ℕ). sum_by f l) e ∙ sum_by-append f r.serials (s ∷ others) ∙ ap (λ (n : ℕ). sum_by f r.serials + n) (sum_by-cons f s others)

-- one more type
module _ (used : List ℕ) (whole : List Bool) (last to from least most bodies end : ℕ) (sized : to ≤ length used) (r : Reading used whole last to from least most bodies end)
    (serial size body : ℕ) (here : IsTypeAt (drop bodies used) serial size) (sized_body : body ≡ body_size serial) where
  lead_more : Lead (r.serials ++ serial ∷ []) (drop from used) (drop (bodies + size) used)
  lead_more = subst (λ (l : List ℕ). Lead (r.serials ++ serial ∷ []) (drop from used) l) (drop-drop size bodies used)
      (lead_next r.serials (drop from used) (drop bodies used) serial size r.lead here.begins here.outer)

  short_more : bodies + size ≡ from + sum_by varint_size (r.serials ++ serial ∷ [])
  short_more =
      let short : bodies ≡ from + sum_by varint_size r.serials = r.short in
      let least_size : size ≡ varint_size serial = here.short in
      omega (arith, short, least_size, sum_by_push varint_size r.serials serial)

  fills_more : end + (size + body) ≡ bodies + size + sum_by body_size (r.serials ++ serial ∷ [])
  fills_more =
      let fills : end ≡ bodies + sum_by body_size r.serials = r.fills in
      omega (arith, fills, sized_body, sum_by_push body_size r.serials serial)

  pub reading_next : end + (size + body) ≤ to → (least ≤ bodies + size → bodies + size ≤ most → EndsHere used whole last (end + (size + body)) → ⊥)
      → Reading used whole last to from least most (bodies + size) (end + (size + body))
  reading_next before refused = record {
    serials = r.serials ++ serial ∷ [];
    lead = lead_more;
    short = short_more;
    fills = fills_more;
    within = before;
    ahead = λ other are. (let b = behind_it used whole last to from least most bodies end sized r other are serial size body here sized_body in farther other are b.0 b.1 b.2);
  }
    where
      farther : (other : Rest) → AreTypesFrom used whole last to from least most other → (others : List ℕ) → other.bodies ≡ bodies + size + sum_by varint_size others
          → other.end ≡ end + (size + body) + (sum_by varint_size others + sum_by body_size others) → bodies + size < other.bodies
      farther other are [] at ends =
          let same : other.bodies ≡ bodies + size = omega (arith, at) in
          let same_end : other.end ≡ end + (size + body) = omega (arith, ends) in
          absurd (refused (subst (λ (n : ℕ). least ≤ n) same are.low) (subst (λ (n : ℕ). n ≤ most) same are.high) (subst (λ (n : ℕ). EndsHere used whole last n) same_end are.ends))
      farther other are (x ∷ others) at ends = omega (arith, at, sum_by-cons varint_size x others, some_size x)

  pub reading_found : end + (size + body) ≤ to → least ≤ bodies + size → bodies + size ≤ most → EndsHere used whole last (end + (size + body))
      → AreFirstFrom used whole last to from least most (record { types = from; bodies = bodies + size; end = end + (size + body) })
  reading_found before low high ends = (
    record {
      serials = r.serials ++ serial ∷ [];
      some = pushed_some r.serials serial;
      begin = refl;
      leads = lead_more;
      short = short_more;
      fills = fills_more;
      low = low;
      high = high;
      before = before;
      ends = ends;
    },
    λ other are. (let b = behind_it used whole last to from least most bodies end sized r other are serial size body here sized_body in omega (arith, b.2)),
  )

  pub too_far : to < end + (size + body) → (other : Rest) → ¬ AreTypesFrom used whole last to from least most other
  too_far far other are =
      let b = behind_it used whole last to from least most bodies end sized r other are serial size body here sized_body in
      let before : other.end ≤ to = are.before in
      omega (arith, far, before, b.2)

-- where no type begins, and behind the last place
module _ (used : List ℕ) (whole : List Bool) (last to from least most bodies end : ℕ) (sized : to ≤ length used) (r : Reading used whole last to from least most bodies end) where
  pub none_on : ((serial size : ℕ) → ¬ IsTypeAt (drop bodies used) serial size) → (other : Rest) → ¬ AreTypesFrom used whole last to from least most other
  none_on none other are = let g = goes_on used whole last to from least most bodies end sized r other are in none g.0 g.1 g.4

  pub none_past : most ≤ bodies → (other : Rest) → ¬ AreTypesFrom used whole last to from least most other
  none_past past other are =
      let ahead : bodies < other.bodies = r.ahead other are in
      let high : other.bodies ≤ most = are.high in
      omega (arith, past, ahead, high)

-- the first of types takes a byte
pub types_some : (serials : List ℕ) → serials ≢ [] → 1 ≤ sum_by varint_size serials
types_some [] some = absurd (some refl)
types_some (serial ∷ serials) some = omega (arith, sum_by-cons varint_size serial serials, some_size serial)

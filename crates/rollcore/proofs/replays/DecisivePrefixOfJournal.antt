-- A journal of which a front was read behind which no bytes change what it says.
use Rattle.rollcore.proofs.Below.{AreSegments, End, HasCount, HasEntry, HasRead, Header, IsFirst, IsHot, IsPageSize, JournalHeader, List, Names, None, Option, Record, Replay, Says, Segment, Sizes, Some, Stop, Took, Why, [], ap, append-nil, arith, cases_lt, end_above, entries, entry_of, hot_long, inr, length, length-append, next_header, next_of, part_more, records_end, refl, size_bounds, sizes_of, subst, sym, word, word_more, ℕ, ⊎_elim, ◌++◌, ◌+◌, ◌∙◌, ◌∷◌, ◌≡◌, ◌≤◌}
use Rattle.sqjournal.specs.Took.{IsSettled}

-- ---- The front is hot where the journal is.

module _ (b more : List ℕ) (hot : IsHot b) where
  long : 512 ≤ length b
  long = hot_long b hot

  word_on : (at : ℕ) → at + 4 ≤ 28 → word (b ++ more) at ≡ word b at
  word_on at le = word_more b more at (omega (arith, long))

  hot_more : IsHot (b ++ more)
  hot_more = record {
    first = record {
      magic = part_more b more 0 8 (omega (arith, long)) ∙ hot.first.magic;
      sector = subst IsPageSize (sym (word_on 20 (omega arith))) hot.first.sector;
      size = subst IsPageSize (sym (word_on 24 (omega arith))) hot.first.size;
    };
    whole = omega (arith, word_on 20 (omega arith), hot.whole, length-append b more);
  }

  names_more : (h : JournalHeader) → Names b h → Names (b ++ more) h
  names_more h names = record {
    count = names.count ∙ sym (word_on 8 (omega arith));
    nonce = names.nonce ∙ sym (word_on 12 (omega arith));
    first_size = names.first_size ∙ sym (word_on 16 (omega arith));
    sector = names.sector ∙ sym (word_on 20 (omega arith));
    size = names.size ∙ sym (word_on 24 (omega arith));
  }

-- segments end behind the place where they begin
ends_behind : (z : Sizes) (b : List ℕ) (from : ℕ) (segments : List Segment) (at : ℕ) (why : Why) → 1 ≤ z.sector → AreSegments z b from segments at why → from ≤ at
ends_behind z b from [] at why some are = omega (arith, are.0)
ends_behind z b from (s ∷ segments) at why some are = ⊎_elim
    (λ all. omega (arith, next_of z from s.records some, ends_behind z b (next_header z.sector (records_end z (from + z.sector) s.records)) segments at why some all.1))
    (λ few. omega (arith, few.2, end_above z (from + z.sector) s.records)) are.4

-- a hot journal doesn't end where it begins
starts_cold : (b : List ℕ) (segments : List Segment) (why : Why) → IsHot b → AreSegments (sizes_of b) b 0 segments 0 why → ⊥
starts_cold b [] End hot are = omega (arith, hot_long b hot, are.1)
starts_cold b [] Header hot are = are.1.1 (record { magic = hot.first.magic; whole = omega (arith, hot.whole) })
starts_cold b [] _ hot are = absurd are.1
starts_cold b (s ∷ segments) why hot are =
    let z = sizes_of b in
    let some : 1 ≤ word b 20 = omega (arith, (size_bounds (word b 20) hot.first.sector).0) in
    ⊎_elim
    (λ all. omega (arith, some, next_of z 0 s.records some, ends_behind z b (next_header z.sector (records_end z (0 + z.sector) s.records)) segments 0 why some all.1))
    (λ few. omega (arith, some, few.2, end_above z (0 + z.sector) s.records)) are.4

says_cold : (b : List ℕ) (es : List Record) (why : Why) → Says b es (record { at = 0; why = why }) → IsHot b → ⊥
says_cold b es why says hot = ⊎_elim (λ is. starts_cold b says.segments why hot is.1) (λ is. is.0 hot) says.is

cold_more : (b more : List ℕ) → IsSettled b → (IsHot b → ⊥) → IsHot (b ++ more) → ⊥
cold_more b more settled cold = ⊎_elim
    (λ some. says_cold (b ++ more) [] Header (settled more [] (record { at = 0; why = Header }) (record { segments = []; is = inr (cold, refl, refl, some); records = refl })))
    (λ none. says_cold (b ++ more) [] End (settled more [] (record { at = 0; why = End }) (record { segments = []; is = inr (cold, refl, refl, omega (arith, none)); records = refl })))
    (cases_lt 0 (length b))

-- ---- What the front says the journal says.

module _ (w : List ℕ) (s : Replay) (read : HasRead w s) where
  whole_of : (P : List ℕ → Type 0) → (IsSettled read.front → P (read.front ++ read.more)) → P read.front → P w
  whole_of P on here = subst P (sym read.split)
      (⊎_elim (λ none. subst P (sym (ap (λ l. read.front ++ l) none ∙ append-nil read.front)) here) on read.rest)

  front_says : (es : List Record) (stop : Stop) → Says read.front es stop → Says w es stop
  front_says es stop says = whole_of (λ (l : List ℕ). Says l es stop) (λ settled. settled read.more es stop says) says

  pub read_entry : (i : ℕ) (o : Option Record) → ((b : List ℕ) → Took b s → HasEntry b i o) → HasEntry w i o
  read_entry i o has =
      let here = has read.front read.took in
      let all = front_says (entries (sizes_of read.front) 0 here.segments) here.stop (record { segments = here.segments; is = here.is; records = refl }) in
      record { segments = all.segments; stop = here.stop; is = all.is; value = here.value ∙ ap (λ es. entry_of es i) (sym all.records) }

  pub read_count : (n : ℕ) → ((b : List ℕ) → Took b s → HasCount b n) → HasCount w n
  read_count n has =
      let here = has read.front read.took in
      let all = front_says (entries (sizes_of read.front) 0 here.segments) here.stop (record { segments = here.segments; is = here.is; records = refl }) in
      record { segments = all.segments; stop = here.stop; is = all.is; value = here.value ∙ ap length (sym all.records) }

  pub read_first : (o : Option JournalHeader) → ((b : List ℕ) → Took b s → IsFirst b o) → IsFirst w o
  read_first None first =
      let cold = first read.front read.took in
      whole_of (λ (l : List ℕ). IsHot l → ⊥) (λ settled. cold_more read.front read.more settled cold) cold
  read_first (Some h) first =
      let here = first read.front read.took in
      whole_of (λ (l : List ℕ). IsHot l × Names l h) (λ settled. (hot_more read.front read.more here.0, names_more read.front read.more here.0 h here.1)) here

-- Lines of what stands behind the stop of a log.
use Rattle.std.proofs.Common.{◌≡◌, ⊎_elim, inl, inr, ℕ, zero, suc, ◌+◌, ◌-◌, ◌*◌, ◌/◌, ◌^◌, ◌<◌, ◌≤◌, List, ◌++◌, length, Option, refl, sym, ap, subst, ◌∙◌, add-one, add-mul, arith}
use Rattle.std.specs.Prelude.{◌≢◌, ◌⊎◌, ◌↔◌, ◌%◌, ◌==◌, min, Bool, IsTrue, None, Some, Result, Ok, Err, IfErr, OnOk}
use Rattle.std.specs.List.{flat_map}
use Rattle.std.specs.Option.{option_map}
use Rattle.std.specs.Io.KnownBytes.{Appends}
use Rattle.std.proofs.KnownBytes.{Appends-trans}
use Rattle.std.proofs.Math.Nat.{le-mul_of_pos_right, mul-le-mul_right, div-mul-le_self}
use Rattle.sqval.specs.Bytes.{part, word}
use Rattle.sqjournal.proofs.journal.DependenceOnPrefix.{word_part}
use Rattle.sqwal.specs.Frames.{frame_at, frame_end}
use Rattle.sqwal.specs.Answers.{HeaderFound}
use Rattle.sqwal.specs.Header.{named_size, IsHeader, IsHeaderOf}
use Rattle.sqwal.specs.declared.header.WalHeader.{WalHeader}
use Rattle.sqwal.specs.declared.slots.Slot.{Slot}
use Rattle.sqwal.specs.Slots.{IsSlot, stored}
use Rattle.sqwal.specs.Stops.{IsStop, StopsFor}
use Rattle.sqwal.specs.declared.scan.Why.{Why}
use Rattle.sqwal.specs.declared.scan.Why.TheVariants.{End, Cut, Salt, PageZero, Sum}
use Rattle.sqwal.specs.declared.sum.Sum.{Sum as Sums}
use Rattle.sqwal.proofs.log.DependenceOnPrefix.{frame_at-end, frame_at-suc}
use Rattle.sqview.specs.Laid.{part_or_zeros}
use Rattle.sqview.proofs.file.FileHeads.{part_is}
use Rattle.sqjournal.specs.Journal.{IsFirst, IsHot}
use Rattle.sqjournal.specs.Took.{HasCount}
use Rattle.sqjournal.specs.declared.header.JournalHeader.{JournalHeader}
use Rattle.sqjournal.specs.declared.slots.RecordSlot.{RecordSlot}
use Rattle.sqjournal.specs.Slots.{Follows}
use Rattle.sqjournal.specs.Slots.{IsRecordSlot, IsZeroed}
use Rattle.sqval.specs.Limits.{Bounds}
use Rattle.sqview.proofs.file.FileHeads.{head_is, page_is_part}
use Rattle.sqview.specs.LogView.{head_of}
use Rattle.cli_words.specs.declared.requests.Options.{Options}
use Rattle.cli_words.specs.declared.requests.Style.{Style}
use Rattle.cli_facts.specs.declared.outcome.Refusal.{Refusal}
use Rattle.cli_facts.specs.declared.outcome.Refusal.TheVariants.{NoMemory}
use Rattle.cli_text.specs.Behind.{end_text, record_slot_text, slot_text}
use Rattle.cli_text.specs.declared.behind.SlotKind.{SlotKind}
use Rattle.cli_show.specs.Generations.{AreGenerations, generation_text}
use Rattle.cli_show.specs.declared.generations.Generation.{Generation}
use Rattle.cli_show.specs.Behind.{AreLines, AreRecordLines, AreSlotLines, BeginsZeroed, HasFellow, IsBehindFrames, IsBehindRecords, EndsSegments, IsBehindText, IsRestLine, IsSlotLine, IsWholeLogText, IsZeroedLine, as_written, over_from, slot_place, slots_from}
use Rattle.cli_show.specs.Contents.{KeepsBytes}
use Rattle.cli_show.specs.Errors.{IfRefused}
use Rattle.cli_show.specs.Logs.{IsUnreadLog}
use Rattle.cli_show.specs.LogsShown.{IsLogText}
use Rattle.cli_show.specs.declared.error.ShowError.{ShowError}
use Rattle.cli_show.specs.declared.error.ShowError.TheVariants.{Refused, Unwritten}
use Rattle.cli_show.specs.internal.Behind.{IsNonceBefore, IsRecordOf}
use Rattle.cli_show.proofs.WrittenLogs.{on_ok}

-- one more line
pub one_more : (IsLine : (k : ℕ) → (line : List ℕ) → Type 0) (k : ℕ) (old mid new : Option (List ℕ)) (text line : List ℕ)
    → AreLines IsLine k text → Appends old mid text → IsLine k line → Appends mid new line
    → (all : List ℕ) × AreLines IsLine (k + 1) all × Appends old new all
one_more IsLine k old mid new text line lines first is more =
    let grown : AreLines IsLine (suc k) (text ++ line) = (text, line, lines, is, refl) in
    (text ++ line, subst (λ (n : ℕ). AreLines IsLine n (text ++ line)) (sym (add-one k)) grown, Appends-trans old mid new text line first more)

frame_at_is : (size i n : ℕ) → n ≡ 32 + (i - 1) * (24 + size) → frame_at size i ≡ n
unfolding frame_at
frame_at_is size i n is = sym is

pub placed_at : (size i n : ℕ) → n ≡ 32 + (i - 1) * (24 + size) → n ≡ frame_at size i
placed_at size i n is = sym (frame_at_is size i n is)

-- where the slots from one on begin
pub slot_from : (size first i : ℕ) → 1 ≤ first → frame_at size first + i * (24 + size) ≡ frame_at size (first + i)
unfolding frame_at
slot_from size first i some =
    let e : first + i - 1 ≡ (first - 1) + i = omega arith in
    let split : (first + i - 1) * (24 + size) ≡ (first - 1) * (24 + size) + i * (24 + size) =
    ap (λ (n : ℕ). n * (24 + size)) e ∙ add-mul (first - 1) i (24 + size) in
    omega (arith, split)

-- the number of one that lies below a place
pub number_below : (size first i end : ℕ) → 1 ≤ first → frame_at size (first + i) ≤ end → end < 2 ^ 64 → first + i < 2 ^ 64
unfolding frame_at
number_below size first i end some below small =
    let least : first + i - 1 ≤ (first + i - 1) * (24 + size) = le-mul_of_pos_right (first + i - 1) (omega arith) in
    omega (arith, least)

number_least : (size first i end : ℕ) → 1 ≤ first → frame_at size (first + i) ≤ end → end < 2 ^ 64 → first + i < 2 ^ 64 - 1
unfolding frame_at
number_least size first i end some below small =
    let least : first + i - 1 ≤ (first + i - 1) * (24 + size) = le-mul_of_pos_right (first + i - 1) (omega arith) in
    omega (arith, least)

-- the number of one that is whole, and of the next
pub number_low : (size first i end : ℕ) → 1 ≤ first → frame_end size (first + i) ≤ end → end < 2 ^ 64 → first + i < 2 ^ 64 - 1
number_low size first i end some below small =
    let here : frame_at size (first + i) + 24 + size ≡ frame_end size (first + i) = frame_at-end size (first + i) (omega arith) in
    number_least size first i end some (omega (arith, here, below)) small

-- a log's stop is no further than its end
stop_within : (size : ℕ) (w : List ℕ) (f : ℕ) (why : Why) → 1 ≤ f → StopsFor size w f why → frame_at size f ≤ length w
stop_within size w f End some stops = omega (arith, stops)
stop_within size w f Cut some stops = omega (arith, stops.0)
stop_within size w f Salt some stops = omega (arith, stops.0, frame_at-end size f some)
stop_within size w f PageZero some stops = omega (arith, stops.0, frame_at-end size f some)
stop_within size w f Sum some stops = omega (arith, stops.0, frame_at-end size f some)

-- that of a log with a whole header
pub stop_place : (w : List ℕ) (f : ℕ) (why : Why) → 32 ≤ length w → IsStop w f why → (1 ≤ f) × (frame_at (named_size w) f ≤ length w)
stop_place w f why whole is = ⊎_elim
    (λ short. absurd (omega (arith, short.0, whole)))
    (λ stop. (stop.1, stop_within (named_size w) w f why stop.1 stop.3)) is

sums_at : (size k : ℕ) (w sums : List ℕ) → frame_at size (suc k) + 24 ≤ length w → sums ≡ part_or_zeros 8 (frame_at size (suc k) + 16) w
    → (word sums 0 ≡ (stored size w (suc k)).s0) × (word sums 4 ≡ (stored size w (suc k)).s1)
sums_at size k w sums within read =
    let at : ℕ = frame_at size (suc k) + 16 in
    let is : sums ≡ part w at 8 = read ∙ part_is 8 at w (omega arith) in
    let first : at + 0 ≡ at = omega arith in
    let second : at + 4 ≡ frame_at size (suc k) + 20 = omega arith in (
      ap (λ (l : List ℕ). word l 0) is ∙ word_part w at 8 0 (omega arith) ∙ ap (λ (n : ℕ). word w n) first,
      ap (λ (l : List ℕ). word l 4) is ∙ word_part w at 8 4 (omega arith) ∙ ap (λ (n : ℕ). word w n) second,
    )

-- the sums that were read of the slot before one
pub sums_read : (size i : ℕ) (w sums : List ℕ) → 2 ≤ i → frame_at size i ≤ length w → sums ≡ part_or_zeros 8 (frame_at size (i - 1) + 16) w
    → (word sums 0 ≡ (stored size w (i - 1)).s0) × (word sums 4 ≡ (stored size w (i - 1)).s1)
sums_read size i w sums some within read =
    let e : i - 1 ≡ suc (i - 2) = omega arith in
    let next : suc (suc (i - 2)) ≡ i = omega arith in
    let end : frame_at size (suc (suc (i - 2))) ≡ frame_end size (suc (i - 2)) = frame_at-suc size (suc (i - 2)) in
    let here : frame_at size i ≡ frame_end size (suc (i - 2)) = ap (λ (n : ℕ). frame_at size n) (sym next) ∙ end in
    let whole : frame_at size (suc (i - 2)) + 24 ≤ length w = omega (arith, frame_at-end size (suc (i - 2)) (omega arith), here) in
    subst (λ (n : ℕ). (word sums 0 ≡ (stored size w n).s0) × (word sums 4 ≡ (stored size w n).s1)) (sym e)
    (sums_at size (i - 2) w sums whole (read ∙ ap (λ (n : ℕ). part_or_zeros 8 (frame_at size n + 16) w) e))

-- each of the whole slots from a place to an end lies below it
pub slots_within : (from long end i : ℕ) → 0 < long → i < (end - from) / long → from + (i + 1) * long ≤ end
slots_within from long end i some below =
    let rows : (i + 1) * long ≤ (end - from) / long * long = mul-le-mul_right long (omega (arith, below)) in
    let all : (end - from) / long * long ≤ end - from = div-mul-le_self (end - from) long in
    let one : i + 1 ≤ (i + 1) * long = le-mul_of_pos_right (i + 1) some in
    omega (arith, rows, all, one)

-- a record has a fellow where one of the nonces beside it is its own
module _ (size count : ℕ) (b : List ℕ) (i : ℕ) (slot : RecordSlot) (fits : slot.nonce < 2 ^ 32) where
  fellow_is : (before : Option ℕ) (next : Option RecordSlot) → IsNonceBefore size b i before → IsRecordOf size b count (i + 1) next
      → (before ≡ Some slot.nonce) ⊎ (option_map (λ s. s.nonce) next ≡ Some slot.nonce) → HasFellow size count b i slot.nonce
  fellow_is None None first last is = ⊎_elim (λ e. cc) (λ e. cc) is
  fellow_is (Some m) None here last is = ⊎_elim
      (λ e. let same : slot.nonce ≡ m = cc in inl (here.0, (here.1 slot.nonce fits).1 same)) (λ e. cc) is
  fellow_is None (Some s) first there is = ⊎_elim
      (λ e. cc) (λ e. let same : slot.nonce ≡ s.nonce = cc in inr (there.0, (there.1.nonce slot.nonce fits).1 same)) is
  fellow_is (Some m) (Some s) here there is = ⊎_elim
      (λ e. let same : slot.nonce ≡ m = cc in inl (here.0, (here.1 slot.nonce fits).1 same))
      (λ e. let same : slot.nonce ≡ s.nonce = cc in inr (there.0, (there.1.nonce slot.nonce fits).1 same)) is

  fellow_before : (before : Option ℕ) → IsNonceBefore size b i before → (0 < i) × Follows size b (slot_place 512 (size + 8) (i - 1)) slot.nonce
      → before ≡ Some slot.nonce
  fellow_before None first has = absurd (omega (arith, first, has.0))
  fellow_before (Some m) here has = let same : slot.nonce ≡ m = (here.1 slot.nonce fits).0 has.1 in ap (λ (n : ℕ). Some n) (sym same)

  fellow_next : (next : Option RecordSlot) → IsRecordOf size b count (i + 1) next
      → (i + 1 < count) × Follows size b (slot_place 512 (size + 8) (i + 1)) slot.nonce → option_map (λ s. s.nonce) next ≡ Some slot.nonce
  fellow_next None last has = absurd (omega (arith, last, has.0))
  fellow_next (Some s) there has = let same : slot.nonce ≡ s.nonce = (there.1.nonce slot.nonce fits).0 has.1 in ap (λ (n : ℕ). Some n) (sym same)

  pub fellows : (before : Option ℕ) (next : Option RecordSlot) (follows : Bool) → IsNonceBefore size b i before → IsRecordOf size b count (i + 1) next
      → IsTrue follows ↔ ((slot.page ≢ 0) × ((before ≡ Some slot.nonce) ⊎ (option_map (λ s. s.nonce) next ≡ Some slot.nonce)))
      → IsTrue follows ↔ ((slot.page ≢ 0) × HasFellow size count b i slot.nonce)
  fellows before next follows here there is = (
    λ yes. let told = is.0 yes in (told.0, fellow_is before next here there told.1),
    λ has. is.1 (
      has.0,
      ⊎_elim (λ (f : (0 < i) × Follows size b (slot_place 512 (size + 8) (i - 1)) slot.nonce). inl (fellow_before before here f))
          (λ (f : (i + 1 < count) × Follows size b (slot_place 512 (size + 8) (i + 1)) slot.nonce). inr (fellow_next next there f)) has.1,
    ),
  )

-- where one of these slots begins, which its reader says as far as it fits
pub placed : (from long end f l n i place : ℕ) → f ≡ from → l ≡ long → n ≡ (end - from) / long → 0 < long → end < 2 ^ 64 → i < n
    → (f + i * l < 2 ^ 64 → place ≡ f + i * l) → (place ≡ from + i * long) × (place + long ≤ end)
placed from long end f l n i place from_is long_is count some small below is =
    let next : from + (i + 1) * long ≤ end = slots_within from long end i some (subst (λ (m : ℕ). i < m) count below) in
    let row : (i + 1) * long ≡ i * long + long = omega (arith, add-mul i 1 long) in
    let told : from + i * long < 2 ^ 64 → place ≡ from + i * long =
    subst (λ (m : ℕ). from + i * m < 2 ^ 64 → place ≡ from + i * m) long_is
    (subst (λ (m : ℕ). m + i * l < 2 ^ 64 → place ≡ m + i * l) from_is is) in
    let here : place ≡ from + i * long = told (omega (arith, next, row)) in
    (here, omega (arith, next, row, here))

-- how many there are, and how many bytes are over
pub counted_slots : (from long end f l n : ℕ) (b : List ℕ) → f ≡ from → l ≡ long → end ≡ length b → n ≡ (end - f) / l → n ≡ slots_from from long b
counted_slots from long end f l n b from_is long_is end_is count =
    count ∙ ap (λ (m : ℕ). (m - f) / l) end_is ∙ ap (λ (m : ℕ). (length b - m) / l) from_is ∙ ap (λ (m : ℕ). (length b - from) / m) long_is

pub counted_over : (from long end f l n : ℕ) (b : List ℕ) → f ≡ from → l ≡ long → end ≡ length b → n ≡ (end - f) % l → n ≡ over_from from long b
counted_over from long end f l n b from_is long_is end_is over =
    over ∙ ap (λ (m : ℕ). (m - f) % l) end_is ∙ ap (λ (m : ℕ). (length b - m) % l) from_is ∙ ap (λ (m : ℕ). (length b - from) % m) long_is

-- behind all lines the last one says how many they were
pub ended : (style : Style) (kind : SlotKind) (IsLine : (k : ℕ) → (line : List ℕ) → Type 0) (i n m over rest : ℕ) (old mid new : Option (List ℕ)) (text : List ℕ)
    → n ≤ i → i ≤ n → n ≡ m → over ≡ rest → AreLines IsLine i text → Appends old mid text → Appends mid new (end_text style kind n over)
    → (all : List ℕ) × ((lines : List ℕ) × AreLines IsLine m lines × (all ≡ lines ++ end_text style kind m rest)) × Appends old new all
ended style kind IsLine i n m over rest old mid new text least most count over_is lines first last =
    let all : i ≡ m = omega (arith, least, most, count) in
    let told : Appends mid new (end_text style kind m rest) =
    subst (λ (k : ℕ). Appends mid new (end_text style kind m k)) over_is (subst (λ (k : ℕ). Appends mid new (end_text style kind k over)) count last) in (
      text ++ end_text style kind m rest,
      (text, subst (λ (k : ℕ). AreLines IsLine k text) all lines, refl),
      Appends-trans old mid new text (end_text style kind m rest) first told,
    )

-- the slots of a log from its stop on, and then of which logs they are
pub frames_shown : (style : Style) (w : List ℕ) (stop : ℕ) (why : Why) (old mid new : Option (List ℕ)) (gs : List Generation) → IsHeader (named_size w) w → IsStop w stop why
    → (text : List ℕ) × AreSlotLines style w stop text × Appends old mid text
    → AreGenerations (named_size w) w stop (stop + slots_from (frame_at (named_size w) stop) (24 + named_size w) w) gs
    → Appends mid new (flat_map (generation_text style) gs) → (text : List ℕ) × IsBehindFrames style w text × Appends old new text
frames_shown style w stop why old mid new gs header is shown are last = (
  shown.0 ++ flat_map (generation_text style) gs,
  inr (inl (header, (stop, why, is, (shown.0, flat_map (generation_text style) gs, shown.1, (gs, are, refl), refl)))),
  Appends-trans old mid new shown.0 (flat_map (generation_text style) gs) shown.2 last,
)

-- what keeps its bytes twice
pub kept_twice : {F : Type 0} (bytes : F → List ℕ) (gives : F → Type 0) (a b c : F) → KeepsBytes bytes gives a b → KeepsBytes bytes gives b c → KeepsBytes bytes gives a c
kept_twice bytes gives a b c first second =
    record { same_bytes = second.same_bytes ∙ first.same_bytes; still_gives = λ g. second.still_gives (first.still_gives g) }

-- a piece that was read
pub piece_read : (size place : ℕ) (b out piece : List ℕ) → length piece ≡ size → place + size ≤ length b → out ≡ part_or_zeros (length piece) place b
    → part b place size ≡ out
piece_read size place b out piece long within read =
    sym (read ∙ ap (λ (n : ℕ). part_or_zeros n place b) long ∙ part_is size place b within)

-- the place of the sums before a slot
pub sums_place : (size i n place : ℕ) (w : List ℕ) → 2 ≤ i → frame_at size i ≤ length w → length w < 2 ^ 64 → n ≡ 32 + (i - 1 - 1) * (24 + size)
    → place ≡ min (n + 16) (2 ^ 64 - 1) → place ≡ frame_at size (i - 1) + 16
sums_place size i n place w some within small at is =
    let e : frame_at size (i - 1) ≡ n = frame_at_is size (i - 1) n at in
    let next : frame_at size (suc (i - 1)) ≡ frame_end size (i - 1) = frame_at-suc size (i - 1) in
    let back : suc (i - 1) ≡ i = omega arith in
    let end : frame_at size (i - 1) + 24 + size ≡ frame_end size (i - 1) = frame_at-end size (i - 1) (omega arith) in
    let here : frame_at size i ≡ frame_end size (i - 1) = ap (λ (k : ℕ). frame_at size k) (sym back) ∙ next in
    omega (arith, e, end, here, within, small, is)

-- the sums that two words are
sums_same : (a b c d : ℕ) → a ≡ c → b ≡ d → let s : Sums = record { s0 = a; s1 = b } in let t : Sums = record { s0 = c; s1 = d } in s ≡ t
sums_same a b c d first second = cc

pub sum_is : (size n : ℕ) (w : List ℕ) (a b : ℕ) → a ≡ (stored size w n).s0 → b ≡ (stored size w n).s1
    → let s : Sums = record { s0 = a; s1 = b } in s ≡ stored size w n
sum_is size zero w a b first second = sums_same a b (word w 24) (word w 28) first second
sum_is size (suc k) w a b first second = sums_same a b (word w (frame_at size (suc k) + 16)) (word w (frame_at size (suc k) + 20)) first second

-- a slot that was read of a log that is as it was
module _ (h : WalHeader) (before : Sums) (b now : List ℕ) (first i place : ℕ) (same : now ≡ b) (header : IsHeaderOf b h)
    (there : (place ≡ frame_at h.page_size first + i * (24 + h.page_size)) × (place + (24 + h.page_size) ≤ length b)) where
  pub slot_there : (slot : Slot) → 1 ≤ first → before ≡ stored h.page_size b (first + i - 1)
      → (IsHeaderOf now h → place + (24 + h.page_size) ≤ length now → (k : ℕ) → 1 ≤ k → place ≡ frame_at h.page_size k
      → stored h.page_size now (k - 1) ≡ before → IsSlot h.page_size now k slot)
      → IsSlot h.page_size b (first + i) slot
  slot_there slot some sums read =
      let said = subst (λ (w : List ℕ). IsHeaderOf w h → place + (24 + h.page_size) ≤ length w → (k : ℕ) → 1 ≤ k → place ≡ frame_at h.page_size k
      → stored h.page_size w (k - 1) ≡ before → IsSlot h.page_size w k slot) same read in
      said header there.1 (first + i) (omega (arith, some)) (there.0 ∙ slot_from h.page_size first i some) (sym sums)

  pub slot_fails : (IsHeaderOf now h → place + (24 + h.page_size) ≤ length now → ⊥) → ⊥
  slot_fails fails = subst (λ (w : List ℕ). IsHeaderOf w h → place + (24 + h.page_size) ≤ length w → ⊥) same fails header there.1

  -- its number
  pub slot_number : (number from : ℕ) → 1 ≤ first → length b < 2 ^ 64 → from ≡ first → number ≡ min (from + i) (2 ^ 64 - 1) → number ≡ first + i
  slot_number number from some small from_is is =
      let here : place ≡ frame_at h.page_size (first + i) = there.0 ∙ slot_from h.page_size first i some in
      let below : first + i < 2 ^ 64 = number_below h.page_size first i (length b) some (omega (arith, here, there.1)) small in
      omega (arith, below, from_is, is)

-- its line
pub slot_line : (style : Style) (w : List ℕ) (first i number size : ℕ) (slot shown : Slot) → named_size w ≡ size → IsSlot size w (first + i) slot
    → number ≡ first + i → shown ≡ as_written slot → IsSlotLine style w first i (slot_text style number shown)
slot_line style w first i number size slot shown named is number_is shown_is = (
  slot,
  subst (λ (n : ℕ). IsSlot n w (first + i) slot) (sym named) is,
  ap (λ (n : ℕ). slot_text style n shown) number_is ∙ ap (λ (s : Slot). slot_text style (first + i) s) shown_is,
)

-- of a log without a header
pub no_header : (b : List ℕ) (found : Option WalHeader) → ((h : WalHeader) → found ≡ Some h → ⊥) → HeaderFound b found → length b < 32
no_header b None none short = short
no_header b (Some h) none header = absurd (none h refl)

-- a record that was read of a journal that is as it was
module _ (size : ℕ) (b now : List ℕ) (place at : ℕ) (same : now ≡ b) (there : (place ≡ at) × (place + (size + 8) ≤ length b)) where
  pub record_there : (slot : RecordSlot) → (place + (size + 8) ≤ length now → IsRecordSlot size now place slot) → IsRecordSlot size b at slot
  record_there slot read =
      let said = subst (λ (w : List ℕ). place + (size + 8) ≤ length w → IsRecordSlot size w place slot) same read there.1 in
      subst (λ (n : ℕ). IsRecordSlot size b n slot) there.0 said

  pub record_fails : (place + (size + 8) ≤ length now → ⊥) → ⊥
  record_fails fails = subst (λ (w : List ℕ). place + (size + 8) ≤ length w → ⊥) same fails there.1

-- the line of a record behind those that count
pub rest_line : (style : Style) (size : ℕ) (b : List ℕ) (from first nonce i number place : ℕ) (slot : RecordSlot) → number ≡ min (first + i) (2 ^ 64 - 1)
    → place ≡ slot_place from (size + 8) i → IsRecordSlot size b (slot_place from (size + 8) i) slot
    → IsRestLine style size b from first nonce i (record_slot_text style number place slot (slot.nonce == nonce))
rest_line style size b from first nonce i number place slot number_is place_is is = (
  slot,
  is,
  ap (λ (n : ℕ). record_slot_text style n place slot (slot.nonce == nonce)) number_is
      ∙ ap (λ (n : ℕ). record_slot_text style (min (first + i) (2 ^ 64 - 1)) n slot (slot.nonce == nonce)) place_is,
)

-- of one behind a header of zeros
pub zeroed_line : (style : Style) (size count : ℕ) (b : List ℕ) (i number place : ℕ) (slot : RecordSlot) (follows : Bool) → number ≡ i + 1
    → place ≡ slot_place 512 (size + 8) i → IsRecordSlot size b (slot_place 512 (size + 8) i) slot
    → IsTrue follows ↔ ((slot.page ≢ 0) × HasFellow size count b i slot.nonce)
    → IsZeroedLine style size count b i (record_slot_text style number place slot follows)
zeroed_line style size count b i number place slot follows number_is place_is is fellow = (
  slot,
  follows,
  is,
  fellow,
  ap (λ (n : ℕ). record_slot_text style n place slot follows) number_is ∙ ap (λ (n : ℕ). record_slot_text style (i + 1) n slot follows) place_is,
)

-- the nonce of a record is the one before the next
pub nonce_behind : (size : ℕ) (b : List ℕ) (i : ℕ) (slot : RecordSlot) → IsRecordSlot size b (slot_place 512 (size + 8) i) slot
    → IsNonceBefore size b (i + 1) (Some slot.nonce)
nonce_behind size b i slot is =
    let back : i ≡ i + 1 - 1 = omega arith in
    (omega arith, subst (λ (k : ℕ). (n : ℕ) → n < 2 ^ 32 → Follows size b (slot_place 512 (size + 8) k) n ↔ (n ≡ slot.nonce)) back is.nonce)

-- the first bytes of a journal, and of a database
pub zeros_begin : (b head : List ℕ) (n : ℕ) (zeros : Bool) → head ≡ part_or_zeros 28 0 b → n ≡ length b → 28 ≤ n → IsTrue zeros ↔ IsZeroed head
    → IsTrue zeros ↔ BeginsZeroed b
zeros_begin b head n zeros read count long is =
    let whole : 28 ≤ length b = omega (arith, count, long) in
    let same : head ≡ part b 0 28 = read ∙ part_is 28 0 b whole in (
      λ yes. (whole, subst (λ (l : List ℕ). IsZeroed l) same (is.0 yes)),
      λ has. is.1 (subst (λ (l : List ℕ). IsZeroed l) (sym same) has.1),
    )

pub head_read : (db head : List ℕ) → head ≡ part_or_zeros 100 0 db → head ≡ head_of db
head_read db head read = read ∙ page_is_part 100 1 db ∙ head_is db

-- no refusal is none of memory
pub refused_none : {T : Type 0} (answer : Result T ShowError) (P : Refusal → Type 0) → IfErr answer (IfRefused (λ _. ⊥)) → IfErr answer (IfRefused P)
refused_none (Ok x) P none = tt
refused_none (Err Unwritten) P none = tt
refused_none (Err (Refused refusal)) P none = absurd none

pub refused_memory : (error : ShowError) → IfRefused (λ _. ⊥) error → IfRefused (λ refusal. refusal ≡ NoMemory) error
refused_memory Unwritten none = tt
refused_memory (Refused refusal) none = absurd none

pub memory_unread : (limits : Bounds) (wal journal : List ℕ) (error : ShowError) → IfRefused (λ refusal. refusal ≡ NoMemory) error
    → IfRefused (IsUnreadLog limits wal journal) error
memory_unread limits wal journal Unwritten memory = tt
memory_unread limits wal journal (Refused refusal) memory = subst (λ (r : Refusal). IsUnreadLog limits wal journal r) (sym memory) tt

-- the log and what stands behind it, of files that are as they were
pub whole_written : (options : Options) (db wal journal wal_now journal_now : List ℕ) (old mid new : Option (List ℕ)) → wal_now ≡ wal → journal_now ≡ journal
    → (text : List ℕ) × IsLogText options wal journal text × Appends old mid text
    → (text : List ℕ) × IsBehindText options.style (record { db = db; wal = wal_now; journal = journal_now }) text × Appends mid new text
    → (text : List ℕ) × IsWholeLogText options (record { db = db; wal = wal; journal = journal }) text × Appends old new text
whole_written options db wal journal wal_now journal_now old mid new wal_is journal_is first last =
    let behind = subst (λ (j : List ℕ). IsBehindText options.style (record { db = db; wal = wal; journal = j }) last.0) journal_is
    (subst (λ (w : List ℕ). IsBehindText options.style (record { db = db; wal = w; journal = journal_now }) last.0) wal_is last.1) in
    (first.0 ++ last.0, (first.0, last.0, first.1, behind, refl), Appends-trans old mid new first.0 last.0 first.2 last.2)

-- what is known of the record behind one, of a journal that is as it was
pub next_there : (size : ℕ) (b now : List ℕ) (n m k i : ℕ) (next : Option RecordSlot) → now ≡ b → n ≡ m → k ≡ i + 1 → IsRecordOf size now n k next
    → IsRecordOf size b m (i + 1) next
next_there size b now n m k i next same count number is =
    subst (λ (j : ℕ). IsRecordOf size b m j next) number
    (subst (λ (j : ℕ). IsRecordOf size b j k next) count (subst (λ (l : List ℕ). IsRecordOf size l n k next) same is))

-- where a journal has no first header it isn't hot
pub not_first : (b : List ℕ) (first : Option JournalHeader) → IsFirst b first → ((h : JournalHeader) → first ≡ Some h → ⊥) → IsHot b → ⊥
not_first b None cold none hot = cold hot
not_first b (Some h) is none hot = none h refl

-- records that were shown of a journal that is as it was
pub rest_shown : {T E : Type 0} (answer : Result T E) (style : Style) (b now : List ℕ) (size from first nonce count : ℕ) (old new : Option (List ℕ)) → now ≡ b
    → size ≡ word b 24 → first ≡ min (count + 1) (2 ^ 64 - 1) → HasCount b count → EndsSegments b from nonce
    → OnOk answer ((text : List ℕ) × AreRecordLines style (IsRestLine style size now from first nonce) size from now text × Appends old new text)
    → OnOk answer ((text : List ℕ) × IsBehindRecords style b text × Appends old new text)
rest_shown answer style b now size from first nonce count old new same size_is first_is counted ends shown =
    let most = min (count + 1) (2 ^ 64 - 1) in
    let here = subst (λ (l : List ℕ). OnOk answer ((text : List ℕ) × AreRecordLines style (IsRestLine style size l from first nonce) size from l text × Appends old new text)) same shown in
    let sized = subst (λ (n : ℕ). OnOk answer ((text : List ℕ) × AreRecordLines style (IsRestLine style n b from first nonce) n from b text × Appends old new text)) size_is here in
    let told = subst (λ (n : ℕ). OnOk answer ((text : List ℕ) × AreRecordLines style (IsRestLine style (word b 24) b from n nonce) (word b 24) from b text × Appends old new text)) first_is sized in
    on_ok answer ((text : List ℕ) × AreRecordLines style (IsRestLine style (word b 24) b from most nonce) (word b 24) from b text × Appends old new text)
    ((text : List ℕ) × IsBehindRecords style b text × Appends old new text) (λ w. (w.0, (count, from, nonce, counted, ends, w.1), w.2)) told

-- an end that was found of it
pub ends_still : (b now : List ℕ) (end nonce : ℕ) → now ≡ b → EndsSegments now end nonce → EndsSegments b end nonce
ends_still b now end nonce same ends = subst (λ (l : List ℕ). EndsSegments l end nonce) same ends

-- a nonce from which the sum of a record follows is its nonce
pub nonce_is : (size nonce : ℕ) (b : List ℕ) (at : ℕ) (slot : RecordSlot) → nonce < 2 ^ 32 → IsRecordSlot size b at slot → Follows size b at nonce → nonce ≡ slot.nonce
nonce_is size nonce b at slot fits is follows = (is.nonce nonce fits).0 follows

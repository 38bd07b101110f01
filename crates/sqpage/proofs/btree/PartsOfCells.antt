-- The parts of cells.
use Rattle.std.proofs.Common.{◌≡◌, ℕ, get_or, ◌+◌, ◌-◌, ◌<◌, ◌≤◌, ◌↔◌, ◌*◌, ◌/◌, if◌then◌else◌, nat_lt, nat_le, List, length, take, drop, Bool, true, false, Option, Some, None, unwrap_or, below_more, slice_get, set, inl, inr, refl, sym, ap, subst, ◌∙◌, arith}
use Rattle.std.proofs.lemmas.Bool.{cases_eq}
use Rattle.std.proofs.lemmas.List.{length-take-le, length-drop, get_or-set_same, get_or-set_other}
use Rattle.std.proofs.lemmas.Option.{slice_get-get_or, get_or_from_slice_get}
use Rattle.std.proofs.Math.Seq.{take-length}
use Rattle.sqval.specs.Varint.{Begins}
use Rattle.sqpage.specs.declared.cell.Parts.{Parts}
use Rattle.sqpage.specs.declared.cell.Cell.{Cell}
use Rattle.std.specs.Int.{cast_signed, w64}
use Rattle.sqval.specs.Bytes.{part}
use Rattle.sqpage.specs.declared.kind.Kind.{Kind}
use Rattle.sqval.proofs.payload.VarintNumbers.{begins_once}
use Rattle.sqpage.specs.Header.{byte}
use Rattle.sqpage.specs.internal.SoundPage.{IsSoundPage}
use Rattle.sqpage.proofs.file.PagesInMemory.{most_page_size}
use Rattle.sqpage.specs.Page.{IsUsable, IsPageOf, code_of, head_at, cell_count_in, pointers_at, FourBytes, VarintAt, HasParts, HasCell, HasPartsOf, Page, IsCell, cell_count, pointer, content_start_in, pointer_in, is_interior, is_table, has_payload, if_present, local_size, least_local, even_local}
use Rattle.sqpage.specs.declared.kind.Kind.TheVariants.{TableLeaf, TableInterior, IndexLeaf, IndexInterior}

-- what a read of a varint says
abbrev pub Reads : Option (ℕ × ℕ) → List ℕ → Type 0
Reads r bytes = (n size : ℕ) → (r ≡ Some (n, size)) ↔ Begins n size bytes

-- what is read from a slice to its end
pub reads_rest : (r : Option (ℕ × ℕ)) (from : ℕ) (used : List ℕ) → Reads r (take (length used - from) (drop from used)) → Reads r (drop from used)
reads_rest r from used h = subst (Reads r) (ap (λ n. take n (drop from used)) (sym (length-drop from used)) ∙ take-length (drop from used)) h

some_pair : (a b c d : ℕ) → ◌≡◌ {A = Option (ℕ × ℕ)} (Some (a, b)) (Some (c, d)) → (a ≡ c) × (b ≡ d)
some_pair a b c d e = (ap (λ (o : Option (ℕ × ℕ)). (unwrap_or o (0, 0)).0) e, ap (λ (o : Option (ℕ × ℕ)). (unwrap_or o (0, 0)).1) e)

pub varint_some : (present : Bool) (used : List ℕ) (from n size : ℕ) (r : Option (ℕ × ℕ)) → present ≡ true → Reads r (drop from used) → r ≡ Some (n, size)
    → (number to : ℕ) → (◌≡◌ {A = Option (ℕ × ℕ)} (Some (n, from + size)) (Some (number, to))) ↔ VarintAt present used from to number
varint_some false used from n size r p reads e = absurd (cc)
varint_some true used from n size r p reads e = λ number to. (
  (λ same. let q = some_pair n (from + size) number to same in (size, sym q.1, subst (λ m. Begins m size (drop from used)) q.0 ((reads n size).0 e))),
  (λ v. let q = some_pair n size number v.0 (sym e ∙ (reads number v.0).1 v.2) in ap (λ (z : ℕ × ℕ). Some z) (let b : from + size ≡ to = ap (λ s. from + s) q.1 ∙ sym v.1 in let a = q.0 in let z : ◌≡◌ {A = ℕ × ℕ} (n, from + size) (number, to) = cc in z)),
)

pub varint_none : (present : Bool) (used : List ℕ) (from : ℕ) (r : Option (ℕ × ℕ)) → present ≡ true → Reads r (drop from used) → r ≡ None
    → (number to : ℕ) → (◌≡◌ {A = Option (ℕ × ℕ)} None (Some (number, to))) ↔ VarintAt present used from to number
varint_none false used from r p reads e = absurd (cc)
varint_none true used from r p reads e = λ number to. ((λ same. absurd (cc)), (λ v. let s = (reads number v.0).1 v.2 in absurd (cc)))

-- a varint takes a byte at least, nine at most, and ends in the bytes
pub varint_size : (n size : ℕ) (bytes : List ℕ) → Begins n size bytes → (1 ≤ size) × (size ≤ 9) × (size ≤ length bytes)
varint_size n size bytes b =
    let e : length (take size bytes) ≡ size = length-take-le size bytes b.within in
    (omega (arith, e, b.front.at_least_one), omega (arith, e, b.front.at_most_nine), b.within)

-- the local payload ends in the usable part
pub local_end : (kind : Kind) (used : List ℕ) (at : ℕ) (c : Parts) → HasParts kind used at c → c.body + c.local ≤ length used
local_end kind used at c h = go (nat_lt c.local c.payload) h.overflow
  where
    go : (b : Bool) → FourBytes b used (c.body + c.local) c.end c.overflow → c.body + c.local ≤ length used
    go true o = let e : c.end ≡ c.body + c.local + 4 = o.0 in omega (arith, h.within)
    go false o = let e : c.end ≡ c.body + c.local = o.0 in omega (arith, h.within)

-- what the search for a cell's parts says
abbrev pub FindsParts : Option Parts → Kind → List ℕ → (at : ℕ) → Type 0
FindsParts r kind used at = (c : Parts) → (r ≡ Some c) ↔ HasParts kind used at c

pub has_no_cell : (kind : Kind) (used : List ℕ) (at place : ℕ) (r : Option Parts) → at ≡ place → FindsParts r kind used at → r ≡ None → ¬ HasCell kind used place
has_no_cell kind used at place r e finds is = λ has. let h = (finds has.0).1 (subst (λ z. HasParts kind used z has.0) (sym e) has.1) in absurd (cc)

pub has_cell : (kind : Kind) (used : List ℕ) (at place : ℕ) (r : Option Parts) (parts : Parts) → at ≡ place → FindsParts r kind used at → r ≡ Some parts → HasCell kind used place
has_cell kind used at place r parts e finds is = subst (HasCell kind used) e (parts, (finds parts).0 is)

-- A cell more lies within.
abbrev pub LieWithin : Kind → List ℕ → (number n : ℕ) → Type 0
LieWithin kind used number n = (k : ℕ) → k < n → (content_start_in used number ≤ pointer_in kind used number k) × HasCell kind used (pointer_in kind used number k)

pub one_more : (kind : Kind) (used : List ℕ) (number n start at : ℕ) (r : Option Parts) (parts : Parts) → LieWithin kind used number n → start ≡ content_start_in used number → at ≡ pointer_in kind used number n
    → start ≤ at → FindsParts r kind used at → r ≡ Some parts → LieWithin kind used number (n + 1)
one_more kind used number n start at r parts before es ea le finds is =
    below_more (λ k. (content_start_in used number ≤ pointer_in kind used number k) × HasCell kind used (pointer_in kind used number k)) n before
    (subst (λ s. s ≤ pointer_in kind used number n) es (subst (λ a. start ≤ a) ea le), has_cell kind used at (pointer_in kind used number n) r parts ea finds is)

-- Cells whose parts were read: each lies within, and these are its parts.
abbrev pub AreRead : Kind → List ℕ → (number n : ℕ) → List Parts → Type 0
AreRead kind used number n parts =
    (i : ℕ) (c : Parts) → i < n → slice_get parts i ≡ Some c → (content_start_in used number ≤ pointer_in kind used number i) × HasParts kind used (pointer_in kind used number i) c

pub one_more_read : (kind : Kind) (used : List ℕ) (number n start at : ℕ) (found : Parts) (parts : List Parts) → AreRead kind used number n parts → n < length parts → start ≡ content_start_in used number
    → at ≡ pointer_in kind used number n → start ≤ at → HasParts kind used at found → AreRead kind used number (n + 1) (set parts n found)
one_more_read kind used number n start at found parts before within es ea le has = λ i c lt is. elim (cases_eq i n) [
  | inl same ↦
      let here : get_or (set parts n found) i c ≡ c = get_or_from_slice_get (set parts n found) i c c is in
      let there : get_or (set parts n found) n c ≡ found = get_or-set_same parts n found c within in
      let e : found ≡ c = sym there ∙ ap (λ j. get_or (set parts n found) j c) (sym same) ∙ here in (
        subst (λ j. content_start_in used number ≤ pointer_in kind used number j) (sym same) (rw (← es, ← ea) le),
        subst (λ j. HasParts kind used (pointer_in kind used number j) c) (sym same) (subst (λ z. HasParts kind used (pointer_in kind used number n) z) e (subst (λ z. HasParts kind used z found) ea has)),
      )
  | inr other ↦
      let here : get_or (set parts n found) i c ≡ c = get_or_from_slice_get (set parts n found) i c c is in
      let there : get_or (set parts n found) i c ≡ get_or parts i c = get_or-set_other parts n i found c other in
      let inside : i < length parts = omega arith in
      let was : slice_get parts i ≡ Some c = slice_get-get_or parts i c inside ∙ ap (λ (z : Parts). Some z) (sym there ∙ here) in
      before i c (omega arith) was
]

pub read_within : (kind : Kind) (used : List ℕ) (number n : ℕ) (parts : List Parts) → n ≤ length parts → AreRead kind used number n parts → LieWithin kind used number n
read_within kind used number n parts room read = λ k lt.
    let none : Parts = record { child = 0; payload = 0; rowid = 0; body = 0; local = 0; overflow = 0; end = 0 } in
    let found = read k (get_or parts k none) lt (slice_get-get_or parts k none (omega arith)) in
    (found.0, (get_or parts k none, found.1))

-- The page of bytes whose header and cells were read.
pub sound : (bytes : List ℕ) (usable number : ℕ) (kind : Kind) (head pointers count start : ℕ) → (let used = take usable bytes in IsUsable number (length bytes) usable → head ≡ head_at number → byte used head ≡ code_of kind
    → pointers ≡ pointers_at kind number → count ≡ cell_count_in used number → start ≡ content_start_in used number → pointers + 2 * count ≤ length used → start ≤ length used
    → LieWithin kind used number (cell_count_in used number) → IsSoundPage used number kind)
sound bytes usable number kind head pointers count start is h typed p n s fits starts lie =
    let used = take usable bytes in
    let len : length used ≡ usable = length-take-le usable bytes is.most in
    let most = most_page_size (length bytes) is.sized in
    record {
      least = omega (arith, len, is.least);
      most = omega (arith, len, is.most, most);
      typed = subst (λ h. byte used h ≡ code_of kind) h typed;
      pointers = omega (arith, p, n, fits);
      start = omega (arith, s, starts);
      above = λ i lt. (lie i lt).0;
      cells = λ i lt never. never (lie i lt).1;
    }

pub page_of : (used : List ℕ) (number : ℕ) (kind : Kind) → IsSoundPage used number kind → LieWithin kind used number (cell_count_in used number) → IsPageOf used number (record { used = used; number = number; kind = kind })
page_of used number kind s lie = record { btree = record { kind = s.typed; pointers = s.pointers; start = s.start; above = s.above; cells = λ i lt. (lie i lt).1 }; used_are = refl; numbered = refl }

-- the parts of a cell as they are read from the parts of all
abbrev pub parts_in : List Parts → (i : ℕ) → Parts
parts_in parts i = get_or parts i (record { child = 0; payload = 0; rowid = 0; body = 0; local = 0; overflow = 0; end = 0 })

pub parts_are : (p : Page) (parts : List Parts) (i : ℕ) → HasPartsOf p parts → i < cell_count p → HasParts p.kind p.used (pointer p i) (parts_in parts i)
parts_are p parts i h lt = h.each i (parts_in parts i) lt (slice_get-get_or parts i _ (omega (arith, h.room)))

four_rise : (present : Bool) (used : List ℕ) (from to n : ℕ) → FourBytes present used from to n → from ≤ to
four_rise true used from to n h = let e : to ≡ from + 4 = h.0 in omega arith
four_rise false used from to n h = let e : to ≡ from = h.0 in omega arith

varint_rise : (present : Bool) (used : List ℕ) (from to n : ℕ) → VarintAt present used from to n → from ≤ to
varint_rise true used from to n h = let e : to ≡ from + h.0 = h.1 in omega arith
varint_rise false used from to n h = let e : to ≡ from = h.0 in omega arith

-- a cell begins before its end
pub cell_rise : (kind : Kind) (used : List ℕ) (at : ℕ) (c : Parts) → HasParts kind used at c → at ≤ c.end
cell_rise kind used at c h =
    let a = four_rise (is_interior kind) used at h.after_child c.child h.child in
    let b = varint_rise (has_payload kind) used h.after_child h.after_size c.payload h.payload in
    let d = varint_rise (is_table kind) used h.after_size c.body c.rowid h.rowid in
    let e = four_rise (nat_lt c.local c.payload) used (c.body + c.local) c.end c.overflow h.overflow in
    omega (arith, a, b, d, e)

four_once : (present : Bool) (used : List ℕ) (from to n to' n' : ℕ) → FourBytes present used from to n → FourBytes present used from to' n' → (to ≡ to') × (n ≡ n')
four_once true used from to n to' n' h k = (h.0 ∙ sym k.0, h.1 ∙ sym k.1)
four_once false used from to n to' n' h k = (h.0 ∙ sym k.0, h.1 ∙ sym k.1)

varint_once : (present : Bool) (used : List ℕ) (from to n to' n' : ℕ) → VarintAt present used from to n → VarintAt present used from to' n' → (to ≡ to') × (n ≡ n')
varint_once true used from to n to' n' h k = let b = begins_once n n' h.0 k.0 (drop from used) h.2 k.2 in (h.1 ∙ ap (λ s. from + s) b.1 ∙ sym k.1, b.0)
varint_once false used from to n to' n' h k = (h.0 ∙ sym k.0, h.1 ∙ sym k.1)

seven : (f : ℕ → ℕ → ℕ → ℕ → ℕ → ℕ → ℕ → Parts) (a a' b b' c c' d d' e e' g g' h h' : ℕ) → a ≡ a' → b ≡ b' → c ≡ c' → d ≡ d' → e ≡ e' → g ≡ g' → h ≡ h' → f a b c d e g h ≡ f a' b' c' d' e' g' h'
seven f a a' b b' c c' d d' e e' g g' h h' p q r s t u v = cc

-- At a place there is one cell at most.
pub parts_once : (kind : Kind) (used : List ℕ) (at : ℕ) (c e : Parts) → HasParts kind used at c → HasParts kind used at e → c ≡ e
parts_once kind used at c e h k =
    let a = four_once (is_interior kind) used at h.after_child c.child k.after_child e.child h.child k.child in
    let b = varint_once (has_payload kind) used h.after_child h.after_size c.payload k.after_size e.payload h.payload (subst (λ z. VarintAt (has_payload kind) used z k.after_size e.payload) (sym a.0) k.payload) in
    let d = varint_once (is_table kind) used h.after_size c.body c.rowid e.body e.rowid h.rowid (subst (λ z. VarintAt (is_table kind) used z e.body e.rowid) (sym b.0) k.rowid) in
    let local : c.local ≡ e.local = h.local ∙ ap (local_size kind (length used)) b.1 ∙ sym k.local in
    let over : FourBytes (nat_lt c.local c.payload) used (c.body + c.local) e.end e.overflow = rw (local, b.1, d.0) k.overflow in
    let o = four_once (nat_lt c.local c.payload) used (c.body + c.local) c.end c.overflow e.end e.overflow h.overflow over in
    let child : c.child ≡ e.child = a.1 in
    let payload : c.payload ≡ e.payload = b.1 in
    let rowid : c.rowid ≡ e.rowid = d.1 in
    let body : c.body ≡ e.body = d.0 in
    let end : c.end ≡ e.end = o.0 in
    let overflow : c.overflow ≡ e.overflow = o.1 in
    seven (λ i j k l m n o. record { child = i; payload = j; rowid = k; body = l; local = m; overflow = n; end = o }) c.child e.child c.payload e.payload c.rowid e.rowid c.body e.body c.local e.local c.overflow e.overflow c.end e.end
    child payload rowid body local overflow end

-- What of a payload lies in its cell is not more than it.
pub local_at_most : (kind : Kind) (u payload : ℕ) → 480 ≤ u → local_size kind u payload ≤ payload
unfolding local_size
local_at_most kind u payload least = go kind
  where
    chosen : (most : ℕ) → least_local u ≤ most → (if nat_le payload most then payload else (if nat_le (even_local u payload) most then even_local u payload else least_local u)) ≤ payload
    chosen most le = grind arith

    go : (kind : Kind) → local_size kind u payload ≤ payload
    go TableLeaf = chosen (u - 35) (omega arith)
    go TableInterior = chosen ((u - 12) * 64 / 255 - 23) (omega arith)
    go IndexLeaf = chosen ((u - 12) * 64 / 255 - 23) (omega arith)
    go IndexInterior = chosen ((u - 12) * 64 / 255 - 23) (omega arith)

pub local_within : (kind : Kind) (used : List ℕ) (at : ℕ) (c : Parts) (payload : Option ℕ) → HasParts kind used at c → 480 ≤ length used → payload ≡ if_present (has_payload kind) c.payload → c.local ≤ unwrap_or payload 0
local_within kind used at c payload h least e =
    let le = local_at_most kind (length used) c.payload least in
    subst (λ o. c.local ≤ unwrap_or o 0) (sym e) (go (has_payload kind) h.payload (omega (arith, le, h.local)))
  where
    go : (b : Bool) → VarintAt b used h.after_child h.after_size c.payload → c.local ≤ c.payload → c.local ≤ unwrap_or (if_present b c.payload) 0
    go true v le = le
    go false v le = let none : c.payload ≡ 0 = v.1 in omega (arith, none, le)

-- What two cells have in common that are the same cell of a page.
pub record SameCell (c e : Cell) : Type 0 where
  pub page : c.page ≡ e.page
  pub usable : c.usable ≡ e.usable
  pub child : c.child ≡ e.child
  pub rowid : c.rowid ≡ e.rowid
  pub payload : c.payload ≡ e.payload
  pub local : c.local.now ≡ e.local.now
  pub overflow : c.overflow ≡ e.overflow

pub cell_once : (p : Page) (i : ℕ) (c e : Cell) → IsCell p i c → IsCell p i e → SameCell c e
cell_once p i c e h k =
    let parts : h.parts ≡ k.parts = parts_once p.kind p.used (pointer p i) h.parts k.parts h.has k.has in
    record {
      page = h.page ∙ sym k.page;
      usable = h.usable ∙ sym k.usable;
      child = h.child ∙ ap (λ (x : Parts). if_present (is_interior p.kind) x.child) parts ∙ sym k.child;
      rowid = h.rowid ∙ ap (λ (x : Parts). if_present (is_table p.kind) (cast_signed w64 x.rowid)) parts ∙ sym k.rowid;
      payload = h.payload ∙ ap (λ (x : Parts). if_present (has_payload p.kind) x.payload) parts ∙ sym k.payload;
      local = h.local ∙ ap (λ (x : Parts). part p.used x.body x.local) parts ∙ sym k.local;
      overflow = h.overflow ∙ ap (λ (x : Parts). x.overflow) parts ∙ sym k.overflow;
    }

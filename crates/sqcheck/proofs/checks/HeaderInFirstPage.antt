-- The header is in the first hundred bytes of page 1.
use Rattle.sqcheck.proofs.Words.{Bool, DbHeader, Fault, HasFractions, HasHeaderOf, HasMagic, HasPageSize, HasRoom, HeaderFault, HeaderRefused, IsHeader, List, [], ap, arith, big_number, byte, false, get_or-take, part, refl, size_named, size_named_by, suc, sym, take, true, word, zero, ℕ, ◌+◌, ◌<◌, ◌∙◌, ◌∷◌, ◌≡◌, ◌≢◌, ◌≤◌}
use Rattle.sqpage.specs.declared.fault.Fault.TheVariants as faults

-- a part of a front that ends in it
part_front : (n at k : ℕ) (b : List ℕ) → at + k ≤ n → part (take n b) at k ≡ part b at k
part_front n zero k b le = go n k b (omega arith)
  where
    go : (n k : ℕ) (b : List ℕ) → k ≤ n → take k (take n b) ≡ take k b
    go n zero b le = refl
    go zero (suc k) b le = absurd (omega arith)
    go (suc n) (suc k) [] le = refl
    go (suc n) (suc k) (x ∷ b) le = ap (λ l. x ∷ l) (go n k b (omega arith))
part_front zero (suc at) k b le = absurd (omega arith)
part_front (suc n) (suc at) k [] le = refl
part_front (suc n) (suc at) k (x ∷ b) le = part_front n at k b (omega arith)

word_front : (at : ℕ) (b : List ℕ) → at + 4 ≤ 100 → word (take 100 b) at ≡ word b at
word_front at b le = ap (big_number 4) (part_front 100 at 4 b le)

byte_front : (at : ℕ) (b : List ℕ) → at < 100 → byte (take 100 b) at ≡ byte b at
byte_front at b lt = get_or-take 100 b at 0 lt

size_front : (b : List ℕ) → size_named (take 100 b) ≡ size_named b
size_front b = ap (λ l. size_named_by (big_number 2 l)) (part_front 100 16 2 b (omega arith))

-- the magic, as the first bytes and all of them have it
magic_front : (b : List ℕ) → HasMagic (take 100 b) → HasMagic b
magic_front b m = sym (part_front 100 0 16 b (omega arith)) ∙ m

fractions_front : (b : List ℕ) → HasFractions (take 100 b) → HasFractions b
fractions_front b m = sym (part_front 100 21 3 b (omega arith)) ∙ m

room_front : (b : List ℕ) → HasRoom (take 100 b) → HasRoom b
room_front b room = (let r : 480 + byte (take 100 b) 20 ≤ size_named (take 100 b) = room in let f = byte_front 20 b (omega arith) in let g = size_front b in omega (arith, r, f, g))

pub heading_is : (maps : Bool) (h : DbHeader) (size : ℕ) (b : List ℕ) → IsHeader h (take 100 b) → size_named (take 100 b) ≡ size → (maps ≡ false → h.largest_root ≡ 0) → (maps ≡ true → h.incremental_vacuum ≢ 0 → h.largest_root ≢ 0)
    → HasHeaderOf maps h size b
heading_is maps h size b is e plain incremental = record {
  magic = magic_front b is.magic;
  page_size = sym (size_front b) ∙ e;
  fractions = fractions_front b is.fractions;
  room = room_front b is.room;
  plain = λ none. sym (word_front 52 b (omega arith)) ∙ sym is.largest_root ∙ plain none;
  incremental = λ asked ne zero'. incremental asked (λ e. ne (sym (word_front 64 b (omega arith)) ∙ sym is.incremental_vacuum ∙ e)) (is.largest_root ∙ word_front 52 b (omega arith) ∙ zero');
  reserved = is.reserved ∙ byte_front 20 b (omega arith);
  first_trunk = is.first_trunk ∙ word_front 32 b (omega arith);
  free_pages = is.free_pages ∙ word_front 36 b (omega arith);
  largest_root = is.largest_root ∙ word_front 52 b (omega arith);
}

-- Where the magic is there, the page size is this one.
pub heading_refused : (maps : Bool) (fault : Fault) (size : ℕ) (b : List ℕ) → (HasMagic (take 100 b) → HasPageSize (take 100 b) × (size_named (take 100 b) ≡ size)) → HeaderRefused fault (take 100 b) → HeaderFault maps fault size b
heading_refused maps faults.Magic size b named h = λ m. h (part_front 100 0 16 b (omega arith) ∙ m)
heading_refused maps faults.PageSize size b named h = absurd (h.1 (named h.0).0)
heading_refused maps faults.Fraction size b named h = (magic_front b h.0, sym (size_front b) ∙ (named h.0).1, λ m. h.2 (part_front 100 21 3 b (omega arith) ∙ m))
heading_refused maps faults.Reserved size b named h =
    (magic_front b h.0, sym (size_front b) ∙ (named h.0).1, fractions_front b h.2, λ r. h.3 (let r' : 480 + byte b 20 ≤ size_named b = r in let f = byte_front 20 b (omega arith) in let g = size_front b in let out : 480 + byte (take 100 b) 20 ≤ size_named (take 100 b) = omega (arith, r', f, g) in out))
heading_refused maps _ size b named h = absurd h

pub size_differs : (maps : Bool) (size : ℕ) (b : List ℕ) → HasMagic (take 100 b) → size_named (take 100 b) ≢ size → HeaderFault maps faults.PageSize size b
size_differs maps size b magic ne = (magic_front b magic, λ e. ne (size_front b ∙ e))

pub not_plain : (maps : Bool) (h : DbHeader) (size : ℕ) (b : List ℕ) → IsHeader h (take 100 b) → size_named (take 100 b) ≡ size → maps ≡ false → h.largest_root ≢ 0 → HeaderFault maps faults.AutoVacuum size b
not_plain maps h size b is named none ne =
    (magic_front b is.magic, sym (size_front b) ∙ named, fractions_front b is.fractions, room_front b is.room, none, λ e. ne (is.largest_root ∙ word_front 52 b (omega arith) ∙ e))

pub not_incremental : (maps : Bool) (h : DbHeader) (size : ℕ) (b : List ℕ) → IsHeader h (take 100 b) → size_named (take 100 b) ≡ size → maps ≡ true → h.incremental_vacuum ≢ 0 → h.largest_root ≡ 0 → HeaderFault maps faults.PointerMap size b
not_incremental maps h size b is named asked ne zero' = (
  magic_front b is.magic,
  sym (size_front b) ∙ named,
  fractions_front b is.fractions,
  room_front b is.room,
  asked,
  (λ e. ne (is.incremental_vacuum ∙ word_front 64 b (omega arith) ∙ e)),
  sym (word_front 52 b (omega arith)) ∙ sym is.largest_root ∙ zero',
)

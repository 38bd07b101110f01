-- A header that is written is a log of no frames, made.
use Rattle.walcore.proofs.Words.{AreBytes, Big, IsBegun, IsHeaderOf, IsPageSize, List, Little, Sum, WalHeader, [], ap, big_bytes, byte_at, bytes_high_first, cond, flat_map, front_words, header_made, length, lit<, mod_below, nat_eq, one_of, order_of, refl, slice_index, subst, suc, sum_0, sum_1, sym, word, words, zero, ℕ, ⊎_elim, ◌++◌, ◌/◌, ◌<◌, ◌^◌, ◌∙◌, ◌∷◌, ◌≡◌}

pub append_bytes : (xs ys : List ℕ) → AreBytes xs → AreBytes ys → AreBytes (xs ++ ys)
append_bytes [] ys a b i = b i
append_bytes (x ∷ xs) ys a b zero = a 0
append_bytes (x ∷ xs) ys a b (suc i) = append_bytes xs ys (λ j. a (suc j)) b i

byte_below : (i x : ℕ) → byte_at i x < 256
byte_below zero x = mod_below x 256 (lit< tt)
byte_below (suc i) x = mod_below (x / 256 ^ suc i) 256 (lit< tt)

pub number_bytes : (n x : ℕ) → AreBytes (bytes_high_first n x)
number_bytes zero x i = lit< tt
number_bytes (suc n) x zero = byte_below n x
number_bytes (suc n) x (suc i) = number_bytes n x i

pub numbers_bytes : (ns : List ℕ) → AreBytes (flat_map (big_bytes 4) ns)
numbers_bytes [] i = lit< tt
numbers_bytes (n ∷ ns) i = append_bytes (big_bytes 4 n) (flat_map (big_bytes 4) ns) (number_bytes 4 n) (numbers_bytes ns) i

-- words with the highest byte first have one magic
magic_big : (w : List ℕ) (h : WalHeader) → IsHeaderOf w h → h.order ≡ Big → word w 0 ≡ 0x377f0683
magic_big w h is big = ⊎_elim
    (λ e. let little : order_of w ≡ Little = ap (λ n. cond (nat_eq n 0x377f0682) Little Big) e in
    absurd (let clash : Little ≡ Big = sym little ∙ (sym is.order ∙ big) in cc))
    (λ e. e)
    is.valid.magic

pub begun_by : (w : List ℕ) (h : WalHeader) → IsHeaderOf w h → h.order ≡ Big → length w ≡ 32 → AreBytes w → IsBegun h.page_size h.sequence h.salt1 h.salt2 w
begun_by w h is big alone bytes = record {
  bytes = bytes;
  alone = alone;
  header = is.valid;
  magic = magic_big w h is big;
  sequence_is = sym is.sequence;
  salt1_is = sym is.salt1;
  salt2_is = sym is.salt2;
}

fit_two : (a b : ℕ) → a < 2 ^ 32 → b < 2 ^ 32 → (i : ℕ) → slice_index (a ∷ b ∷ []) i < 2 ^ 32
fit_two a b la lb zero = la
fit_two a b la lb (suc zero) = lb
fit_two a b la lb (suc (suc i)) = lit< tt

fit_six : (a b c d e f : ℕ) → a < 2 ^ 32 → b < 2 ^ 32 → c < 2 ^ 32 → d < 2 ^ 32 → e < 2 ^ 32 → f < 2 ^ 32 → (i : ℕ) → slice_index (a ∷ b ∷ c ∷ d ∷ e ∷ f ∷ []) i < 2 ^ 32
fit_six a b c d e f la lb lc ld le lf zero = la
fit_six a b c d e f la lb lc ld le lf (suc zero) = lb
fit_six a b c d e f la lb lc ld le lf (suc (suc zero)) = lc
fit_six a b c d e f la lb lc ld le lf (suc (suc (suc zero))) = ld
fit_six a b c d e f la lb lc ld le lf (suc (suc (suc (suc i)))) = fit_two e f le lf i

page_size_fits : (size : ℕ) → IsPageSize size → size < 2 ^ 32
page_size_fits size is =
    let of : (k : ℕ) → k < 2 ^ 32 → size ≡ k → size < 2 ^ 32 = λ k lt e. subst (λ n. n < 2 ^ 32) (sym e) lt in
    ⊎_elim (of 512 (lit< tt)) (⊎_elim (of 1024 (lit< tt)) (⊎_elim (of 2048 (lit< tt)) (⊎_elim (of 4096 (lit< tt)) (⊎_elim (of 8192 (lit< tt)) (⊎_elim (of 16384 (lit< tt)) (⊎_elim (of 32768 (lit< tt)) (of 65536 (lit< tt)))))))) (one_of size is)

pub begun_exists : (size sequence salt1 salt2 : ℕ) → IsPageSize size → sequence < 2 ^ 32 → salt1 < 2 ^ 32 → salt2 < 2 ^ 32 → (e : List ℕ) × IsBegun size sequence salt1 salt2 e
begun_exists size sequence salt1 salt2 is fit_sequence fit_salt1 fit_salt2 =
    let h : WalHeader = record { order = Big; page_size = size; sequence = sequence; salt1 = salt1; salt2 = salt2 } in
    let ns : List ℕ = front_words 0x377f0683 size h in
    let front : List ℕ = flat_map (big_bytes 4) ns in
    let sum : Sum = record { s0 = sum_0 (words Big front); s1 = sum_1 (words Big front) } in
    let rest : List ℕ = flat_map (big_bytes 4) (sum.s0 ∷ sum.s1 ∷ []) in
    let made : IsHeaderOf (front ++ rest) h = header_made h 0x377f0683 size sum front (front ++ rest) refl refl refl refl is
    (fit_six 0x377f0683 3007000 size sequence salt1 salt2 (lit< tt) (lit< tt) (page_size_fits size is) fit_sequence fit_salt1 fit_salt2)
    (fit_two sum.s0 sum.s1 (mod_below _ (2 ^ 32) (lit< tt)) (mod_below _ (2 ^ 32) (lit< tt)))
    (record { first = refl; second = refl }) in
    (front ++ rest, begun_by (front ++ rest) h made refl refl (append_bytes front rest (numbers_bytes ns) (numbers_bytes (sum.s0 ∷ sum.s1 ∷ []))))

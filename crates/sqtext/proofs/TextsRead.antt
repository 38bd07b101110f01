-- Texts of UTF-16 that are read character by character.
use Rattle.std.proofs.Common.{◌≡◌, ◌≢◌, ◌⊎◌, ℕ, ◌+◌, ◌<◌, ◌≤◌, Bool, true, false, List, [], ◌∷◌, ◌++◌, length, refl, sym, ap, ◌∙◌, subst, inl, inr, arith, append_assoc, append-nil, rules}
use Rattle.std.specs.List.{flat_map}
use Rattle.std.specs.Char.{IsScalar, encode_utf8}
use Rattle.std.specs.Str.{encode_utf8_all, all_scalars, is_utf8}
use Rattle.std.proofs.lemmas.Bool.{and_parts, and_from, cases_Bool}
use Rattle.std.proofs.lemmas.Str.{IsUtf8-from_is_utf8, is_utf8-from_IsUtf8}
use Rattle.sqdeep.specs.declared.text.Encoding.{Encoding}
use Rattle.sqdeep.specs.declared.text.Encoding.TheVariants.{Utf8, Utf16Le, Utf16Be}
use Rattle.sqtext.specs.Texts.{utf16_bytes, BeginsWithNoChar, IsReadAs, IsTextOf}
use Rattle.sqtext.specs.internal.Utf16.{IsUtf16Of, IsNoUtf16}
use Rattle.sqtext.proofs.CharsOfTexts.{char_length, char_same, chars_same}

-- A text is determined.
pub utf16_once : (big : Bool) (bytes t s : List ℕ) → IsUtf16Of big bytes t → IsUtf16Of big bytes s → t ≡ s
utf16_once big bytes t s some other =
    sym some.3 ∙ ap encode_utf8_all (chars_same big some.0 other.0 some.1 other.1 (some.2 ∙ sym other.2)) ∙ other.3

pub text_once : (encoding : Encoding) (bytes t s : List ℕ) → IsTextOf encoding bytes t → IsTextOf encoding bytes s → t ≡ s
text_once Utf8 bytes t s some other = sym some.3 ∙ some.2 ∙ sym other.2 ∙ other.3
text_once Utf16Le bytes t s some other = utf16_once false bytes t s some other
text_once Utf16Be bytes t s some other = utf16_once true bytes t s some other

-- a character before a text, and what stands behind the first one
text_before : (big : Bool) (c : ℕ) (bytes rest t : List ℕ) → IsScalar c → bytes ≡ utf16_bytes big c ++ rest → IsUtf16Of big rest t → IsUtf16Of big bytes (encode_utf8 c ++ t)
text_before big c bytes rest t scalar is text =
    (c ∷ text.0, and_from _ _ scalar text.1, ap (λ z. utf16_bytes big c ++ z) text.2 ∙ sym is, ap (λ z. encode_utf8 c ++ z) text.3)

text_behind : (big : Bool) (c : ℕ) (bytes rest t : List ℕ) → IsScalar c → bytes ≡ utf16_bytes big c ++ rest → IsUtf16Of big bytes t → (more : List ℕ) × IsUtf16Of big rest more × (t ≡ encode_utf8 c ++ more)
text_behind big c bytes rest t scalar is ([], scalars, same, spelt) =
    let none : 0 ≡ length (utf16_bytes big c ++ rest) = ap length (same ∙ is) in
    let long = char_length big c rest scalar in
    absurd (omega (arith, none, long))
text_behind big c bytes rest t scalar is (d ∷ ds, scalars, same, spelt) =
    let parts = and_parts _ _ scalars in
    let one = char_same big d c (flat_map (utf16_bytes big) ds) rest parts.0 scalar (same ∙ is) in
    (encode_utf8_all ds, (ds, parts.1, one.1, refl), sym spelt ∙ ap (λ x. encode_utf8 x ++ encode_utf8_all ds) one.0)

-- What comes before the rest was read, and is this in UTF-8.
pub record IsReadTo (big : Bool) (bytes rest done : List ℕ) : Type 0 where
  pub forth : (t : List ℕ) → IsUtf16Of big bytes t → (more : List ℕ) × IsUtf16Of big rest more × (t ≡ done ++ more)
  pub back : (more : List ℕ) → IsUtf16Of big rest more → IsUtf16Of big bytes (done ++ more)

pub read_none : (big : Bool) (bytes : List ℕ) → IsReadTo big bytes bytes []
read_none big bytes = record { forth = λ t text. (t, text, refl); back = λ more text. text }

pub read_more : (big : Bool) (bytes rest others done : List ℕ) (c : ℕ) → IsScalar c → rest ≡ utf16_bytes big c ++ others → IsReadTo big bytes rest done → IsReadTo big bytes others (done ++ encode_utf8 c)
read_more big bytes rest others done c scalar is so = record {
  forth = λ t text.
      let upto = so.forth t text in
      let behind = text_behind big c rest others upto.0 scalar is upto.1 in
      (behind.0, behind.1, upto.2 ∙ ap (λ z. done ++ z) behind.2 ∙ sym (append_assoc done (encode_utf8 c) behind.0));
  back = λ more text.
      subst (IsUtf16Of big bytes) (sym (append_assoc done (encode_utf8 c) more)) (so.back (encode_utf8 c ++ more) (text_before big c rest others more scalar is text));
}

is_nothing : (xs : List ℕ) → length xs ≡ 0 → xs ≡ []
is_nothing [] none = refl
is_nothing (x ∷ xs) none = absurd (omega (arith, none))

-- nothing is left
pub read_all : (big : Bool) (bytes rest done : List ℕ) → length rest ≡ 0 → IsReadTo big bytes rest done → IsUtf16Of big bytes done
read_all big bytes rest done none so = subst (IsUtf16Of big bytes) (append-nil done) (so.back [] ([], refl, sym (is_nothing rest none), refl))

-- what is left begins with no character
rest_empty : (big : Bool) (rest more : List ℕ) → BeginsWithNoChar big rest → IsUtf16Of big rest more → length rest ≡ 0
rest_empty big rest more none ([], scalars, same, spelt) = ap length (sym same)
rest_empty big rest more none (c ∷ cs, scalars, same, spelt) =
    let parts = and_parts _ _ scalars in
    absurd (none c (flat_map (utf16_bytes big) cs) parts.0 (sym same))

pub read_off : (big : Bool) (bytes rest done : List ℕ) → length rest ≢ 0 → BeginsWithNoChar big rest → IsReadTo big bytes rest done → IsNoUtf16 big bytes
read_off big bytes rest done some none so = λ t text. let upto = so.forth t text in some (rest_empty big rest upto.0 none upto.1)

rest_spelt : (big : Bool) (rest more : List ℕ) → length rest ≡ 0 → IsUtf16Of big rest more → more ≡ []
rest_spelt big rest more none ([], scalars, same, spelt) = sym spelt
rest_spelt big rest more none (c ∷ cs, scalars, same, spelt) =
    let parts = and_parts _ _ scalars in
    let long = char_length big c (flat_map (utf16_bytes big) cs) parts.0 in
    let whole : length (utf16_bytes big c ++ flat_map (utf16_bytes big) cs) ≡ length rest = ap length same in
    absurd (omega (arith, none, long, whole))

-- where nothing is left, or what is left begins with no character, the text was read
pub read_out : (big : Bool) (bytes rest done t : List ℕ) → length rest ≡ 0 → IsReadTo big bytes rest done → IsUtf16Of big bytes t → t ≡ done
read_out big bytes rest done t none so text =
    let upto = so.forth t text in
    upto.2 ∙ ap (λ z. done ++ z) (rest_spelt big rest upto.0 none upto.1) ∙ append-nil done

pub read_over : (big : Bool) (bytes rest done t : List ℕ) → BeginsWithNoChar big rest → IsReadTo big bytes rest done → IsUtf16Of big bytes t → t ≡ done
read_over big bytes rest done t none so text = let upto = so.forth t text in read_out big bytes rest done t (rest_empty big rest upto.0 none upto.1) so text

-- bytes of UTF-8 are read as they are, and so are others
pub utf8_read : (bytes read : List ℕ) → read ≡ bytes → IsReadAs Utf8 bytes read
utf8_read bytes read same = elim (cases_Bool (is_utf8 bytes)) [
  | inl is ↦ (let u = IsUtf8-from_is_utf8 bytes is in inl (u.0, u.1.0, u.1.1, u.1.1 ∙ sym same))
  | inr none ↦ inr (λ t text. true_no_false (sym (is_utf8-from_IsUtf8 bytes (text.0, (text.1, text.2))) ∙ none), same)
]
  where
    true_no_false : true ≡ false → ⊥
    true_no_false e = search (rules, e)

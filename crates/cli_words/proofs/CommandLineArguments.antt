-- The words of a command line.
use Rattle.std.proofs.Common.{◌≡◌, ◌≢◌, ◌⊎◌, inl, inr, ⊎_elim, ℕ, suc, ◌+◌, ◌-◌, ◌<◌, ◌≤◌, List, [], Bor, ◌++◌, map, length, length-drop, min, drop, take, get_or, sym, refl, ◌∙◌, ap, subst, arith}
use Rattle.std.specs.Prelude.{Bool, true, false, not, IsTrue, Some, slice_get, codes, option_map, nat_eq}
use Rattle.std.specs.List.{Contains}
use Rattle.std.specs.Cmp.Lexicographic.{bytes_decides, pointwise}
use Rattle.std.proofs.lemmas.Option.{slice_get-map, slice_get-get_or, slice_get_within, get_or_from_slice_get, same_Some}
use Rattle.std.proofs.lemmas.Bool.{cases_lt}
use Rattle.std.proofs.lemmas.List.{length-map, drop-take, take-map, drop-map, drop_all, take_all}
use Rattle.cli_words.specs.declared.words.Own.{Own}
use Rattle.cli_words.specs.Line.{AreKnown, AreOptions, HasText, IsFile, IsKnown, IsPlain, StandsFree, TakesValue}

-- word i
pub at_word : (ws : List (Bor (List ℕ))) (i : ℕ) (d : Bor (List ℕ)) → i < length ws → slice_get (map (λ w. w.now) ws) i ≡ Some (get_or ws i d).now
at_word ws i d lt = slice_get-map (λ w. w.now) ws i ∙ ap (option_map (λ (w : Bor (List ℕ)). w.now)) (slice_get-get_or ws i d lt)

pub is_word : (ws : List (Bor (List ℕ))) (i : ℕ) (d : Bor (List ℕ)) (text : List ℕ) → i < length ws → slice_get (map (λ w. w.now) ws) i ≡ Some text → (get_or ws i d).now ≡ text
is_word ws i d text lt e = same_Some _ _ (sym (at_word ws i d lt) ∙ e)

pub words_long : (ws : List (Bor (List ℕ))) → length (map (λ w. w.now) ws) ≡ length ws
words_long ws = simp length-map

pub some_word : (ws : List (Bor (List ℕ))) (i : ℕ) → i < length ws → (word : List ℕ) × (slice_get (map (λ w. w.now) ws) i ≡ Some word)
some_word ws i lt =
    let within : i < length (map (λ (w : Bor (List ℕ)). w.now) ws) = omega (arith, words_long ws) in
    (get_or (map (λ w. w.now) ws) i [], slice_get-get_or (map (λ w. w.now) ws) i [] within)

-- a word that stands nowhere
pub not_there : (xs : List (List ℕ)) (text : List ℕ) → ((k : ℕ) → k < length xs → slice_get xs k ≢ Some text) → ¬ Contains xs text
not_there xs text none there = none there.0 there.1 (slice_get-get_or xs there.0 text there.1 ∙ ap Some there.2)

pub is_there : (xs : List (List ℕ)) (text : List ℕ) (k : ℕ) → slice_get xs k ≡ Some text → Contains xs text
is_there xs text k e = (k, slice_get_within xs k text e, get_or_from_slice_get xs k text text e)

-- word k gives this text by an option of this name
abbrev pub NamesText : (name : List ℕ) → List (List ℕ) → List ℕ → (k : ℕ) → Type 0
NamesText name xs text k =
    ((slice_get xs k ≡ Some name) × (slice_get xs (suc k) ≡ Some text)) ⊎ (slice_get xs k ≡ Some (name ++ (codes "=" ++ text)))

pub text_there : (name : List ℕ) (xs : List (List ℕ)) (text : List ℕ) (k : ℕ) → NamesText name xs text k → HasText name xs text
text_there name xs text k named =
    ⊎_elim (λ n. inl (k, n.0, n.1)) (λ e. inr (is_there xs (name ++ (codes "=" ++ text)) k e)) named

pub no_text : (name : List ℕ) (xs : List (List ℕ)) (text : List ℕ) → ((k : ℕ) → k < length xs → NamesText name xs text k → ⊥)
    → ¬ HasText name xs text
no_text name xs text none has = ⊎_elim
    (λ n. none n.0 (slice_get_within xs n.0 name n.1) (inl (n.1, n.2)))
    (λ there. none there.0 there.1 (inr (slice_get-get_or xs there.0 (name ++ (codes "=" ++ text)) there.1 ∙ ap Some there.2)))
    has

-- ---- one word more

module _ (ws : List (Bor (List ℕ))) (i : ℕ) (d : Bor (List ℕ)) (lt : i < length ws) where
  pub none_more : (text : List ℕ) → ((k : ℕ) → k < i → slice_get (map (λ w. w.now) ws) k ≢ Some text) → (get_or ws i d).now ≢ text → (k : ℕ) → k < i + 1 → slice_get (map (λ w. w.now) ws) k ≢ Some text
  none_more text none ne k below e = ⊎_elim (λ less. none k less e)
      (λ ge. let same : k ≡ i = omega arith in ne (is_word ws i d text lt (ap (λ n. slice_get (map (λ w. w.now) ws) n) (sym same) ∙ e)))
      (cases_lt k i)

  pub none_from_more : (least : ℕ) (text : List ℕ) → ((k : ℕ) → least ≤ k → k < i → slice_get (map (λ w. w.now) ws) k ≢ Some text) → (get_or ws i d).now ≢ text
      → (k : ℕ) → least ≤ k → k < i + 1 → slice_get (map (λ w. w.now) ws) k ≢ Some text
  none_from_more least text none ne k above below e = ⊎_elim (λ less. none k above less e)
      (λ ge. let same : k ≡ i = omega arith in ne (is_word ws i d text lt (ap (λ n. slice_get (map (λ w. w.now) ws) n) (sym same) ∙ e)))
      (cases_lt k i)

  pub no_text_more : (name : List ℕ) → ((k : ℕ) (text : List ℕ) → k < i → NamesText name (map (λ w. w.now) ws) text k → ⊥)
      → ((get_or ws i d).now ≢ name) ⊎ (length ws ≤ i + 1) → ((text : List ℕ) → (get_or ws i d).now ≢ name ++ (codes "=" ++ text))
      → (k : ℕ) (text : List ℕ) → k < i + 1 → NamesText name (map (λ w. w.now) ws) text k → ⊥
  no_text_more name none other value k text below named = ⊎_elim (λ less. none k text less named)
      (λ ge. let same : k ≡ i = omega arith in ⊎_elim
      (λ n. let first : slice_get (map (λ w. w.now) ws) i ≡ Some name = ap (λ j. slice_get (map (λ w. w.now) ws) j) (sym same) ∙ n.0 in
      ⊎_elim (λ ne. ne (is_word ws i d name lt first))
      (λ le. let within : suc k < length (map (λ w. w.now) ws) = slice_get_within (map (λ w. w.now) ws) (suc k) text n.1 in
      omega (arith, words_long ws)) other)
      (λ e. value text (is_word ws i d (name ++ (codes "=" ++ text)) lt (ap (λ j. slice_get (map (λ w. w.now) ws) j) (sym same) ∙ e))) named)
      (cases_lt k i)

  pub text_here : (e : Bor (List ℕ)) (name : List ℕ) → (get_or ws i d).now ≡ name → i + 1 < length ws
      → HasText name (map (λ w. w.now) ws) (get_or ws (i + 1) e).now
  text_here e name is next = text_there name (map (λ w. w.now) ws) (get_or ws (i + 1) e).now i (inl (
    at_word ws i d lt ∙ ap Some is,
    (let same : suc i ≡ i + 1 = omega arith in ap (λ j. slice_get (map (λ w. w.now) ws) j) same ∙ at_word ws (i + 1) e next),
  ))

  pub joined_here : (name text : List ℕ) → (get_or ws i d).now ≡ name ++ (codes "=" ++ text) → HasText name (map (λ w. w.now) ws) text
  joined_here name text is = text_there name (map (λ w. w.now) ws) text i (inr (at_word ws i d lt ∙ ap Some is))

-- words of which one isn't known, and of which one more is
pub unknown_there : (own : Own) (ws : List (Bor (List ℕ))) (i : ℕ) (d : Bor (List ℕ)) → i < length ws → ¬ IsKnown own (get_or ws i d).now
    → ¬ AreKnown own (map (λ w. w.now) ws)
unknown_there own ws i d lt unknown known = unknown (known i (get_or ws i d).now (at_word ws i d lt))

pub known_more : (own : Own) (ws : List (Bor (List ℕ))) (i : ℕ) (d : Bor (List ℕ)) → i < length ws
    → ((k : ℕ) (word : List ℕ) → k < i → slice_get (map (λ w. w.now) ws) k ≡ Some word → IsKnown own word)
    → IsKnown own (get_or ws i d).now → (k : ℕ) (word : List ℕ) → k < i + 1 → slice_get (map (λ w. w.now) ws) k ≡ Some word → IsKnown own word
known_more own ws i d lt before here k word below is = ⊎_elim (λ less. before k word less is)
    (λ ge. let same : k ≡ i = omega arith in
    let P : List ℕ → Type 0 = λ w. IsKnown own w in
    subst P (is_word ws i d word lt (ap (λ n. slice_get (map (λ w. w.now) ws) n) (sym same) ∙ is)) here)
    (cases_lt k i)

-- the options up to a place
pub options_are : (ws : List (Bor (List ℕ))) (from end : ℕ) → from ≡ 2 → 2 ≤ end → map (λ w. w.now) (take (end - from) (drop from ws)) ≡ drop 2 (take end (map (λ w. w.now) ws))
options_are ws from end is le =
    let split : 2 + (end - 2) ≡ end = omega arith in
    ap (λ n. map (λ (w : Bor (List ℕ)). w.now) (take (end - n) (drop n ws))) is
    ∙ sym (take-map (λ (w : Bor (List ℕ)). w.now) (end - 2) (drop 2 ws))
    ∙ ap (take (end - 2)) (sym (drop-map (λ (w : Bor (List ℕ)). w.now) 2 ws))
    ∙ sym (drop-take 2 (end - 2) (map (λ (w : Bor (List ℕ)). w.now) ws))
    ∙ ap (λ n. drop 2 (take n (map (λ (w : Bor (List ℕ)). w.now) ws))) split

-- all words behind the command are options where none is a "--"
pub options_rest : (ws : List (Bor (List ℕ))) (from end : ℕ) → from ≡ min (length ws) 2 → length ws ≤ end → ((i : ℕ) → 2 ≤ i → i < end → slice_get (map (λ w. w.now) ws) i ≢ Some (codes "--"))
    → AreOptions (map (λ w. w.now) ws) (map (λ w. w.now) (take (length ws - from) (drop from ws)))
options_rest ws from end is within none =
    let now : Bor (List ℕ) → List ℕ = λ w. w.now in
    let long : length (map now ws) ≤ end + 2 = omega (arith, words_long ws) in
    let same : take (length ws - from) (drop from ws) ≡ drop 2 ws = take_all (length ws - from) (drop from ws) (omega (arith, length-drop from ws)) ∙ ⊎_elim
    (λ few. drop_all from ws (omega arith) ∙ sym (drop_all 2 ws (omega arith)))
    (λ many. let two : from ≡ 2 = omega arith in ap (λ n. drop n ws) two) (cases_lt (length ws) 2) in
    record {
      end = end + 2;
      behind = omega arith;
      are = ap (map now) same ∙ sym (drop-map now 2 ws) ∙ ap (drop 2) (sym (take_all (end + 2) (map now ws) long));
      none = λ i two below is_dashes. ⊎_elim (λ less. none i two less is_dashes)
          (λ past. let there : i < length (map now ws) = slice_get_within (map now ws) i (codes "--") is_dashes in omega (arith, words_long ws)) (cases_lt i end);
      last = inl long;
    }

-- ---- words that stand for themselves

module _ (ws : List (Bor (List ℕ))) (i : ℕ) (two : 2 ≤ i) (lt : i < length ws) where
  pub free_behind : Contains (map (λ w. w.now) (take (i - 2) (drop 2 ws))) (codes "--") → (word : List ℕ) → slice_get (map (λ w. w.now) ws) i ≡ Some word → StandsFree (map (λ w. w.now) ws) i word
  free_behind there word is = record {
    behind = two;
    is = is;
    free = inl (rw (← options_are ws 2 i refl two) there);
  }

  pub free_plain : (d e : Bor (List ℕ)) → IsPlain (get_or ws i d).now → ¬ TakesValue (get_or ws (i - 1) e).now → (word : List ℕ)
      → slice_get (map (λ w. w.now) ws) i ≡ Some word → StandsFree (map (λ w. w.now) ws) i word
  free_plain d e plain other word is = record {
    behind = two;
    is = is;
    free = inr (
      (λ rest begins. plain rest (is_word ws i d word lt is ∙ begins)),
      (λ option named takes. let before : i - 1 < length ws = omega arith in
          let P : List ℕ → Type 0 = λ w. TakesValue w in
          other (subst P (sym (is_word ws (i - 1) e option before named)) takes)),
    );
  }

  pub option_not_free : (d : Bor (List ℕ)) → ¬ Contains (map (λ w. w.now) (take (i - 2) (drop 2 ws))) (codes "--") → ¬ IsPlain (get_or ws i d).now → (word : List ℕ) → ¬ StandsFree (map (λ w. w.now) ws) i word
  option_not_free d none option word free = ⊎_elim
      (λ there. none (rw (options_are ws 2 i refl two) there))
      (λ plain. option (λ rest begins. plain.0 rest (sym (is_word ws i d word lt free.is) ∙ begins)))
      free.free

  pub value_not_free : (e : Bor (List ℕ)) → ¬ Contains (map (λ w. w.now) (take (i - 2) (drop 2 ws))) (codes "--")
      → TakesValue (get_or ws (i - 1) e).now → (word : List ℕ) → ¬ StandsFree (map (λ w. w.now) ws) i word
  value_not_free e none takes word free = ⊎_elim
      (λ there. none (rw (options_are ws 2 i refl two) there))
      (λ plain. let before : i - 1 < length ws = omega arith in plain.1 (get_or ws (i - 1) e).now (at_word ws (i - 1) e before) takes)
      free.free

pub clash : (b : Bool) → b ≡ true → b ≡ false → ⊥
clash b t f = let g : true ≡ false = sym t ∙ f in cc

-- what holds makes a test true that is false only where it doesn't hold
pub told : (b : Bool) (P : Type 0) → (b ≡ false → ¬ P) → P → IsTrue b
told true P not p = refl
told false P not p = absurd (not refl p)

-- what a test whether two words differ has told
pub differ : (xs ys : List ℕ) (r : Bool) → r ≡ not (pointwise nat_eq xs ys) → IsTrue r → xs ≢ ys
differ xs ys r e t same = clash r t (e ∙ ap not ((bytes_decides xs ys).1 same))

pub not_true : (b : Bool) → IsTrue (not b) → b ≡ false
not_true true t = sym t
not_true false t = refl

pub not_false : (b : Bool) → not b ≡ false → b ≡ true
not_false true e = refl
not_false false e = sym e

pub agree : (xs ys : List ℕ) (r : Bool) → r ≡ not (pointwise nat_eq xs ys) → r ≡ false → xs ≡ ys
agree xs ys r e f = (bytes_decides xs ys).0 (not_false (pointwise nat_eq xs ys) (sym e ∙ f))

-- no word between two places stands for itself
abbrev pub NoneFree : (words : List (List ℕ)) → (from to : ℕ) → Type 0
NoneFree words from to = (k : ℕ) (word : List ℕ) → from ≤ k → k < to → StandsFree words k word → ⊥

pub none_free_more : (words : List (List ℕ)) (from i : ℕ) → NoneFree words from i → ((word : List ℕ) → ¬ StandsFree words i word) → NoneFree words from (i + 1)
none_free_more words from i none here k word above below free = ⊎_elim (λ less. none k word above less free)
    (λ ge. let same : k ≡ i = omega arith in
    let P : ℕ → Type 0 = λ n. StandsFree words n word in
    here word (subst P same free))
    (cases_lt k i)

pub only_free : (words : List (List ℕ)) (i : ℕ) → NoneFree words 2 i → ((k : ℕ) (word : List ℕ) → i + 1 ≤ k → ¬ StandsFree words k word) → (j : ℕ) (other : List ℕ) → StandsFree words j other → j ≡ i
only_free words i before behind j other free = ⊎_elim (λ less. absurd (before j other free.behind less free))
    (λ ge. ⊎_elim (λ more. let above : i + 1 ≤ j = omega arith in absurd (behind j other above free)) (λ le. omega arith) (cases_lt i j))
    (cases_lt j i)

-- ---- what isn't the file

pub two_free : (words : List (List ℕ)) (file : List ℕ) (i j : ℕ) (word other : List ℕ) → StandsFree words i word → StandsFree words j other → i + 1 ≤ j → ¬ IsFile words file
two_free words file i j word other here there more f = omega (arith, f.2 i word here, f.2 j other there)

pub other_file : (words : List (List ℕ)) (file : List ℕ) (i : ℕ) (word : List ℕ) → StandsFree words i word → word ≢ file → ¬ IsFile words file
other_file words file i word here differs f = differs (same_Some _ _ (sym here.is ∙ ap (λ n. slice_get words n) (f.2 i word here) ∙ f.1.is))

pub no_file : (words : List (List ℕ)) (file : List ℕ) (n : ℕ) → length words ≤ n → NoneFree words 2 n → ¬ IsFile words file
no_file words file n le none f =
    let within : f.0 < length words = slice_get_within words f.0 file f.1.is in
    none f.0 file f.1.behind (omega arith) f.1

-- What stands in one of two lists of cells alone, one turn after another.
use Rattle.std.proofs.Common.{◌≡◌, ◌⊎◌, ◌∙◌, ℕ, suc, ◌+◌, ◌*◌, ◌<◌, ◌≤◌, List, [], ◌∷◌, ◌++◌, ◌-◌, Option, Some, length, take, drop, length-drop, inl, inr, ⊎_elim, refl, sym, ap, subst, append_assoc, append-nil, arith}
use Rattle.std.proofs.KnownBytes.{Appends-nil, Appends-trans}
use Rattle.std.proofs.lemmas.List.{take_all}
use Rattle.std.specs.Io.KnownBytes.{Appends}
use Rattle.sqpage.specs.Lists.{In, Every}
use Rattle.sqdeleted.specs.Deleted.{BeginsRecord}
use Rattle.sqdeleted.specs.DeletedCursor.{Rise}
use Rattle.sqdeleted.specs.declared.cell.DeletedCell.{DeletedCell}
use Rattle.cli_row_text.specs.declared.form.Form.{Form}
use Rattle.cli_show_deleted.specs.Changes.{AreChangeLines, Change, IsChangeText, went, came, turns_of}
use Rattle.cli_show_deleted.specs.declared.candidate.Candidate.{Candidate}
use Rattle.cli_show_deleted.specs.declared.turn.Found.{Found}
use Rattle.cli_show_deleted.specs.declared.turn.Found.TheVariants.{Same, Went, Came}
use Rattle.cli_show_deleted.specs.internal.Candidates.{AreChangesAmong, AreSound, BeginsFound, Holds, IsAbove, IsBefore, IsCellAmong, IsChangeAmong, IsFoundText, IsOnlyOf, IsTurn, place_of, places}
use Rattle.cli_show_deleted.proofs.CellsCollected.{in_place}

rise_from : (a b : ℕ) (xs : List ℕ) → Rise a xs → ((y : ℕ) → In y xs → b ≤ y) → Rise b xs
rise_from a b [] h all = tt
rise_from a b (x ∷ xs) h all = (all x (inl refl), h.1)

rise_least : (a : ℕ) (xs : List ℕ) (y : ℕ) → Rise a xs → In y xs → a ≤ y
rise_least a [] y rise i = absurd i
rise_least a (x ∷ xs) y (le, more) (inl e) = omega (arith, le, e)
rise_least a (x ∷ xs) y (le, more) (inr i) = let h : x + 1 ≤ y = rise_least (x + 1) xs y more i in omega (arith, le, h)

-- what is left of a list behind so many
pub rest_is : {A : Type 0} (i : ℕ) (xs : List A) → take (length xs - i) (drop i xs) ≡ drop i xs
rest_is {A} i xs = take_all (length xs - i) (drop i xs) (let many : length (drop i xs) ≡ length xs - i = length-drop i xs in omega (arith, many))

-- ---- what is held

held_least : (a : ℕ) (xs : List Candidate) (at : ℕ) (bytes : List ℕ) → Rise a (places xs) → Holds xs at bytes → a ≤ at
held_least a xs at bytes rise (x, i, is, same) = let h : a ≤ x.cell.at = rise_least a (places xs) x.cell.at rise (in_place xs x i) in omega (arith, h, is)

held_more : (x : Candidate) (xs : List Candidate) (at : ℕ) (bytes : List ℕ) → Holds xs at bytes → Holds (x ∷ xs) at bytes
held_more x xs at bytes (y, i, is, same) = (y, inr i, is, same)

held_cases : (x : Candidate) (xs : List Candidate) (at : ℕ) (bytes : List ℕ) → Holds (x ∷ xs) at bytes → ((x.cell.at ≡ at) × (x.bytes.now ≡ bytes)) ⊎ Holds xs at bytes
held_cases x xs at bytes (y, inl e, is, same) = inl (ap place_of (sym e) ∙ is, ap (λ (z : Candidate). z.bytes.now) (sym e) ∙ same)
held_cases x xs at bytes (y, inr i, is, same) = inr (y, i, is, same)

-- one that stands before the others, or at the first one's place with other bytes, isn't among them
none_before : (x : Candidate) (ys : List Candidate) → IsBefore x ys → Rise 0 (places ys) → ¬ Holds ys x.cell.at x.bytes.now
none_before x [] before rise held = held.1
none_before x (y ∷ ys) before rise held = elim (held_cases y ys x.cell.at x.bytes.now held) [
  | inl w ↦ elim before [ inl less ↦ (let e : y.cell.at ≡ x.cell.at = w.0 in omega (arith, less, e)) | inr v ↦ v.1 (sym w.1) ]
  | inr more ↦ (let least : y.cell.at + 1 ≤ x.cell.at = held_least (y.cell.at + 1) ys x.cell.at x.bytes.now rise.1 more in
      elim before [ inl less ↦ omega (arith, less, least) | inr v ↦ (let e : x.cell.at ≡ y.cell.at = v.0 in omega (arith, e, least)) ])
]

least_before : (x : Candidate) (ys : List Candidate) → IsBefore x ys → Rise 0 (places ys) → (at : ℕ) (bytes : List ℕ) → Holds ys at bytes → x.cell.at ≤ at
least_before x [] before rise at bytes held = absurd held.1
least_before x (y ∷ ys) before rise at bytes held =
    let least : y.cell.at ≤ at = held_least y.cell.at (y ∷ ys) at bytes (omega arith, rise.1) held in
    elim before [ inl less ↦ omega (arith, less, least) | inr v ↦ (let e : x.cell.at ≡ y.cell.at = v.0 in omega (arith, e, least)) ]

least_above : (y : Candidate) (xs : List Candidate) → IsAbove y xs → Rise 0 (places xs) → (at : ℕ) (bytes : List ℕ) → Holds xs at bytes → y.cell.at < at
least_above y [] above rise at bytes held = absurd held.1
least_above y (x ∷ xs) above rise at bytes held =
    let least : x.cell.at ≤ at = held_least x.cell.at (x ∷ xs) at bytes (omega arith, rise.1) held in
    omega (arith, above, least)

-- ---- what one list holds alone

only_first : (x : Candidate) (xs ys : List Candidate) → ¬ Holds ys x.cell.at x.bytes.now → IsOnlyOf (x ∷ xs) ys x.cell.at
only_first x xs ys none = (x.bytes.now, (x, inl refl, refl, refl), none)

only_more : (x : Candidate) (xs ys : List Candidate) (at : ℕ) → IsOnlyOf xs ys at → IsOnlyOf (x ∷ xs) ys at
only_more x xs ys at (bytes, held, none) = (bytes, held_more x xs at bytes held, none)

only_cases : (x : Candidate) (xs ys : List Candidate) (at : ℕ) → IsOnlyOf (x ∷ xs) ys at → (x.cell.at ≡ at) ⊎ IsOnlyOf xs ys at
only_cases x xs ys at (bytes, held, none) = ⊎_elim (λ w. inl w.0) (λ more. inr (bytes, more, none)) (held_cases x xs at bytes held)

other_less : (x : Candidate) (xs ys : List Candidate) (at : ℕ) → ¬ Holds ys x.cell.at x.bytes.now → IsOnlyOf ys xs at → IsOnlyOf ys (x ∷ xs) at
other_less x xs ys at lacks (bytes, held, none) = (
  bytes,
  held,
  λ h. ⊎_elim (λ w. lacks (subst (λ (n : ℕ). Holds ys n x.bytes.now) (sym w.0) (subst (λ (b : List ℕ). Holds ys at b) (sym w.1) held))) (λ more. none more) (held_cases x xs at bytes h),
)

other_more : (x : Candidate) (xs ys : List Candidate) (at : ℕ) → IsOnlyOf ys (x ∷ xs) at → IsOnlyOf ys xs at
other_more x xs ys at (bytes, held, none) = (bytes, held, λ h. none (held_more x xs at bytes h))

-- the same cell stands first in both
same_to : (x y : Candidate) (xs ys : List Candidate) (at : ℕ) → Rise (x.cell.at + 1) (places xs) → x.cell.at ≡ y.cell.at → IsOnlyOf xs ys at → IsOnlyOf (x ∷ xs) (y ∷ ys) at
same_to x y xs ys at rise same only =
    let none : ¬ Holds xs y.cell.at y.bytes.now = λ held. (let least : x.cell.at + 1 ≤ y.cell.at = held_least (x.cell.at + 1) xs y.cell.at y.bytes.now rise held in omega (arith, least, same)) in
    only_more x xs (y ∷ ys) at (other_less y ys xs at none only)

same_back : (x y : Candidate) (xs ys : List Candidate) (at : ℕ) → x.cell.at ≡ y.cell.at → x.bytes.now ≡ y.bytes.now → IsOnlyOf (x ∷ xs) (y ∷ ys) at → IsOnlyOf xs ys at
same_back x y xs ys at place same (bytes, held, none) = elim (held_cases x xs at bytes held) [
  | inl w ↦ absurd (none (y, inl refl, sym place ∙ w.0, sym same ∙ w.1))
  | inr more ↦ (bytes, more, λ h. none (held_more y ys at bytes h))
]

-- ---- turns

in_turn : (changes : List Change) (k : ℕ) → In k (turns_of changes) → ((at : ℕ) × (k ≡ 2 * at)) ⊎ ((at : ℕ) × (k ≡ suc (2 * at)))
in_turn [] k i = absurd i
in_turn (went cell ∷ changes) k (inl e) = inl (cell.at, e)
in_turn (went cell ∷ changes) k (inr i) = in_turn changes k i
in_turn (came cell ∷ changes) k (inl e) = inr (cell.at, e)
in_turn (came cell ∷ changes) k (inr i) = in_turn changes k i

turns_least : (old new : List Candidate) (changes : List Change) → AreChangesAmong old new changes → (n : ℕ) → ((at : ℕ) → IsOnlyOf old new at → n ≤ 2 * at)
    → ((at : ℕ) → IsOnlyOf new old at → n ≤ suc (2 * at)) → (k : ℕ) → In k (turns_of changes) → n ≤ k
turns_least old new changes are n gone fresh k i = elim (in_turn changes k i) [
  | inl w ↦ (let at : ℕ = w.0 in
      let e : k ≡ 2 * at = w.1 in
      let least : n ≤ 2 * at = gone at ((are.gone at).0 (subst (λ (m : ℕ). In m (turns_of changes)) e i)) in
      omega (arith, e, least))
  | inr w ↦ (let at : ℕ = w.0 in
      let e : k ≡ suc (2 * at) = w.1 in
      let least : n ≤ suc (2 * at) = fresh at ((are.fresh at).0 (subst (λ (m : ℕ). In m (turns_of changes)) e i)) in
      omega (arith, e, least))
]

half_once : (a b : ℕ) → 2 * a ≡ 2 * b → b ≡ a
half_once a b e = omega (arith, e)

next_once : (a b : ℕ) → suc (2 * a) ≡ suc (2 * b) → b ≡ a
next_once a b e = omega (arith, e)

no_even : (a b : ℕ) → suc (2 * a) ≡ 2 * b → ⊥
no_even a b e = omega (arith, e)

no_odd : (a b : ℕ) → 2 * a ≡ suc (2 * b) → ⊥
no_odd a b e = omega (arith, e)

every_among : (old new olds news : List Candidate) (changes : List Change) → ((cell : DeletedCell) → IsCellAmong old cell → IsCellAmong olds cell)
    → ((cell : DeletedCell) → IsCellAmong new cell → IsCellAmong news cell) → Every (IsChangeAmong old new) changes → Every (IsChangeAmong olds news) changes
every_among old new olds news [] more too all = tt
every_among old new olds news (went cell ∷ changes) more too all = (more cell all.0, every_among old new olds news changes more too all.1)
every_among old new olds news (came cell ∷ changes) more too all = (too cell all.0, every_among old new olds news changes more too all.1)

among_more : (x : Candidate) (xs : List Candidate) (cell : DeletedCell) → IsCellAmong xs cell → IsCellAmong (x ∷ xs) cell
among_more x xs cell (y, i, e) = (y, inr i, e)

pub none_among : AreChangesAmong [] [] []
none_among = record {
  rise = tt;
  gone = λ at. (λ i. absurd i, λ only. absurd only.1.1);
  fresh = λ at. (λ i. absurd i, λ only. absurd only.1.1);
  each = tt;
}

pub went_among : (x : Candidate) (xs ys : List Candidate) (more : List Change) → Rise 0 (places (x ∷ xs)) → Rise 0 (places ys) → IsBefore x ys → AreChangesAmong xs ys more
    → AreChangesAmong (x ∷ xs) ys (went x.cell ∷ more)
went_among x xs ys more rise other before are =
    let none : ¬ Holds ys x.cell.at x.bytes.now = none_before x ys before other in
    let least : (k : ℕ) → In k (turns_of more) → 2 * x.cell.at + 1 ≤ k = turns_least xs ys more are (2 * x.cell.at + 1)
    (λ at only. let h : x.cell.at + 1 ≤ at = held_least (x.cell.at + 1) xs at only.0 rise.1 only.1 in omega (arith, h))
    (λ at only. let h : x.cell.at ≤ at = least_before x ys before other at only.0 only.1 in omega (arith, h)) in
    record {
      rise = (omega arith, rise_from 0 (2 * x.cell.at + 1) (turns_of more) are.rise least);
      gone = λ at. (
        (λ i. ⊎_elim (λ e. subst (λ (n : ℕ). IsOnlyOf (x ∷ xs) ys n) (half_once at x.cell.at e) (only_first x xs ys none)) (λ j. only_more x xs ys at ((are.gone at).0 j)) i),
        λ only. ⊎_elim (λ e. inl (ap (λ (n : ℕ). 2 * n) (sym e))) (λ o. inr ((are.gone at).1 o)) (only_cases x xs ys at only),
      );
      fresh = λ at. (
        (λ i. ⊎_elim (λ e. absurd (no_even at x.cell.at e)) (λ j. other_less x xs ys at none ((are.fresh at).0 j)) i),
        λ only. inr ((are.fresh at).1 (other_more x xs ys at only)),
      );
      each = ((x, inl refl, refl), every_among xs ys (x ∷ xs) ys more (among_more x xs) (λ cell there. there) are.each);
    }

pub came_among : (y : Candidate) (xs ys : List Candidate) (more : List Change) → Rise 0 (places xs) → Rise 0 (places (y ∷ ys)) → IsAbove y xs → AreChangesAmong xs ys more
    → AreChangesAmong xs (y ∷ ys) (came y.cell ∷ more)
came_among y xs ys more other rise above are =
    let none : ¬ Holds xs y.cell.at y.bytes.now = λ held. (let less : y.cell.at < y.cell.at = least_above y xs above other y.cell.at y.bytes.now held in omega (arith, less)) in
    let least : (k : ℕ) → In k (turns_of more) → suc (2 * y.cell.at) + 1 ≤ k = turns_least xs ys more are (suc (2 * y.cell.at) + 1)
    (λ at only. let h : y.cell.at < at = least_above y xs above other at only.0 only.1 in omega (arith, h))
    (λ at only. let h : y.cell.at + 1 ≤ at = held_least (y.cell.at + 1) ys at only.0 rise.1 only.1 in omega (arith, h)) in
    record {
      rise = (omega arith, rise_from 0 (suc (2 * y.cell.at) + 1) (turns_of more) are.rise least);
      gone = λ at. (
        (λ i. ⊎_elim (λ e. absurd (no_odd at y.cell.at e)) (λ j. other_less y ys xs at none ((are.gone at).0 j)) i),
        λ only. inr ((are.gone at).1 (other_more y ys xs at only)),
      );
      fresh = λ at. (
        (λ i. ⊎_elim (λ e. subst (λ (n : ℕ). IsOnlyOf (y ∷ ys) xs n) (next_once at y.cell.at e) (only_first y ys xs none)) (λ j. only_more y ys xs at ((are.fresh at).0 j)) i),
        λ only. ⊎_elim (λ e. inl (ap (λ (n : ℕ). suc (2 * n)) (sym e))) (λ o. inr ((are.fresh at).1 o)) (only_cases y ys xs at only),
      );
      each = ((y, inl refl, refl), every_among xs ys xs (y ∷ ys) more (λ cell there. there) (among_more y ys) are.each);
    }

pub same_among : (x y : Candidate) (xs ys : List Candidate) (more : List Change) → Rise 0 (places (x ∷ xs)) → Rise 0 (places (y ∷ ys)) → x.cell.at ≡ y.cell.at
    → x.bytes.now ≡ y.bytes.now → AreChangesAmong xs ys more → AreChangesAmong (x ∷ xs) (y ∷ ys) more
same_among x y xs ys more rise other place same are = record {
  rise = are.rise;
  gone = λ at. (
    (λ i. same_to x y xs ys at rise.1 place ((are.gone at).0 i)),
    λ only. (are.gone at).1 (same_back x y xs ys at place same only),
  );
  fresh = λ at. (
    (λ i. same_to y x ys xs at other.1 (sym place) ((are.fresh at).0 i)),
    λ only. (are.fresh at).1 (same_back y x ys xs at (sym place) (sym same) only),
  );
  each = every_among xs ys (x ∷ xs) (y ∷ ys) more (among_more x xs) (among_more y ys) are.each;
}

-- ---- a walk over both

sound_rest : (x : Candidate) (xs : List Candidate) → AreSound (x ∷ xs) → AreSound xs
sound_rest x xs sound = record {
  rise = rise_from (x.cell.at + 1) 0 (places xs) sound.rise.1 (λ y i. omega arith);
  begin = sound.begin.1;
}

lines_more : (f g : Form) (told : List Change) (change : Change) (t own : List ℕ) → AreChangeLines f g told t → IsChangeText f g change own
    → AreChangeLines f g (told ++ change ∷ []) (t ++ own)
lines_more f g [] change t own are is = (own, [], is, refl, ap (λ z. z ++ own) are ∙ sym (append-nil own))
lines_more f g (first ∷ told) change t own are is =
    (are.0, are.1 ++ own, are.2, lines_more f g told change are.1 own are.3 is, ap (λ z. z ++ own) are.4 ∙ append_assoc are.0 are.1 own)

-- the changes that were told, before those of what is left
pub record Turned (old new was is : List Candidate) (f g : Form) (before after : Option (List ℕ)) : Type 0 where
  pub told : List Change
  pub text : List ℕ
  pub olds : AreSound was
  pub news : AreSound is
  pub moves : (more : List Change) → AreChangesAmong was is more → AreChangesAmong old new (told ++ more)
  pub lines : AreChangeLines f g told text
  pub written : Appends before after text

pub turned_none : (old new : List Candidate) (f g : Form) (out : Option (List ℕ)) → AreSound old → AreSound new → Turned old new old new f g out out
turned_none old new f g out olds news =
    record { told = []; text = []; olds = olds; news = news; moves = λ more are. are; lines = refl; written = Appends-nil out }

turned_same : (old new was is olds news : List Candidate) (f g : Form) (before after : Option (List ℕ)) → Turned old new was is f g before after → (x y : Candidate)
    → was ≡ x ∷ olds → is ≡ y ∷ news → x.cell.at ≡ y.cell.at → x.bytes.now ≡ y.bytes.now → Turned old new olds news f g before after
turned_same old new was is olds news f g before after w x y first second place same =
    let sound = subst AreSound first w.olds in
    let other = subst AreSound second w.news in
    record {
      told = w.told;
      text = w.text;
      olds = sound_rest x olds sound;
      news = sound_rest y news other;
      moves = λ more are.
          w.moves more (subst (λ (l : List Candidate). AreChangesAmong l is more) (sym first)
          (subst (λ (l : List Candidate). AreChangesAmong (x ∷ olds) l more) (sym second) (same_among x y olds news more sound.rise other.rise place same are)));
      lines = w.lines;
      written = w.written;
    }

-- the first cell of what is left begins a record
first_begins : (was olds : List Candidate) (x : Candidate) (cell : DeletedCell) → AreSound was → cell ≡ x.cell → was ≡ x ∷ olds → BeginsRecord cell.payload cell.local.now
first_begins was olds x cell sound is first =
    subst (λ (z : DeletedCell). BeginsRecord z.payload z.local.now) (sym is) (subst AreSound first sound).begin.0

turned_went : (old new was is olds : List Candidate) (f g : Form) (before mid after : Option (List ℕ)) → Turned old new was is f g before mid → (cell : DeletedCell) (x : Candidate)
    → cell ≡ x.cell → was ≡ x ∷ olds → IsBefore x is → (own : List ℕ) → IsChangeText f g (went cell) own → Appends mid after own → Turned old new olds is f g before after
turned_went old new was is olds f g before mid after w cell x same first stands own text appends =
    let sound = subst AreSound first w.olds in
    record {
      told = w.told ++ went cell ∷ [];
      text = w.text ++ own;
      olds = sound_rest x olds sound;
      news = w.news;
      moves = λ more are.
          subst (λ (l : List Change). AreChangesAmong old new l) (sym (append_assoc w.told (went cell ∷ []) more))
          (w.moves (went cell ∷ more) (subst (λ (l : List Candidate). AreChangesAmong l is (went cell ∷ more)) (sym first)
          (subst (λ (z : DeletedCell). AreChangesAmong (x ∷ olds) is (went z ∷ more)) (sym same) (went_among x olds is more sound.rise w.news.rise stands are))));
      lines = lines_more f g w.told (went cell) w.text own w.lines text;
      written = Appends-trans before mid after w.text own w.written appends;
    }

turned_came : (old new was is news : List Candidate) (f g : Form) (before mid after : Option (List ℕ)) → Turned old new was is f g before mid → (cell : DeletedCell) (y : Candidate)
    → cell ≡ y.cell → is ≡ y ∷ news → IsAbove y was → (own : List ℕ) → IsChangeText f g (came cell) own → Appends mid after own → Turned old new was news f g before after
turned_came old new was is news f g before mid after w cell y same first stands own text appends =
    let sound = subst AreSound first w.news in
    record {
      told = w.told ++ came cell ∷ [];
      text = w.text ++ own;
      olds = w.olds;
      news = sound_rest y news sound;
      moves = λ more are.
          subst (λ (l : List Change). AreChangesAmong old new l) (sym (append_assoc w.told (came cell ∷ []) more))
          (w.moves (came cell ∷ more) (subst (λ (l : List Candidate). AreChangesAmong was l (came cell ∷ more)) (sym first)
          (subst (λ (z : DeletedCell). AreChangesAmong was (y ∷ news) (came z ∷ more)) (sym same) (came_among y was news more w.olds.rise sound.rise stands are))));
      lines = lines_more f g w.told (came cell) w.text own w.lines text;
      written = Appends-trans before mid after w.text own w.written appends;
    }

pub turned_all : (old new was is : List Candidate) (f g : Form) (before after : Option (List ℕ)) → Turned old new was is f g before after → was ≡ [] → is ≡ []
    → (changes : List Change) × (t : List ℕ) × AreChangesAmong old new changes × AreChangeLines f g changes t × Appends before after t
turned_all old new was is f g before after w none too = (
  w.told,
  w.text,
  subst (λ (l : List Change). AreChangesAmong old new l) (append-nil w.told)
      (w.moves [] (subst (λ (l : List Candidate). AreChangesAmong l is []) (sym none) (subst (λ (l : List Candidate). AreChangesAmong [] l []) (sym too) none_among))),
  w.lines,
  w.written,
)

pub turned_found : (old new was is olds news : List Candidate) (f g : Form) (before mid after : Option (List ℕ)) (found : Found) → Turned old new was is f g before mid
    → IsTurn was is (Some found) olds news → (own : List ℕ) → IsFoundText f g found own → Appends mid after own → Turned old new olds news f g before after
turned_found old new was is olds news f g before mid after Same w (x, y, first, second, place, same) own text appends =
    let one = turned_same old new was is olds news f g before mid w x y first second place same in
    record {
      told = one.told;
      text = one.text ++ own;
      olds = one.olds;
      news = one.news;
      moves = one.moves;
      lines = subst (λ (t : List ℕ). AreChangeLines f g one.told t) (sym (append-nil one.text) ∙ ap (λ (t : List ℕ). one.text ++ t) (sym text)) one.lines;
      written = Appends-trans before mid after one.text own one.written appends;
    }
turned_found old new was is olds news f g before mid after (Went cell) w (x, same, first, kept, stands) own text appends =
    subst (λ (l : List Candidate). Turned old new olds l f g before after) kept (turned_went old new was is olds f g before mid after w cell x same first stands own text appends)
turned_found old new was is olds news f g before mid after (Came cell) w (y, same, first, kept, stands) own text appends =
    subst (λ (l : List Candidate). Turned old new l news f g before after) kept (turned_came old new was is news f g before mid after w cell y same first stands own text appends)

pub found_begins : (was is olds news : List Candidate) (found : Found) → AreSound was → AreSound is → IsTurn was is (Some found) olds news → BeginsFound found
found_begins was is olds news Same sound other turn = tt
found_begins was is olds news (Went cell) sound other (x, same, first, kept, stands) = first_begins was olds x cell sound same first
found_begins was is olds news (Came cell) sound other (y, same, first, kept, stands) = first_begins is news y cell other same first

-- Words of a command line that say how locks are taken, one behind the other.
use Rattle.std.proofs.Common.{◌≡◌, ◌≢◌, ◌⊎◌, inl, inr, ⊎_elim, ◌∙◌, refl, sym, ap, subst, ℕ, ◌+◌, ◌<◌, ◌≤◌, List, [], ◌∷◌, ◌++◌, length, get_or, true, false, Bor, Option, None, Some, arith, add-one}
use Rattle.std.specs.Prelude.{Bool, MatchOption, codes, is_some, nat_eq, slice_get}
use Rattle.std.proofs.lemmas.Bool.{cases_lt}
use Rattle.std.proofs.lemmas.List.{map-append}
use Rattle.std.proofs.lemmas.Option.{same_Some, slice_get_past, slice_get_within}
use Rattle.cli_words.proofs.CommandLineArguments.{at_word}
use Rattle.cli_held.proofs.Words.{texts_long}
use Rattle.cli_held.specs.Todo.{texts}
use Rattle.cli_held.specs.Saying.{AreRest, AreSeconds, GivesAlone, GivesBehind, IsBeforeDashes, IsOpen, IsTakenOut, IsWait, IsWaitValue, MaySay, SaysNone, Waits, IsTakenApart, command_at}
use Rattle.cli_held.specs.declared.line.Line.{Line}
use Rattle.cli_held.specs.declared.line.Rest.{Rest}
use Rattle.cli_held.specs.declared.line.Said.TheVariants.{Nothing, Unlocked}
use Rattle.cli_held.specs.internal.Words.{IsSaidAt, IsSoFar, MayTell}

-- one word isn't two
no_lock_alone : (text : List ℕ) → codes "--no-lock" ≡ codes "--wait=" ++ text → ⊥
no_lock_alone text e = let no : true ≡ false = ap (λ (w : List ℕ). nat_eq (get_or w 2 0) 110) e in absurd (cc no)

no_lock_behind : codes "--no-lock" ≡ codes "--wait" → ⊥
no_lock_behind e = let no : true ≡ false = ap (λ (w : List ℕ). nat_eq (get_or w 2 0) 110) e in absurd (cc no)

alone_behind : (text : List ℕ) → codes "--wait" ≡ codes "--wait=" ++ text → ⊥
alone_behind text e = let no : true ≡ false = ap (λ (w : List ℕ). nat_eq (get_or w 6 0) 0) e in absurd (cc no)

-- a text that begins as an option is no number
no_option : (rest : List ℕ) (n : ℕ) → AreSeconds (45 ∷ rest) n → ⊥
no_option rest n are = let digit = are.1.0.1.0 in absurd (omega arith)

-- ---- one place more

cases_below : (j i : ℕ) → j < i + 1 → (j < i) ⊎ (j ≡ i)
cases_below j i less = ⊎_elim (λ l. inl l) (λ past. inr (omega arith)) (cases_lt j i)

module _ (words : List (List ℕ)) (command i : ℕ) where
  left_one : (word : List ℕ) (left all : List (List ℕ)) → AreRest words command i left → slice_get words i ≡ Some word → ¬ IsTakenOut words command i
      → all ≡ left ++ word ∷ [] → AreRest words command (i + 1) all
  left_one word left all before is kept made = rw add-one (inl (left, word, before, is, kept, made))

  left_none : (left : List (List ℕ)) → AreRest words command i left → IsTakenOut words command i → AreRest words command (i + 1) left
  left_none left before out = rw add-one (inr (before, out))

  wait_same : (wait : Option ℕ) → IsWait words command i wait → ((n : ℕ) → ¬ Waits words command i n) → IsWait words command (i + 1) wait
  wait_same None none not = λ j less n waits. ⊎_elim (λ below. none j below n waits)
      (λ at. not n (subst (λ (k : ℕ). Waits words command k n) at waits)) (cases_below j i less)
  wait_same (Some seconds) last not = (
    last.0,
    omega (arith, last.1),
    last.2,
    λ j over less n waits. ⊎_elim (λ below. last.3 j over below n waits)
        (λ at. not n (subst (λ (k : ℕ). Waits words command k n) at waits)) (cases_below j i less),
  )

  wait_new : (n : ℕ) → Waits words command i n → IsWait words command (i + 1) (Some n)
  wait_new n waits = (i, omega arith, waits, λ j over less other no. absurd (omega arith))

  none_same : ((j : ℕ) → j < i → ¬ SaysNone words command j) → ¬ SaysNone words command i → (j : ℕ) → j < i + 1 → ¬ SaysNone words command j
  none_same before not j less says = ⊎_elim (λ below. before j below says)
      (λ at. not (subst (λ (k : ℕ). SaysNone words command k) at says)) (cases_below j i less)

  dashes_same : IsBeforeDashes words command i → (IsOpen words command i → slice_get words i ≢ Some (codes "--")) → IsBeforeDashes words command (i + 1)
  dashes_same before not j less opens = ⊎_elim (λ below. before j below opens)
      (λ at. subst (λ (k : ℕ). slice_get words k ≢ Some (codes "--")) (sym at) (not (subst (λ (k : ℕ). IsOpen words command k) at opens)))
      (cases_below j i less)

  no_value : ((n : ℕ) → MaySay words command i → ¬ GivesBehind words i n) → ¬ IsWaitValue words command (i + 1)
  no_value not value =
      let at : value.0 ≡ i = omega (arith, value.1) in
      not value.2 (subst (λ (k : ℕ). MaySay words command k) at value.3) (subst (λ (k : ℕ). GivesBehind words k value.2) at value.4)

  -- a word behind the command isn't left
  said_out : (n : ℕ) → Waits words command i n → IsTakenOut words command i
  said_out n waits = inr (inr (inl (n, waits)))

  more_said : (P : ℕ → Type 0) → ((j : ℕ) × (j < i) × P j) → (j : ℕ) × (j < i + 1) × P j
  more_said P found = (found.0, omega (arith, found.1), found.2)

  more_over : ((j : ℕ) × (j < i) × IsOpen words command j × (slice_get words j ≡ Some (codes "--")))
      → (j : ℕ) × (j < i + 1) × IsOpen words command j × (slice_get words j ≡ Some (codes "--"))
  more_over found = (found.0, omega (arith, found.1), found.2, found.3)

  module _ (before after : Rest) (tells : MayTell words command i before) (over : after.is_over ≡ before.is_over) where
    over_more : after.is_over ≡ true → (j : ℕ) × (j < i + 1) × IsOpen words command j × (slice_get words j ≡ Some (codes "--"))
    over_more e = (i, omega arith, tells.may.0, tells.over (sym over ∙ e))

    open_more : after.is_over ≡ false → IsBeforeDashes words command (i + 1)
    open_more e = dashes_same tells.may.1 (λ opens. tells.unended (sym over ∙ e))

    pub told_nothing : (word : Bor (List ℕ)) → slice_get words i ≡ Some word.now → IsSaidAt words i Nothing → after.words.items ≡ before.words.items ++ word ∷ []
        → after.wait ≡ before.wait → after.is_unlocked ≡ before.is_unlocked → after.is_taken ≡ before.is_taken → IsSoFar words command (i + 1) after
    told_nothing word is said items wait unlocked taken =
        let silent : (n : ℕ) → ¬ Waits words command i n = λ n waits. ⊎_elim (said.1 n) (said.2 n) waits.1 in
        record {
          left = left_one word.now (texts before.words.items) (texts after.words.items) tells.left is
              (λ out. ⊎_elim (λ between. let behind = tells.may.0.behind in absurd (omega (arith, between.1)))
              (⊎_elim (λ none. said.0 none.1) (⊎_elim (λ waits. silent waits.0 waits.1) tells.free)) out)
              (ap texts items ∙ map-append (λ (w : Bor (List ℕ)). w.now) before.words.items (word ∷ []));
          wait = subst (IsWait words command (i + 1)) (sym wait) (wait_same before.wait tells.wait silent);
          unlocked = λ e. more_said (SaysNone words command) (tells.unlocked (sym unlocked ∙ e));
          locked = λ e. none_same (tells.locked (sym unlocked ∙ e)) (λ none. said.0 none.1);
          over = over_more;
          unended = open_more;
          taken = λ e. let no : false ≡ true = sym tells.fresh ∙ sym taken ∙ e in absurd (cc no);
          free = λ e. no_value (λ n may gives. said.2 n gives);
        }

    pub told_unlocked : IsSaidAt words i Unlocked → after.words.items ≡ before.words.items
        → after.wait ≡ before.wait → after.is_unlocked ≡ true → after.is_taken ≡ before.is_taken → IsSoFar words command (i + 1) after
    told_unlocked said items wait unlocked taken =
        let silent : (n : ℕ) → ¬ Waits words command i n = λ n waits. ⊎_elim
        (λ alone. no_lock_alone alone.0 (same_Some _ _ (sym said ∙ alone.1)))
        (λ behind. no_lock_behind (same_Some _ _ (sym said ∙ behind.0))) waits.1 in
        record {
          left = subst (λ (l : List (Bor (List ℕ))). AreRest words command (i + 1) (texts l)) (sym items)
              (left_none (texts before.words.items) tells.left (inr (inl (tells.may, said))));
          wait = subst (IsWait words command (i + 1)) (sym wait) (wait_same before.wait tells.wait silent);
          unlocked = λ e. (i, omega arith, (tells.may, said));
          locked = λ e. let no : true ≡ false = sym unlocked ∙ e in absurd (cc no);
          over = over_more;
          unended = open_more;
          taken = λ e. let no : false ≡ true = sym tells.fresh ∙ sym taken ∙ e in absurd (cc no);
          free = λ e. no_value (λ n may gives. no_lock_behind (same_Some _ _ (sym said ∙ gives.0)));
        }

    pub told_alone : (n : ℕ) → GivesAlone words i n → after.words.items ≡ before.words.items
        → after.wait ≡ Some n → after.is_unlocked ≡ before.is_unlocked → after.is_taken ≡ before.is_taken → IsSoFar words command (i + 1) after
    told_alone n said items wait unlocked taken =
        let waits : Waits words command i n = (tells.may, inl said) in
        record {
          left = subst (λ (l : List (Bor (List ℕ))). AreRest words command (i + 1) (texts l)) (sym items) (left_none (texts before.words.items) tells.left (said_out n waits));
          wait = subst (IsWait words command (i + 1)) (sym wait) (wait_new n waits);
          unlocked = λ e. more_said (SaysNone words command) (tells.unlocked (sym unlocked ∙ e));
          locked = λ e. none_same (tells.locked (sym unlocked ∙ e)) (λ none. no_lock_alone said.0 (same_Some _ _ (sym none.1 ∙ said.1)));
          over = over_more;
          unended = open_more;
          taken = λ e. let no : false ≡ true = sym tells.fresh ∙ sym taken ∙ e in absurd (cc no);
          free = λ e. no_value (λ m may gives. alone_behind said.0 (same_Some _ _ (sym gives.0 ∙ said.1)));
        }

    pub told_behind : (n : ℕ) → GivesBehind words i n → after.words.items ≡ before.words.items
        → after.wait ≡ Some n → after.is_unlocked ≡ before.is_unlocked → after.is_taken ≡ true → IsSoFar words command (i + 1) after
    told_behind n said items wait unlocked taken =
        let waits : Waits words command i n = (tells.may, inr said) in
        record {
          left = subst (λ (l : List (Bor (List ℕ))). AreRest words command (i + 1) (texts l)) (sym items) (left_none (texts before.words.items) tells.left (said_out n waits));
          wait = subst (IsWait words command (i + 1)) (sym wait) (wait_new n waits);
          unlocked = λ e. more_said (SaysNone words command) (tells.unlocked (sym unlocked ∙ e));
          locked = λ e. none_same (tells.locked (sym unlocked ∙ e)) (λ none. no_lock_behind (same_Some _ _ (sym none.1 ∙ said.0)));
          over = over_more;
          unended = open_more;
          taken = λ e. (i, refl, n, tells.may, said);
          free = λ e. let no : true ≡ false = sym taken ∙ e in absurd (cc no);
        }

  module _ (before : Rest) (so_far : IsSoFar words command i before) where
    -- a word that may say something
    pub asked : (asking : Rest) → IsOpen words command i → before.is_over ≡ false → before.is_taken ≡ false
        → asking.words.items ≡ before.words.items → asking.wait ≡ before.wait → asking.is_unlocked ≡ before.is_unlocked → asking.is_taken ≡ before.is_taken
        → (asking.is_over ≡ true → slice_get words i ≡ Some (codes "--")) → (asking.is_over ≡ false → slice_get words i ≢ Some (codes "--"))
        → MayTell words command i asking
    asked asking opens not_over not_taken items wait unlocked taken ends goes = record {
      left = subst (λ (l : List (Bor (List ℕ))). AreRest words command i (texts l)) (sym items) so_far.left;
      wait = subst (IsWait words command i) (sym wait) so_far.wait;
      unlocked = λ e. so_far.unlocked (sym unlocked ∙ e);
      locked = λ e. so_far.locked (sym unlocked ∙ e);
      may = (opens, so_far.unended not_over);
      over = ends;
      unended = goes;
      fresh = taken ∙ not_taken;
      free = so_far.free not_taken;
    }

    -- one between the program's name and the command
    pub passed : 0 < i → i < command → IsSoFar words command (i + 1) before
    passed behind less =
        let closed : IsOpen words command i → ⊥ = λ opens. let past = opens.behind in absurd (omega arith) in
        record {
          left = left_none (texts before.words.items) so_far.left (inl (behind, less));
          wait = wait_same before.wait so_far.wait (λ n waits. closed waits.0.0);
          unlocked = λ e. more_said (SaysNone words command) (so_far.unlocked e);
          locked = λ e. none_same (so_far.locked e) (λ none. closed none.0.0);
          over = λ e. more_over (so_far.over e);
          unended = λ e. dashes_same (so_far.unended e) (λ opens. absurd (closed opens));
          taken = λ e. let value = so_far.taken e in let past = value.3.0.behind in let at = value.1 in absurd (omega arith);
          free = λ e. no_value (λ n may gives. closed may.0);
        }

    -- the seconds of the wait before it
    pub given : (after : Rest) → before.is_taken ≡ true → after.words.items ≡ before.words.items → after.wait ≡ before.wait
        → after.is_unlocked ≡ before.is_unlocked → after.is_over ≡ before.is_over → after.is_taken ≡ false → IsSoFar words command (i + 1) after
    given after was items wait unlocked over taken =
        let value = so_far.taken was in
        let text = value.4.1.0 in
        let here : slice_get words i ≡ Some text = ap (λ (k : ℕ). slice_get words k) value.1 ∙ value.4.1.1 in
        let no : (rest : List ℕ) → slice_get words i ≡ Some (45 ∷ rest) → ⊥ = λ rest e.
        no_option rest value.2 (subst (λ (t : List ℕ). AreSeconds t value.2) (same_Some _ _ (sym here ∙ e)) value.4.1.2) in
        let silent : (n : ℕ) → ¬ Waits words command i n = λ n waits. ⊎_elim (λ alone. no _ alone.1) (λ behind. no _ behind.0) waits.1 in
        record {
          left = subst (λ (l : List (Bor (List ℕ))). AreRest words command (i + 1) (texts l)) (sym items)
              (left_none (texts before.words.items) so_far.left (inr (inr (inr value))));
          wait = subst (IsWait words command (i + 1)) (sym wait) (wait_same before.wait so_far.wait silent);
          unlocked = λ e. more_said (SaysNone words command) (so_far.unlocked (sym unlocked ∙ e));
          locked = λ e. none_same (so_far.locked (sym unlocked ∙ e)) (λ none. no _ none.1);
          over = λ e. more_over (so_far.over (sym over ∙ e));
          unended = λ e. dashes_same (so_far.unended (sym over ∙ e)) (λ opens. no _);
          taken = λ e. let never : false ≡ true = sym taken ∙ e in absurd (cc never);
          free = λ e. no_value (λ n may gives. no _ gives.0);
        }

    -- one that may say nothing
    pub kept : (after : Rest) (word : Bor (List ℕ)) → slice_get words i ≡ Some word.now → (0 < i → command ≤ i) → before.is_taken ≡ false
        → (IsOpen words command i → before.is_over ≡ true) → after.words.items ≡ before.words.items ++ word ∷ [] → after.wait ≡ before.wait
        → after.is_unlocked ≡ before.is_unlocked → after.is_over ≡ before.is_over → after.is_taken ≡ before.is_taken → IsSoFar words command (i + 1) after
    kept after word is outside not_taken closed items wait unlocked over taken =
        let silent : ¬ MaySay words command i = λ may.
        let found = so_far.over (closed may.0) in may.1 found.0 found.1 found.2 found.3 in
        record {
          left = left_one word.now (texts before.words.items) (texts after.words.items) so_far.left is
              (λ out. ⊎_elim (λ between. let past = outside between.0 in absurd (omega (arith, between.1)))
              (⊎_elim (λ none. silent none.0) (⊎_elim (λ waits. silent waits.1.0) (so_far.free not_taken))) out)
              (ap texts items ∙ map-append (λ (w : Bor (List ℕ)). w.now) before.words.items (word ∷ []));
          wait = subst (IsWait words command (i + 1)) (sym wait) (wait_same before.wait so_far.wait (λ n waits. silent waits.0));
          unlocked = λ e. more_said (SaysNone words command) (so_far.unlocked (sym unlocked ∙ e));
          locked = λ e. none_same (so_far.locked (sym unlocked ∙ e)) (λ none. silent none.0);
          over = λ e. more_over (so_far.over (sym over ∙ e));
          unended = λ e. let was = sym over ∙ e in dashes_same (so_far.unended was) (λ opens. let no : true ≡ false = sym (closed opens) ∙ was in absurd (cc no));
          taken = λ e. let no : false ≡ true = sym not_taken ∙ sym taken ∙ e in absurd (cc no);
          free = λ e. no_value (λ n may gives. silent may);
        }

-- nothing is said before the first word
pub none_so_far : (words : List (List ℕ)) (command : ℕ) (rest : Rest) → rest.words.items ≡ [] → rest.wait ≡ None → rest.is_unlocked ≡ false
    → rest.is_over ≡ false → rest.is_taken ≡ false → IsSoFar words command 0 rest
none_so_far words command rest items wait unlocked over taken = record {
  left = ap texts items;
  wait = subst (IsWait words command 0) (sym wait) (λ j less n waits. absurd (omega arith));
  unlocked = λ e. let no : false ≡ true = sym unlocked ∙ e in absurd (cc no);
  locked = λ e j less says. absurd (omega arith);
  over = λ e. let no : false ≡ true = sym over ∙ e in absurd (cc no);
  unended = λ e j less opens is. absurd (omega arith);
  taken = λ e. let no : false ≡ true = sym taken ∙ e in absurd (cc no);
  free = λ e value. let at = value.1 in absurd (omega arith);
}

either : (b : Bool) → (b ≡ true) ⊎ (b ≡ false)
either true = inl refl
either false = inr refl

-- what the whole line says
pub apart_of : (words : List (List ℕ)) (line : Line) (rest : Rest) (from n : ℕ) → from ≡ command_at (is_some line.hidden) → n ≡ length words → IsSoFar words from n rest
    → line.words.items ≡ rest.words.items → line.wait ≡ rest.wait → line.is_unlocked ≡ rest.is_unlocked → IsTakenApart words line
apart_of words line rest from n at long so_far items wait unlocked =
    let command = command_at (is_some line.hidden) in
    let none : (k : ℕ) → SaysNone words command k → SaysNone words from k = λ k. subst (λ (m : ℕ). SaysNone words m k) (sym at) in
    record {
      left = subst (λ (m : ℕ). AreRest words m (length words) (texts line.words.items)) at
          (subst (λ (m : ℕ). AreRest words from m (texts line.words.items)) long
          (subst (λ (l : List (Bor (List ℕ))). AreRest words from n (texts l)) (sym items) so_far.left));
      wait = subst (λ (m : ℕ). IsWait words m (length words) line.wait) at
          (subst (λ (m : ℕ). IsWait words from m line.wait) long (subst (IsWait words from n) (sym wait) so_far.wait));
      unlocked = λ e. let found = so_far.unlocked (sym unlocked ∙ e) in (found.0, subst (λ (m : ℕ). SaysNone words m found.0) at found.2);
      locked = λ said. ⊎_elim (λ yes. unlocked ∙ yes)
          (λ no. absurd (so_far.locked no said.0 (omega (arith, long, slice_get_within words said.0 (codes "--no-lock") said.1.1)) (none said.0 said.1)))
          (either rest.is_unlocked);
    }

-- the seconds that a word gives, where it is there and where it isn't
pub word_there : (ws : List (Bor (List ℕ))) (i : ℕ) (word : Bor (List ℕ)) → i < length ws → word ≡ get_or ws i word → slice_get (texts ws) i ≡ Some word.now
word_there ws i word within is = at_word ws i word within ∙ ap (λ (w : Bor (List ℕ)). Some w.now) (sym is)

pub seconds_there : (words : List (List ℕ)) (i : ℕ) (text : List ℕ) (found : Option ℕ) → slice_get words i ≡ Some text
    → MatchOption found ((n : ℕ) → ¬ AreSeconds text n) (AreSeconds text)
    → MatchOption found ((t : List ℕ) (n : ℕ) → slice_get words i ≡ Some t → ¬ AreSeconds t n) (λ n. (t : List ℕ) × (slice_get words i ≡ Some t) × AreSeconds t n)
seconds_there words i text None is none = λ t n at are. none n (subst (λ (x : List ℕ). AreSeconds x n) (same_Some _ _ (sym at ∙ is)) are)
seconds_there words i text (Some n) is are = (text, is, are)

pub none_there : (ws : List (Bor (List ℕ))) (i : ℕ) → length ws ≤ i → slice_get (texts ws) i ≡ None
none_there ws i past = slice_get_past (texts ws) i (omega (arith, texts_long ws))

pub seconds_behind : (words : List (List ℕ)) (i : ℕ) (found : Option ℕ) → slice_get words i ≡ Some (codes "--wait")
    → MatchOption found ((t : List ℕ) (n : ℕ) → slice_get words (i + 1) ≡ Some t → ¬ AreSeconds t n) (λ n. (t : List ℕ) × (slice_get words (i + 1) ≡ Some t) × AreSeconds t n)
    → MatchOption found ((n : ℕ) → ¬ GivesBehind words i n) (GivesBehind words i)
seconds_behind words i None is none = λ n gives. none gives.1.0 n gives.1.1 gives.1.2
seconds_behind words i (Some n) is found = (is, found)

-- Words that ask as a part of a command line does ask as that does.
use Rattle.std.proofs.Common.{◌≡◌, ◌≢◌, ◌⊎◌, inl, inr, ⊎_elim, ◌∙◌, refl, sym, ap, subst, ℕ, List, [], ◌∷◌, ◌++◌, Bor, Option, None, Some, Result, Ok, Err}
use Rattle.std.specs.Prelude.{codes, IfOk, MatchOption}
use Rattle.std.specs.List.{Contains}
use Rattle.std.proofs.lemmas.List.{map-append}
use Rattle.std.proofs.lemmas.List.Elements.{Contains-push_cases}
use Rattle.sqlocks.specs.declared.plan.Want.{Want}
use Rattle.sqlocks.specs.declared.plan.Want.TheVariants.{Read, Recover}
use Rattle.sqlocks.specs.declared.told.FileId.{FileId}
use Rattle.cli_held.specs.Held.{HeldBy, IsTold, TellsSo}
use Rattle.cli_held.specs.declared.fdinfo.Held.{Held}
use Rattle.cli_held.specs.declared.fdinfo.Held.TheVariants as holds
use Rattle.cli_held.specs.declared.line.Hidden.{Hidden}
use Rattle.cli_held.specs.declared.line.Hidden.TheVariants as hidden
use Rattle.cli_held.specs.declared.todo.Todo.{Todo}
use Rattle.cli_held.specs.declared.todo.Todo.TheVariants.{Run, Tell, Refuse}
use Rattle.cli_held.specs.Prepared.{IsPrepared, RunsFor}
use Rattle.cli_held.specs.Todo.{AreLeft, AreSome, AreUnder, IsHidden, IsBare, SaysNothing, texts}
use Rattle.cli_held.specs.declared.todo.Locks.{Locks}
use Rattle.cli_held.specs.declared.todo.Locks.TheVariants as locks
use Rattle.cli_held.specs.internal.Asking.{AreAs, AsksAs, IsUnder, IsUnheld, KeepsAsking}

pub when_ok : {T E : Type 0} (P Q : T → Type 0) → ((x : T) → P x → Q x) → (r : Result T E) → IfOk r P → IfOk r Q
when_ok P Q more (Ok x) is = more x is
when_ok P Q more (Err e) is = is

-- one word more, which is one of these or asks nobody
pub some_more : (words done : List (List ℕ)) (one : List ℕ) → AreSome words done → Contains words one ⊎ (one ≡ codes "--force") → AreSome words (done ++ one ∷ [])
some_more words done one some is word there =
    ⊎_elim (some word) (λ e. subst (λ (w : List ℕ). Contains words w ⊎ (w ≡ codes "--force")) e is) (Contains-push_cases done one word there)

pub pushed : (words : List (List ℕ)) (before after : List (Bor (List ℕ))) (one : Bor (List ℕ)) → after ≡ before ++ one ∷ [] → AreSome words (texts before)
    → Contains words one.now ⊎ (one.now ≡ codes "--force") → AreSome words (texts after)
pushed words before after one e some is =
    subst (AreSome words) (sym (ap texts e ∙ map-append (λ (w : Bor (List ℕ)). w.now) before (one ∷ []))) (some_more words (texts before) one.now some is)

-- where nothing stands before the command, nothing was found there
not_hidden : (words : List (List ℕ)) (said : Option Hidden) → IsBare words → IsHidden words said → said ≡ None
not_hidden words None bare is = refl
not_hidden words (Some hidden.Locks) bare is = absurd (bare.0 is)
not_hidden words (Some (hidden.Held numbers)) bare is = absurd (bare.1 is.0)
not_hidden words (Some (hidden.Refused why)) bare is = absurd (bare.2 is.0)

module _ (words left : List (List ℕ)) (only : (word : List ℕ) → Contains left word → Contains words word) (said : Option Hidden) (stands : IsHidden words said) where
  some_of_words : (done : List (List ℕ)) → AreSome left done → AreSome words done
  some_of_words done some word there = ⊎_elim (λ l. inl (only word l)) inr (some word there)

  left_as : (plain : said ≡ None → SaysNothing words → left ≡ words) (done : List (List ℕ)) → AreAs said left done → AreLeft words done
  left_as plain done like = record {
    only = some_of_words done (some said like);
    plain = λ bare nothing. let none = not_hidden words said bare stands in exact said none like ∙ plain none nothing;
  }
    where
      some : (of : Option Hidden) → AreAs of left done → AreSome left done
      some None is = λ word there. inl (subst (λ (l : List (List ℕ)). Contains l word) is there)
      some (Some h) is = is

      exact : (of : Option Hidden) → of ≡ None → AreAs of left done → done ≡ left
      exact None none is = is
      exact (Some h) none is = absurd (cc none)

  under_as : (under : Locks) → IsUnder said under → AreUnder words under
  under_as locks.None is = tt
  under_as locks.NotThere is = let told = subst (IsHidden words) is.1 stands in (told.0, told.1 ∙ ap Some is.2)
  under_as (locks.Held h) is = ((subst (IsHidden words) is.1 stands).0, is.2)

  pub kept_prepared : (said ≡ None → SaysNothing words → left ≡ words) → (wait : ℕ) → RunsFor words wait → (todo : Todo) → KeepsAsking said left wait todo → IsPrepared words todo
  kept_prepared plain wait runs (Run done under n) asks = (
    λ forced. ⊎_elim (λ said. inl (only _ said)) (λ held. inr (inr held)) (asks.0.0 forced),
    asks.0.1,
    left_as plain (texts done.items) asks.1,
    under_as under asks.2,
    subst (RunsFor words) (sym asks.3) runs,
  )
  kept_prepared plain wait runs (Tell line) asks = absurd asks
  kept_prepared plain wait runs (Refuse done why) asks =
      let told = subst (IsHidden words) asks.1.1 stands in
      (told.0, left_as plain (texts done.items) asks.0, (asks.1.0.now, told.1, asks.1.2))

  -- words that are carried out without locks
  pub unheld_prepared : Contains words (codes "--no-lock") → (said ≡ None → SaysNothing words → ⊥) → RunsFor words 0 → (todo : Todo) → IsUnheld left todo → IsPrepared words todo
  unheld_prepared unlocked never runs (Run done under wait) is = (
    λ forced. inr (inl unlocked),
    λ held. absurd (cc (is.0, held)),
    record { only = some_of_words (texts done.items) is.1; plain = λ bare nothing. absurd (never (not_hidden words said bare stands) nothing) },
    subst (AreUnder words) (sym is.0) tt,
    subst (RunsFor words) (sym is.2) runs,
  )
  unheld_prepared unlocked never runs (Tell line) is = absurd is
  unheld_prepared unlocked never runs (Refuse done why) is = absurd is

-- of a recovery all locks are held where some are
held_all : (text : List ℕ) (file : FileId) (index : Option FileId) (under : Held) → HeldBy text Recover file index under → (under ≡ holds.Nothing → ⊥)
    → under ≡ holds.Everything
held_all text file index holds.Nothing is some = absurd (some refl)
held_all text file index holds.File is some = absurd (let e : Recover ≡ Read = is.1 in cc)
held_all text file index holds.Alone is some = absurd (let e : Recover ≡ Read = is.1 in cc)
held_all text file None holds.Front is some = absurd is
held_all text file (Some i) holds.Front is some = absurd (let e : Recover ≡ Read = is.1 in cc)
held_all text file None holds.Log is some = absurd is
held_all text file (Some i) holds.Log is some = absurd (let e : Recover ≡ Read = is.1 in cc)
held_all text file index holds.Everything is some = refl

-- words that are carried out under locks that are held ask as these do, or all others are kept off
pub asks_held : (want : Option Want) (under : Held) (words done : List (List ℕ)) → MatchOption want (under ≡ holds.Nothing) (λ w. IsTold w under)
    → (under ≡ holds.Nothing → ⊥) → (want ≢ Some Recover → done ≡ words) → AsksAs words done (locks.Held under)
asks_held None under words done told some same =
    (λ forced. inl (subst (λ (l : List (List ℕ)). Contains l (codes "--force")) (same (λ e. cc)) forced), λ e. some (cc))
asks_held (Some Read) under words done told some same =
    (λ forced. inl (subst (λ (l : List (List ℕ)). Contains l (codes "--force")) (same (λ e. cc)) forced), λ e. some (cc))
asks_held (Some Recover) under words done told some same =
    (λ forced. inr (ap locks.Held (⊎_elim (λ none. absurd (some none)) (λ tells. held_all tells.text tells.file tells.index under tells.so some) told)), λ e. some (cc))

-- locks that are held are told of
pub told_want : (want : Option Want) (under : Held) → MatchOption want (under ≡ holds.Nothing) (λ w. IsTold w under) → (under ≡ holds.Nothing → ⊥) → (w : Want) × TellsSo w under
told_want None under is some = absurd (some is)
told_want (Some w) under is some = (w, ⊎_elim (λ none. absurd (some none)) (λ tells. tells) is)

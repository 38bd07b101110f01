-- Records that are played one after the other.
use Rattle.std.proofs.Common.{ℕ, Option, List, [], ◌∷◌, ◌++◌, refl, sym, ◌∙◌, ap, subst, append_assoc}
use Rattle.std.proofs.lemmas.List.{append-nil}
use Rattle.rig_store.specs.declared.call.Call.{Call}
use Rattle.sqcrash_store.specs.Judged.{Judged}
use Rattle.sqcrash_store.specs.Rigs.{RigState, PlaysOne, PlaysAll}
use Rattle.sqcrash_store.specs.States.{TakeState, Takes, TakesAll}
use Rattle.sqcrash_store.specs.Surveys.{Judging}
use Rattle.sqcrash_store.specs.declared.verdict.Answer.{Answer}

-- one more of which the states are taken
pub takes_more : (Says : List (Option (List ℕ)) → Answer → Type 0) (b : List ℕ) (calls : List Call) (c : Call) (old mid new : TakeState)
    → TakesAll Says b calls old mid → Takes Says b c mid new → TakesAll Says b (calls ++ c ∷ []) old new
takes_more Says b [] c old mid new is one = (new, subst (λ (s : TakeState). Takes Says b c s new) is one, refl)
takes_more Says b (first ∷ calls) c old mid new all one = (all.0, all.1, takes_more Says b calls c all.0 mid new all.2 one)

-- and one more that is judged
pub plays_more : (Says : List (Option (List ℕ)) → Answer → Type 0) (j : Judging) (calls : List Call) (c : Call) (old mid new : RigState) (lines more : List ℕ) (kept others : List Judged)
    → PlaysAll Says j calls old mid lines kept → PlaysOne Says j c mid new more others → PlaysAll Says j (calls ++ c ∷ []) old new (lines ++ more) (kept ++ others)
plays_more Says j [] c old mid new lines more kept others is one = (
  new,
  more,
  [],
  others,
  [],
  subst (λ (s : RigState). PlaysOne Says j c s new more others) is.0 one,
  (refl, refl, refl),
  ap (λ (l : List ℕ). l ++ more) is.1 ∙ sym (append-nil more),
  ap (λ (l : List Judged). l ++ others) is.2 ∙ sym (append-nil others),
)
plays_more Says j (first ∷ calls) c old mid new lines more kept others all one = (
  all.0,
  all.1,
  all.2 ++ more,
  all.3,
  all.4 ++ others,
  all.5,
  plays_more Says j calls c all.0 mid new all.2 more all.4 others all.6 one,
  ap (λ (l : List ℕ). l ++ more) all.7 ∙ append_assoc all.1 all.2 more,
  ap (λ (l : List Judged). l ++ others) all.8 ∙ append_assoc all.3 all.4 others,
)

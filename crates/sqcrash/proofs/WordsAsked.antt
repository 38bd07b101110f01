-- What words ask for that clap took apart, or refused.
use Rattle.std.proofs.Common.{◌≡◌, refl, List, map, Option, Some, None, inl, inr, sym, ◌∙◌, ap, subst}
use Rattle.std.specs.Prelude.{◌&&◌, [], codes, Bool, true, false, IsTrue, option_map, MatchOption, Result, Ok, Err}
use Rattle.std.specs.Borrow.{Bor}
use Rattle.std.specs.List.{All, Contains}
use Rattle.std.proofs.lemmas.List.Elements.{All-contains, All-map}
use Rattle.clap.specs.Words.{App, HasKind, IsAmong, Row, Text, fault_of, first_of, kind_of, matches_of}
use Rattle.clap.specs.declared.error.Error.{Error}
use Rattle.clap.specs.declared.error.kind.ErrorKind.{ErrorKind}
use Rattle.clap.specs.declared.error.kind.ErrorKind.TheVariants.{DisplayHelp, OutOfMemory}
use Rattle.clap.specs.Words.{is_simple, is_simple_and_free}
use Rattle.clap.specs.declared.builder.value_parser.ValueParser.{ValueParser}
use Rattle.sqcrash.specs.Words.{Asks, AsksOf, IsFault, IsLine, IsNoPart, IsOfPart, IsVersionFound, line}
use Rattle.sqcrash.specs.declared.requests.Request.{Request}
use Rattle.sqcrash.specs.declared.requests.LineError.{LineError}
use Rattle.sqcrash.specs.declared.requests.LineError.TheVariants.{NotUnderstood, Help, Version, NoMemory}

pub value_of : (o : Option (Bor Text)) (t : Option Text) → option_map (λ s. s.now) o ≡ t → MatchOption o (t ≡ None) (λ s. t ≡ Some s.now)
value_of None t e = sym e
value_of (Some s) t e = sym e

-- an answer isn't yes and no
pub both : (answer : Bool) → IsTrue answer → answer ≡ false → ⊥
both answer is other = let bad : IsTrue false = subst IsTrue other is in cc bad

-- none of words is of a kind
pub none_is : (P : Text → Type 0) (words : List (Bor Text)) → All (λ (w : Bor Text). ¬ P w.now) words → (word : Text) → Contains (map (λ w. w.now) words) word → ¬ P word
none_is P words none word is = All-contains (λ (w : Text). ¬ P w) (map (λ w. w.now) words) word (All-map (λ (w : Text). ¬ P w) (λ (w : Bor Text). w.now) words none) is

pub told : (a : App) (words : List Text) (error : Error) (r : LineError) → IsFault words error r → HasKind (fault_of a words) error → AsksOf a words (Err r)
told a words error (Help e) is has = elim has [
  | inl memory ↦
      let bad : DisplayHelp ≡ OutOfMemory = sym is.1.0 ∙ memory in
      cc
  | inr among ↦ (
    subst (λ (k : ErrorKind). IsAmong k (fault_of a words)) is.1.0 among,
    (ap (λ (x : Error). kind_of x) is.0 ∙ is.1.0, is.1.1),
  )
]
told a words error Version is has = absurd is
told a words error (NotUnderstood e) is has = elim has [
  | inl memory ↦ absurd (is.1 memory)
  | inr among ↦ inl (
    subst (λ (k : ErrorKind). IsAmong k (fault_of a words)) (ap (λ (x : Error). kind_of x) (sym is.0)) among,
    λ help. is.2 (ap (λ (x : Error). kind_of x) (sym is.0) ∙ help.0, help.1),
  )
]
told a words error NoMemory is has = tt

-- clap took the words, and the part is none
pub told_no_part : (a : App) (words : List Text) (rows : List Row) (r : LineError) → fault_of a words ≡ [] → rows ≡ matches_of a words
    → (¬ IsVersionFound words rows) → IsNoPart (first_of (codes "part") rows) → IsOfPart r → AsksOf a words (Err r)
told_no_part a words rows (Help e) fits are not none is = absurd is
told_no_part a words rows Version fits are not none is = absurd is
told_no_part a words rows (NotUnderstood e) fits are not none is = inr (
  fits,
  subst (λ (l : List Row). ¬ IsVersionFound words l) are not,
  subst (λ (l : List Row). IsNoPart (first_of (codes "part") l)) are none,
)
told_no_part a words rows NoMemory fits are not none is = tt

-- the program's command line is one of which clap says all
line_is : (sectors metas promises commits : ValueParser) → is_simple_and_free (line sectors metas promises commits) ≡ true
line_is sectors metas promises commits = refl

pub is_line : (a : App) → IsLine a → is_simple_and_free a ≡ true
is_line a is = ap (λ (x : App). is_simple_and_free x) is.8 ∙ line_is is.0 is.1 is.2 is.3

pub simple_of : (a : App) → is_simple_and_free a ≡ true → is_simple a ≡ true
simple_of a both = first (is_simple a) _ both
  where
    first : (x y : Bool) → (x && y) ≡ true → x ≡ true
    first true y e = refl
    first false y e = absurd (cc e)

pub asks_line : (a : App) (words : List Text) (r : Result Request LineError) → IsLine a → AsksOf a words r → Asks words r
asks_line a words (Ok request) is asks = (a, is, asks)
asks_line a words (Err (Help e)) is asks = (a, is, asks)
asks_line a words (Err Version) is asks = (a, is, asks)
asks_line a words (Err (NotUnderstood e)) is asks = (a, is, asks)
asks_line a words (Err NoMemory) is asks = tt

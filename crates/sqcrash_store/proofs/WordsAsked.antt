-- What words ask for that clap took apart, or refused.
use Rattle.std.proofs.Common.{◌≡◌, refl, List, Option, Some, None, inl, inr, sym, ◌∙◌, ap, subst}
use Rattle.std.specs.Prelude.{◌&&◌, [], codes, Bool, true, false, option_map, MatchOption, Result, Ok, Err}
use Rattle.std.specs.Borrow.{Bor}
use Rattle.clap.specs.Words.{App, HasKind, IsAmong, Row, Text, fault_of, first_of, kind_of, matches_of}
use Rattle.clap.specs.declared.error.Error.{Error}
use Rattle.clap.specs.declared.error.kind.ErrorKind.{ErrorKind}
use Rattle.clap.specs.declared.error.kind.ErrorKind.TheVariants.{DisplayHelp, OutOfMemory}
use Rattle.clap.specs.Words.{is_simple, is_simple_and_free}
use Rattle.clap.specs.declared.builder.value_parser.ValueParser.{ValueParser}
use Rattle.sqcrash_store.specs.Words.{Asks, AsksOf, IsLine, IsNoPart, line}
use Rattle.sqcrash_store.specs.declared.commands.Request.{Request}
use Rattle.sqcrash_store.specs.Refusals.{IsOfPart, IsRefusal}
use Rattle.sqcrash_store.specs.declared.commands.LineError.{LineError}
use Rattle.sqcrash_store.specs.declared.commands.LineError.TheVariants.{NotUnderstood, Help, NoMemory}

pub value_of : (o : Option (Bor Text)) (t : Option Text) → option_map (λ s. s.now) o ≡ t → MatchOption o (t ≡ None) (λ s. t ≡ Some s.now)
value_of None t e = sym e
value_of (Some s) t e = sym e

pub told : (a : App) (words : List Text) (error : Error) (r : LineError) → IsRefusal error r → HasKind (fault_of a words) error → AsksOf a words (Err r)
told a words error (Help e) is has = elim has [
  | inl memory ↦
      let bad : DisplayHelp ≡ OutOfMemory = sym is.1 ∙ memory in
      cc
  | inr among ↦ (ap (λ (x : Error). kind_of x) is.0 ∙ is.1, subst (λ (k : ErrorKind). IsAmong k (fault_of a words)) is.1 among)
]
told a words error (NotUnderstood e) is has = elim has [
  | inl memory ↦ absurd (is.2 memory)
  | inr among ↦ inl (
    λ help. is.1 (ap (λ (x : Error). kind_of x) (sym is.0) ∙ help),
    subst (λ (k : ErrorKind). IsAmong k (fault_of a words)) (ap (λ (x : Error). kind_of x) (sym is.0)) among,
  )
]
told a words error NoMemory is has = tt

-- clap took the words, and the part is none
pub told_no_part : (a : App) (words : List Text) (rows : List Row) (r : LineError) → fault_of a words ≡ [] → matches_of a words ≡ rows
    → IsNoPart (first_of (codes "part") rows) → IsOfPart r → AsksOf a words (Err r)
told_no_part a words rows (Help e) fits are none is = absurd is
told_no_part a words rows (NotUnderstood e) fits are none is = inr (fits, subst (λ (l : List Row). IsNoPart (first_of (codes "part") l)) (sym are) none)
told_no_part a words rows NoMemory fits are none is = tt

-- the program's command line is one of which clap says all
line_is : (sectors metas promises : ValueParser) → is_simple_and_free (line sectors metas promises) ≡ true
line_is sectors metas promises = refl

pub is_line : (a : App) → IsLine a → is_simple_and_free a ≡ true
is_line a is = ap (λ (x : App). is_simple_and_free x) is.6 ∙ line_is is.0 is.1 is.2

pub simple_of : (a : App) → is_simple_and_free a ≡ true → is_simple a ≡ true
simple_of a both = first (is_simple a) _ both
  where
    first : (x y : Bool) → (x && y) ≡ true → x ≡ true
    first true y e = refl
    first false y e = absurd (cc e)

pub asks_line : (a : App) (words : List Text) (r : Result Request LineError) → IsLine a → AsksOf a words r → Asks words r
asks_line a words (Ok request) is asks = (a, is, asks)
asks_line a words (Err (Help e)) is asks = (a, is, asks)
asks_line a words (Err (NotUnderstood e)) is asks = (a, is, asks)
asks_line a words (Err NoMemory) is asks = tt

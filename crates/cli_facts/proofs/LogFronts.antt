-- The front of a scanned log.
use Rattle.std.proofs.Common.{◌≡◌, ℕ, ◌<◌, List, length, refl, sym, ◌∙◌, subst, arith, inl}
use Rattle.std.specs.Prelude.{Option, None, Some}
use Rattle.sqwal.specs.Frames.{IsFront}
use Rattle.sqwal.specs.Header.{named_size}
use Rattle.cli_facts.specs.Fronts.{IsFrontOf, IsLogFront}
use Rattle.cli_facts.specs.declared.fronts.Front.{Front}

-- where the header isn't whole no frame counts
pub short_front : (w : List ℕ) → length w < 32 → IsFront (named_size w) w 0
short_front w short = record {
  is = inl refl;
  greatest = λ i valid commit. absurd (omega (arith, short, (valid.each i valid.first (omega arith)).header.whole));
}

pub log_front : (w : List ℕ) (n size : ℕ) (o : Option Front) → IsFront (named_size w) w n → size ≡ named_size w → IsFrontOf n size o → IsLogFront w o
log_front w n size None front named none = subst (λ (m : ℕ). IsFront (named_size w) w m) none front
log_front w n size (Some found) front named some = (
  omega (arith, some.0, some.1),
  subst (λ (m : ℕ). IsFront (named_size w) w m) (sym some.1) front,
  some.2 ∙ named,
)

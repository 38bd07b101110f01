use Rattle.std.proofs.Common.{ap, refl, arith, ℕ, ◌<◌, ◌≤◌, ◌⊎◌, inl, inr, List, length, drop}
use Rattle.std.proofs.lemmas.List.{take_rest}
use Rattle.sqval.specs.Varint.{Begins}
use Rattle.sqval.specs.Record.{HasHeader}
use Rattle.sqval.proofs.payload.VarintNumbers.{begins_once}
use Rattle.sqdeleted.proofs.header.types_of.Goals as goal

pub returns-in_err-header : goal.returns-in_err-header
returns-in_err-header c =
    let none = c.in_err-header.ensures.none.0 refl in
    rw c.from_residual.ensures (λ header size has. none header size has.begins)

-- another number begins the bytes, or a size that can't be one
not_header : (header size : ℕ) (bytes : List ℕ) → Begins header size bytes → (header < size) ⊎ ((size ≤ header) × (length bytes < header))
    → (other taken : ℕ) → ¬ HasHeader other taken bytes
not_header header size bytes begins bad other taken has =
    let same = begins_once header other size taken bytes begins has.begins in
    elim bad [
      | inl short ↦ omega (arith, has.counts_itself)
      | inr long ↦ omega (arith, has.within)
    ]

pub returns-then-header-size : goal.returns-then-header-size
returns-then-header-size c =
    not_header c.in_ok-header.header c.in_ok-header.size c.args.bytes.now ((c.in_ok-header.ensures.found _ _).0 refl) c.then-header-size.either

pub returns : goal.returns
returns c = (
  c.in_ok-header.size,
  record { begins = (c.in_ok-header.ensures.found _ _).0 refl; counts_itself = c.if-header-size.false; within = c.if-header-bytes.false },
  rw take_rest (ap (λ head. drop c.in_ok-header.size head) c.split_at.ensures.front),
)

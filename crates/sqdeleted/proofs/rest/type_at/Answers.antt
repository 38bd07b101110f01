use Rattle.std.proofs.Common.{◌≡◌, ◌⊎◌, ℕ, ◌<◌, ◌≤◌, refl, inl, inr, ap, arith, drop}
use Rattle.sqval.specs.Serial.{IsInternal, body_size}
use Rattle.sqval.specs.Shortest.{varint_size}
use Rattle.sqval.specs.Varint.{Begins}
use Rattle.sqval.proofs.payload.VarintNumbers.{begins_once}
use Rattle.sqdeleted.specs.internal.Rests.{IsTypeAt}
use Rattle.sqdeleted.proofs.BeginsOfRecords.{size_least}
use Rattle.sqdeleted.proofs.rest.type_at.Goals as goal

internal : (serial : ℕ) → (serial ≡ 10) ⊎ ((serial ≡ 10 → ⊥) × (serial ≡ 11)) → IsInternal serial
internal serial e = elim e [ inl ten ↦ inl ten | inr eleven ↦ inr eleven.1 ]

outer : (serial : ℕ) → (serial ≡ 10 → ⊥) → (serial ≡ 11 → ⊥) → ¬ IsInternal serial
outer serial ten eleven inner = elim inner [ inl e ↦ ten e | inr e ↦ eleven e ]

pub returns-in_err-serial : goal.returns-in_err-serial
returns-in_err-serial c = let none = c.in_err-serial.ensures.none.0 refl in rw c.from_residual.ensures (λ serial size t. none serial size t.begins)

pub returns-then-serial-eq10 : goal.returns-then-serial-eq10
returns-then-serial-eq10 c = λ serial size t.
    let begins : Begins c.in_ok-serial.serial c.in_ok-serial.size (drop c.args.at c.args.bytes.now) = (c.in_ok-serial.ensures.found _ _).0 refl in
    let same = begins_once c.in_ok-serial.serial serial c.in_ok-serial.size size (drop c.args.at c.args.bytes.now) begins t.begins in
    t.outer (rw (← same.0) (internal c.in_ok-serial.serial c.then-serial-eq10.either))

pub returns-then-least-size : goal.returns-then-least-size
returns-then-least-size c = λ serial size t.
    let begins : Begins c.in_ok-serial.serial c.in_ok-serial.size (drop c.args.at c.args.bytes.now) = (c.in_ok-serial.ensures.found _ _).0 refl in
    let same = begins_once c.in_ok-serial.serial serial c.in_ok-serial.size size (drop c.args.at c.args.bytes.now) begins t.begins in
    let long : varint_size c.in_ok-serial.serial < c.in_ok-serial.size = rw (← c.least_size-least.ensures) c.if-least-size.true in
    let short : size ≡ varint_size serial = t.short in
    omega (arith, long, short, same.1, ap (λ (n : ℕ). varint_size n) same.0)

pub returns : goal.returns
returns c =
    let begins : Begins c.in_ok-serial.serial c.in_ok-serial.size (drop c.args.at c.args.bytes.now) = (c.in_ok-serial.ensures.found _ _).0 refl in
    let few : c.in_ok-serial.size ≤ varint_size c.in_ok-serial.serial = rw (← c.least_size-least.ensures) c.if-least-size.false in (
      c.in_ok-serial.serial,
      record {
        begins = begins;
        outer = outer c.in_ok-serial.serial c.if-serial-eq10.false c.if-serial-eq11.false;
        short = omega (arith, few, size_least c.in_ok-serial.serial c.in_ok-serial.size (drop c.args.at c.args.bytes.now) begins);
      },
      c.body_size_of.ensures,
    )

-- The columns of a record, one in front of the others.
use Rattle.std.proofs.Common.{◌≡◌, ◌<◌, ◌++◌, ℕ, List, [], ◌∷◌, length, drop, take, Bool, true, false, refl, arith, length-drop, length-take}
use Rattle.std.specs.Prelude.{◌%◌, ◌==◌, nat_le, if◌then◌else◌}
use Rattle.std.proofs.lemmas.Bool.{eqb-false, leb-false}
use Rattle.sqval.specs.Varint.{Begins}
use Rattle.sqval.specs.Datum.{Datum}
use Rattle.sqval.specs.Serial.{body_size, held, IsInternal}
use Rattle.sqval.specs.Record.{HasHeader}
use Rattle.sqdeep.specs.declared.text.Encoding.{Encoding}
use Rattle.sqdeep.specs.Texts.{IsTextIn}
use Rattle.sqdeep.specs.Records.{IsFormed}
use Rattle.sqdeep.specs.internal.Judging.{IsFormedRecord}
use Rattle.sqdeep.specs.internal.Columns.{AreFormedColumns}

formed_if : (encoding : Encoding) (b : Bool) (x y : Datum) → (b ≡ true → IsFormed encoding x) → (b ≡ false → IsFormed encoding y)
    → IsFormed encoding (if b then x else y)
formed_if encoding b x y left right = cases b refl
  where
    cases : (c : Bool) → b ≡ c → IsFormed encoding (if c then x else y)
    cases true is = left is
    cases false is = right is

-- what is no text is formed, and so is a text that is one in the encoding
pub formed_where : (encoding : Encoding) (serial : ℕ) (body : List ℕ) → (9 < serial → (serial % 2 == 0) ≡ false → IsTextIn encoding body)
    → IsFormed encoding (held serial body)
formed_where encoding serial body is =
    formed_if encoding (serial == 0) _ _ (λ _. tt) (λ _.
    formed_if encoding (nat_le serial 6) _ _ (λ _. tt) (λ six.
    formed_if encoding (serial == 7) _ _ (λ _. tt) (λ seven.
    formed_if encoding (serial == 8) _ _ (λ _. tt) (λ eight.
    formed_if encoding (serial == 9) _ _ (λ _. tt) (λ nine.
    formed_if encoding (serial % 2 == 0) _ _ (λ _. tt) (λ odd. is (above six seven eight nine) odd))))))
  where
    above : nat_le serial 6 ≡ false → (serial == 7) ≡ false → (serial == 8) ≡ false → (serial == 9) ≡ false → 9 < serial
    above six seven eight nine =
        let a = eqb-false serial 7 seven in let b = eqb-false serial 8 eight in let d = eqb-false serial 9 nine in let e : 6 < serial = leb-false serial 6 six in omega (arith, e, a, b, d)

-- a column in front of those that are formed
pub formed_more : (encoding : Encoding) (serial taken : ℕ) (types behind body others : List ℕ) → Begins serial taken types
    → (IsInternal serial → ⊥) → behind ≡ body ++ others → length body ≡ body_size serial → IsFormed encoding (held serial body)
    → AreFormedColumns encoding (drop taken types) others → AreFormedColumns encoding types behind
formed_more encoding serial taken types behind body others begins outer parts size formed more = (
  serial ∷ more.0,
  held serial body ∷ more.1,
  (taken, begins, outer, more.2),
  (body, others, more.1, parts, size, refl, more.3),
  (formed, more.4),
)

-- no column, and no body
pub formed_none : (encoding : Encoding) → AreFormedColumns encoding [] []
formed_none encoding = ([], [], refl, (refl, refl), tt)

-- behind a header's size they make a record
pub formed_record : (encoding : Encoding) (bytes : List ℕ) (header size : ℕ) → HasHeader header size bytes
    → AreFormedColumns encoding (drop size (take header bytes)) (drop header bytes) → IsFormedRecord encoding bytes
formed_record encoding bytes header size has formed = (
  formed.1,
  record {
    types = formed.0;
    bodies = drop header bytes;
    reads = record { header = header; size = size; has = has; leads = formed.2; behind = refl };
    holds = formed.3;
  },
  formed.4,
)

-- what is behind a varint is shorter
pub shorter : (types : List ℕ) (serial taken : ℕ) → Begins serial taken types → length (drop taken types) < length types
shorter types serial taken begins =
    omega (arith, begins.front.at_least_one, begins.within, length-take taken types, length-drop taken types)

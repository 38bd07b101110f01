-- Bytes of which each is written by itself, or a run of them at once where each stands as it is.
use Rattle.std.proofs.Common.{subst, ◌≡◌, ℕ, zero, suc, ◌<◌, ◌≤◌, List, [], ◌∷◌, ◌++◌, length, take, drop, refl, sym, ap, ◌∙◌, arith, append_assoc, append-nil, Option, slice_index}
use Rattle.std.proofs.lemmas.List.{take-append-drop}
use Rattle.std.proofs.lemmas.Grind.{flat_map-append}
use Rattle.std.specs.Io.KnownBytes.{Appends}
use Rattle.std.proofs.KnownBytes.{Appends-trans}
use Rattle.std.specs.List.{flat_map}

-- Each of the first bytes stands as it is.
abbrev pub Stand : (ℕ → List ℕ) → (many : ℕ) → List ℕ → Type 0
Stand f many bytes = (k : ℕ) → k < many → f (slice_index bytes k) ≡ slice_index bytes k ∷ []

pub run_same : (f : ℕ → List ℕ) (many : ℕ) (bytes : List ℕ) → many ≤ length bytes → Stand f many bytes → flat_map f (take many bytes) ≡ take many bytes
run_same f zero bytes short stand = refl
run_same f (suc many) [] short stand = refl
run_same f (suc many) (b ∷ bytes) short stand =
    let first : f b ≡ b ∷ [] = stand 0 (omega arith) in
    let others = run_same f many bytes (omega (arith, short)) (λ k below. stand (suc k) (omega (arith, below))) in
    ap (λ z. z ++ flat_map f (take many bytes)) first ∙ ap (λ z. b ∷ z) others

-- What comes before the rest is written.
pub record IsWrittenTo (f : ℕ → List ℕ) (bytes rest : List ℕ) (old new : Option (List ℕ)) : Type 0 where
  pub done : List ℕ
  pub parts : bytes ≡ done ++ rest
  pub written : Appends old new (flat_map f done)

-- a run more
pub written_run : (f : ℕ → List ℕ) (bytes rest : List ℕ) (old now new : Option (List ℕ)) (many : ℕ) → many ≤ length rest → Stand f many rest → Appends now new (take many rest)
    → IsWrittenTo f bytes rest old now → IsWrittenTo f bytes (drop many rest) old new
written_run f bytes rest old now new many short stand run so =
    let parts : bytes ≡ (so.done ++ take many rest) ++ drop many rest =
    so.parts ∙ ap (λ z. so.done ++ z) (sym (take-append-drop many rest)) ∙ sym (append_assoc so.done (take many rest) (drop many rest)) in
    let text : flat_map f so.done ++ take many rest ≡ flat_map f (so.done ++ take many rest) =
    ap (λ z. flat_map f so.done ++ z) (sym (run_same f many rest short stand)) ∙ sym (flat_map-append f so.done (take many rest)) in
    record {
      done = so.done ++ take many rest;
      parts = parts;
      written = subst (λ z. Appends old new z) text (Appends-trans old now new (flat_map f so.done) (take many rest) so.written run);
    }

-- a byte more
pub written_byte : (f : ℕ → List ℕ) (bytes rest : List ℕ) (byte : ℕ) (others : List ℕ) (old now new : Option (List ℕ)) → rest ≡ byte ∷ others → Appends now new (f byte)
    → IsWrittenTo f bytes rest old now → IsWrittenTo f bytes others old new
written_byte f bytes rest byte others old now new is one so =
    let parts : bytes ≡ (so.done ++ byte ∷ []) ++ others = so.parts ∙ ap (λ z. so.done ++ z) is ∙ sym (append_assoc so.done (byte ∷ []) others) in
    let text : flat_map f so.done ++ f byte ≡ flat_map f (so.done ++ byte ∷ []) =
    ap (λ z. flat_map f so.done ++ z) (sym (append-nil (f byte))) ∙ sym (flat_map-append f so.done (byte ∷ [])) in
    record {
      done = so.done ++ byte ∷ [];
      parts = parts;
      written = subst (λ z. Appends old new z) text (Appends-trans old now new (flat_map f so.done) (f byte) so.written one);
    }

-- nothing is left
pub written_all : (f : ℕ → List ℕ) (bytes rest : List ℕ) (old new : Option (List ℕ)) → rest ≡ [] → IsWrittenTo f bytes rest old new → Appends old new (flat_map f bytes)
written_all f bytes rest old new is so =
    let whole : so.done ≡ bytes = sym (append-nil so.done) ∙ ap (λ z. so.done ++ z) (sym is) ∙ sym so.parts in
    subst (λ z. Appends old new (flat_map f z)) whole so.written

is_nothing : (xs : List ℕ) → length xs ≡ 0 → xs ≡ []
is_nothing [] none = refl
is_nothing (x ∷ xs) none = absurd (omega (arith, none))

-- a run, and the byte behind it
pub written_on : (f : ℕ → List ℕ) (bytes rest front behind : List ℕ) (byte : ℕ) (others : List ℕ) (old now mid new : Option (List ℕ)) (many : ℕ) → many ≤ length rest → Stand f many rest
    → front ≡ take many rest → behind ≡ drop many rest → behind ≡ byte ∷ others → Appends now mid front → Appends mid new (f byte)
    → IsWrittenTo f bytes rest old now → IsWrittenTo f bytes others old new
written_on f bytes rest front behind byte others old now mid new many short stand at_front at_behind is run one so =
    let upto = written_run f bytes rest old now mid many short stand (subst (λ z. Appends now mid z) at_front run) so in
    written_byte f bytes (drop many rest) byte others old mid new (sym at_behind ∙ is) one upto

-- a run, behind which nothing is left
pub written_end : (f : ℕ → List ℕ) (bytes rest front behind : List ℕ) (old now new : Option (List ℕ)) (many : ℕ) → many ≤ length rest → Stand f many rest
    → front ≡ take many rest → behind ≡ drop many rest → length behind ≡ 0 → Appends now new front → IsWrittenTo f bytes rest old now → Appends old new (flat_map f bytes)
written_end f bytes rest front behind old now new many short stand at_front at_behind none run so =
    let upto = written_run f bytes rest old now new many short stand (subst (λ z. Appends now new z) at_front run) so in
    written_all f bytes (drop many rest) old new (sym at_behind ∙ is_nothing behind none) upto

-- Files that are as they were, and were read before where they are read now.
use Rattle.std.proofs.Common.{◌≡◌, ℕ, Bool, true, false, List, refl, sym, ap, ◌∙◌}
use Rattle.std.specs.Prelude.{Option, None, Some, IsSome, Result, Ok, Err, ℤ}
use Rattle.std.specs.Bool.{Decides}
use Rattle.std.specs.Cmp.Lexicographic.{bytes_decides}
use Rattle.std.proofs.lemmas.Bool.Decides.{Decides-eqb, Decides-int_eq}
use Rattle.cli_facts.specs.Readings.{AreSame, IsSameFile, IsSameFront}
use Rattle.cli_facts.specs.declared.locks.Identity.{Identity}
use Rattle.cli_facts.specs.declared.outcome.Refusal.{Refusal}
use Rattle.cli_facts.specs.declared.outcome.Refusal.TheVariants.{FileChanged}
use Rattle.cli_facts.specs.declared.readings.Reading.{Reading}
use Rattle.cli_facts.specs.declared.readings.Readings.{Readings}
use Rattle.cli_files.specs.Watches.{AreRead, IsRead}

-- ---- what can't be otherwise is so

-- it isn't otherwise
abbrev MustBe : Type 0 → Type 0
MustBe P = (P → ⊥) → ⊥

told_by : {P : Type 0} (test : Bool) → Decides test P → MustBe P → P
told_by true decides must = decides.0 refl
told_by false decides must = absurd (must (λ p. let e : false ≡ true = decides.1 p in cc))

same_number : (a b : ℕ) → MustBe (a ≡ b) → a ≡ b
same_number a b = told_by _ (Decides-eqb a b)

same_whole : (a b : ℤ) → MustBe (a ≡ b) → a ≡ b
same_whole a b = told_by _ (Decides-int_eq a b)

same_bytes : (a b : List ℕ) → MustBe (a ≡ b) → a ≡ b
same_bytes a b = told_by _ (bytes_decides a b)

same_identity : (a b : Identity) → MustBe (a ≡ b) → a ≡ b
same_identity a b must =
    let major : a.major ≡ b.major = same_number a.major b.major (λ not. must (λ e. not (ap (λ (i : Identity). i.major) e))) in
    let minor : a.minor ≡ b.minor = same_number a.minor b.minor (λ not. must (λ e. not (ap (λ (i : Identity). i.minor) e))) in
    let inode : a.inode ≡ b.inode = same_number a.inode b.inode (λ not. must (λ e. not (ap (λ (i : Identity). i.inode) e))) in
    let first : a ≡ record { major = b.major; minor = a.minor; inode = a.inode } =
    ap (λ (m : ℕ). let i : Identity = record { major = m; minor = a.minor; inode = a.inode } in i) major in
    let second : a ≡ record { major = b.major; minor = b.minor; inode = a.inode } =
    first ∙ ap (λ (m : ℕ). let i : Identity = record { major = b.major; minor = m; inode = a.inode } in i) minor in
    second ∙ ap (λ (m : ℕ). let i : Identity = record { major = b.major; minor = b.minor; inode = m } in i) inode

same_front : (before after : Option (List ℕ)) → MustBe (IsSameFront before after) → IsSameFront before after
same_front (Some b) (Some a) must = same_bytes b a must
same_front (Some b) None must = must (λ never. never)
same_front None (Some a) must = must (λ never. never)
same_front None None must = tt

same_file : (before after : Option Reading) → MustBe (IsSameFile before after) → IsSameFile before after
same_file (Some b) (Some a) must = (
  same_identity b.identity a.identity (λ not. must (λ same. not same.0)),
  same_number b.length a.length (λ not. must (λ same. not same.1)),
  same_whole b.seconds a.seconds (λ not. must (λ same. not same.2)),
  same_whole b.nanoseconds a.nanoseconds (λ not. must (λ same. not same.3)),
  same_front b.front a.front (λ not. must (λ same. not same.4)),
)
same_file (Some b) None must = must (λ never. never)
same_file None (Some a) must = must (λ never. never)
same_file None None must = tt

-- Readings between which an answer stands are the same.
pub all_same : {T : Type 0} (before after : Readings) (answer : Result T Refusal) (x : T)
    → ((AreSame before after → ⊥) → answer ≡ Err FileChanged) → answer ≡ Ok x → AreSame before after
all_same before after answer x changed ok =
    let must : MustBe (AreSame before after) = λ other. let e : Err FileChanged ≡ Ok x = sym (changed other) ∙ ok in cc in (
      same_file before.db after.db (λ not. must (λ same. not same.0)),
      same_file before.wal after.wal (λ not. must (λ same. not same.1)),
      same_file before.journal after.journal (λ not. must (λ same. not same.2)),
    )

-- ---- what is read now was read before

pub front_before : (before after : Option (List ℕ)) → IsSameFront before after → IsSome after → IsSome before
front_before (Some b) (Some a) same read = refl
front_before (Some b) None same read = absurd same
front_before None (Some a) same read = absurd same
front_before None None same read = read

read_before : (before after : Option Reading) → IsSameFile before after → IsRead after → IsRead before
read_before (Some b) (Some a) same read = front_before b.front a.front same.4 read
read_before (Some b) None same read = absurd same
read_before None (Some a) same read = tt
read_before None None same read = tt

pub all_before : (only_logs : Bool) (before after : Readings) → AreSame before after → AreRead only_logs after → AreRead only_logs before
all_before only_logs before after same read = (
  λ not. read_before before.db after.db same.0 (read.0 not),
  read_before before.wal after.wal same.1 read.1,
  read_before before.journal after.journal same.2 read.2,
)

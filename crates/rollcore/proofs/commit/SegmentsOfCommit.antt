-- What a commit changes is cut into parts, and each is a segment.
use Rattle.rollcore.proofs.Between.{AreChanges, AreFresh, ArePlaced, ArePut, AreSome, AreTurned, AreWithin, Bor, Change, Contains, Core, Database, DiskState, Err, HasParts, IsFaultless, IsHeld, IsJust, IsReady, Journaled, KeepsCore, List, None, Ok, Pages, PartAnswer, Parted, Rests, Result, RollError, SegmentAnswer, SegmentsAnswer, Some, Suits, [], ap, apply, arith, begins, cases_lt, change_at, changes_few, drop, drop-drop, drop-map, fresh_by, get_or, get_or-file_page, get_or-map, get_or-take, granted, inl, inr, length, length-drop, length-map, length-replicate, length-take, length-take-le, lent, min, most_bytes, mul-le-mul_left, mul-le-mul_right, next_of, old_pages, pages_of, parts_of, refl, refusal_of, replicate, segments_enough, segments_of, sizes, slice_at, slice_within, subst, suc, sym, take, take-add, take-map, take-suc, take_all, turned_slice, ℕ, ⊎_elim, ◌*◌, ◌++◌, ◌+◌, ◌-◌, ◌<◌, ◌^◌, ◌∙◌, ◌∷◌, ◌≡◌, ◌≤◌, ◌⊎◌}
use Rattle.rollcore.proofs.commit.AppendedPages.{lent_length, lent_at}

-- ---- How many parts there are.

pub part_some : (k n : ℕ) → k < segments_of n → (k ≡ 0) ⊎ (k * 64 < n)
part_some k n lt = ⊎_elim (λ some. inr some) (λ le. inl (omega (arith, le, lt))) (cases_lt (k * 64) n)

-- the end of one
pub part_cases : (k n to : ℕ) → to ≡ min n (k * 64 + 64) → (k ≡ 0) ⊎ (k * 64 < n) → (k * 64 + (to - k * 64) ≡ (k + 1) * 64) ⊎ ((n ≤ k * 64 + (to - k * 64)) × (n ≤ (k + 1) * 64))
part_cases k n to is some =
    let from : k * 64 ≤ n = ⊎_elim (λ z. omega (arith, z)) (λ above. omega (arith, above)) some in
    ⊎_elim (λ (short : n < k * 64 + 64). inr (omega (arith, short, is, from), omega (arith, short))) (λ (full : k * 64 + 64 ≤ n). inl (omega (arith, full, is))) (cases_lt n (k * 64 + 64))

pub parts_all : (k n : ℕ) → segments_of n ≤ k → (n ≤ k * 64) × (0 < k)
parts_all k n le = (omega (arith, le), omega (arith, le))

pub parts_few : (k n : ℕ) → n ≤ 2 ^ 21 → k < segments_of n → k + 1 ≤ 2 ^ 15
parts_few k n few lt = omega (arith, few, lt)

-- ---- What a core is ready for.

module _ (pages : List (ℕ × Bor (List ℕ))) (n nonces : ℕ) where
  pub ready_kept : (a b : Core) → KeepsCore a b → b.changes ≡ a.changes → IsReady pages n nonces a → IsReady pages n nonces b
  ready_kept a b kept same ready = record {
    granted = subst (λ (z : ℕ). refusal_of z b.page_size (lent pages) n nonces ≡ None) (sym kept.size) (subst (λ (z : ℕ). refusal_of a.size z (lent pages) n nonces ≡ None) (sym kept.page_size) ready.granted);
    changes = subst (λ (z : ℕ). AreChanges (lent pages) z n b.changes.items) (sym kept.size) (subst (λ (l : List Change). AreChanges (lent pages) a.size n l) (sym (ap (λ v. v.items) same)) ready.changes);
    bytes = ready.bytes;
  }

  pub enough : (core : Core) → IsReady pages n nonces core → segments_of (length core.changes.items) ≤ nonces
  enough core ready = subst (λ (z : ℕ). segments_of z ≤ nonces) (sym ready.changes.count) (segments_enough core.size core.page_size (lent pages) n nonces ready.granted)

  pub few_changes : (core : Core) → IsReady pages n nonces core → length core.changes.items ≤ core.size
  few_changes core ready =
      let d : Database = replicate core.size [] in
      let same : length d ≡ core.size = length-replicate core.size [] in
      let few = changes_few core.page_size d (lent pages) n
      (subst (λ (z : ℕ). IsFaultless z core.page_size (lent pages) n) (sym same) (granted core.size core.page_size (lent pages) n nonces ready.granted)) core.changes.items
      (subst (λ (z : ℕ). AreChanges (lent pages) z n core.changes.items) (sym same) ready.changes) in
      omega (arith, few, same)

  pub places_few : (core : Core) → IsReady pages n nonces core → (512 ≤ core.page_size) × (core.page_size ≤ 65536) → (k : ℕ) → k < segments_of (length core.changes.items) → k + 1 ≤ 2 ^ 15
  places_few core ready sizes k lt =
      let wide : core.size * 512 ≤ core.size * core.page_size = mul-le-mul_left core.size sizes.0 in
      parts_few k (length core.changes.items) (omega (arith, few_changes core ready, wide, core.few)) lt

  -- a change names one of the pages
  pub part_within : (core : Core) (changes : List Change) → IsReady pages n nonces core → changes ≡ core.changes.items → (from m i k : ℕ) → i < length (take m (drop from changes)) → (change_at (take m (drop from changes)) i).content ≡ Some k → k < length pages
  part_within core changes ready same from m i k lt some =
      let are : AreChanges (lent pages) core.size n changes = subst (λ (l : List Change). AreChanges (lent pages) core.size n l) (sym same) ready.changes in
      let in_range = slice_within changes from m i lt in
      let at = slice_at changes from m i in_range.0 in
      omega (arith, (are.content (from + i) k in_range.1 (sym (ap (λ (c : Change). c.content) at) ∙ some)).0, lent_length pages)

  -- and none is of page 0
  pub part_numbered : (core : Core) (changes : List Change) → IsReady pages n nonces core → changes ≡ core.changes.items → (from m i : ℕ) → i < length (take m (drop from changes)) → 1 ≤ (change_at (take m (drop from changes)) i).page
  part_numbered core changes ready same from m i lt =
      let are : AreChanges (lent pages) core.size n changes = subst (λ (l : List Change). AreChanges (lent pages) core.size n l) (sym same) ready.changes in
      let in_range = slice_within changes from m i lt in
      let at = slice_at changes from m i in_range.0 in
      omega (arith, (are.within (from + i) in_range.1).0, ap (λ (c : Change). c.page) at)

  pub part_short : (core : Core) → IsReady pages n nonces core → (512 ≤ core.page_size) × (core.page_size ≤ 65536) → (k : ℕ) (d : ℕ × Bor (List ℕ)) → k < length pages → length (get_or pages k d).1.now ≤ 65536
  part_short core ready sizes k d lt =
      let full = (granted core.size core.page_size (lent pages) n nonces ready.granted).full k (omega (arith, lt, lent_length pages)) in
      omega (arith, full, ap (λ (l : List ℕ). length l) (lent_at pages k d lt).1, sizes.1)

  -- what is written of the database is within the limit
  pub ready_placed : (core : Core) → IsReady pages n nonces core → ArePlaced core.page_size pages
  ready_placed core ready k d lt =
      let right = granted core.size core.page_size (lent pages) n nonces ready.granted in
      let below : k < length (lent pages) = omega (arith, lt, lent_length pages) in
      let here = lent_at pages k d lt in
      let top : (get_or (lent pages) k (0, [])).0 * core.page_size ≤ n * core.page_size = mul-le-mul_right core.page_size (right.within k below) in
      let same : (get_or (lent pages) k (0, [])).0 * core.page_size ≡ (get_or pages k d).0 * core.page_size = ap (λ (p : ℕ). p * core.page_size) here.0 in
      (ap (λ (l : List ℕ). length l) (sym here.1) ∙ right.full k below, omega (arith, top, same, right.bytes))

  pub part_limit : (core : Core) (changes : List Change) → IsReady pages n nonces core → changes ≡ core.changes.items → core.size * core.page_size ≤ most_bytes → (from m : ℕ) → AreWithin core.page_size (take m (drop from changes))
  part_limit core changes ready same few from m i lt =
      let are : AreChanges (lent pages) core.size n changes = subst (λ (l : List Change). AreChanges (lent pages) core.size n l) (sym same) ready.changes in
      let in_range = slice_within changes from m i lt in
      let at = slice_at changes from m i in_range.0 in
      let top : (change_at changes (from + i)).page * core.page_size ≤ core.size * core.page_size = mul-le-mul_right core.page_size (are.within (from + i) in_range.1).1 in
      let page : (change_at (take m (drop from changes)) i).page * core.page_size ≡ (change_at changes (from + i)).page * core.page_size = ap (λ (c : Change). c.page * core.page_size) at in
      omega (arith, top, few, page)

pub kept_same : (a : Core) → KeepsCore a a
kept_same a = record { page_size = refl; is_open = refl; size = refl; header_room = refl }

pub kept_then : (a b c : Core) → KeepsCore a b → KeepsCore b c → KeepsCore a c
kept_then a b c one two = record { page_size = two.page_size ∙ one.page_size; is_open = two.is_open ∙ one.is_open; size = two.size ∙ one.size; header_room = two.header_room ∙ one.header_room }

-- ---- One part.

-- what stands before it, for a core of these changes
pub record BeforePart (size sector : ℕ) (d : Database) (pages : Pages) (n : ℕ) (given : List ℕ) (k place : ℕ) (changes : List Change) (s : DiskState) : Type 0 where
  pub right : IsFaultless (length d) size pages n
  pub are : AreChanges pages (length d) n changes
  pub parted : Parted size sector d (apply d pages n) (pages_of changes) given k place s

pub before_part : (pages : List (ℕ × Bor (List ℕ))) (n nonces sector : ℕ) (given : List ℕ) (k place : ℕ) (d : Database) (core : Core) (size : ℕ) (changes : List Change) (s : DiskState) → IsReady pages n nonces core → length d ≡ core.size
    → Parted core.page_size sector d (apply d (lent pages) n) (pages_of core.changes.items) given k place s → size ≡ core.page_size → changes ≡ core.changes.items → BeforePart size sector d (lent pages) n given k place changes s
before_part pages n nonces sector given k place d core size changes s ready many parted one two =
    subst (λ (z : ℕ). BeforePart z sector d (lent pages) n given k place changes s) (sym one) (subst (λ (l : List Change). BeforePart core.page_size sector d (lent pages) n given k place l s) (sym two)
    (record {
      right = subst (λ (z : ℕ). IsFaultless z core.page_size (lent pages) n) (sym many) (granted core.size core.page_size (lent pages) n nonces ready.granted);
      are = subst (λ (z : ℕ). AreChanges (lent pages) z n core.changes.items) (sym many) ready.changes;
      parted = parted;
    }))

module _ (changes : List Change) (k m : ℕ) where
  -- the numbers of those up to it
  upto : take (k * 64) (pages_of changes) ++ pages_of (take m (drop (k * 64) changes)) ≡ take (k * 64 + m) (pages_of changes)
  upto = ap (λ (l : List ℕ). take (k * 64) (pages_of changes) ++ l)
      (sym (take-map (λ (c : Change). c.page) m (drop (k * 64) changes)) ∙ ap (λ (l : List ℕ). take m l) (sym (drop-map (λ (c : Change). c.page) (k * 64) changes)))
      ∙ sym (take-add (k * 64) m (pages_of changes))

  joined : (k * 64 + m ≡ (k + 1) * 64) ⊎ ((length changes ≤ k * 64 + m) × (length changes ≤ (k + 1) * 64)) → take (k * 64) (pages_of changes) ++ pages_of (take m (drop (k * 64) changes)) ≡ take ((k + 1) * 64) (pages_of changes)
  joined cases = upto ∙ ⊎_elim
      (λ full. ap (λ (z : ℕ). take z (pages_of changes)) full)
      (λ last. take_all (k * 64 + m) (pages_of changes) (omega (arith, last.0, length-map changes (λ (c : Change). c.page)))
      ∙ sym (take_all ((k + 1) * 64) (pages_of changes) (omega (arith, last.1, length-map changes (λ (c : Change). c.page)))))
      cases

  -- and those of its own
  part_own : (k * 64 + m ≡ (k + 1) * 64) ⊎ ((length changes ≤ k * 64 + m) × (length changes ≤ (k + 1) * 64)) → pages_of (take m (drop (k * 64) changes)) ≡ take 64 (drop (k * 64) (pages_of changes))
  part_own cases =
      sym (take-map (λ (c : Change). c.page) m (drop (k * 64) changes)) ∙ ap (λ (l : List ℕ). take m l) (sym (drop-map (λ (c : Change). c.page) (k * 64) changes))
      ∙ ⊎_elim
      (λ full. ap (λ (z : ℕ). take z (drop (k * 64) (pages_of changes))) (let e : m ≡ 64 = omega (arith, full) in e))
      (λ last. take_all m (drop (k * 64) (pages_of changes)) (omega (arith, last.0, long, length-drop (k * 64) (pages_of changes)))
      ∙ sym (take_all 64 (drop (k * 64) (pages_of changes)) (omega (arith, last.1, long, length-drop (k * 64) (pages_of changes)))))
      cases
    where
      long : length (pages_of changes) ≡ length changes
      long = length-map changes (λ (c : Change). c.page)

-- one nonce more takes the next numbers
parts_more : (d : Database) (nonces : List ℕ) (nonce : ℕ) (numbers : List ℕ) → parts_of d numbers (nonces ++ nonce ∷ []) ≡ parts_of d numbers nonces ++ (nonce, old_pages d (take 64 (drop (length nonces * 64) numbers))) ∷ []
parts_more d [] nonce numbers = refl
parts_more d (x ∷ nonces) nonce numbers =
    ap (λ (l : List (ℕ × Pages)). (x, old_pages d (take 64 numbers)) ∷ l)
    (parts_more d nonces nonce (drop 64 numbers)
    ∙ ap (λ (l : List ℕ). parts_of d (drop 64 numbers) nonces ++ (nonce, old_pages d (take 64 l)) ∷ [])
    (drop-drop (length nonces * 64) 64 numbers ∙ ap (λ (i : ℕ). drop i numbers) (let e : 64 + length nonces * 64 ≡ suc (length nonces) * 64 = omega arith in e)))

module _ (size sector : ℕ) (d : Database) (pages : Pages) (n : ℕ) (given : List ℕ) (k place : ℕ) (changes : List Change) (s : DiskState) (is : BeforePart size sector d pages n given k place changes s) (m : ℕ) where
  named_at : (i x : ℕ) → i < length changes → get_or (pages_of changes) i x ≡ (change_at changes i).page
  named_at i x lt = get_or-map (λ (c : Change). c.page) changes i (record { page = 0; content = None }) x lt

  pub part_somes : AreSome (take (k * 64) (pages_of changes))
  part_somes p has =
      let i : ℕ = has.0 in
      let below : i < k * 64 = omega (arith, has.1, length-take (k * 64) (pages_of changes)) in
      let there : i < length changes = omega (arith, has.1, length-take (k * 64) (pages_of changes), length-map changes (λ (c : Change). c.page)) in
      let at : (change_at changes i).page ≡ p = sym (named_at i p there) ∙ sym (get_or-take (k * 64) (pages_of changes) i p below) ∙ has.2 in
      omega (arith, at, (is.are.within i there).0)

  pub part_fresh : AreFresh d (take (k * 64) (pages_of changes)) (pages_of (take m (drop (k * 64) changes)))
  part_fresh = fresh_by size d pages n is.right changes is.are (k * 64) m

  pub part_turned : AreTurned size (apply d pages n) (take (k * 64) (pages_of changes) ++ pages_of (take m (drop (k * 64) changes))) pages (take m (drop (k * 64) changes))
  part_turned = turned_slice size d pages n is.right changes is.are (k * 64) m (take (k * 64) (pages_of changes) ++ pages_of (take m (drop (k * 64) changes)))
      (λ i from to there. subst (λ (l : List ℕ). Contains l (change_at changes i).page) (sym (upto changes k m)) (
        i,
        omega (arith, to, there, length-take (k * 64 + m) (pages_of changes), length-map changes (λ (c : Change). c.page)),
        get_or-take (k * 64 + m) (pages_of changes) i (change_at changes i).page to ∙ named_at i (change_at changes i).page there,
      ))

  pub part_after : (e : Database) → 512 ≤ sector → (k * 64 + m ≡ (k + 1) * 64) ⊎ ((length changes ≤ k * 64 + m) × (length changes ≤ (k + 1) * 64)) → (nonce : ℕ) → k < length given → nonce ≡ get_or given k 0 → (r : Result ℕ RollError) (new : DiskState)
      → SegmentAnswer size sector d e (take (k * 64) (pages_of changes)) (take (k * 64) (pages_of changes)) place is.parted.journaled.0 (pages_of (take m (drop (k * 64) changes))) nonce r s new
      → PartAnswer size sector d e (pages_of changes) given k r s new
  part_after e wide cases nonce lt at (Ok next) new done =
      let above = next_of (sizes sector size) place (old_pages d (pages_of (take m (drop (k * 64) changes)))) (omega (arith, wide)) in (
        record {
          journaled = (done.1.0, subst (λ (l : List ℕ). Journaled size sector d l next done.1.0 new) (joined changes k m cases) done.1.1);
          taken = subst (λ (l : List (ℕ × Pages)). HasParts (sizes sector size) done.1.0 next l)
              (own
              ∙ sym (parts_more d (take k given) nonce (pages_of changes))
              ∙ ap (λ (l : List ℕ). parts_of d (pages_of changes) l)
              (ap (λ (x : ℕ). take k given ++ x ∷ []) at ∙ sym (take-suc given k 0 lt) ∙ ap (λ (i : ℕ). take i given) (let e : suc k ≡ k + 1 = omega arith in e)))
              (done.1.2 (parts_of d (pages_of changes) (take k given)) is.parted.taken);
          put = subst (λ (l : List ℕ). ArePut size e l new.db) (joined changes k m cases) done.2;
          first = λ z. absurd (omega (arith, z));
          later = λ z. omega (arith, done.0, above, wide);
        },
        done.3,
      )
    where
      many : k ≡ length (take k given)
      many = sym (length-take-le k given (omega (arith, lt)))

      own : parts_of d (pages_of changes) (take k given) ++ (nonce, old_pages d (pages_of (take m (drop (k * 64) changes)))) ∷ []
          ≡ parts_of d (pages_of changes) (take k given) ++ (nonce, old_pages d (take 64 (drop (length (take k given) * 64) (pages_of changes)))) ∷ []
      own = ap (λ (l : List ℕ). parts_of d (pages_of changes) (take k given) ++ (nonce, old_pages d l) ∷ [])
          (part_own changes k m cases ∙ ap (λ (i : ℕ). take 64 (drop (i * 64) (pages_of changes))) many)
  part_after e wide cases nonce lt at (Err error) new failed = failed

pub part_back : (pages : Pages) (n sector : ℕ) (given : List ℕ) (k : ℕ) (d : Database) (core : Core) (size : ℕ) (changes : List Change) (r : Result ℕ RollError) (old new : DiskState) → size ≡ core.page_size → changes ≡ core.changes.items
    → PartAnswer size sector d (apply d pages n) (pages_of changes) given k r old new → PartAnswer core.page_size sector d (apply d pages n) (pages_of core.changes.items) given k r old new
part_back pages n sector given k d core size changes r old new one two done =
    subst (λ (z : ℕ). PartAnswer z sector d (apply d pages n) (pages_of core.changes.items) given k r old new) one (subst (λ (l : List Change). PartAnswer size sector d (apply d pages n) (pages_of l) given k r old new) two done)

-- ---- All parts.

module _ (size sector : ℕ) (d e : Database) (numbers given : List ℕ) where
  pub parts_begin : (s : DiskState) → Suits size s → IsHeld size d → s.sector ≡ sector → Rests size d s → Parted size sector d e numbers given 0 0 s
  parts_begin s suits held same rests = record {
    journaled = (
      rests.log.0,
      record {
        at = record {
          suits = suits;
          sector_is = same;
          multiple = (0, omega arith);
          others = record {
            held = held;
            each = λ p i a b un lt db image.
                let just : IsJust size d db = rests.file db image in
                sym (get_or-file_page size db p i lt) ∙ ap (λ (l : List ℕ). get_or l i 0) (sym (just.each p a b));
            whole = λ zero db image. (rests.file db image).long;
          };
        };
        durable = rests.log.1;
        is = begins size sector d rests.log.0 rests.log.2;
      },
    );
    taken = ([], refl, refl);
    put = λ p has. absurd (omega (arith, has.1));
    first = λ z. refl;
    later = λ z. absurd (omega (arith, z));
  }

  pub parts_end : {T : Type 0} (v : T) (k place : ℕ) (a b : DiskState) → length numbers ≤ k * 64 → 0 < k → k ≡ segments_of (length numbers) → Parted size sector d e numbers given k place b → a.refused ≤ b.refused
      → SegmentsAnswer size sector d e numbers given (Ok v) a b
  parts_end v k place a b all some whole is later = (
    place,
    is.journaled.0,
    is.later some,
    subst (λ (l : List ℕ). Journaled size sector d l place is.journaled.0 b) (take_all (k * 64) numbers all) is.journaled.1,
    subst (λ (l : List ℕ). ArePut size e l b.db) (take_all (k * 64) numbers all) is.put,
    later,
    subst (λ (i : ℕ). HasParts (sizes sector size) is.journaled.0 place (parts_of d numbers (take i given))) whole is.taken,
  )

pub part_forth : (pages : Pages) (n sector : ℕ) (given : List ℕ) (k place : ℕ) (d : Database) (a b : Core) (s : DiskState) → KeepsCore a b → b.changes ≡ a.changes → Parted a.page_size sector d (apply d pages n) (pages_of a.changes.items) given k place s
    → Parted b.page_size sector d (apply d pages n) (pages_of b.changes.items) given k place s
part_forth pages n sector given k place d a b s kept same parted =
    subst (λ (z : ℕ). Parted z sector d (apply d pages n) (pages_of b.changes.items) given k place s) (sym kept.page_size)
    (subst (λ (l : List Change). Parted a.page_size sector d (apply d pages n) (pages_of l) given k place s) (sym (ap (λ v. v.items) same)) parted)

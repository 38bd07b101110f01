-- What is left while a segment of the journal is written shows the database from before the commit.
use Rattle.rollcore.proofs.Below.{Bool, Contains-append_left, Database, DiskState, FileState, HasOthers, IsAt, IsImage, IsPageSize, IsSteady, List, MayBeRead, StandOthers, Suits, Tells, Unharmed, arith, get_or, image_listed, inl, inr, journal_log, length, page, page_at, page_by_bytes, subst, sym, word, ℕ, ⊎_elim, ◌*◌, ◌++◌, ◌+◌, ◌∙◌, ◌≡◌, ◌⊎◌}
use Rattle.rollcore.proofs.journal.RestoredDatabase.{shows, sector_told}

pub image_read : (s : DiskState) (w : List ℕ) → MayBeRead journal_log s w → IsImage s.sector s.tears s.log w
image_read s w (inl listed) = image_listed s.sector s.tears s.log w listed
image_read s w (inr left) = left.image

moved : (P : ℕ → Bool → FileState → Type 0) (m n : ℕ) (a b : Bool) (s t : FileState) → n ≡ m → b ≡ a → t ≡ s → P m a s → P n b t
moved P m n a b s t e f g p = subst (λ (x : ℕ). P x b t) (sym e) (subst (λ (x : Bool). P m x t) (sym f) (subst (λ (x : FileState). P m a x) (sym g) p))

module _ (size sector : ℕ) (d : Database) where
  -- where nothing is done to the file
  pub at_by : (named : List ℕ) (place : ℕ) (old new : DiskState) → IsAt size sector d named place old → Suits size new → new.sector ≡ old.sector → new.tears ≡ old.tears → new.db ≡ old.db → IsAt size sector d named place new
  at_by named place old new is suits sectors tears db = record {
    suits = suits;
    sector_is = sectors ∙ is.sector_is;
    multiple = is.multiple;
    others = record {
      held = is.others.held;
      each = λ p i a b un lt. moved (λ n t s. IsSteady n t s (page_at size p + i) (get_or (page d p) i 0)) old.sector new.sector old.tears new.tears old.db new.db sectors tears db (is.others.each p i a b un lt);
      whole = λ z. moved (λ n t s. (c : List ℕ) → IsImage n t s c → length c ≡ length d * size) old.sector new.sector old.tears new.tears old.db new.db sectors tears db (is.others.whole z);
    };
  }

  pub sectors_of : (named : List ℕ) (place : ℕ) (s : DiskState) → IsAt size sector d named place s → IsPageSize sector
  sectors_of named place s is = subst (λ (n : ℕ). IsPageSize n) is.sector_is is.suits.sectors

  pub has_others : (named : List ℕ) (place : ℕ) (s : DiskState) → StandOthers size d named place s → (db : List ℕ) → IsImage s.sector s.tears s.db db → HasOthers size d named place db
  has_others named place s others db image = record {
    each = λ p a b un. page_by_bytes size db p (page d p) (others.held.full p a b) (λ i lt. others.each p i a b un lt db image);
    whole = λ z. others.whole z db image;
  }

  -- with more pages named the file has fewer others
  pub others_more : (named part : List ℕ) (place next : ℕ) (db : List ℕ) → (next ≡ 0 → ⊥) → HasOthers size d named place db → HasOthers size d (named ++ part) next db
  others_more named part place next db some has = record {
    each = λ p a b un. has.each p a b (λ there. un (Contains-append_left named part p there));
    whole = λ z. absurd (some z);
  }

  -- the journal is as it was, or has one segment more
  pub unharmed_by : (named part : List ℕ) (place next : ℕ) (s : DiskState) → IsAt size sector d named place s → (next ≡ 0 → ⊥)
      → ((v : List ℕ) → MayBeRead journal_log s v → Tells size sector d named place v ⊎ Tells size sector d (named ++ part) next v) → Unharmed size d s
  unharmed_by named part place next s at some left = record {
    shows = λ v may db image.
        let has : HasOthers size d named place db = has_others named place s at.others db image in
        let sectors : IsPageSize sector = sectors_of named place s at in
        ⊎_elim
        (λ was. shows size sector d sectors at.suits.pages named place v db was has)
        (λ more. shows size sector d sectors at.suits.pages (named ++ part) next v db more (others_more named part place next db some has))
        (left v may);
    sectors = λ torn v may hot.
        let same : word v 20 ≡ sector = ⊎_elim (λ was. sector_told size sector d (sectors_of named place s at) at.suits.pages named place v was hot) (λ more. sector_told size sector d (sectors_of named place s at) at.suits.pages (named ++ part) next v more hot) (left v may) in
        omega (arith, same, at.sector_is);
  }

  pub unharmed_still : (named : List ℕ) (place : ℕ) (s : DiskState) → IsAt size sector d named place s → ((v : List ℕ) → MayBeRead journal_log s v → Tells size sector d named place v) → Unharmed size d s
  unharmed_still named place s at left = record {
    shows = λ v may db image. shows size sector d (sectors_of named place s at) at.suits.pages named place v db (left v may) (has_others named place s at.others db image);
    sectors = λ torn v may hot.
        let same : word v 20 ≡ sector = sector_told size sector d (sectors_of named place s at) at.suits.pages named place v (left v may) hot in
        omega (arith, same, at.sector_is);
  }

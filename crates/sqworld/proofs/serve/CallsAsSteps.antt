-- What a call of an engine is in a run.
use Rattle.sqworld.proofs.Words.{Act, Answer, AreTogether, Begins, DiskState, Done, Ends, Err, FitsCore, FitsSession, Global, HasCalls, IfOk, List, LooksOnce, Makes, ModelDisk, NoReader, None, Ok, OnlyCalls, Option, Past, Permits, ReadStep, Reader, ReaderAnswer, Reads, Reply, ReplyReader, Result, ServesTo, Session, SessionServes, Some, Step, StepsTo, Vec, Wal, [], answer_of, ap, append_assoc, arith, drop, get_or, inl, length, length-append, length-replicate, reader_at, refl, replicate, set, slice_get, state_of, subst, suc, sym, take, tokens_by, tokens_of, without_token, zero, ℕ, ◌++◌, ◌+◌, ◌<◌, ◌∙◌, ◌∷◌, ◌≡◌}
use Rattle.std.proofs.lemmas.Grind.{common_steps}
use Rattle.walcore.specs.Changes.{MayChange}

-- the calls of an engine are no more than those of an event
abbrev pub AreOnly : (size : ℕ) → Act → (s t : DiskState) → Type 0
AreOnly size act s t = (logs : List (List ℕ)) → HasCalls (MayChange act size logs) s t → OnlyCalls size logs act s t

-- a call's step is an event's
pub stepped : (past : Past) (old new : Session) (tokens : List (Option Reader)) (act : Act) (told answer : Answer) → told ≡ answer → tokens ≡ tokens_of new
    → AreOnly past.state.page_size act (state_of old.wal.disk) (state_of new.wal.disk)
    → StepsTo past tokens act told new.wal.core (state_of old.wal.disk) (state_of new.wal.disk)
    → ServesTo past act answer (λ p. FitsSession p new) (state_of old.wal.disk) (state_of new.wal.disk)
stepped past old new tokens act told answer same are only steps = record {
  next = record { state = steps.next; made = steps.made; tokens = tokens };
  refused = steps.refused;
  told = λ more. sym same ∙ steps.told more;
  row = subst (λ a. Step past.state act a (state_of old.wal.disk).refused (state_of new.wal.disk).refused steps.next) same steps.row;
  makes = subst (λ a. Makes past.state.page_size (state_of old.wal.disk).sector (state_of old.wal.disk).tears past.made act a steps.made) same steps.makes;
  fits = record { core = steps.fits; tokens = are };
  sector = steps.same.sector;
  tears = steps.same.tears;
  calls = only steps.made.logs steps.same.calls;
}

-- of one that leaves the readers alone
pub stepped_still : (page_size : ℕ) (old : Session) (wal : Wal ModelDisk) (act : Act) (told answer : Answer) → told ≡ answer
    → ((size : ℕ) → AreOnly size act (state_of old.wal.disk) (state_of wal.disk))
    → ((past : Past) → FitsCore past old.wal.core (state_of old.wal.disk) → Permits past.made act told → StepsTo past past.tokens act told wal.core (state_of old.wal.disk) (state_of wal.disk))
    → SessionServes page_size old (record { wal = wal; first = old.first; slots = old.slots }) act answer
stepped_still page_size old wal act told answer same only h past size fits may =
    stepped past old (record { wal = wal; first = old.first; slots = old.slots }) past.tokens act told answer same fits.tokens (only past.state.page_size)
    (h past fits.core (subst (λ a. Permits past.made act a) (sym same) may))

-- the row of a reader that isn't open
no_token : (place : Option ℕ) (slot : Option Reader) → slot ≡ None → AreTogether (λ i r. Unit {0}) place slot → place ≡ None
no_token None slot h t = refl
no_token (Some i) None h t = absurd t
no_token (Some i) (Some r) h t = absurd (cc h)

pub not_open : (past : Past) (old : Session) (number : ℕ) → FitsSession past old → get_or (tokens_of old) number None ≡ None → reader_at past.state number ≡ None
not_open past old number fits none = no_token (reader_at past.state number) (get_or past.tokens number None) (ap (λ t. get_or t number None) fits.tokens ∙ none) (fits.core.together number)

pub no_read : (page_size : ℕ) (old : Session) (number page : ℕ) → get_or (tokens_of old) number None ≡ None → SessionServes page_size old old (Reads number page) NoReader
no_read page_size old number page none past size fits may = record {
  next = past;
  refused = omega arith;
  told = λ more. absurd (omega arith);
  row = subst (λ place. ReadStep place past.state page NoReader (state_of old.wal.disk).refused (state_of old.wal.disk).refused past.state) (sym (not_open past old number fits none)) refl;
  makes = refl;
  fits = fits;
  sector = refl;
  tears = refl;
  calls = inl refl;
}

-- ---- Tokens behind those that are forgotten.

pub got_token : (first i m : ℕ) (slots : List (Option Reader)) (slot : Option Reader) → m ≡ first + i → slice_get slots i ≡ Some slot → slice_get (tokens_by first slots) m ≡ Some slot
got_token zero i m slots slot e h = let same : i ≡ m = omega arith in subst (λ k. slice_get slots k ≡ Some slot) same h
got_token (suc first) i zero slots slot e h = absurd (omega arith)
got_token (suc first) i (suc m) slots slot e h = got_token first i m slots slot (omega arith) h

pub is_token : (first i m : ℕ) (slots : List (Option Reader)) → m ≡ first + i → get_or (tokens_by first slots) m None ≡ get_or slots i None
is_token zero i m slots e = let same : m ≡ i = omega arith in ap (λ k. get_or slots k None) same
is_token (suc first) i zero slots e = absurd (omega arith)
is_token (suc first) i (suc m) slots e = is_token first i m slots (omega arith)

pub put_none : (first i m : ℕ) (slots : List (Option Reader)) → m ≡ first + i → set (tokens_by first slots) m None ≡ tokens_by first (set slots i None)
put_none zero i m slots e = let same : m ≡ i = omega arith in ap (λ k. set slots k None) same
put_none (suc first) i zero slots e = absurd (omega arith)
put_none (suc first) i (suc m) slots e = ap (λ t. None ∷ t) (put_none first i m slots (omega arith))

at_slot : (slots : List (Option Reader)) (i : ℕ) (r : Reader) → i < length slots → get_or slots i None ≡ Some r → slice_get slots i ≡ Some (Some r)
at_slot [] i r l h = absurd (omega arith)
at_slot (x ∷ slots) zero r l h = ap Some h
at_slot (x ∷ slots) (suc i) r l h = at_slot slots i r (omega arith) h

-- ---- Readers.

pub began : {E : Type 0} (page_size : ℕ) (old new : Session) (mid : Wal ModelDisk) (reader : Reader) (number : ℕ) (r : Result Reply E)
    → IfOk r (λ _. new.wal ≡ mid) → new.first ≡ old.first → IfOk r (λ _. new.slots.items ≡ old.slots.items ++ Some reader ∷ []) → IfOk r (λ reply. reply ≡ ReplyReader number)
    → number ≡ old.first + length old.slots.items → mid.disk ≡ old.wal.disk
    → ((past : Past) → FitsCore past old.wal.core (state_of old.wal.disk) → StepsTo past (past.tokens ++ Some reader ∷ []) Begins (ReaderAnswer (length past.state.readers)) mid.core (state_of old.wal.disk) (state_of mid.disk))
    → IfOk r (λ reply. SessionServes page_size old new Begins (answer_of reply))
began page_size old new mid reader number (Err e) wal first slots reply is disk h = tt
began page_size old new mid reader number (Ok answer) wal first slots reply is disk h = λ past size fits may.
    let tokens : past.tokens ++ Some reader ∷ [] ≡ tokens_of new =
    ap (λ t. t ++ Some reader ∷ []) fits.tokens ∙ (append_assoc (replicate old.first None) old.slots.items (Some reader ∷ []) ∙ (ap (λ x. replicate old.first None ++ x) (sym slots) ∙ ap (λ n. replicate n None ++ new.slots.items) (sym first))) in
    let long : length past.tokens ≡ old.first + length old.slots.items = ap length fits.tokens ∙ (length-append (replicate old.first None) old.slots.items ∙ ap (λ n. n + length old.slots.items) (length-replicate old.first None)) in
    let count : length past.state.readers ≡ number = let same = fits.core.count in omega (arith, long, is, same) in
    stepped past old new (past.tokens ++ Some reader ∷ []) Begins (ReaderAnswer (length past.state.readers)) (answer_of answer) (ap ReaderAnswer count ∙ sym (ap answer_of reply)) tokens
    (λ logs calls. ap (λ (w : Wal ModelDisk). state_of w.disk) wal ∙ ap state_of disk)
    (subst (λ (w : Wal ModelDisk). StepsTo past (past.tokens ++ Some reader ∷ []) Begins (ReaderAnswer (length past.state.readers)) w.core (state_of old.wal.disk) (state_of w.disk)) (sym wal) (h past fits.core))

pub ended : (page_size : ℕ) (old : Session) (wal : Wal ModelDisk) (slots : Vec (Option Reader) Global) (number i : ℕ) (reader : Reader) → number ≡ old.first + i → i < length old.slots.items
    → get_or old.slots.items i None ≡ Some reader → slots.items ≡ set old.slots.items i None → wal.disk ≡ old.wal.disk
    → ((past : Past) (n : ℕ) → FitsCore past old.wal.core (state_of old.wal.disk) → slice_get past.tokens n ≡ Some (Some reader) → StepsTo past (without_token past.tokens n) (Ends n) Done wal.core (state_of old.wal.disk) (state_of wal.disk))
    → SessionServes page_size old (record { wal = wal; first = old.first; slots = slots }) (Ends number) Done
ended page_size old wal slots number i reader is within here emptied disk h past size fits may =
    stepped past old (record { wal = wal; first = old.first; slots = slots }) (without_token past.tokens number) (Ends number) Done Done refl
    (ap (λ t. set t number None) fits.tokens ∙ (put_none old.first i number old.slots.items is ∙ ap (λ x. tokens_by old.first x) (sym emptied)))
    (λ logs calls. ap state_of disk)
    (h past number fits.core (ap (λ t. slice_get t number) fits.tokens ∙ got_token old.first i number old.slots.items (Some reader) is (at_slot old.slots.items i reader within here)))

pub was_read : (page_size : ℕ) (old : Session) (wal : Wal ModelDisk) (number page i : ℕ) (reader : Reader) (told answer : Answer) → told ≡ answer → number ≡ old.first + i → i < length old.slots.items
    → get_or old.slots.items i None ≡ Some reader → LooksOnce (state_of old.wal.disk) (state_of wal.disk)
    → ((past : Past) (n : ℕ) → FitsCore past old.wal.core (state_of old.wal.disk) → slice_get past.tokens n ≡ Some (Some reader) → past.state.page_size ≡ page_size → StepsTo past past.tokens (Reads n page) told wal.core (state_of old.wal.disk) (state_of wal.disk))
    → SessionServes page_size old (record { wal = wal; first = old.first; slots = old.slots }) (Reads number page) answer
was_read page_size old wal number page i reader told answer same is within here looks h past size fits may =
    stepped past old (record { wal = wal; first = old.first; slots = old.slots }) past.tokens (Reads number page) told answer same fits.tokens (λ logs calls. looks)
    (h past number fits.core (ap (λ t. slice_get t number) fits.tokens ∙ got_token old.first i number old.slots.items (Some reader) is (at_slot old.slots.items i reader within here)) size)

pub found_slot : (slots : List (Option Reader)) (i : ℕ) (x y : Option Reader) → i < length slots → x ≡ get_or slots i x → x ≡ y → get_or slots i None ≡ y
found_slot [] i x y l h e = absurd (omega arith)
found_slot (z ∷ slots) zero x y l h e = sym h ∙ e
found_slot (z ∷ slots) (suc i) x y l h e = found_slot slots i x y (omega arith) h e

-- a buffer that was filled whole
pub filled : (bytes new : List ℕ) (n : ℕ) → length bytes ≡ n → length new ≡ n → take n (new ++ drop (length new) bytes) ≡ new
filled bytes new n e f = grind (arith, common_steps)

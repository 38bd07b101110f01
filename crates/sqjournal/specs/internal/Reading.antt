-- How far a journal is read (own): the words of this crate's helpers, which no public contract cites but `Took`.
use Rattle.std.specs.Prelude.{◌≡◌, ℕ, ◌+◌, ◌≤◌, List, length, if◌then◌else◌, nat_le, ◌==◌, ◌&&◌}
use Rattle.sqval.specs.Bytes.{part}
use Rattle.sqjournal.specs.Journal.{to_the_end}
use Rattle.sqjournal.specs.declared.reading.Why.{Why}
use Rattle.sqjournal.specs.declared.reading.Why.TheVariants.{End, Header, Short}
use Rattle.sqjournal.specs.declared.reading.Reading.{Reading}
use Rattle.sqjournal.specs.declared.reading.Next.{Next}
use Rattle.sqjournal.specs.declared.reading.Next.TheVariants.{NewSegment, Records, Over}
use Rattle.sqjournal.specs.Reading.{next_len}

-- why a journal of so many bytes ends, of which what is next isn't whole
abbrev pub why_at : (at len : ℕ) → Next → Why
why_at at len NewSegment = if nat_le len at then End else Header
why_at at len (Records nonce left) = if (left == to_the_end) && nat_le len at then End else Short
why_at at len (Over w) = w

abbrev pub why_of : Reading → (len : ℕ) → Why
why_of r len = why_at r.at len r.next

-- the bytes of it, whole in a journal
pub record IsNext (b : List ℕ) (r : Reading) (unit : List ℕ) : Type 0 where
  pub is : part b r.at (next_len r) ≡ unit
  pub whole : r.at + next_len r ≤ length b

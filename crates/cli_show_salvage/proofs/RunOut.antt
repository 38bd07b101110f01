-- Of what stops that comes from printing a text.
use Rattle.std.proofs.Common.{ℕ, List, Option, inl, inr, subst, sym}
use Rattle.cli_show_rows.specs.declared.stop.Stop.{Stop}
use Rattle.cli_show_rows.specs.declared.stop.Stop.TheVariants.{Fault, Record, TooLong, NotUnderstood, Default, Behind, Encoding, NotNamed, LeftOut, NoSuchTable, NoMemory, Write}
use Rattle.cli_show_rows.specs.Stops.{IsEnded, IsFailingWritten, IsUnheaded, IsWriteError}
use Rattle.cli_show_salvage.specs.Cells.{IsRunOut}

pub run_out : (stop : Stop) (before after : Option (List ℕ)) → IsUnheaded stop before after → IsRunOut stop
run_out (Fault e) before after h = absurd h
run_out (Record e) before after h = absurd h
run_out TooLong before after h = absurd h
run_out NotUnderstood before after h = absurd h
run_out Default before after h = absurd h
run_out Behind before after h = absurd h
run_out Encoding before after h = absurd h
run_out NotNamed before after h = absurd h
run_out (LeftOut n) before after h = absurd h
run_out NoSuchTable before after h = absurd h
run_out NoMemory before after h = tt
run_out (Write e) before after h = tt

unwritten : (stop : Stop) → IsWriteError stop → IsRunOut stop
unwritten (Fault e) h = absurd h
unwritten (Record e) h = absurd h
unwritten TooLong h = absurd h
unwritten NotUnderstood h = absurd h
unwritten Default h = absurd h
unwritten Behind h = absurd h
unwritten Encoding h = absurd h
unwritten NotNamed h = absurd h
unwritten (LeftOut n) h = absurd h
unwritten NoSuchTable h = absurd h
unwritten NoMemory h = absurd h
unwritten (Write e) h = tt

-- a script that had to stop so, and was ended
pub ended_so : (stop ended : Stop) (before after : Option (List ℕ)) → IsRunOut stop → IsEnded IsFailingWritten stop ended before after → IsRunOut ended
ended_so stop ended before after h (inl w) = unwritten ended w
ended_so stop ended before after h (inr w) = subst IsRunOut (sym w.0) h

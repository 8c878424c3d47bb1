-- The numbers of the refusals. Assumes nothing.
use Rattle.std.specs.Prelude.{ℕ}
use Rattle.refusal.specs.declared.Refusal.{Refusal}
use Rattle.refusal.specs.declared.Refusal.TheVariants.{Lengths, Range, Closed, Sending, Idle, Ending, Cells, Files, Places}

abbrev pub number_of : Refusal → ℕ
number_of Lengths = 1
number_of Range = 2
number_of Closed = 3
number_of Sending = 4
number_of Idle = 5
number_of Ending = 6
number_of Cells = 7
number_of Files = 8
number_of Places = 9

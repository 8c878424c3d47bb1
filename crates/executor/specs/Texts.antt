-- What is said of a feed's turn, and of a run that came to no end. Assumes nothing.
use Rattle.std.specs.Prelude.{ℕ, List, ◌++◌, Option, Some, None, codes}
use Rattle.std.specs.Fmt.{decimal}
use Rattle.executor.specs.declared.Sending.{Sending}
use Rattle.executor.specs.declared.Sending.TheVariants.{Sent, Waits, Full, Done}
use Rattle.executor.specs.declared.run.Halt.{Halt}
use Rattle.executor.specs.declared.run.Halt.TheVariants.{Refused, Memory, Output}

abbrev pub sending_text : Sending → List ℕ
sending_text (Sent n _) = codes "sends " ++ decimal n.id ++ codes " to room " ++ decimal n.room
sending_text (Waits n) = codes "waits with " ++ decimal n.id ++ codes ", since every room has something queued"
sending_text (Full n) = codes "keeps " ++ decimal n.id ++ codes ", since the memory is full"
sending_text Done = codes "has no more, and is closed"

-- the text of an error of input or output is not known
abbrev pub halt_text : Halt → Option (List ℕ)
halt_text (Refused _) = Some (codes "a call was refused")
halt_text Memory = Some (codes "no memory is left")
halt_text (Output _) = None

use Rattle.resources.proofs.Histories.{read_fits}
use Rattle.resources.proofs.runs.perform.Goals as goal

pub returns-in_ok-length-in-Read-clause-fits : goal.returns-in_ok-length-in-Read-clause-fits
returns-in_ok-length-in-Read-clause-fits g c = read_fits _ _ _ c.in_ok-length-in-Read.ensures.lawful c.in_ok-length-in-Read.ensures.place c.read.array_long

use Rattle.std.proofs.Common.{Some, None}
use Rattle.ra_ap_intern.proofs.CallerLemmas.{slice_shown}
use Rattle.use_lists.proofs.read.Goals as goal

pub returns-in_err-read : goal.returns-in_err-read
returns-in_err-read c = rw c.from_residual.ensures (slice_shown None _ c.in_err-read.ensures)

pub returns : goal.returns
returns c = slice_shown (Some _) _ c.in_ok-read.ensures

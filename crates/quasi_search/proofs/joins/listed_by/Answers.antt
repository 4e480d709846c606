use Rattle.std.proofs.Common.{None, Some}
use Rattle.quasi_search.proofs.Index.{found_by}
use Rattle.quasi_search.proofs.joins.listed_by.Goals as goal

pub returns : goal.returns
returns c list t index fits is = found_by c.args.index.now c.args.key.now list t index fits.nodes is (Some c.in_ok-listed.listed.now) c.in_ok-listed.ensures.value

pub returns-in_err-listed : goal.returns-in_err-listed
returns-in_err-listed c list t index fits is = rw c.from_residual.ensures (found_by c.args.index.now c.args.key.now list t index fits.nodes is None c.in_err-listed.ensures.value)

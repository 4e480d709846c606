use Rattle.term_core.proofs.Rules.{handed_on}
use Rattle.ctrs_classes.proofs.Lists.{seen_in_first, seen_in_rest}
use Rattle.ctrs_classes.proofs.regions.+repeated.Goals as goal

pub first_repeated_among-returns-in_ok-after-in-len1-up-clause-found : goal.first_repeated_among-returns-in_ok-after-in-len1-up-clause-found
first_repeated_among-returns-in_ok-after-in-len1-up-clause-found t c =
    seen_in_rest _ _ c.in-len1-up.len_at_least c.first-item.is _ _ _ c.in_ok-after-in-len1-up.ensures.found c.first_repeated_among.ensures.found

pub first_repeated_among-returns-in_err-after-in-len1-up-clause-found : goal.first_repeated_among-returns-in_err-after-in-len1-up-clause-found
first_repeated_among-returns-in_err-after-in-len1-up-clause-found t c =
    rw (handed_on _ _ c.from_residual.ensures.1)
    (seen_in_first _ _ c.in-len1-up.len_at_least c.first-item.is _ _ c.in_err-after-in-len1-up.ensures.found)

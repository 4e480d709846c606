use Rattle.ctrs_classes.proofs.Lists.{where_in_first, where_in_rest}
use Rattle.ctrs_classes.proofs.regions.+first.Goals as goal

pub first_among-returns-in-Some : goal.first_among-returns-in-Some
first_among-returns-in-Some t c = where_in_first _ _ c.in-len1-up.len_at_least c.first-item.is _ _ c.in-Some.ensures

pub first_among-returns-in-None : goal.first_among-returns-in-None
first_among-returns-in-None t c = where_in_rest _ _ c.in-len1-up.len_at_least c.first-item.is _ _ c.in-None.ensures c.first_among.ensures

-- What is made of a derivation's first bad step, by which derivation it is.
use Rattle.certificates.specs.Prelude.{BadStep, EvidenceReason, join_left, join_right, unfeasible_first, unfeasible_second}
use Rattle.pair_check.specs.declared.derived.Which.{Which}
use Rattle.pair_check.specs.declared.derived.Which.TheVariants.{Left, Right, First, Second}

abbrev pub made_of : Which → BadStep → EvidenceReason
made_of Left bad = join_left bad
made_of Right bad = join_right bad
made_of First bad = unfeasible_first bad
made_of Second bad = unfeasible_second bad

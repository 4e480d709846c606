use Rattle.pair_check.proofs.Running.{only_memory}
use Rattle.pair_check.proofs.run.next_overlap.Goals as goal

pub unreachable-requires : goal.unreachable-requires
unreachable-requires c =
    let (sys, offered, later, under) = c.requires.list in
    let memory = only_memory sys c.args.search.now offered later under c.in-Err-PairTooLarge.field-0 c.in-Err-PairTooLarge.ensures.answer in
    let large = c.in-Err-PairTooLarge.field-0-is in
    cc

pub unreachable-requires-in-Err-TooManyPairs : goal.unreachable-requires-in-Err-TooManyPairs
unreachable-requires-in-Err-TooManyPairs c =
    let (sys, offered, later, under) = c.requires.list in
    let memory = only_memory sys c.args.search.now offered later under c.in-Err-TooManyPairs.field-0 c.in-Err-TooManyPairs.ensures.answer in
    let many = c.in-Err-TooManyPairs.field-0-is in
    cc

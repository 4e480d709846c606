use Rattle.search_answers.proofs.Refused.{large_none, many_none}
use Rattle.search_answers.proofs.listed_or_none.Goals as goal

pub returns-in-Err-PairTooLarge : goal.returns-in-Err-PairTooLarge
returns-in-Err-PairTooLarge c =
    large_none c.args.sys.now c.in-Err-PairTooLarge.field-0 c.in-Err-PairTooLarge.field-0-0 c.in-Err-PairTooLarge.field-0-1 c.in-Err-PairTooLarge.field-0-2
    (rw c.in-Err-PairTooLarge.is at c.in-Err-PairTooLarge.field-0-is) (rw c.in-Err-PairTooLarge.is at c.requires)

pub returns-in-Err-TooManyPairs : goal.returns-in-Err-TooManyPairs
returns-in-Err-TooManyPairs c =
    many_none c.args.sys.now c.in-Err-TooManyPairs.field-0 (rw c.in-Err-TooManyPairs.is at c.in-Err-TooManyPairs.field-0-is) (rw c.in-Err-TooManyPairs.is at c.requires)

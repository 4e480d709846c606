use Rattle.search_answers.proofs.Refused.{large_none, many_none}
use Rattle.shown_systems.proofs.whole.put_subject.Goals as goal

pub put_found-requires-in-Err-PairTooLarge : goal.put_found-requires-in-Err-PairTooLarge
put_found-requires-in-Err-PairTooLarge c =
    record {
      overlaps =
          large_none c.args.subject.now.prepared.now c.in-Err-PairTooLarge.field-0 c.in-Err-PairTooLarge.inner c.in-Err-PairTooLarge.pos c.in-Err-PairTooLarge.outer c.in-Err-PairTooLarge.field-0-is
          c.in-Err-PairTooLarge.ensures;
    }

pub put_found-requires-in-Err-TooManyPairs : goal.put_found-requires-in-Err-TooManyPairs
put_found-requires-in-Err-TooManyPairs c =
    record { overlaps = many_none c.args.subject.now.prepared.now c.in-Err-TooManyPairs.field-0 c.in-Err-TooManyPairs.field-0-is c.in-Err-TooManyPairs.ensures }

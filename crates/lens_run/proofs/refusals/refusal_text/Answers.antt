use Rattle.std.proofs.Common.{append_assoc}
use Rattle.lens_run.proofs.refusals.refusal_text.Goals as goal

pub returns : goal.returns
returns c = record {
  place = c.place_of-place.result;
  marked = c.in_ok-push_marked.ensures.0;
  may_stand = c.args.refusal.may_stand.now;
  is_place = c.place_of-place.ensures;
  is_marked = c.in_ok-push_marked.ensures.1;
  spelt = simp (c.in_ok-push.ensures.items, c.in_ok-extend_from_slice.ensures.items, c.in_ok-push_marked.ensures.2, c.in_ok-push_line.ensures, c.new-text.ensures.items, append_assoc);
}

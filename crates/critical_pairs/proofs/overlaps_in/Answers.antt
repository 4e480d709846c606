use Rattle.std.proofs.Common.{[], ◌∷◌, ◌∙◌, subst, sym, ap, map, Ok}
use Rattle.std.proofs.lemmas.List.{map-append}
use Rattle.critical_pairs.specs.View.{overlap_view}
use Rattle.critical_pairs.specs.Answers.{OverlapsAnswers}
use Rattle.critical_pairs.specs.Offers.{OfferAnswers}
use Rattle.term_core.proofs.Rules.{handed_on}
use Rattle.critical_pairs.proofs.Whole.{Gathered, one_more, all_found, list_refused}
use Rattle.critical_pairs.proofs.overlaps_in.Goals as goal

pub returns-in_err-overlap : goal.returns-in_err-overlap
returns-in_err-overlap c =
    subst (OverlapsAnswers c.args.sys.now) (sym (handed_on _ _ c.from_residual.ensures.1))
    (list_refused c.args.sys.now c.loop-found.search (map overlap_view c.loop-found.found.items) c.loop-found.invariant c.in_err-overlap.field-0.0 c.in_err-overlap.ensures.answer)

pub loop-found-preserved : goal.loop-found-preserved
loop-found-preserved c =
    let offered = subst (λ z. OfferAnswers c.loop-found.search c.next.new.self (Ok z)) c.in-Some.is c.in_ok-overlap.ensures.answer in
    subst (Gathered c.args.sys.now c.next.new.self) (sym (ap (map overlap_view) c.in_ok-push.ensures.items ∙ map-append overlap_view c.loop-found.found.items (c.in-Some.overlap ∷ [])))
    (one_more c.args.sys.now c.loop-found.search (map overlap_view c.loop-found.found.items) c.loop-found.invariant c.next.new.self (overlap_view c.in-Some.overlap) c.next.ensures.system offered)

pub returns : goal.returns
returns c =
    let done = subst (λ z. OfferAnswers c.loop-found.search c.next.new.self (Ok z)) c.in_default.is c.in_ok-overlap.ensures.answer in
    all_found c.args.sys.now c.loop-found.search (map overlap_view c.loop-found.found.items) c.loop-found.invariant c.next.new.self done

use Rattle.std.proofs.Common.{subst, sym, ap, ◌∙◌, [], Ok}
use Rattle.critical_pairs.specs.Offers.{OfferAnswers}
use Rattle.pair_check.specs.Steps.{HasList}
use Rattle.pair_check.proofs.Running.{begins}
use Rattle.pair_check.proofs.Stands.{stands_first}
use Rattle.pair_check.proofs.run.PairRun.begin.Goals as goal

pub next_overlap-requires : goal.next_overlap-requires
next_overlap-requires c =
    let (os, all) = c.requires.list in
    record { list = subst HasList (sym c.new-search.ensures) (c.args.sys.now, [], os, begins c.args.sys.now os all) }

pub invariant_of-result : goal.invariant_of-result
invariant_of-result c =
    let (os, all) = c.requires.list in
    let t = c.next_overlap.new.search in
    let answer = subst (λ s. OfferAnswers s t (Ok c.in_ok-next.next)) c.new-search.ensures c.in_ok-next.ensures.answer in
    let system = c.next_overlap.ensures.system ∙ ap (λ s. s.system) c.new-search.ensures in
    record { stands = λ none. stands_first c.args.sys.now t os all system c.in_ok-next.next answer }

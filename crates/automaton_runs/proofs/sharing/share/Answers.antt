use Rattle.std.proofs.Common.{◌↔◌, ◌∷◌, ℕ, List, drop, sym, subst, arith}
use Rattle.std.proofs.lemmas.List.{take_rest}
use Rattle.rewriting.specs.Lists.{IsAmong}
use Rattle.number_sets.specs.Sets.{members}
use Rattle.automaton_runs.specs.Reached.{AreRelated}
use Rattle.automaton_runs.specs.Relations.{relation_of, relations}
use Rattle.automaton_runs.specs.Shared.{IsIn, AreShared}
use Rattle.automaton_runs.specs.declared.relations.Evaluated.{Evaluated}
use Rattle.automaton_runs.proofs.Zips.{first_and_rest}
use Rattle.automaton_runs.proofs.sharing.share.Goals as goal

pub returns-in_ok-put_related-in-len1-up : goal.returns-in_ok-put_related-in-len1-up
returns-in_ok-put_related-in-len1-up c =
    let all = members c.args.all.now in
    let qs = c.args.states.now in
    let first = relation_of c.first-item-2.result in
    let new = members c.put_related.new.set in
    let split = first_and_rest c.args.args.now c.first-item-2.result (omega (arith, c.in-len1-up.len_at_least)) c.first-item-2.is in
    let put : (k : ℕ) → IsAmong k new ↔ AreRelated (first ∷ relations (drop 1 c.args.args.now)) qs k =
    subst (λ (es : List Evaluated). (k : ℕ) → IsAmong k new ↔ AreRelated (first ∷ relations es) qs k) (take_rest c.args.args.now 1) c.in_ok-put_related-in-len1-up.ensures in
    let there = c.made_ones.ensures in
    subst (λ (es : List Evaluated). AreShared all (relations es) qs (IsIn c.made_ones.result c.put_related.new.set)) (sym split)
    (λ k. (λ h. (tt, (put k).0 ((there k).0 h)), λ p. (there k).1 ((put k).1 p.1)))

use Rattle.std.proofs.Common.{◌≡◌, ◌∙◌, ℕ, List, Some, length, take, slice_get, ap, sym, subst}
use Rattle.std.proofs.lemmas.Bool.{false≢true}
use Rattle.rewriting.specs.Prelude.{IsAmong, variable_occurrences}
use Rattle.term_core.specs.View.{view}
use Rattle.automaton_runs.specs.Choices.{Batch}
use Rattle.automaton_runs.specs.Reached.{AreWhere}
use Rattle.rewriting.proofs.Members.{place_among}
use Rattle.tree_automata.specs.Kept.{IsKeptBy}
use Rattle.tree_automata.specs.Batches.{batch_at}
use Rattle.tree_automata.proofs.Lists.{first_of}
use Rattle.tree_automata.proofs.Fronts.{kept_with_all}
use Rattle.tree_automata.proofs.closure.kept_always.Goals as goal

pub returns : goal.returns
returns c =
    let r = c.args.inclusion.now in
    let a = c.args.index.now in
    let names = c.args.names.now in
    let t = view c.args.right.now in
    let choices = c.args.choices.now in
    let first = c.in-Some.front.now.items in
    let at = subst (λ (fs : List (List ℕ)). slice_get fs 0 ≡ Some c.in-Some.front.now.items) c.fronts.ensures (first_of c.fronts.result.now c.in-Some.front.now (sym c.in-Some.ensures.value)) in
    let long : c.len.result ≡ length c.in-Some.front.now.items = c.len.ensures ∙ c.in-Some.front.now.ok.0 in
    let occurrences : variable_occurrences (view c.args.right.now) ≡ c.deref.result.now = sym (c.deref.ensures.value ∙ c.in_ok-occurrences.ensures) in
    let is : c.in_ok-batch.batch ≡ batch_at c.args.choices.now c.in-Some.front.now.items = c.in_ok-batch.ensures ∙ ap (batch_at c.args.choices.now) c.deref-2.ensures.value in
    kept_with_all r a names t choices first c.in_ok-kept.field-0 c.requires (place_among choices.fronts 0 first at)
    (λ x i j. false≢true (c.if-do_share.ensures.1 (x, subst (λ (n : ℕ). IsAmong x (take n names)) (sym long) i, subst (IsAmong x) occurrences j)))
    (subst (λ (b : Batch). AreWhere b (IsKeptBy r a names t) c.in_ok-kept.field-0) is c.in_ok-kept.ensures)

use Rattle.std.proofs.Common.{◌≡◌, ◌∙◌, true, false, sym, rules}
use Rattle.std.proofs.lemmas.Bool.{false≢true, not-true, not-false}
use Rattle.term_core.specs.View.{view}
use Rattle.cert_model.specs.EvidenceView.{automaton_view}
use Rattle.tree_automata.proofs.Listed.{narrow_by}
use Rattle.tree_automata.proofs.exclusion.judge_exclusion.Goals as goal

pub returns-then-not-branch : goal.returns-then-not-branch
returns-then-not-branch c =
    let a = automaton_view c.args.a.now in
    let t = view c.args.t.now in
    let answer : c.in_ok-is_excluded.field-0 ≡ false = search (rules, not-true) in (
      narrow_by a t c.len-length.result c.in_ok-occurrences.field-0.items (c.len-length.ensures ∙ c.in_ok-occurrences.field-0.ok.0) c.in_ok-occurrences.ensures c.if-has_more_choices.ensures.1,
      λ ex. false≢true (sym answer ∙ c.in_ok-is_excluded.ensures.1 ex),
    )

pub returns : goal.returns
returns c =
    let a = automaton_view c.args.a.now in
    let t = view c.args.t.now in
    let answer : c.in_ok-is_excluded.field-0 ≡ true = search (rules, not-false) in (
      narrow_by a t c.len-length.result c.in_ok-occurrences.field-0.items (c.len-length.ensures ∙ c.in_ok-occurrences.field-0.ok.0) c.in_ok-occurrences.ensures c.if-has_more_choices.ensures.1,
      c.in_ok-is_excluded.ensures.0 answer,
    )

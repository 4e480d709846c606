use Rattle.std.proofs.Common.{◌≡◌, ◌-◌, List, map, length, ap, ◌∙◌, subst, arith}
use Rattle.std.proofs.lemmas.List.{length-map}
use Rattle.term_core.specs.RuleView.{condition_view}
use Rattle.critical_pairs.specs.View.{overlap_view}
use Rattle.pair_check.proofs.Ready.{ready, few_conditions}
use Rattle.valid_certificates.specs.Kinds.{ortho}
use Rattle.first_found.specs.Items.{one}
use Rattle.search_spaces.specs.PairItems.{PairItem, GivesEvidence, ortho_items, ortho_items_of}
use Rattle.pair_search.specs.Answers.{WalkAnswers}
use Rattle.ortho_search.specs.ItemView.{item_view}
use Rattle.ortho_search.specs.declared.items.Item.{Item}
use Rattle.ortho_search.proofs.trying.try_overlap.Goals as goal

pub overflow_cast-outer_count : goal.overflow_cast-outer_count
overflow_cast-outer_count c =
    let few = few_conditions c.args.sys.now c.args.overlap.now c.rules_are_sound.ensures c.requires.overlap in
    omega (arith, few, c.len.ensures, c.args.overlap.now.conds.ok.0)

pub overflow_sub-outer_count : goal.overflow_sub-outer_count
overflow_sub-outer_count c =
    let small = ready c.args.sys.now (overlap_view c.args.overlap.now) c.rules_are_sound.ensures c.requires.overlap in
    let counted = small.counted in
    let long = length-map c.args.overlap.now.conds.items condition_view in
    omega (arith, counted, long, c.len.ensures, c.args.overlap.now.conds.ok.0)

pub items_of-requires : goal.items_of-requires
items_of-requires c =
    let small = ready c.args.sys.now (overlap_view c.args.overlap.now) c.rules_are_sound.ensures c.requires.overlap in
    let few = small.few in
    let counted = small.counted in
    let long = length-map c.args.overlap.now.conds.items condition_view in
    record { few = omega (arith, few, counted, long, c.len.ensures, c.args.overlap.now.conds.ok.0) }

pub returns-clause-answer : goal.returns-clause-answer
returns-clause-answer c =
    let o = overlap_view c.args.overlap.now in
    let inner = c.args.overlap.now.inner_conds in
    let long : c.len.result ≡ length (map condition_view c.args.overlap.now.conds.items) =
    omega (arith, length-map c.args.overlap.now.conds.items condition_view, c.len.ensures, c.args.overlap.now.conds.ok.0) in
    let same : map item_view c.deref.result.now ≡ ortho_items o =
    ap (λ (xs : List Item). map item_view xs) c.deref.ensures.value ∙ c.in_ok-items.ensures ∙ ap (λ n. ortho_items_of inner (n - inner)) long in
    subst (λ (xs : List PairItem). WalkAnswers one (GivesEvidence ortho c.args.sys.now o) xs c.args.budget.now c.try_items.new.budget c.try_items.result) same c.try_items.ensures.answer

use Rattle.std.proofs.Common.{◌≡◌, ◌-◌, ◌<◌, Some, slice_get, length, map, sym, ◌∙◌, subst, arith}
use Rattle.std.proofs.lemmas.List.{length-map}
use Rattle.std.proofs.lemmas.Option.{slice_get_within}
use Rattle.rewriting.specs.Lists.{IsAmong}
use Rattle.term_core.specs.Prelude.{head_view, rule_view}
use Rattle.lpo.specs.Listed.{ListedAnswers}
use Rattle.lpo.specs.Rules.{DeadAnswers}
use Rattle.unravel.proofs.NumberLists.{listed_at}
use Rattle.precedence_search.proofs.Seeing.{last_shown, sees_one, sees_order, last_has_symbol}
use Rattle.precedence_search.proofs.walk.are_dead.Goals as goal

pub returns-in_default : goal.returns-in_default
returns-in_default c =
    λ sys of alive.
    let hs = map head_view c.args.heads.now in
    let order = map head_view c.args.walk.now.prefix.items in
    let ps = c.args.walk.now.places.items in
    let rs = map rule_view c.args.rules.now in
    sees_one sys hs rs of order ps c.requires.in_place c.is_one_dead.result (subst (λ z. DeadAnswers z rs c.is_one_dead.result) c.deref-in_default.ensures.value c.is_one_dead.ensures)

pub bounds-listed-f : goal.bounds-listed-f
bounds-listed-f c =
    let within = slice_get_within (map head_view c.args.heads.now) c.in-Some-symbol_of.f _ c.in-Some-symbol_of.ensures in
    let many = length-map c.args.heads.now head_view in
    let count = c.requires.count in
    omega (arith, within, many, count)

pub offset_bounds-listed-f : goal.offset_bounds-listed-f
offset_bounds-listed-f c =
    let within = slice_get_within (map head_view c.args.heads.now) c.in-Some-symbol_of.f _ c.in-Some-symbol_of.ensures in
    let many = length-map c.args.heads.now head_view in
    let few = c.requires.few in
    omega (arith, within, many, few)

pub is_listed_dead-requires : goal.is_listed_dead-requires
is_listed_dead-requires c =
    let f = c.in-Some-symbol_of.f in
    let within = slice_get_within (map head_view c.args.heads.now) f _ c.in-Some-symbol_of.ensures in
    let many = length-map c.args.heads.now head_view in
    let count = c.requires.count in
    let same = listed_at c.args.listed.now f c.index-listed-f.result (omega (arith, within, many, count)) c.index-listed-f.is in
    λ n i. (c.requires.listed.only f n (subst (IsAmong n) (c.deref-in-Some-symbol_of-2.ensures.value ∙ sym same) i)).0

pub returns-in-Some-symbol_of : goal.returns-in-Some-symbol_of
returns-in-Some-symbol_of c =
    λ sys of alive.
    let hs = map head_view c.args.heads.now in
    let order = map head_view c.args.walk.now.prefix.items in
    let ps = c.args.walk.now.places.items in
    let rs = map rule_view c.args.rules.now in
    let f = c.in-Some-symbol_of.f in
    let b = c.is_listed_dead.result in
    let items = c.args.walk.now.prefix.items in
    let last : slice_get items (length items - 1) ≡ Some c.in-Some.head.now = subst (λ z. slice_get z (length z - 1) ≡ Some c.in-Some.head.now) c.deref.ensures.value (sym c.in-Some.ensures.value) in
    let shown = last_shown items c.in-Some.head.now last in
    let within = slice_get_within hs f _ c.in-Some-symbol_of.ensures in
    let many = length-map c.args.heads.now head_view in
    let count = c.requires.count in
    let inside = (let lt : f < length c.args.listed.now = omega (arith, within, many, count) in lt) in
    let same = listed_at c.args.listed.now f c.index-listed-f.result inside c.index-listed-f.is in
    let answer =
    subst (λ z. ListedAnswers ps rs z b) (c.deref-in-Some-symbol_of-2.ensures.value ∙ sym same)
    (subst (λ z. ListedAnswers z rs c.deref-in-Some-symbol_of-2.result.now b) c.deref-in-Some-symbol_of.ensures.value c.is_listed_dead.ensures) in
    let most = length-map c.args.rules.now rule_view in
    sees_order sys hs rs of order shown.0 (head_view c.in-Some.head.now) f shown.1
    c.in-Some-symbol_of.ensures ps c.requires.in_place c.args.listed.now (length c.args.rules.now) b c.requires.listed (omega (arith, most)) inside answer alive

pub returns-in-None : goal.returns-in-None
returns-in-None c =
    λ sys of alive.
    let hs = map head_view c.args.heads.now in
    let order = map head_view c.args.walk.now.prefix.items in
    let ps = c.args.walk.now.places.items in
    let items = c.args.walk.now.prefix.items in
    let last : slice_get items (length items - 1) ≡ Some c.in-Some.head.now = subst (λ z. slice_get z (length z - 1) ≡ Some c.in-Some.head.now) c.deref.ensures.value (sym c.in-Some.ensures.value) in
    let shown = last_shown items c.in-Some.head.now last in
    absurd (last_has_symbol hs order shown.0 (head_view c.in-Some.head.now) shown.1 ps
    c.requires.in_place c.in-None.ensures)

use Rattle.std.proofs.Common.{◌≡◌, ◌+◌, ◌-◌, inl, inr, List, [], true, false, refl, map, length, ap, ◌∙◌, sym, subst, arith}
use Rattle.std.proofs.lemmas.List.{length-map}
use Rattle.interpretations.proofs.Bound.{few_heads}
use Rattle.rewriting.specs.Unraveling.{Head}
use Rattle.term_core.specs.Prelude.{head_view, rule_view}
use Rattle.lpo.specs.Places.{ArePlaces}
use Rattle.lpo.proofs.HeadOrder.{sorted_heads}
use Rattle.cc_count.proofs.Spending.{none_left}
use Rattle.cc_count.proofs.Paid.{at_start, goes_free, unspent, stops, goes_on, spent_one, ends}
use Rattle.precedence_search.proofs.Visits.{alive_before, fewer_left, goes, smaller, sound_of}
use Rattle.precedence_search.proofs.Walking.{begin, found_there, stops_there}
use Rattle.precedence_search.proofs.walk.walk_precedences.Goals as goal

pub visits-init : goal.visits-init
visits-init c =
    let empty : map head_view c.new.result.items ≡ [] = ap (map head_view) c.new.ensures.items in
    let heads_are = ap (map head_view) c.deref-heads.ensures.value ∙ c.requires.heads in
    let few = few_heads c.args.sys.now c.args.unraveled.now.system c.requires.system c.rules-rules.ensures.sound in
    let many = length-map c.deref-heads.result.now head_view in
    let same = ap length heads_are in
    record {
      in_place = subst (λ (z : List Head). ArePlaces (map head_view c.deref-heads.result.now) z (length z) c.in_ok-places.places.items) (sym empty) c.in_ok-places.ensures;
      paid = at_start c.args.budget.now (begin c.args.sys.now (map head_view c.new.result.items) empty);
      sorted = sorted_heads c.args.sys.now (map head_view c.deref-heads.result.now) heads_are;
      few = omega (arith, few, many, same);
      sound = sound_of c.args.sys.now c.args.unraveled.now.system (map head_view c.deref-heads.result.now) (map rule_view c.rules-rules.result.now)
          c.requires.system heads_are c.rules-rules.ensures.rules c.rules-rules.ensures.sound;
    }

pub go_down-requires-clause-some : goal.go_down-requires-clause-some
go_down-requires-clause-some c =
    let seen = c.in-Alive.ensures c.args.sys.now c.visits.invariant.sound (alive_before c.visits.invariant.paid) in
    let less = seen.1 in
    let one = length-map c.visits.walk.prefix.items head_view in
    let two = length-map c.deref-heads.result.now head_view in
    let same = ap length c.visits.invariant.sound.of.heads_are in
    omega (arith, less, one, two, same)

-- behind one that is alive
pub visits-preserved-in_ok-go_down-in-Alive : goal.visits-preserved-in_ok-go_down-in-Alive
visits-preserved-in_ok-go_down-in-Alive c =
    let seen = c.in-Alive.ensures c.args.sys.now c.visits.invariant.sound (alive_before c.visits.invariant.paid) in
    record {
      in_place = c.in_ok-go_down-in-Alive.ensures.in_place;
      paid =
          goes_free c.visits.invariant.paid refl
          (λ n here. (c.in_ok-go_down-in-Alive.ensures.down c.args.sys.now c.visits.invariant.sound.of.heads_are).1 n here seen.0);
      sorted = c.visits.invariant.sorted;
      few = c.visits.invariant.few;
      sound = c.visits.invariant.sound;
    }

pub visits-smaller-in_ok-go_down-in-Alive : goal.visits-smaller-in_ok-go_down-in-Alive
visits-smaller-in_ok-go_down-in-Alive c =
    let seen = c.in-Alive.ensures c.args.sys.now c.visits.invariant.sound (alive_before c.visits.invariant.paid) in
    let all = length c.deref-heads.result.now in
    let down = (c.in_ok-go_down-in-Alive.ensures.down c.args.sys.now c.visits.invariant.sound.of.heads_are).0 in
    let less = seen.1 in
    let same = ap length c.visits.invariant.sound.of.heads_are in
    let many = length-map c.deref-heads.result.now head_view in
    let before = length-map c.visits.walk.prefix.items head_view in
    let behind = length-map c.go_down.new.walk.prefix.items head_view in
    fewer_left c.visits.budget.left (all + 1) (all - length c.go_down.new.walk.prefix.items) (all - length c.visits.walk.prefix.items)
    (omega (arith, down, less, same, many, before, behind))

pub returns-in_err-go_down-in-Alive-clause-kept : goal.returns-in_err-go_down-in-Alive-clause-kept
returns-in_err-go_down-in-Alive-clause-kept c = unspent c.visits.invariant.paid refl

-- behind one that is dead
pub visits-preserved : goal.visits-preserved
visits-preserved c =
    let seen = c.in-Barren.ensures c.args.sys.now c.visits.invariant.sound (alive_before c.visits.invariant.paid) in
    record {
      in_place = c.in_ok-go_on-in-Barren.ensures.in_place;
      paid =
          goes_on c.visits.invariant.paid (c.if-not-take.ensures.taken refl)
          (goes c.args.sys.now (map head_view c.visits.walk.prefix.items) (map head_view c.go_on.new.walk.prefix.items) c.in_ok-go_on-in-Barren.field-0 true c.if-not-branch.false
          (λ n done. c.in_ok-go_on-in-Barren.ensures.goes c.args.sys.now n c.visits.invariant.sound.of.heads_are done) seen);
      sorted = c.visits.invariant.sorted;
      few = c.visits.invariant.few;
      sound = c.visits.invariant.sound;
    }

pub visits-smaller : goal.visits-smaller
visits-smaller c =
    let all = length c.deref-heads.result.now in
    let unit = (c.if-not-take.ensures.taken refl).left in
    smaller c.take.new.self.left c.visits.budget.left (all + 1) (all - length c.go_on.new.walk.prefix.items) (all - length c.visits.walk.prefix.items) (omega (arith, unit)) (omega arith)

pub returns-then-not-branch-clause-answer : goal.returns-then-not-branch-clause-answer
returns-then-not-branch-clause-answer c =
    let seen = c.in-Barren.ensures c.args.sys.now c.visits.invariant.sound (alive_before c.visits.invariant.paid) in
    ends c.visits.invariant.paid (c.if-not-take.ensures.taken refl)
    (λ n here. inl (goes c.args.sys.now (map head_view c.visits.walk.prefix.items) (map head_view c.go_on.new.walk.prefix.items) c.in_ok-go_on-in-Barren.field-0 false c.if-not-branch.true
    (λ n done. c.in_ok-go_on-in-Barren.ensures.goes c.args.sys.now n c.visits.invariant.sound.of.heads_are done) seen n here))

pub returns-then-not-branch-clause-kept : goal.returns-then-not-branch-clause-kept
returns-then-not-branch-clause-kept c = spent_one c.visits.invariant.paid (c.if-not-take.ensures.taken refl)

pub returns-in_err-go_on-in-Barren-clause-kept : goal.returns-in_err-go_on-in-Barren-clause-kept
returns-in_err-go_on-in-Barren-clause-kept c = spent_one c.visits.invariant.paid (c.if-not-take.ensures.taken refl)

-- at a good one, and where no unit is left
pub returns-in-Good-clause-answer : goal.returns-in-Good-clause-answer
returns-in-Good-clause-answer c =
    let seen = c.in-Good.ensures c.args.sys.now c.visits.invariant.sound (alive_before c.visits.invariant.paid) in
    ends c.visits.invariant.paid (c.if-not-take-2.ensures.taken refl)
    (λ n here. found_there c.args.sys.now (map head_view c.visits.walk.prefix.items) n here seen.0 (c.requires.fits, seen.1))

pub returns-in-Good-clause-kept : goal.returns-in-Good-clause-kept
returns-in-Good-clause-kept c = spent_one c.visits.invariant.paid (c.if-not-take-2.ensures.taken refl)

pub returns-then-not-take-clause-answer : goal.returns-then-not-take-clause-answer
returns-then-not-take-clause-answer c =
    let seen = c.in-Barren.ensures c.args.sys.now c.visits.invariant.sound (alive_before c.visits.invariant.paid) in
    stops c.visits.invariant.paid (c.if-not-take.ensures.none refl) (none_left c.visits.budget c.if-not-take.ensures.some.1)
    (λ n here. stops_there c.args.sys.now (map head_view c.visits.walk.prefix.items) n here (inl seen))

pub returns-then-not-take-clause-kept : goal.returns-then-not-take-clause-kept
returns-then-not-take-clause-kept c = unspent c.visits.invariant.paid (c.if-not-take.ensures.none refl)

pub returns-then-not-take-2-clause-answer : goal.returns-then-not-take-2-clause-answer
returns-then-not-take-2-clause-answer c =
    let seen = c.in-Good.ensures c.args.sys.now c.visits.invariant.sound (alive_before c.visits.invariant.paid) in
    stops c.visits.invariant.paid (c.if-not-take-2.ensures.none refl) (none_left c.visits.budget c.if-not-take-2.ensures.some.1)
    (λ n here. stops_there c.args.sys.now (map head_view c.visits.walk.prefix.items) n here (inr seen.0))

pub returns-then-not-take-2-clause-kept : goal.returns-then-not-take-2-clause-kept
returns-then-not-take-2-clause-kept c = unspent c.visits.invariant.paid (c.if-not-take-2.ensures.none refl)

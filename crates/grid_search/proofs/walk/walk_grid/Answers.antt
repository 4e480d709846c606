use Rattle.std.proofs.Common.{◌≡◌, inl, inr, Ok, true, false, refl, map, ap}
use Rattle.cert_model.specs.CertificateView.{linear_entry_view}
use Rattle.grid_search.specs.Walks.{VisitAnswers}
use Rattle.grid_search.specs.declared.walk.Seen.{Seen}
use Rattle.grid_search.specs.declared.walk.Seen.TheVariants.{Alive, Dead, Good}
use Rattle.cc_count.proofs.Spending.{none_left}
use Rattle.cc_count.proofs.Paid.{at_start, goes_free, spent_one, goes_on, ends, stops}
use Rattle.grid_search.proofs.Visits.{seen, goes}
use Rattle.grid_search.proofs.Walking.{begin, go_down, found_there, stops_there}
use Rattle.grid_search.proofs.walk.walk_grid.Goals as goal
use Rattle.grid_search.proofs.walk.walk_grid.Goals.{In_ok-visit}

-- what is seen of the entries that the walk holds
seen_here : (c : In_ok-visit) (s : Seen) → c.in_ok-visit.field-0 ≡ s → VisitAnswers c.args.judge.now (map linear_entry_view c.visits.prefix.items) (Ok s)
seen_here c s is = seen c.args.judge.now c.deref.result.now c.visits.prefix.items c.in_ok-visit.field-0 s c.deref.ensures.value is c.in_ok-visit.ensures

pub visits-init : goal.visits-init
visits-init c = at_start c.args.budget.now (begin c.args.judge.now (map linear_entry_view c.new-prefix.result.items) (ap (map linear_entry_view) c.new-prefix.ensures.items))

pub visits-preserved-in_ok-go_down-in-Alive : goal.visits-preserved-in_ok-go_down-in-Alive
visits-preserved-in_ok-go_down-in-Alive c =
    let (alive, less) = seen_here (goal.at.visits-preserved-in_ok-go_down-in-Alive c).In_ok-visit Alive c.in-Alive.is in
    goes_free c.visits.invariant refl
    (λ n here. go_down c.args.judge.now (map linear_entry_view c.visits.prefix.items) (map linear_entry_view c.go_down.new.prefix.items) n here alive c.in_ok-go_down-in-Alive.ensures)

pub returns-in_err-go_on-in-Dead-clause-kept : goal.returns-in_err-go_on-in-Dead-clause-kept
returns-in_err-go_on-in-Dead-clause-kept c = spent_one c.visits.invariant (c.if-not-take.ensures.taken refl)

pub returns-then-not-branch-clause-answer : goal.returns-then-not-branch-clause-answer
returns-then-not-branch-clause-answer c =
    let dead = seen_here (goal.at.returns-then-not-branch-clause-answer c).In_ok-visit Dead c.in-Dead.is in
    ends c.visits.invariant (c.if-not-take.ensures.taken refl)
    (λ n here. inl (goes c.args.judge.now (map linear_entry_view c.visits.prefix.items) (map linear_entry_view c.go_on.new.prefix.items) c.in_ok-go_on-in-Dead.field-0 false
    c.if-not-branch.true c.in_ok-go_on-in-Dead.ensures dead n here))

pub returns-then-not-branch-clause-kept : goal.returns-then-not-branch-clause-kept
returns-then-not-branch-clause-kept c = spent_one c.visits.invariant (c.if-not-take.ensures.taken refl)

pub visits-preserved : goal.visits-preserved
visits-preserved c =
    let dead = seen_here (goal.at.visits-preserved c).In_ok-visit Dead c.in-Dead.is in
    goes_on c.visits.invariant (c.if-not-take.ensures.taken refl)
    (goes c.args.judge.now (map linear_entry_view c.visits.prefix.items) (map linear_entry_view c.go_on.new.prefix.items) c.in_ok-go_on-in-Dead.field-0 true
    c.if-not-branch.false c.in_ok-go_on-in-Dead.ensures dead)

pub returns-in-Good-clause-answer : goal.returns-in-Good-clause-answer
returns-in-Good-clause-answer c =
    let (whole, judged) = seen_here (goal.at.returns-in-Good-clause-answer c).In_ok-visit Good c.in-Good.is in
    ends c.visits.invariant (c.if-not-take-2.ensures.taken refl) (λ n here. found_there c.args.judge.now (map linear_entry_view c.visits.prefix.items) n here whole judged)

pub returns-in-Good-clause-kept : goal.returns-in-Good-clause-kept
returns-in-Good-clause-kept c = spent_one c.visits.invariant (c.if-not-take-2.ensures.taken refl)

-- where no unit is left
pub returns-then-not-take-clause-answer : goal.returns-then-not-take-clause-answer
returns-then-not-take-clause-answer c =
    let dead = seen_here (goal.at.returns-then-not-take-clause-answer c).In_ok-visit Dead c.in-Dead.is in
    stops c.visits.invariant (c.if-not-take.ensures.none refl) (none_left c.visits.budget c.if-not-take.ensures.some.1)
    (λ n here. stops_there c.args.judge.now (map linear_entry_view c.visits.prefix.items) n here (inl dead))

pub returns-then-not-take-2-clause-answer : goal.returns-then-not-take-2-clause-answer
returns-then-not-take-2-clause-answer c =
    let (whole, judged) = seen_here (goal.at.returns-then-not-take-2-clause-answer c).In_ok-visit Good c.in-Good.is in
    stops c.visits.invariant (c.if-not-take-2.ensures.none refl) (none_left c.visits.budget c.if-not-take-2.ensures.some.1)
    (λ n here. stops_there c.args.judge.now (map linear_entry_view c.visits.prefix.items) n here (inr whole))

-- What following the solutions of conditions gives and asks for.
use Rattle.std.specs.Prelude.{List, ◌∷◌, flat_map, map, option_to_list, Result}
use Rattle.cc_count.specs.Counts.{Counts}
use Rattle.rewriting.specs.Prelude.{Term, Condition}
use Rattle.reach_lists.specs.Lists.{total, at_site, asked_at, by_solution}
use Rattle.reach_lists.specs.Sites.{Site}
use Rattle.reach_lists.specs.Solutions.{Reached, Solution, extended}
use Rattle.reach_lists.specs.Paths.{followed, asked_on_paths}
use Rattle.term_core.specs.RuleView.{rule_view, condition_view}
use Rattle.reach.specs.declared.listed.ReachStop.{ReachStop}
use Rattle.reach.specs.declared.search.Aim.{Aim}
use Rattle.reach.specs.declared.sites.Search.{Search}
use Rattle.reach.specs.declared.splices.Redex.{Redex}
use Rattle.reach.specs.EntryView.{entry_view}
use Rattle.reach.specs.Offers.{Takes}
use Rattle.reach.specs.Ready.{inner, price}

-- the list takes what it takes of the terms, for a unit each, and the lists that were asked for are paid
abbrev pub Offers : Search → List Reached → List Term → List Reached → List Reached → Counts → Counts → Result (Unit {0}) ReachStop → Type 0
Offers s rs ts l m before after result = Takes l rs (total (price s) ts) m before after result

-- the list is offered what steps at places make of a term
abbrev pub StepsAt : Search → Reached → List Site → List Reached → List Reached → Counts → Counts → Result (Unit {0}) ReachStop → Type 0
StepsAt s u sites l m before after result = Offers s (flat_map (at_site (inner s) u) sites) (flat_map (asked_at (inner s)) sites) l m before after result

-- the terms that a solution of the rule's conditions gives
abbrev pub gives : Redex → Solution → List Reached
gives x = by_solution (entry_view x.place.from.now) x.place.pos.now x.number (rule_view x.rule.now)

-- the solutions where a listed term meets a condition and others are left, and the lists that they ask for
abbrev pub behind : Search → Condition → List Condition → Solution → Reached → List Solution
behind s c cs p w = flat_map (followed (inner s) cs) (option_to_list (extended c p w))

abbrev pub asked_behind : Search → Condition → List Condition → Solution → Reached → List Term
asked_behind s c cs p w = flat_map (asked_on_paths (inner s) cs) (option_to_list (extended c p w))

-- what f gives of these solutions
abbrev pub gives_behind : Search → (Solution → List Reached) → Condition → List Condition → Solution → Reached → List Reached
gives_behind s f c cs p w = flat_map f (behind s c cs p w)

-- the list is offered what f gives of the solutions of conditions in which one goes on
abbrev pub Follows : Search → (Solution → List Reached) → List Condition → Solution → List Reached → List Reached → Counts → Counts → Result (Unit {0}) ReachStop → Type 0
Follows s f cs p l m before after result = Offers s (flat_map f (followed (inner s) cs p)) (asked_on_paths (inner s) cs p) l m before after result

-- the same, where listed terms are to meet the first condition
abbrev pub FollowsAll : Search → (Solution → List Reached) → Condition → List Condition → Solution → List Reached → List Reached → List Reached → Counts → Counts
    → Result (Unit {0}) ReachStop → Type 0
FollowsAll s f c cs p ws l m before after result = Offers s (flat_map (gives_behind s f c cs p) ws) (flat_map (asked_behind s c cs p) ws) l m before after result

-- the same, where one is to meet it
abbrev pub FollowsOne : Search → (Solution → List Reached) → Condition → List Condition → Solution → Reached → List Reached → List Reached → Counts → Counts
    → Result (Unit {0}) ReachStop → Type 0
FollowsOne s f c cs p w l m before after result = Offers s (gives_behind s f c cs p w) (asked_behind s c cs p w) l m before after result

-- the conditions behind that of an aim
abbrev pub behind_aim : Aim → List Condition
behind_aim a = map condition_view a.later.now

-- what a listed term that is to meet its condition gives, and the lists that this asks for
abbrev pub aim_gives : Search → Aim → Solution → Reached → List Reached
aim_gives s a = gives_behind s (gives a.redex.now) (condition_view a.cond.now) (behind_aim a)

abbrev pub aim_asks : Search → Aim → Solution → Reached → List Term
aim_asks s a = asked_behind s (condition_view a.cond.now) (behind_aim a)

-- the list is offered what follows of an aim; of listed terms that are to meet its condition; and of one
abbrev pub FollowsAim : Search → Aim → Solution → List Reached → List Reached → Counts → Counts → Result (Unit {0}) ReachStop → Type 0
FollowsAim s a p l m before after result = Follows s (gives a.redex.now) (condition_view a.cond.now ∷ behind_aim a) p l m before after result

abbrev pub FollowsTerms : Search → Aim → Solution → List Reached → List Reached → List Reached → Counts → Counts → Result (Unit {0}) ReachStop → Type 0
FollowsTerms s a p ws l m before after result = FollowsAll s (gives a.redex.now) (condition_view a.cond.now) (behind_aim a) p ws l m before after result

abbrev pub FollowsTerm : Search → Aim → Solution → Reached → List Reached → List Reached → Counts → Counts → Result (Unit {0}) ReachStop → Type 0
FollowsTerm s a p w l m before after result = FollowsOne s (gives a.redex.now) (condition_view a.cond.now) (behind_aim a) p w l m before after result

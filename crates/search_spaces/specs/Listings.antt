-- The terms that are reached from a term under hypotheses, each with a derivation, at a cost: in few steps, with a condition depth.
use Rattle.std.specs.Prelude.{ℕ, List, [], ◌∷◌, ◌++◌, map}
use Rattle.search_spaces.specs.declared.TheConstants.{STEPS, COND_DEPTH}
use Rattle.rewriting.specs.Prelude.{Term, Condition, System}
use Rattle.reach_lists.specs.Solutions.{Reached}
use Rattle.reach_lists.specs.Lists.{reach_list, reach_cost}

abbrev pub listing : System → List Condition → Term → List Reached
listing sys hyps t = reach_list sys hyps STEPS COND_DEPTH t

abbrev pub listing_cost : System → List Condition → Term → ℕ
listing_cost sys hyps t = reach_cost sys hyps STEPS COND_DEPTH t

-- all pairs of an earlier and a later member, by the earlier, then the later
abbrev pub pairs_of : {X : Type 0} → List X → List (X × X)
pairs_of [] = []
pairs_of (x ∷ xs) = map (λ y. (x, y)) xs ++ pairs_of xs

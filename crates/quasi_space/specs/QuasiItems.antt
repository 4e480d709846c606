-- What is tried, in order, to settle an overlap of a system with a measure.
use Rattle.std.specs.Prelude.{ℕ, suc, ◌≡◌, List, [], ◌∷◌, ◌++◌, map, flat_map, length, None}
use Rattle.rewriting.specs.Rules.{Condition, System}
use Rattle.unifier_run.specs.Overlaps.{Overlap}
use Rattle.certificates.specs.Prelude.{Derivation, InfeasibilityEvidence, PairEvidence, infeasible_pair, joined_pair, unfeasible_pair}
use Rattle.valid_certificates.specs.Kinds.{quasi}
use Rattle.valid_certificates.specs.PairEvidence.{IsPairJudged}
use Rattle.reach_lists.specs.Solutions.{Reached}
use Rattle.search_spaces.specs.Listings.{listing, listing_cost, pairs_of}
use Rattle.search_spaces.specs.Refuting.{Refuting, Tries, refutings}

-- evidence that the conditions are never met; a listing that is made, at its cost, and gives nothing; derivations of a listed
-- term of each side; derivations of two listed terms of the left side of a condition
pub data QuasiItem : Type 0 where
  try_refuting : Refuting → QuasiItem
  make_listing : ℕ → QuasiItem
  try_join : Derivation → Derivation → QuasiItem
  try_reducts : ℕ → Derivation → Derivation → QuasiItem

-- joins are looked for in listings that are paid already
abbrev pub quasi_item_cost : QuasiItem → ℕ
quasi_item_cost (try_refuting r) = 1
quasi_item_cost (make_listing n) = n
quasi_item_cost (try_join d e) = 0
quasi_item_cost (try_reducts k d e) = 1

-- the evidence that the item tries
abbrev pub IsTried : System → Overlap → QuasiItem → PairEvidence → Type 0
IsTried sys o (try_refuting r) evidence = (e : InfeasibilityEvidence) × Tries sys o.pair.conditions r e × (evidence ≡ infeasible_pair e)
IsTried sys o (make_listing n) evidence = ⊥
IsTried sys o (try_join d e) evidence = evidence ≡ joined_pair d e
IsTried sys o (try_reducts k d e) evidence = evidence ≡ unfeasible_pair k d e

-- the item gives evidence that is valid in a certificate with a measure
abbrev pub GivesQuasi : System → Overlap → QuasiItem → PairEvidence → Type 0
GivesQuasi sys o item evidence = IsTried sys o item evidence × IsPairJudged quasi sys o evidence None

-- by caps, then by the automata for n conditions
abbrev pub refuting_items : ℕ → List QuasiItem
refuting_items n = map try_refuting (refutings n)

-- each term of one listing with each of another, by the first, then the second
abbrev pub joins : List Reached → List Reached → List QuasiItem
joins xs ys = flat_map (λ x. map (λ y. try_join x.by y.by) ys) xs

-- the listings of both sides of an overlap, under its conditions as hypotheses, and then the joins
abbrev pub join_items : System → Overlap → List QuasiItem
join_items sys o =
    make_listing (listing_cost sys o.pair.conditions o.pair.left) ∷ make_listing (listing_cost sys o.pair.conditions o.pair.right)
    ∷ joins (listing sys o.pair.conditions o.pair.left) (listing sys o.pair.conditions o.pair.right)

-- two listed terms that the left side of condition k reaches
abbrev pub two_reducts : ℕ → Reached × Reached → QuasiItem
two_reducts k (x, y) = try_reducts k x.by y.by

-- the listing of the left side of each condition, numbered from k, under the same hypotheses, and then the pairs in it
abbrev pub reduct_items : System → List Condition → ℕ → List Condition → List QuasiItem
reduct_items sys hyps k [] = []
reduct_items sys hyps k (c ∷ cs) =
    make_listing (listing_cost sys hyps c.left) ∷ (map (two_reducts k) (pairs_of (listing sys hyps c.left)) ++ reduct_items sys hyps (suc k) cs)

abbrev pub quasi_items : System → Overlap → List QuasiItem
quasi_items sys o = refuting_items (length o.pair.conditions) ++ (join_items sys o ++ reduct_items sys o.pair.conditions 1 o.pair.conditions)

-- What the joins of two listings give.
use Rattle.std.proofs.Common.{ℕ, ◌≡◌, ◌+◌, inl, inr, List, [], ◌∷◌, ◌++◌, map, Option, None, Some, Ok, Bor, refl, sym, ap, ◌∙◌, subst, subst₂, arith}
use Rattle.std.specs.Prelude.{false}
use Rattle.std.proofs.lemmas.Bool.{false≢true, or_parts}
use Rattle.std.proofs.lemmas.List.{map-append}
use Rattle.rewriting.specs.Prelude.{IsAmong, System, is_same}
use Rattle.rewriting.proofs.Lists.{among_left, among_middle}
use Rattle.rewriting.proofs.Tests.{equal_same}
use Rattle.unifier_run.specs.Overlaps.{Overlap}
use Rattle.certificates.specs.Evidence as math
use Rattle.certificates.specs.Evidence.{joined_pair}
use Rattle.cert_model.specs.EvidenceView.{pair_evidence_view}
use Rattle.cert_model.specs.declared.evidence.PairEvidence.{PairEvidence}
use Rattle.valid_certificates.specs.Kinds.{quasi}
use Rattle.valid_certificates.specs.PairEvidence.{IsPairJudged}
use Rattle.cc_count.specs.Counts.{Counts}
use Rattle.reach_lists.specs.Solutions.{Reached}
use Rattle.reach_lists.specs.Lists.{is_listed}
use Rattle.std.proofs.lemmas.List.Concat.{flat_map-append}
use Rattle.reach.specs.EntryView.{entry_view}
use Rattle.reach.specs.declared.listed.Entry as listed
use Rattle.cc_count.proofs.Spending.{spends_none, spends_same}
use Rattle.first_found.specs.Items.{GivesNothing, NoneGives, cost_of, IsFirst}
use Rattle.first_found.proofs.Items.{cost_append, none_append, first_here, first_left, first_right, first_within}
use Rattle.search_spaces.specs.Listings.{listing}
use Rattle.pair_search.specs.Answers.{WalkAnswers}
use Rattle.cc_count.specs.declared.Sought.TheVariants.{Found, Nothing}
use Rattle.quasi_space.specs.Laws.{AreListedAt}
use Rattle.quasi_space.specs.QuasiItems.{QuasiItem, try_join, quasi_item_cost, GivesQuasi, joins}
use Rattle.quasi_space.proofs.Joins.{joins_shared}
use Rattle.quasi_search.specs.Joins.{ShareNone, IsFirstShared, SharedAnswers}

-- the joins of one term with those of a list
abbrev joins_with : Reached → List Reached → List QuasiItem
joins_with x ys = map (λ (y : Reached). try_join x.by y.by) ys

with_free : (x : Reached) (ys : List Reached) → cost_of quasi_item_cost (joins_with x ys) ≡ 0
with_free x [] = refl
with_free x (y ∷ ys) = let rest = with_free x ys in omega (arith, rest)

joins_free : (xs ys : List Reached) → cost_of quasi_item_cost (joins xs ys) ≡ 0
joins_free [] ys = refl
joins_free (x ∷ xs) ys =
    let all = cost_append quasi_item_cost (joins_with x ys) (joins xs ys) in
    let first = with_free x ys in
    let rest = joins_free xs ys in omega (arith, all, first, rest)

module _ (sys : System) (o : Overlap) where
  abbrev Gives : QuasiItem → math.PairEvidence → Type 0
  Gives = GivesQuasi sys o

  abbrev left_list : List Reached
  left_list = listing sys o.pair.conditions o.pair.left

  abbrev right_list : List Reached
  right_list = listing sys o.pair.conditions o.pair.right

  bare_pair : (x y : Reached) → AreListedAt sys o x y → is_same y.term x.term ≡ false → GivesNothing Gives (try_join x.by y.by)
  bare_pair x y listed other e (is, valid) =
      let same : x.term ≡ y.term = (joins_shared sys o x y listed).0 (subst (λ z. IsPairJudged quasi sys o z None) is valid) in
      false≢true (sym other ∙ equal_same y.term x.term (sym same))

  bare_with : (x : Reached) → IsAmong x left_list → (ys : List Reached) → ((y : Reached) → IsAmong y ys → IsAmong y right_list) → is_listed x.term ys ≡ false
      → NoneGives Gives (joins_with x ys)
  bare_with x left [] within h = tt
  bare_with x left (y ∷ ys) within h =
      let no = or_parts (is_same y.term x.term) (is_listed x.term ys) h in (
        bare_pair x y (record { left = left; right = within y (inl refl) }) no.0,
        bare_with x left ys (λ z k. within z (inr k)) no.1,
      )

  bare_joins : (xs : List Reached) → ((x : Reached) → IsAmong x xs → IsAmong x left_list) → ShareNone xs right_list → NoneGives Gives (joins xs right_list)
  bare_joins [] within h = tt
  bare_joins (x ∷ xs) within (h, hs) =
      none_append Gives (joins_with x right_list) (joins xs right_list) (bare_with x (within x (inl refl)) right_list (λ y k. k) h) (bare_joins xs (λ z k. within z (inr k)) hs)

  module _ (x y : Reached) (shared : IsFirstShared left_list right_list x y) where
    left_is : (z : Reached) → IsAmong z shared.earlier → IsAmong z left_list
    left_is z k = subst (IsAmong z) (sym shared.left) (among_left z shared.earlier (x ∷ shared.later) k)

    right_is : (z : Reached) → IsAmong z shared.right.before → IsAmong z right_list
    right_is z k = subst (IsAmong z) (sym shared.right.split) (among_left z shared.right.before (y ∷ shared.right.behind) k)

    x_listed : IsAmong x left_list
    x_listed = subst (IsAmong x) (sym shared.left) (among_middle x shared.earlier shared.later)

    y_listed : IsAmong y right_list
    y_listed = subst (IsAmong y) (sym shared.right.split) (among_middle y shared.right.before shared.right.behind)

    gives : Gives (try_join x.by y.by) (joined_pair x.by y.by)
    gives = (refl, (joins_shared sys o x y (record { left = x_listed; right = y_listed })).1 (sym shared.right.is_term))

    in_row : (n : ℕ) × IsFirst quasi_item_cost Gives (joins_with x right_list) (joined_pair x.by y.by) n
    in_row =
        let row : joins_with x right_list ≡ joins_with x shared.right.before ++ try_join x.by y.by ∷ joins_with x shared.right.behind =
        ap (joins_with x) shared.right.split ∙ map-append (λ (z : Reached). try_join x.by z.by) shared.right.before (y ∷ shared.right.behind) in (
          cost_of quasi_item_cost (joins_with x shared.right.before) + 0,
          subst (λ z. IsFirst quasi_item_cost Gives z (joined_pair x.by y.by) (cost_of quasi_item_cost (joins_with x shared.right.before) + 0)) (sym row)
              (first_here Gives quasi_item_cost (joins_with x shared.right.before) (try_join x.by y.by) (joins_with x shared.right.behind) (joined_pair x.by y.by)
              (bare_with x x_listed shared.right.before right_is shared.right.none_before) gives),
        )

    in_all : (n : ℕ) × IsFirst quasi_item_cost Gives (joins left_list right_list) (joined_pair x.by y.by) n
    in_all =
        let whole : joins left_list right_list ≡ joins shared.earlier right_list ++ (joins_with x right_list ++ joins shared.later right_list) =
        ap (λ z. joins z right_list) shared.left ∙ flat_map-append (λ (z : Reached). joins_with z right_list) shared.earlier (x ∷ shared.later) in
        let row = in_row in (
          cost_of quasi_item_cost (joins shared.earlier right_list) + row.0,
          subst (λ z. IsFirst quasi_item_cost Gives z (joined_pair x.by y.by) (cost_of quasi_item_cost (joins shared.earlier right_list) + row.0)) (sym whole)
              (first_right Gives quasi_item_cost (joins shared.earlier right_list) (joins_with x right_list ++ joins shared.later right_list) (joined_pair x.by y.by) row.0
              (bare_joins shared.earlier left_is shared.none_earlier)
              (first_left Gives quasi_item_cost (joins_with x right_list) (joins shared.later right_list) (joined_pair x.by y.by) row.0 row.1)),
        )

    -- the first shared term gives the evidence, for nothing
    pub join_given : (a : Counts) (e : PairEvidence) → pair_evidence_view e ≡ joined_pair x.by y.by → WalkAnswers quasi_item_cost Gives (joins left_list right_list) a a (Ok (Found e))
    join_given a e is =
        let first = in_all in
        let most = first_within Gives quasi_item_cost (joins left_list right_list) (joined_pair x.by y.by) first.0 first.1 in
        let free = joins_free left_list right_list in
        (first.0, spends_same a a 0 first.0 (omega (arith, most, free)) (spends_none a), subst (λ z. IsFirst quasi_item_cost Gives (joins left_list right_list) z first.0) (sym is) first.1)

  -- where no term is shared, there is no join
  pub no_join : ShareNone left_list right_list → (a : Counts) → WalkAnswers quasi_item_cost Gives (joins left_list right_list) a a (Ok Nothing)
  no_join none a = (
    spends_same a a 0 (cost_of quasi_item_cost (joins left_list right_list)) (sym (joins_free left_list right_list)) (spends_none a),
    bare_joins left_list (λ z k. k) none,
  )

  -- what was found in lists that are the listings
  module _ (left right : List Reached) (left_is : left ≡ left_list) (right_is : right ≡ right_list) (f : Option (Bor listed.Entry × Bor listed.Entry)) (h : SharedAnswers left right (Ok f)) where
    at_listings : SharedAnswers left_list right_list (Ok f)
    at_listings = subst₂ (λ xs ys. SharedAnswers xs ys (Ok f)) left_is right_is h

    pub shared_given : (x y : Bor listed.Entry) → f ≡ Some (x, y) → (a : Counts) (e : PairEvidence) → pair_evidence_view e ≡ joined_pair (entry_view x.now).by (entry_view y.now).by
        → WalkAnswers quasi_item_cost Gives (joins left_list right_list) a a (Ok (Found e))
    shared_given x y is a e same = join_given (entry_view x.now) (entry_view y.now) (subst (λ z. SharedAnswers left_list right_list (Ok z)) is at_listings) a e same

    pub none_given : f ≡ None → (a : Counts) → WalkAnswers quasi_item_cost Gives (joins left_list right_list) a a (Ok Nothing)
    none_given is a = no_join (subst (λ z. SharedAnswers left_list right_list (Ok z)) is at_listings) a

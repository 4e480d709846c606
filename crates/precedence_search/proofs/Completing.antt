-- A rule that the last symbol makes dead has it, and where all symbols stand and no rule is dead the precedence is good.
use Rattle.std.proofs.Common.{◌≡◌, ◌⊎◌, inl, inr, ℕ, zero, suc, ◌<◌, ◌≤◌, true, false, List, [], ◌∷◌, ◌++◌, length, slice_get, Some, refl, ap, ◌∙◌, arith}
use Rattle.std.proofs.lemmas.Bool.{both_ways, cases_Bool, cases_lt}
use Rattle.std.proofs.lemmas.List.{length-append}
use Rattle.std.proofs.lemmas.Option.{slice_get_within}
use Rattle.general_lemmas.proofs.Places.{slice_get_shorter, slice_get_seam}
use Rattle.rewriting.specs.Prelude.{IsAmong, rule_at, EachRule, IsOver, AreOver, IsSystem, Term, var, app, Terms, nil, cons, Head, unraveled, heads}
use Rattle.rewriting.specs.Rules as math
use Rattle.rewriting.proofs.Laws.{well_formed}
use Rattle.interpretations.proofs.Bound.{length-heads}
use Rattle.path_orders.specs.Precedences.{Precedence, StandsAt, IsOrdered}
use Rattle.path_orders.specs.Dead.{HasPlaces, HavePlaces, IsDead}
use Rattle.path_orders.proofs.Dead.{ordered_more}
use Rattle.path_orders.proofs.Heads.{heads_distinct}
use Rattle.lpo.specs.Places.{place_in, ArePlaces}
use Rattle.lpo.specs.Rules.{is_dead_at, is_ordered_by}
use Rattle.lpo.specs.Listed.{HasSymbol, HaveSymbol, OccursAt, ListedAnswers}
use Rattle.lpo.proofs.Placing.{one_number}
use Rattle.lpo.proofs.Judging.{dead_test, ordered_so, ordered_seen}

module _ (sys : math.System) (order : Precedence) (h : Head) (f : ℕ) (is : slice_get (heads sys) f ≡ Some h) where
  -- a symbol that is not the last stands before it
  stands_less : (g k : ℕ) → StandsAt sys (order ++ h ∷ []) g k → (f ≡ g → ⊥) → StandsAt sys order g k
  stands_less g k (x, at, there) other = go (cases_lt k (length order))
    where
      go : (k < length order) ⊎ (length order ≤ k) → StandsAt sys order g k
      go (inl lt) = (x, at, slice_get_shorter order (h ∷ []) k x lt there)
      go (inr le) =
          let sum = length-append order (h ∷ []) in
          let within = slice_get_within (order ++ h ∷ []) k x there in
          let last : k ≡ length order = omega (arith, sum, within, le) in
          let here : slice_get (order ++ h ∷ []) k ≡ Some h = ap (slice_get (order ++ h ∷ [])) last ∙ slice_get_seam order h [] in
          absurd (other (one_number (heads sys) (heads_distinct sys) f g h is (let one : x ≡ h = cc in at ∙ ap Some one)))

  mutual
    places_less : (t : Term) → HasPlaces sys (order ++ h ∷ []) t → (HasSymbol f t → ⊥) → HasPlaces sys order t
    places_less (var x) p none = tt
    places_less (app g ts) ((k, s), ps) none = ((k, stands_less g k s (λ e. none (inl e))), all_places_less ts ps (λ i. none (inr i)))

    all_places_less : (ts : Terms) → HavePlaces sys (order ++ h ∷ []) ts → (HaveSymbol f ts → ⊥) → HavePlaces sys order ts
    all_places_less nil p none = tt
    all_places_less (cons t ts) (p, ps) none = (places_less t p (λ i. none (inl i)), all_places_less ts ps (λ i. none (inr i)))

  pub completed : (d : IsDead sys (order ++ h ∷ [])) → (IsDead sys order → ⊥) → (OccursAt f d.rule → ⊥) → ⊥
  completed d alive none =
      alive (record {
        number = d.number;
        rule = d.rule;
        is_rule = d.is_rule;
        left = places_less d.rule.left d.left (λ i. none (inl i));
        right = places_less d.rule.right d.right (λ i. none (inr i));
        unordered = λ g. d.unordered (ordered_more sys order (h ∷ []) d.rule.left d.rule.right g);
      })

  -- none of the rules that have the last symbol is dead
  pub none_completed : (ps numbers : List ℕ) → ArePlaces (heads sys) (order ++ h ∷ []) (length (order ++ h ∷ [])) ps → ListedAnswers ps (unraveled sys).rules numbers false
      → ((n : ℕ) (r : math.Rule) → slice_get (unraveled sys).rules n ≡ Some r → OccursAt f r → IsAmong n numbers) → (IsDead sys order → ⊥) → IsDead sys (order ++ h ∷ []) → ⊥
  none_completed ps numbers a none all alive d = completed d alive (λ o. go d.number d.is_rule o)
    where
      go : (n : ℕ) → rule_at (unraveled sys) n ≡ Some d.rule → OccursAt f d.rule → ⊥
      go zero at o = cc
      go (suc i) at o = both_ways (is_dead_at ps d.rule) (none i d.rule (all i d.rule at o) at) (dead_test sys (order ++ h ∷ []) ps a d.rule d.left d.right d.unordered)

-- where each symbol stands and no rule is dead, each rule is ordered
module _ (sys : math.System) (order : Precedence) (ps : List ℕ) (a : ArePlaces (heads sys) order (length order) ps) (full : (f : ℕ) → f < length ps → place_in ps f ≡ 0 → ⊥)
    (sound : IsSystem (unraveled sys)) where
  place : (f : ℕ) → f < length (unraveled sys).arities → (k : ℕ) × StandsAt sys order f k
  place f lt = go (place_in ps f) refl
    where
      go : (p : ℕ) → place_in ps f ≡ p → (k : ℕ) × StandsAt sys order f k
      go zero e = absurd (full f (let many = a.as_many in let same = length-heads sys in omega (arith, many, same, lt)) e)
      go (suc j) e = (j, (a.sound f j e).1)

  mutual
    over_placed : (t : Term) → IsOver (unraveled sys).arities t → HasPlaces sys order t
    over_placed (var x) h = tt
    over_placed (app f ts) (at, h) = (place f (slice_get_within (unraveled sys).arities f _ at), all_over_placed ts h)

    all_over_placed : (ts : Terms) → AreOver (unraveled sys).arities ts → HavePlaces sys order ts
    all_over_placed nil h = tt
    all_over_placed (cons t ts) (h, hs) = (over_placed t h, all_over_placed ts hs)

  pub alive_ordered : (IsDead sys order → ⊥) → EachRule (unraveled sys) (IsOrdered sys order)
  alive_ordered alive n r at = go (cases_Bool (is_ordered_by ps r))
    where
      go : (is_ordered_by ps r ≡ true) ⊎ (is_ordered_by ps r ≡ false) → IsOrdered sys order r
      go (inl e) = ordered_so sys order ps a r e
      go (inr e) =
          let over = (well_formed (unraveled sys) sound n r at).over in
          absurd (alive (record {
            number = n;
            rule = r;
            is_rule = at;
            left = over_placed r.left over.0;
            right = over_placed r.right over.1.0;
            unordered = λ h. both_ways (is_ordered_by ps r) e (ordered_seen sys order ps a r h);
          }))

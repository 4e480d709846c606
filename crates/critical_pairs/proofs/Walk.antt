-- A walk through the triples of a system, of which some overlaps are known.
use Rattle.std.proofs.Common.{ℕ, ◌≡◌, ◌≢◌, ◌+◌, ◌<◌, ◌≤◌, List, [], ◌∷◌, ◌++◌, map, drop, length, refl, sym, ap, ◌∙◌, subst, arith, ◌^◌, add-one, Option, Some, None, Ok, Err}
use Rattle.std.proofs.lemmas.List.{drop_all, length-map, length_push, map-append}
use Rattle.rewriting.proofs.Lists.{sorted_right}
use Rattle.rewriting.specs.Prelude.{System, IsSystem, IsEarlierOverlap, IsAmong, IsSorted}
use Rattle.unifier_run.specs.Overlaps.{Triple, Overlap, triple, IsOverlapOf, AreOverlaps}
use Rattle.unifier_run.specs.Triples.{all_triples, triples_from, DoesClash}
use Rattle.critical_pairs.specs.Answers.{OverlapsAnswers, PutAnswers}
use Rattle.critical_pairs.specs.Offers.{Search, DoesPass}
use Rattle.critical_pairs.specs.Places.{place_view}
use Rattle.critical_pairs.specs.Cursors.{rest_of, rest_of_places, IsCursor, StandsBefore, IsTripleAt}
use Rattle.critical_pairs.specs.Spots.{IsOverlapAt, IsRefusedAt, SpotAnswers}
use Rattle.critical_pairs.specs.Kept.{AreOrigins, AreKept}
use Rattle.critical_pairs.specs.View.{overlap_view}
use Rattle.critical_pairs.specs.declared.cursor.Cursor.{Cursor}
use Rattle.critical_pairs.specs.declared.kept.Kept.{Kept}
use Rattle.critical_pairs.specs.declared.pairs.Triple as Named
use Rattle.critical_pairs.specs.declared.Overlap as Made
use Rattle.critical_pairs.specs.declared.OverlapError.{OverlapError}
use Rattle.critical_pairs.specs.declared.OverlapError.TheVariants.{PairTooLarge, TooManyPairs, NoMemory}
use Rattle.critical_pairs.proofs.Passing.{pass_more, pass_one}
use Rattle.critical_pairs.proofs.Rests.{cursor_kept, next_there}
use Rattle.critical_pairs.proofs.Finds.{same as same_here, overlap_here, refused_here, no_offer, beyond}
use Rattle.critical_pairs.proofs.Whole.{Gathered, none_more, one_more, all_found, list_refused}
use Rattle.critical_pairs.proofs.OldTriples.{ahead_passed}
use Rattle.critical_pairs.proofs.Origins.{length_same}

-- before a cursor's triples, with so many overlaps
abbrev pub search_at : System → Cursor → List Overlap → Search
search_at sys c os = record { system = sys; rest = rest_of sys c; offered = length os }

-- the overlaps before the cursor were found, and what is kept are those behind it that are known
pub record Walks (sys : System) (c : Cursor) (k : Kept) (os : List Overlap) : Type 0 where
  pub cursor : IsCursor sys c
  pub gathered : Gathered sys (search_at sys c os) os
  pub kept : AreKept sys (rest_of sys c) k

kept_on : (sys : System) (from to : List Triple) (k : Kept) → DoesPass sys from to → AreKept sys from k → AreKept sys to k
kept_on sys from to k pass h =
    record {
      order = sorted_right IsEarlierOverlap pass.passed to (subst (IsSorted IsEarlierOverlap) pass.split h.order);
      overlaps = ahead_passed sys k.origins.now from to
          (map overlap_view k.overlaps.items) pass h.overlaps;
    }

pub begins : (sys : System) (c : Cursor) (k : Kept) (os : List Overlap) → c.outer ≡ 0 → c.places.items ≡ [] → os ≡ [] → AreKept sys (all_triples sys) k → Walks sys c k os
begins sys c k os outer places none kept =
    record {
      cursor = record { within = subst (λ z. z ≤ length sys.rules) (sym outer) (omega arith); places = λ q m. absurd (subst (λ z. IsAmong q (map place_view z)) places m) };
      gathered =
          subst (λ z. Gathered sys (search_at sys c z) z) (sym none)
          (record { system = refl; earlier = []; split = sym all; those = refl; counted = refl; few = omega arith });
      kept = subst (λ z. AreKept sys z k) (sym all) kept;
    }
  where
    no_place : (n : ℕ) → drop n (map place_view c.places.items) ≡ []
    no_place n = subst (λ z. drop n (map place_view z) ≡ []) (sym places) (drop_all n [] (omega arith))

    all : rest_of sys c ≡ all_triples sys
    all = ap (λ z. rest_of_places sys c.outer z c.candidate ++ triples_from (length sys.rules) c.outer (drop c.outer sys.rules)) (no_place c.place)
        ∙ ap (λ z. triples_from (length sys.rules) z (drop z sys.rules)) outer

-- behind the triple where it stands
abbrev pub next_of : Cursor → Cursor
next_of c = record { outer = c.outer; places = c.places; place = c.place; candidate = c.candidate + 1 }

-- on to the cursor c
module _ (sys : System) (h : IsSystem sys) (b c : Cursor) (k : Kept) (os : List Overlap) (w : Walks sys b k os) (is : IsCursor sys c) (passes : DoesPass sys (rest_of sys b) (rest_of sys c)) where
  pub all_walked : rest_of sys c ≡ [] → AreOverlaps sys os
  all_walked e = all_found sys (search_at sys b os) os w.gathered (search_at sys c os) (record { passes = subst (DoesPass sys (rest_of sys b)) e passes; none = e; counted = refl })

  -- at a triple
  module _ (i : ℕ) (s : StandsBefore sys c i) (t : Named.Triple) (at : IsTripleAt c i t) where
    abbrev pub here : Triple
    here = (t.inner, (t.pos.now, t.outer))

    same : here ≡ (i, (s.at.0, c.outer))
    same = same_here sys c i s t at

    pub on_here : DoesPass sys (rest_of sys b) (here ∷ rest_of sys (next_of c))
    on_here = pass_more sys (rest_of sys b) (rest_of sys c) (here ∷ rest_of sys (next_of c)) passes
        (subst (λ z. DoesPass sys (rest_of sys c) (z ∷ rest_of sys (next_of c))) (sym same) (next_there sys h c (next_of c) i is s refl refl refl (add-one c.candidate)))

    pub kept_here : AreKept sys (here ∷ rest_of sys (next_of c)) k
    kept_here = kept_on sys (rest_of sys b) (here ∷ rest_of sys (next_of c)) k on_here w.kept

    next_cursor : IsCursor sys (next_of c)
    next_cursor = cursor_kept sys c (next_of c) is refl refl

    pub past_clash : (l : Kept) → AreKept sys (rest_of sys (next_of c)) l → DoesClash sys here → Walks sys (next_of c) l os
    past_clash l kept clash =
        record {
          cursor = next_cursor;
          gathered = none_more sys (search_at sys b os) os w.gathered (search_at sys (next_of c) os) refl refl (pass_one sys (rest_of sys b) (rest_of sys (next_of c)) here on_here clash);
          kept = kept;
        }

    pub past_overlap : (l : Kept) → AreKept sys (rest_of sys (next_of c)) l → (q : Overlap) → IsOverlapOf sys q × (triple q ≡ here) → length os ≢ 20000
        → Walks sys (next_of c) l (os ++ q ∷ [])
    past_overlap l kept q (overlap, there) few =
        let longer = length_push os q ∙ add-one (length os) in
        record {
          cursor = next_cursor;
          gathered =
              one_more sys (search_at sys b os) os w.gathered (search_at sys (next_of c) (os ++ q ∷ [])) q refl
              (record {
                is_overlap = overlap;
                passes = subst (λ z. DoesPass sys (rest_of sys b) (z ∷ rest_of sys (next_of c))) (sym there) on_here;
                counted = longer;
                few = (let all = w.gathered.few in subst (λ z. z ≤ 20000) (sym longer) (omega (arith, all, few)));
              });
          kept = kept;
        }

    -- with what the triple gave
    pub walked_on : (l : Kept) (before after : List Made.Overlap) (r : Option Made.Overlap) → os ≡ map overlap_view before → AreKept sys (rest_of sys (next_of c)) l
        → SpotAnswers sys t.inner t.pos.now t.outer (Ok r)
        → PutAnswers before r after (Ok tt) → Walks sys (next_of c) l (map overlap_view after)
    walked_on l before after (Some o) e kept spot (is, few) =
        subst (Walks sys (next_of c) l) (sym (ap (map overlap_view) is ∙ (map-append overlap_view before (o ∷ []) ∙ ap (λ z. z ++ overlap_view o ∷ []) (sym e))))
        (past_overlap l kept (overlap_view o) spot (λ h. few (sym (length-map before overlap_view) ∙ (ap length (sym e) ∙ h))))
    walked_on l before after None e kept spot is = subst (Walks sys (next_of c) l) (e ∙ ap (map overlap_view) (sym is)) (past_clash l kept spot)

    pub refused_walk : (e : OverlapError) → IsRefusedAt sys t.inner t.pos.now t.outer e → OverlapsAnswers sys (Err e)
    refused_walk e r =
        list_refused sys (search_at sys b os) os w.gathered e
        (no_offer sys h b c (length os) (search_at sys b os) refl is passes e (refused_here sys c i s t at e r))

    pub many_walked : (q : Overlap) → IsOverlapAt sys t.inner t.pos.now t.outer q → length os ≡ 20000 → OverlapsAnswers sys (Err TooManyPairs)
    many_walked q r many =
        list_refused sys (search_at sys b os) os w.gathered TooManyPairs
        (beyond sys h b c (length os) (search_at sys b os) refl is passes q TooManyPairs refl many (overlap_here sys c i s t at q r))

    pub put_refused : (before after : List Made.Overlap) (r : Option Made.Overlap) (e : OverlapError) → os ≡ map overlap_view before → SpotAnswers sys t.inner t.pos.now t.outer (Ok r)
        → PutAnswers before r after (Err e) → OverlapsAnswers sys (Err e)
    put_refused before after None e all spot h = absurd h
    put_refused before after (Some o) (PairTooLarge k q l) all spot h = absurd h
    put_refused before after (Some o) TooManyPairs all spot h = many_walked (overlap_view o) spot (ap length all ∙ (length-map before overlap_view ∙ h))
    put_refused before after (Some o) NoMemory all spot h = tt

pub few_origins : (e sys : System) (os : List (Option ℕ)) → AreOrigins e sys os → IsSystem sys → length os < 2 ^ 31
few_origins e sys os are h = let long = length_same e sys os are in let few = h.few_rules in omega (arith, long, few)

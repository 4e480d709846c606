-- The triples that are still to come, as a search goes on.
use Rattle.std.proofs.Common.{ℕ, zero, suc, ◌≡◌, ◌+◌, ◌-◌, ◌<◌, ◌≤◌, List, [], ◌∷◌, ◌++◌, map, length, drop, get_or, slice_get, None, Some, refl, sym, ap, ap₂, ◌∙◌, subst, subst₂, arith, ◌^◌}
use Rattle.std.proofs.lemmas.Option.{slice_get_within}
use Rattle.std.proofs.lemmas.List.{drop_all, length-map}
use Rattle.general_lemmas.proofs.Places.{slice_get-map_read}
use Rattle.rewriting.specs.Prelude.{IsAmong, app, Fits, Rule, System, rule_at, IsSystem}
use Rattle.rule_index.specs.Roots.{rules_with_root}
use Rattle.rule_index.proofs.Walks.{ascending, listed_rule}
use Rattle.unifier_run.specs.Overlaps.{Triple}
use Rattle.unifier_run.specs.Triples.{triples_at, counted, triples_from}
use Rattle.rewriting.proofs.Members.{place_among}
use Rattle.rewriting.proofs.Systems.{numbered_rule}
use Rattle.critical_pairs.specs.Offers.{DoesPass}
use Rattle.critical_pairs.specs.Places.{RootAt, place_view, places_of, triples_of, IsRootAt}
use Rattle.critical_pairs.specs.Cursors.{rest_of_places, rest_of, IsCursor, StandsBefore, CandidateAnswers, IsEntered}
use Rattle.critical_pairs.specs.Spots.{IsSpotOf}
use Rattle.critical_pairs.specs.declared.cursor.Cursor.{Cursor}
use Rattle.critical_pairs.specs.declared.places.Place as Program
use Rattle.term_core.specs.RuleView.{rule_view}
use Rattle.term_core.specs.declared.systems.Rule as Looked
use Rattle.critical_pairs.proofs.Passing.{pass_before, pass_all}
use Rattle.critical_pairs.proofs.Candidates.{to_candidate, past_candidates, get_there, listed_within}
use Rattle.critical_pairs.proofs.Roots.{places_triples, is_root}

-- elements of a list
pub drop_at : {A : Type 0} (xs : List A) (k : ℕ) (x : A) → slice_get xs k ≡ Some x → drop k xs ≡ x ∷ drop (suc k) xs
drop_at [] k x e = absurd (cc)
drop_at (y ∷ ys) zero x e = (let same : y ≡ x = cc in ap (λ z. z ∷ ys) same)
drop_at (y ∷ ys) (suc k) x e = drop_at ys k x e

none_done : (sys : System) (j : ℕ) (qs : List RootAt) → rest_of_places sys j qs 0 ≡ triples_of j (length sys.rules) qs
none_done sys j [] = refl
none_done sys j ((p, f) ∷ qs) =
    let z : counted (j - 1) (length sys.rules) p - 0 ≡ counted (j - 1) (length sys.rules) p = omega arith in
    ap (λ x. triples_at j p 0 x ++ triples_of j (length sys.rules) qs) z

-- at one of the places
module _ (sys : System) (h : IsSystem sys) (j k c : ℕ) (ps : List RootAt) (at : RootAt) (is : slice_get ps k ≡ Some at) (root : IsRootAt sys j at) (ends : List Triple) where
  here : (d : ℕ) → rest_of_places sys j (drop k ps) d ≡ rest_of_places sys j (at ∷ drop (suc k) ps) d
  here d = ap (λ z. rest_of_places sys j z d) (drop_at ps k at is)

  pub on_to_candidate : (b : ℕ) → CandidateAnswers (rules_with_root sys at.1) at.0 j c (Some b)
      → DoesPass sys (rest_of_places sys j (drop k ps) c ++ ends) ((b, (at.0, j)) ∷ (rest_of_places sys j (drop k ps) (suc c) ++ ends))
  on_to_candidate b a =
      subst₂ (λ x y. DoesPass sys (x ++ ends) ((b, (at.0, j)) ∷ (y ++ ends))) (sym (here c)) (sym (here (suc c)))
      (pass_before sys _ _ ends (pass_before sys _ _ (triples_of j (length sys.rules) (drop (suc k) ps)) (to_candidate sys h j at.0 at.1 root c b a)))

  pub past_place : CandidateAnswers (rules_with_root sys at.1) at.0 j c None → DoesPass sys (rest_of_places sys j (drop k ps) c ++ ends) (rest_of_places sys j (drop (suc k) ps) 0 ++ ends)
  past_place a =
      subst₂ (λ x y. DoesPass sys (x ++ ends) (y ++ ends)) (sym (here c)) (sym (none_done sys j (drop (suc k) ps)))
      (pass_before sys _ _ ends (pass_all sys _ (triples_of j (length sys.rules) (drop (suc k) ps)) (past_candidates sys h j at.0 at.1 root c a)))

-- before an inner rule
module _ (sys : System) (h : IsSystem sys) (c d : Cursor) (i : ℕ) (is : IsCursor sys c) (s : StandsBefore sys c i) where
  root : IsRootAt sys c.outer s.at
  root = is.places s.at (place_among _ c.place s.at s.is_place)

  -- the triple is the next one, and behind it are those of the later inner rules
  pub next_there : d.outer ≡ c.outer → d.places ≡ c.places → d.place ≡ c.place → d.candidate ≡ suc c.candidate → DoesPass sys (rest_of sys c) ((i, (s.at.0, c.outer)) ∷ rest_of sys d)
  next_there o ps k n =
      subst (λ z. DoesPass sys (rest_of sys c) ((i, (s.at.0, c.outer)) ∷ z)) (sym same)
      (on_to_candidate sys h c.outer c.place c.candidate (map place_view c.places.items) s.at s.is_place root
      (triples_from (length sys.rules) c.outer (drop c.outer sys.rules)) i (s.is_candidate, s.counts))
    where
      same : rest_of sys d ≡ rest_of_places sys c.outer (drop c.place (map place_view c.places.items)) (suc c.candidate) ++ triples_from (length sys.rules) c.outer (drop c.outer sys.rules)
      same =
          ap₂ (λ x y. rest_of_places sys x (drop d.place (map place_view d.places.items)) y ++ triples_from (length sys.rules) x (drop x sys.rules)) o n
          ∙ ap₂ (λ x y. rest_of_places sys c.outer (drop x (map place_view y.items)) (suc c.candidate) ++ triples_from (length sys.rules) c.outer (drop c.outer sys.rules)) k ps

  pub spot_there : IsSpotOf sys i s.at.0 c.outer
  spot_there =
      let at = get_there (rules_with_root sys s.at.1) c.candidate i 0 s.is_candidate in
      let r = listed_rule sys s.at.1 c.candidate at.0 in
      record {
        inner = r.0;
        outer = root.rule;
        part = app s.at.1 root.arguments;
        place = record { is_inner = subst (λ z. rule_at sys z ≡ Some r.0) at.1 r.1; is_outer = root.is_rule; is_part = root.here; no_variable = λ v. v; counts = s.counts };
      }

-- into the next outer rule
pub entered : (sys : System) (c d : Cursor) (r : Rule) → IsCursor sys c → length c.places.items ≤ c.place → slice_get sys.rules c.outer ≡ Some r → IsEntered c r.left d → rest_of sys c ≡ rest_of sys d
entered sys c d r is past e n =
    let ends = triples_from (length sys.rules) c.outer (drop c.outer sys.rules) in
    ap (λ z. rest_of_places sys c.outer z c.candidate ++ ends) (drop_all c.place (map place_view c.places.items) (subst (λ z. z ≤ c.place) (sym (length-map c.places.items place_view)) past))
    ∙ (ap (λ z. triples_from (length sys.rules) c.outer z) (drop_at sys.rules c.outer r e)
    ∙ (ap (λ z. z ++ triples_from (length sys.rules) (suc c.outer) (drop (suc c.outer) sys.rules))
    (sym (none_done sys (suc c.outer) (places_of r.left) ∙ places_triples c.outer (length sys.rules) r.left)) ∙ sym there))
  where
    there : rest_of sys d ≡ rest_of_places sys (suc c.outer) (places_of r.left) 0 ++ triples_from (length sys.rules) (suc c.outer) (drop (suc c.outer) sys.rules)
    there =
        ap₂ (λ x y. rest_of_places sys x (drop d.place (map place_view d.places.items)) y ++ triples_from (length sys.rules) x (drop x sys.rules)) n.outer n.candidate
        ∙ ap₂ (λ x y. rest_of_places sys (suc c.outer) (drop x y) 0 ++ triples_from (length sys.rules) (suc c.outer) (drop (suc c.outer) sys.rules)) n.place n.places

pub entered_cursor : (sys : System) (c d : Cursor) (r : Rule) → slice_get sys.rules c.outer ≡ Some r → IsEntered c r.left d → IsCursor sys d
entered_cursor sys c d r e n =
    record {
      within = subst (λ z. z ≤ length sys.rules) (sym n.outer) (slice_get_within sys.rules c.outer r e);
      places = λ q m. subst (λ z. IsRootAt sys z q) (sym n.outer) (is_root sys (suc c.outer) r q e (subst (IsAmong q) n.places m));
    }

-- within one outer rule
module _ (sys : System) (h : IsSystem sys) (b c d : Cursor) (is : IsCursor sys b) (o : c.outer ≡ b.outer) (ps : c.places ≡ b.places) (x : Program.Place)
    (l : c.place < length c.places.items) (e : x ≡ get_or c.places.items c.place x) where
  here_root : IsRootAt sys c.outer (place_view x)
  here_root = subst (λ z. IsRootAt sys z (place_view x)) (sym o)
      (is.places (place_view x) (subst (λ z. IsAmong (place_view x) (map place_view z.items)) ps (place_among _ c.place _ (slice_get-map_read place_view c.places.items c.place x l e))))

  pub stands_here : (i : ℕ) → CandidateAnswers (rules_with_root sys x.root) x.pos.items c.outer c.candidate (Some i) → StandsBefore sys c i
  stands_here i a =
      record {
        at = place_view x;
        is_place = slice_get-map_read place_view c.places.items c.place x l e;
        is_candidate = a.0;
        counts = a.1;
      }

  pub past_here : CandidateAnswers (rules_with_root sys x.root) x.pos.items c.outer c.candidate None → d.outer ≡ c.outer → d.places ≡ c.places → d.place ≡ suc c.place
      → d.candidate ≡ 0 → DoesPass sys (rest_of sys c) (rest_of sys d)
  past_here a q qs k n =
      subst (DoesPass sys (rest_of sys c)) (sym (moved q qs k n))
      (past_place sys h c.outer c.place c.candidate (map place_view c.places.items) (place_view x) (slice_get-map_read place_view c.places.items c.place x l e) here_root
      (triples_from (length sys.rules) c.outer (drop c.outer sys.rules)) a)
    where
      moved : d.outer ≡ c.outer → d.places ≡ c.places → d.place ≡ suc c.place → d.candidate ≡ 0
          → rest_of sys d ≡ rest_of_places sys c.outer (drop (suc c.place) (map place_view c.places.items)) 0 ++ triples_from (length sys.rules) c.outer (drop c.outer sys.rules)
      moved q qs k n =
          ap₂ (λ x y. rest_of_places sys x (drop d.place (map place_view d.places.items)) y ++ triples_from (length sys.rules) x (drop x sys.rules)) q n
          ∙ ap₂ (λ x y. rest_of_places sys c.outer (drop x (map place_view y.items)) 0 ++ triples_from (length sys.rules) c.outer (drop c.outer sys.rules)) k qs

pub cursor_kept : (sys : System) (c d : Cursor) → IsCursor sys c → d.outer ≡ c.outer → d.places ≡ c.places → IsCursor sys d
cursor_kept sys c d is o ps =
    record {
      within = subst (λ z. z ≤ length sys.rules) (sym o) is.within;
      places = λ q m. subst (λ z. IsRootAt sys z q) (sym o) (is.places q (subst (λ z. IsAmong q (map place_view z.items)) ps m));
    }

-- the rule that is looked up
pub rule_there : (xs : List Looked.Rule) (rs : List Rule) (k : ℕ) (x : Looked.Rule) → map rule_view xs ≡ rs → k < length xs → x ≡ get_or xs k x → slice_get rs k ≡ Some (rule_view x)
rule_there xs rs k x e h g = subst (λ z. slice_get z k ≡ Some (rule_view x)) e (slice_get-map_read rule_view xs k x h g)

pub left_fits : (sys : System) (k : ℕ) (r : Rule) → IsSystem sys → slice_get sys.rules k ≡ Some r → Fits r.left
left_fits sys k r h e = (numbered_rule sys (suc k) r h e).fits.0

-- where it stands before an inner rule
module _ (sys : System) (h : IsSystem sys) (c : Cursor) (i : ℕ) (s : StandsBefore sys c i) where
  pub place_within : c.place < length c.places.items
  place_within = subst (λ z. c.place < z) (length-map c.places.items place_view) (slice_get_within (map place_view c.places.items) c.place s.at s.is_place)

  pub few_candidates : c.candidate + 1 < 2 ^ 32
  few_candidates =
      let at = get_there (rules_with_root sys s.at.1) c.candidate i 0 s.is_candidate in
      let low = number_above c.candidate at.0 in
      let high = (listed_within sys s.at.1 c.candidate at.0).1 in
      let few = h.few_rules in
      omega (arith, low, high, few)
    where
      number_above : (k : ℕ) → k < length (rules_with_root sys s.at.1) → k < get_or (rules_with_root sys s.at.1) k 0
      number_above zero l = let r = (listed_within sys s.at.1 0 l).0 in omega (arith, r)
      number_above (suc k) l = let r = number_above k (omega (arith, l)) in let up = ascending sys s.at.1 k (suc k) (omega arith) l in omega (arith, r, up)

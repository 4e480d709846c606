-- A query's tree in which nothing is refused means conditions within the limits, and no others.
use Rattle.std.proofs.Common.{◌≡◌, ℕ, suc, ◌+◌, ◌≤◌, Bool, true, false, List, [], ◌∷◌, ◌++◌, length, map, None, refl, sym, ap, subst, ◌∙◌, arith, length-append}
use Rattle.std.specs.Prelude.{if◌then◌else◌}
use Rattle.std.specs.List.{position_or_len}
use Rattle.std.specs.Str.{bytes_eq}
use Rattle.file_text.specs.Syntax.{Phrase, Phrases, word, call, none, more, ConditionTree}
use Rattle.rewriting.specs.Prelude.{Term, var, app, Terms, nil, cons, size, size_all, depth, depth_all, Condition, CountsFrom, Each}
use Rattle.rewriting.specs.Variables as math
use Rattle.rewriting.specs.Rules as rules
use Rattle.certificates.specs.Prelude.{AreConditionsOver, DoConditionsFit}
use Rattle.cops_names.specs.NameLists.{is_among, with_name}
use Rattle.cops_names.proofs.Lists.{Extends, extends_refl, extends_trans, extends_position}
use Rattle.cops_names.proofs.Sets.{place_with}
use Rattle.cops_read.specs.Limits.{IsSmall}
use Rattle.cops_read.specs.Meaning.{sides, with_variables, with_all_variables, IsTermOf, AreTermsOf, AreConditionsOf}
use Rattle.cops_read.specs.Uses.{spots, spots_of_all, Side, side_of, Event, uses_from, term_events, condition_events}
use Rattle.cops_read.proofs.Growth.{variables_extend, all_variables_extend}
use Rattle.cops_read.proofs.Sound.{counts, fits_of, term_over, upto, length_upto, numbers_in_all, sides_are}
use Rattle.cops_read.proofs.Unique.{one_conditions}
use Rattle.query_text.specs.Grammar.{QueryTree, conditions_of}
use Rattle.query_text.specs.Meaning.{variables_of, query_events, refusal_of, IsMeantBy}
use Rattle.query_text.specs.Laws.{IsWithinLimits}
use Rattle.query_text.proofs.Facts.{AreClear, all_clear, clear_left, clear_right, uses_left, uses_right, few_uses, few_used, conditions_used}

module _ (block : List (List ℕ)) (table : List (List ℕ × ℕ)) where
  abbrev Clear : List Event → Type 0
  Clear = AreClear block table

  abbrev side_at : ℕ → Side
  side_at k = side_of 1 k false

  -- ---- what is meant

  record IsMeant (names : List (List ℕ)) (p : Phrase) : Type 0 where
    term : Term
    is : IsTermOf block table names p term

  record AreMeant (names : List (List ℕ)) (ps : Phrases) : Type 0 where
    terms : Terms
    are : AreTermsOf block table names ps terms

  mutual
    phrase_meant : (p : Phrase) (variables names : List (List ℕ)) (k level argument n : ℕ) → Clear (uses_from (side_at k) n (spots level argument p))
        → Extends (with_variables block names p) variables → IsMeant variables p
    phrase_meant (word f) variables names k level argument n (h, hs) g = by (is_among block f.text) refl g
      where
        by : (b : Bool) → is_among block f.text ≡ b → Extends (if b then with_name names f.text else names) variables → IsMeant variables (word f)
        by true b g =
            let place = place_with names (with_name names f.text) f.text refl in
            record {
              term = var (position_or_len (bytes_eq f.text) names);
              is = (b, extends_position (bytes_eq f.text) (with_name names f.text) variables (position_or_len (bytes_eq f.text) names) g place);
            }
        by false b g = let s = h.there b in record { term = app s.symbol nil; is = ((b, s.number, s.arity), refl) }
    phrase_meant (call f ts) variables names k level argument n (h, hs) g = by (is_among block f.text) refl (phrases_meant ts variables names k (suc level) 1 (suc n) hs g)
      where
        by : (b : Bool) → is_among block f.text ≡ b → AreMeant variables ts → IsMeant variables (call f ts)
        by true b m = absurd (let wrong = h.bare b in cc)
        by false b m = let s = h.there b in record { term = app s.symbol m.terms; is = ((b, s.number, s.arity), m.are) }

    phrases_meant : (ts : Phrases) (variables names : List (List ℕ)) (k level argument n : ℕ) → Clear (uses_from (side_at k) n (spots_of_all level argument ts))
        → Extends (with_all_variables block names ts) variables → AreMeant variables ts
    phrases_meant none variables names k level argument n h g = record { terms = nil; are = tt }
    phrases_meant (more t ts) variables names k level argument n h g =
        let first = spots level argument t in
        let rest = spots_of_all level (suc argument) ts in
        let one = phrase_meant t variables names k level argument n (uses_left block table (side_at k) n first rest h)
        (extends_trans _ _ _ (all_variables_extend block (with_variables block names t) ts) g) in
        let others = phrases_meant ts variables (with_variables block names t) k level (suc argument) (n + length first) (uses_right block table (side_at k) n first rest h) g in
        record { terms = cons one.term others.terms; are = (one.is, others.are) }

  record ConditionsMeant (names : List (List ℕ)) (cs : List ConditionTree) : Type 0 where
    conditions : List Condition
    are : AreConditionsOf block table names cs conditions

  conditions_meant : (cs : List ConditionTree) (variables names : List (List ℕ)) (k : ℕ) → Clear (condition_events 1 k cs)
      → Extends (with_all_variables block names (sides cs)) variables → ConditionsMeant variables cs
  conditions_meant [] variables names k h g = record { conditions = []; are = tt }
  conditions_meant (c ∷ cs) variables names k h g =
      let left = term_events (side_at k) c.left in
      let right = term_events (side_at k) c.right in
      let later = condition_events 1 (suc k) cs in
      let tail = clear_right block table left (right ++ later) h in
      let between = with_variables block names c.left in
      let end = extends_trans _ _ _ (all_variables_extend block (with_variables block between c.right) (sides cs)) g in
      let one = phrase_meant c.left variables names k 1 0 1 (clear_left block table left (right ++ later) h) (extends_trans _ _ _ (variables_extend block between c.right) end) in
      let two = phrase_meant c.right variables between k 1 0 1 (clear_left block table right later tail) end in
      let rest = conditions_meant cs variables (with_variables block between c.right) (suc k) (clear_right block table right later tail) g in
      record { conditions = record { left = one.term; right = two.term } ∷ rest.conditions; are = (one.is, two.is, rest.are) }

  -- ---- the limits

  module _ (names : List (List ℕ)) where
    mutual
      nodes_are : (p : Phrase) (t : Term) (level argument : ℕ) → IsTermOf block table names p t → size t ≡ length (spots level argument p)
      nodes_are (word f) (var x) level argument m = refl
      nodes_are (word f) (app g us) level argument m = ap (λ (ts : Terms). suc (size_all ts)) m.1
      nodes_are (call f ts) (var x) level argument m = absurd m
      nodes_are (call f ts) (app g us) level argument m = ap suc (all_nodes_are ts us (suc level) 1 m.1)

      all_nodes_are : (ps : Phrases) (ts : Terms) (level argument : ℕ) → AreTermsOf block table names ps ts → size_all ts ≡ length (spots_of_all level argument ps)
      all_nodes_are none nil level argument m = refl
      all_nodes_are none (cons t ts) level argument m = absurd m
      all_nodes_are (more p ps) nil level argument m = absurd m
      all_nodes_are (more p ps) (cons t ts) level argument m =
          let a = nodes_are p t level argument m.0 in
          let b = all_nodes_are ps ts level (suc argument) m.1 in
          let sum = length-append (spots level argument p) (spots_of_all level (suc argument) ps) in omega (arith, a, b, sum)

    mutual
      levels_are : (p : Phrase) (t : Term) (k level argument n : ℕ) → Clear (uses_from (side_at k) n (spots level argument p)) → IsTermOf block table names p t → level + depth t ≤ 201
      levels_are (word f) (var x) k level argument n (h, hs) m = let l = h.placed.levels in omega (arith, l)
      levels_are (word f) (app g us) k level argument n (h, hs) m = let l = h.placed.levels in let d = ap depth_all m.1 in omega (arith, l, d)
      levels_are (call f ts) (var x) k level argument n h m = absurd m
      levels_are (call f ts) (app g us) k level argument n (h, hs) m =
          let l = h.placed.levels in
          let d = all_levels_are ts us k (suc level) 1 (suc n) hs m.1 (omega (arith, l)) in omega (arith, d)

      all_levels_are : (ps : Phrases) (ts : Terms) (k level argument n : ℕ) → Clear (uses_from (side_at k) n (spots_of_all level argument ps)) → AreTermsOf block table names ps ts
          → level ≤ 201 → level + depth_all ts ≤ 201
      all_levels_are none nil k level argument n h m l = omega (arith, l)
      all_levels_are none (cons t ts) k level argument n h m l = absurd m
      all_levels_are (more p ps) nil k level argument n h m l = absurd m
      all_levels_are (more p ps) (cons t ts) k level argument n h m l =
          let first = spots level argument p in
          let rest = spots_of_all level (suc argument) ps in
          let a = levels_are p t k level argument n (uses_left block table (side_at k) n first rest h) m.0 in
          let b = all_levels_are ps ts k level (suc argument) (n + length first) (uses_right block table (side_at k) n first rest h) m.1 l in omega (arith, a, b)

    side_small : (p : Phrase) (t : Term) (k : ℕ) → Clear (term_events (side_at k) p) → IsTermOf block table names p t → IsSmall t
    side_small p t k h m =
        let few = few_uses block table (side_at k) 1 (spots 1 0 p) h (omega arith) in
        let nodes = nodes_are p t 1 0 m in
        let levels = levels_are p t k 1 0 1 h m in
        record { nodes = omega (arith, few, nodes); levels = omega (arith, levels) }

    conditions_small : (cs : List ConditionTree) (ds : List Condition) (k : ℕ) → Clear (condition_events 1 k cs) → AreConditionsOf block table names cs ds → Each IsSmall (rules.sides ds)
    conditions_small [] [] k h m = tt
    conditions_small [] (d ∷ ds) k h m = absurd m
    conditions_small (c ∷ cs) [] k h m = absurd m
    conditions_small (c ∷ cs) (d ∷ ds) k h m =
        let left = term_events (side_at k) c.left in
        let right = term_events (side_at k) c.right in
        let later = condition_events 1 (suc k) cs in
        let tail = clear_right block table left (right ++ later) h in (
          side_small c.left d.left k (clear_left block table left (right ++ later) h) m.0,
          (side_small c.right d.right k (clear_left block table right later tail) m.1, conditions_small cs ds (suc k) (clear_right block table right later tail) m.2),
        )

    -- each condition begins with an identifier
    head_placed : (p : Phrase) (k : ℕ) → Clear (term_events (side_at k) p) → k ≤ 20
    head_placed (word f) k (h, hs) = h.placed.conditions
    head_placed (call f ts) k (h, hs) = h.placed.conditions

    few_conditions : (cs : List ConditionTree) (ds : List Condition) (k : ℕ) → Clear (condition_events 1 k cs) → AreConditionsOf block table names cs ds → k ≤ 21 → k + length ds ≤ 21
    few_conditions [] [] k h m l = omega (arith, l)
    few_conditions [] (d ∷ ds) k h m l = absurd m
    few_conditions (c ∷ cs) [] k h m l = absurd m
    few_conditions (c ∷ cs) (d ∷ ds) k h m l =
        let left = term_events (side_at k) c.left in
        let right = term_events (side_at k) c.right in
        let later = condition_events 1 (suc k) cs in
        let here = head_placed c.left k (clear_left block table left (right ++ later) h) in
        let rest = few_conditions cs ds (suc k) (clear_right block table right later (clear_right block table left (right ++ later) h)) m.2 (omega (arith, here)) in omega (arith, rest)

    conditions_over : (cs : List ConditionTree) (ds : List Condition) → AreConditionsOf block table names cs ds → AreConditionsOver (map (λ s. s.1) table) ds
    conditions_over [] [] m = tt
    conditions_over [] (d ∷ ds) m = absurd m
    conditions_over (c ∷ cs) [] m = absurd m
    conditions_over (c ∷ cs) (d ∷ ds) m = (term_over block table names c.left d.left m.0, term_over block table names c.right d.right m.1, conditions_over cs ds m.2)

all_fit : (cs : List Condition) → Each IsSmall (rules.sides cs) → DoConditionsFit cs
all_fit [] h = tt
all_fit (c ∷ cs) (l, (r, h)) = (fits_of c.left l, fits_of c.right r, all_fit cs h)

module _ (table : List (List ℕ × ℕ)) (q : QueryTree) where
  pub record IsMeaning : Type 0 where
    pub conditions : List Condition
    pub names : List (List ℕ)
    pub is : IsMeantBy table q conditions names

  pub meaning : refusal_of table q ≡ None → IsMeaning
  meaning accepted =
      let block = variables_of q in
      let names = with_all_variables block [] (sides (conditions_of q)) in
      let m = conditions_meant block table (conditions_of q) names [] 1 (all_clear block table [] (query_events q) accepted) (extends_refl names) in
      record { conditions = m.conditions; names = names; is = record { accepted = accepted; variables = refl; conditions = m.are } }

  pub one_meaning : (cs ds : List Condition) (names others : List (List ℕ)) → IsMeantBy table q cs names → IsMeantBy table q ds others → (cs ≡ ds) × (names ≡ others)
  one_meaning cs ds names others h g =
      let same : names ≡ others = h.variables ∙ sym g.variables in
      (one_conditions (variables_of q) table names (conditions_of q) cs ds h.conditions (subst (λ z. AreConditionsOf (variables_of q) table z (conditions_of q) ds) (sym same) g.conditions), same)

  pub within_limits : (cs : List Condition) (names : List (List ℕ)) → IsMeantBy table q cs names → IsWithinLimits table cs names
  within_limits cs names h =
      let block = variables_of q in
      let all = all_clear block table [] (query_events q) h.accepted in
      let small = conditions_small block table names (conditions_of q) cs 1 all h.conditions in
      let few = few_conditions block table names (conditions_of q) cs 1 all h.conditions (omega arith) in
      let longer : Extends (with_all_variables block [] (sides (conditions_of q))) names = subst (λ z. Extends z names) h.variables (extends_refl names) in
      let numbers : math.variables_of (rules.sides cs) ≡ upto (length names) =
      numbers_in_all block table [] names (sides (conditions_of q)) (rules.sides cs) longer (sides_are block table names (conditions_of q) cs h.conditions)
      ∙ ap (λ z. upto (length z)) (sym h.variables) in
      record {
        over = conditions_over block table names (conditions_of q) cs h.conditions;
        small = small;
        fit = all_fit cs small;
        few_conditions = omega (arith, few);
        numbered = subst (CountsFrom 0) (sym numbers) (counts (length names));
        named = sym (ap length numbers ∙ length_upto (length names));
        few_variables =
            subst (λ z. length z ≤ 100) (conditions_used block table (conditions_of q) 1 [] all ∙ sym h.variables)
            (few_used block table (query_events q) [] [] refl h.accepted (omega arith));
      }

-- A prefix is completed to a whole interpretation; a rule all of whose symbols have an entry is as ready at the prefix as there.
use Rattle.std.proofs.Common.{◌≡◌, ℕ, zero, suc, ◌+◌, ◌-◌, ◌<◌, ◌≤◌, refl, sym, ap, ◌∙◌, subst, List, [], ◌∷◌, ◌++◌, replicate, map, length, get_or, slice_get, option_map, Some}
use Rattle.std.proofs.Common.{arith, append_assoc, append-nil}
use Rattle.std.proofs.lemmas.List.{length-replicate, length_push}
use Rattle.std.proofs.lemmas.Option.{slice_get-get_or}
use Rattle.rewriting.specs.Prelude.{Term, var, app, Terms, nil, cons, System, IsSystem, IsWellFormed, Head, file, heads, unraveled}
use Rattle.certificates.specs.Certificates.{LinearEntry}
use Rattle.interpretations.specs.Linear.{Interpretation, HasShape, AreNumbersGood}
use Rattle.interpretations.proofs.Bound.{length-heads}
use Rattle.measure_grid.specs.Dead.{HasEntries, HaveEntries}
use Rattle.measure_grid.proofs.Dead.{numbers_kept, number_kept, large_part_kept, large_before}
use Rattle.measure_grid.proofs.Shape.{replicate_at}
use Rattle.term_core.specs.Prelude.{view, rule_view, AreCounted}
use Rattle.term_core.specs.declared.systems.Rule.{Rule}
use Rattle.linear_interp.specs.Parts.{IsReady, AreReady}
use Rattle.linear_interp.specs.Falling.{IsSideReady, IsRuleReady}
use Rattle.grid_search.specs.Prefix.{IsPrefix}
use Rattle.grid_search.specs.Needed.{needed_at}
use Rattle.grid_search.proofs.Needed.{has_needed}
use Rattle.linear_interp.proofs.Judging.{ready_rule}
use Rattle.linear_interp.proofs.Final.{rules_ready}
use Rattle.grid_search.proofs.Extending.{next_prefix}

-- an entry of a symbol with n arguments whose numbers are all 1
abbrev ones : Head → ℕ → LinearEntry
ones head n = record { head = head; coefficients = replicate (suc n) 1 }

module _ (sys : System) where
  ones_good : (f : ℕ) (head : Head) (n : ℕ) → AreNumbersGood sys f (ones head n).coefficients
  ones_good f head n =
      record {
        small = λ k c at. (let one = replicate_at (suc n) 1 c k at in omega (arith, one));
        active = λ k c at active. (let one = replicate_at (suc n) 1 c (suc k) at in omega (arith, one));
        constant = λ c at some. (let one = replicate_at (suc n) 1 c 0 at in omega (arith, one));
      }

  -- that of the next symbol
  abbrev next : Interpretation → LinearEntry
  next es = ones (get_or (heads sys) (length es) (file 0)) (get_or (unraveled sys).arities (length es) 0)

  next_counted : (es : Interpretation) → length es < length (heads sys) → option_map suc (slice_get (unraveled sys).arities (length es)) ≡ Some (length (next es).coefficients)
  next_counted es few =
      let arity = get_or (unraveled sys).arities (length es) 0 in
      let many = length-heads sys in
      ap (option_map suc) (slice_get-get_or (unraveled sys).arities (length es) 0 (omega (arith, few, many))) ∙ ap Some (sym (length-replicate (suc arity) 1))

  with_next : (es : Interpretation) → IsPrefix sys es → length es < length (heads sys) → IsPrefix sys (es ++ next es ∷ [])
  with_next es p few = next_prefix sys es (next es) p (slice_get-get_or (heads sys) (length es) (file 0) few) (next_counted es few) (ones_good (length es) (next es).head _)

  -- entries behind a prefix that make it whole
  record Rest (es : Interpretation) : Type 0 where
    more : Interpretation
    prefix : IsPrefix sys (es ++ more)
    whole : length (es ++ more) ≡ length (heads sys)

  behind : (es : Interpretation) (e : LinearEntry) → Rest (es ++ e ∷ []) → Rest es
  behind es e rest = (let same = append_assoc es (e ∷ []) rest.more in record { more = e ∷ rest.more; prefix = subst (IsPrefix sys) same rest.prefix; whole = ap length (sym same) ∙ rest.whole })

  completed : (m : ℕ) (es : Interpretation) → IsPrefix sys es → m + length es ≡ length (heads sys) → Rest es
  completed zero es p e = record { more = []; prefix = subst (IsPrefix sys) (sym (append-nil es)) p; whole = (let same = ap length (append-nil es) in omega (arith, same, e)) }
  completed (suc m) es p e = let long = length_push es (next es) in behind es (next es) (completed m (es ++ next es ∷ []) (with_next es p (omega (arith, e))) (omega (arith, e, long)))

  rest_of : (es : Interpretation) → IsPrefix sys es → Rest es
  rest_of es p = go (length (heads sys)) (p.few) refl
    where
      go : (n : ℕ) → length es ≤ n → n ≡ length (heads sys) → Rest es
      go n le e = completed (n - length es) es p (omega (arith, le, e))

pub whole_shape : (sys : System) (es : Interpretation) → IsPrefix sys es → length es ≡ length (heads sys) → HasShape sys es
whole_shape sys es p whole = record { as_many = whole; entries = p.entries }

-- what is ready with entries behind those that are needed is ready without
module _ (es more : Interpretation) where
  mutual
    ready_before : (n : ℕ) (t : Term) → HasEntries es t → IsReady (es ++ more) n t → IsReady es n t
    ready_before n (var x) h r = r
    ready_before n (app f ts) (l, h) (within, counted, small, rest) =
        (l, ap length (sym (numbers_kept es more f l)) ∙ counted, λ k. subst (λ m. m ≤ 1000000) (number_kept es more f k l) (small k), all_ready_before n ts h rest)

    all_ready_before : (n : ℕ) (ts : Terms) → HaveEntries es ts → AreReady (es ++ more) n ts → AreReady es n ts
    all_ready_before n nil h r = tt
    all_ready_before n (cons t ts) (h, hs) (r, rs) = (ready_before n t h r, all_ready_before n ts hs rs)

  side_before : (variables : ℕ) (t : Term) → HasEntries es t → IsSideReady (es ++ more) variables t → IsSideReady es variables t
  side_before variables t h s = record { ready = ready_before (variables + 1) t h s.ready; shows = λ large. large_before es more t h (s.shows (large_part_kept es more t h large)) }

-- a rule of the unraveled system is ready where the prefix has the entries that it needs
pub rule_ready : (sys system : System) (es : Interpretation) (rs : List Rule) → system ≡ unraveled sys → IsWellFormed sys → IsPrefix sys es → map rule_view rs ≡ system.rules
    → AreCounted rs → IsSystem system
    → (i : ℕ) (r : Rule) → i < length rs → r ≡ get_or rs i r → needed_at (rule_view r) ≤ length es → IsRuleReady es r
rule_ready sys system es rs same well p are counted sound i r lt is needs =
    let rest = rest_of sys es p in
    let all = rules_ready sys system (es ++ rest.more) rs same well (whole_shape sys (es ++ rest.more) rest.prefix rest.whole) rest.prefix.numbers are counted sound in
    let one = ready_rule (es ++ rest.more) rs i r all lt is in
    record {
      few = one.few;
      left = side_before es rest.more r.vars (view r.left) (has_needed es (view r.left) (omega (arith, needs))) one.left;
      right = side_before es rest.more r.vars (view r.right) (has_needed es (view r.right) (omega (arith, needs))) one.right;
    }

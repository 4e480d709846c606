-- The list that is made level by level is the one of a queue.
use Rattle.std.proofs.Common.{◌≡◌, ℕ, zero, suc, ◌+◌, ◌≤◌, ◌<◌, nat_lt, Bool, true, false, List, [], ◌∷◌, ◌++◌, length, flat_map, drop, slice_get, Option, None, Some, refl, sym}
use Rattle.std.proofs.Common.{ap, ◌∙◌, subst, append_assoc, append-nil, length-append, drop_at, le_refl, arith}
use Rattle.std.proofs.lemmas.List.{length-map, map-append}
use Rattle.std.proofs.lemmas.Bool.{cond-true, cond-false, lt-ltb, le-ltb}
use Rattle.rewriting.specs.Terms.{Term}
use Rattle.certificates.specs.Derivations.{no_steps}
use Rattle.reach_lists.specs.Solutions.{Reached}
use Rattle.reach_lists.specs.Lists.{takes, with_term, with_terms, successors, condition_list, breadth_first, expanded}
use Rattle.reach_lists.specs.Laws.{EachOf, ListsAreThoseOfQueues}
use Rattle.reach_lists.specs.Queue.{Queued, queued_terms, at_distance, with_queued, with_all_queued, handled, queue_from, queue}
use Rattle.reach_lists.proofs.Each.{each_append}
use Rattle.reach_lists.proofs.Equations.{no_rounds}
use Rattle.reach_lists.proofs.Growing.{expanded_first, round, short, with_terms-append}

abbrev pub IsAt : ℕ → Queued → Type 0
IsAt e u = u.distance ≡ e

-- what is put behind a queue, all at one distance
record IsPut (e : ℕ) (q : List Queued) (rs : List Reached) (after : List Queued) : Type 0 where
  more : List Queued
  is : after ≡ q ++ more
  far : EachOf (IsAt e) more
  terms : queued_terms after ≡ with_terms (queued_terms q) rs

put_one : (e : ℕ) (q : List Queued) (r : Reached) (b : Bool) → takes (queued_terms q) r.term ≡ b
    → (more : List Queued) × (with_queued e q r ≡ q ++ more) × EachOf (IsAt e) more × (queued_terms (with_queued e q r) ≡ with_term (queued_terms q) r)
put_one e q r true t =
    let same : with_queued e q r ≡ q ++ at_distance e r ∷ [] = cond-true (takes (queued_terms q) r.term) (q ++ at_distance e r ∷ []) q t in
    let other : with_term (queued_terms q) r ≡ queued_terms q ++ r ∷ [] = cond-true (takes (queued_terms q) r.term) (queued_terms q ++ r ∷ []) (queued_terms q) t in
    (at_distance e r ∷ [], same, (refl, tt), ap queued_terms same ∙ map-append (λ (u : Queued). u.reached) q (at_distance e r ∷ []) ∙ sym other)
put_one e q r false t =
    let same : with_queued e q r ≡ q = cond-false (takes (queued_terms q) r.term) (q ++ at_distance e r ∷ []) q t in
    let other : with_term (queued_terms q) r ≡ queued_terms q = cond-false (takes (queued_terms q) r.term) (queued_terms q ++ r ∷ []) (queued_terms q) t in
    ([], same ∙ sym (append-nil q), tt, ap queued_terms same ∙ sym other)

put : (e : ℕ) (q : List Queued) (rs : List Reached) → IsPut e q rs (with_all_queued e q rs)
put e q [] = record { more = []; is = sym (append-nil q); far = tt; terms = refl }
put e q (r ∷ rs) =
    let (one, same, far, terms) = put_one e q r (takes (queued_terms q) r.term) refl in
    let rest = put e (with_queued e q r) rs in
    record {
      more = one ++ rest.more;
      is = rest.is ∙ ap (λ z. z ++ rest.more) same ∙ append_assoc q one rest.more;
      far = each_append (IsAt e) one rest.more far rest.far;
      terms = rest.terms ∙ ap (λ z. with_terms z rs) terms;
    }

found : (before : List Queued) (u : Queued) (after : List Queued) → slice_get (before ++ (u ∷ after)) (length before) ≡ Some u
found [] u after = refl
found (x ∷ before) u after = found before u after

-- terms of one distance below d are handled in a row
module _ (next : Reached → List Reached) (d e : ℕ) (near : e < d) where
  record IsHandled (before seg after : List Queued) : Type 0 where
    more : List Queued
    far : EachOf (IsAt (suc e)) more
    is : (fuel : ℕ) → queue_from next d (length before) (length seg + fuel) (before ++ (seg ++ after))
        ≡ queue_from next d (length before + length seg) fuel (before ++ (seg ++ (after ++ more)))
    terms : queued_terms (before ++ (seg ++ (after ++ more))) ≡ with_terms (queued_terms (before ++ (seg ++ after))) (flat_map next (queued_terms seg))

  one_handled : (before : List Queued) (u : Queued) (rest : List Queued) → IsAt e u
      → handled next d (before ++ (u ∷ rest)) (slice_get (before ++ (u ∷ rest)) (length before)) ≡ with_all_queued (suc e) (before ++ (u ∷ rest)) (next u.reached)
  one_handled before u rest at =
      ap (handled next d (before ++ (u ∷ rest))) (found before u rest)
      ∙ cond-true (nat_lt u.distance d) (with_all_queued (suc u.distance) (before ++ (u ∷ rest)) (next u.reached)) (before ++ (u ∷ rest))
      (subst (λ n. nat_lt n d ≡ true) (sym at) (lt-ltb e d near))
      ∙ ap (λ n. with_all_queued (suc n) (before ++ (u ∷ rest)) (next u.reached)) at

  -- the list with more at its end, its first part one longer
  moved : (before : List Queued) (u : Queued) (seg after more : List Queued)
      → (before ++ (u ∷ (seg ++ after))) ++ more ≡ (before ++ (u ∷ [])) ++ (seg ++ (after ++ more))
  moved before u seg after more =
      append_assoc before (u ∷ (seg ++ after)) more ∙ ap (λ z. before ++ (u ∷ z)) (append_assoc seg after more) ∙ sym (append_assoc before (u ∷ []) (seg ++ (after ++ more)))

  back : (before : List Queued) (u : Queued) (seg after one more : List Queued)
      → (before ++ (u ∷ [])) ++ (seg ++ ((after ++ one) ++ more)) ≡ before ++ (u ∷ (seg ++ (after ++ (one ++ more))))
  back before u seg after one more =
      append_assoc before (u ∷ []) (seg ++ ((after ++ one) ++ more)) ∙ ap (λ z. before ++ (u ∷ (seg ++ z))) (append_assoc after one more)

  handle : (before seg after : List Queued) → EachOf (IsAt e) seg → IsHandled before seg after
  handle before [] after h =
      record {
        more = [];
        far = tt;
        is = λ fuel. let same : length before + 0 ≡ length before = omega arith in
            let none : 0 + fuel ≡ fuel = omega arith in
            ap (λ n. queue_from next d (length before) n (before ++ after)) none
            ∙ ap (λ z. queue_from next d (length before) fuel (before ++ z)) (sym (append-nil after))
            ∙ ap (λ n. queue_from next d n fuel (before ++ (after ++ []))) (sym same);
        terms = ap (λ z. queued_terms (before ++ z)) (append-nil after);
      }
  handle before (u ∷ seg) after (at, h) =
      let q = before ++ (u ∷ (seg ++ after)) in
      let new = put (suc e) q (next u.reached) in
      let rest = handle (before ++ (u ∷ [])) seg (after ++ new.more) h in
      let grown : with_all_queued (suc e) q (next u.reached) ≡ (before ++ (u ∷ [])) ++ (seg ++ (after ++ new.more)) = new.is ∙ moved before u seg after new.more in
      let longer : length (before ++ (u ∷ [])) ≡ suc (length before) = let n = length-append before (u ∷ []) in omega (arith, n) in
      record {
        more = new.more ++ rest.more;
        far = each_append (IsAt (suc e)) new.more rest.more new.far rest.far;
        is = λ fuel. let count : length (before ++ (u ∷ [])) + length seg ≡ length before + suc (length seg) = omega (arith, longer) in
            let one : suc (length seg) + fuel ≡ suc (length seg + fuel) = omega arith in
            ap (λ n. queue_from next d (length before) n q) one
            ∙ ap (queue_from next d (suc (length before)) (length seg + fuel)) (one_handled before u (seg ++ after) at ∙ grown)
            ∙ ap (λ n. queue_from next d n (length seg + fuel) ((before ++ (u ∷ [])) ++ (seg ++ (after ++ new.more)))) (sym longer)
            ∙ rest.is fuel
            ∙ ap (λ n. queue_from next d n fuel ((before ++ (u ∷ [])) ++ (seg ++ ((after ++ new.more) ++ rest.more)))) count
            ∙ ap (queue_from next d (length before + suc (length seg)) fuel) (back before u seg after new.more rest.more);
        terms = ap queued_terms (sym (back before u seg after new.more rest.more))
            ∙ rest.terms
            ∙ ap (λ z. with_terms (queued_terms z) (flat_map next (queued_terms seg))) (sym grown)
            ∙ ap (λ z. with_terms z (flat_map next (queued_terms seg))) new.terms
            ∙ sym (with_terms-append (queued_terms q) (next u.reached) (flat_map next (queued_terms seg)));
      }

  -- the same, where nothing stands behind
  pub record IsLevel (before seg : List Queued) : Type 0 where
    pub more : List Queued
    pub far : EachOf (IsAt (suc e)) more
    pub is : (fuel : ℕ) → queue_from next d (length before) (length seg + fuel) (before ++ seg) ≡ queue_from next d (length before + length seg) fuel ((before ++ seg) ++ more)
    pub terms : queued_terms ((before ++ seg) ++ more) ≡ with_terms (queued_terms (before ++ seg)) (flat_map next (queued_terms seg))

  pub level : (before seg : List Queued) → EachOf (IsAt e) seg → IsLevel before seg
  level before seg h =
      let all = handle before seg [] h in
      let same : before ++ (seg ++ []) ≡ before ++ seg = ap (λ z. before ++ z) (append-nil seg) in
      let grown : before ++ (seg ++ all.more) ≡ (before ++ seg) ++ all.more = sym (append_assoc before seg all.more) in
      record {
        more = all.more;
        far = all.far;
        is = λ fuel. ap (queue_from next d (length before) (length seg + fuel)) (sym same) ∙ all.is fuel
            ∙ ap (queue_from next d (length before + length seg) fuel) grown;
        terms = ap queued_terms (sym grown) ∙ all.terms ∙ ap (λ z. with_terms (queued_terms z) (flat_map next (queued_terms seg))) same;
      }

-- what stands behind a front
at_place : (P : Queued → Type 0) (xs : List Queued) (k : ℕ) (u : Queued) → EachOf P xs → slice_get xs k ≡ Some u → P u
at_place P [] k u h e = cc
at_place P (x ∷ xs) zero u (h, hs) e = let same : x ≡ u = cc in subst P same h
at_place P (x ∷ xs) (suc k) u (h, hs) e = at_place P xs k u hs e

behind : (P : Queued → Type 0) (before after : List Queued) (k : ℕ) (u : Queued) → EachOf P after → length before ≤ k → slice_get (before ++ after) k ≡ Some u → P u
behind P [] after k u h n e = at_place P after k u h e
behind P (x ∷ before) after zero u h n e = absurd (let m = n in omega (arith, m))
behind P (x ∷ before) after (suc k) u h n e = behind P before after k u h (let m = n in omega (arith, m)) e

-- terms that are as far as is asked for are passed over
module _ (next : Reached → List Reached) (d : ℕ) where
  passed : (q : List Queued) (o : Option Queued) → ((u : Queued) → o ≡ Some u → d ≤ u.distance) → handled next d q o ≡ q
  passed q None h = refl
  passed q (Some u) h = cond-false (nat_lt u.distance d) (with_all_queued (suc u.distance) q (next u.reached)) q (le-ltb u.distance d (h u refl))

  stays : (fuel n : ℕ) (q : List Queued) → ((k : ℕ) (u : Queued) → n ≤ k → slice_get q k ≡ Some u → d ≤ u.distance) → queue_from next d n fuel q ≡ q
  stays zero n q h = refl
  stays (suc fuel) n q h =
      ap (queue_from next d (suc n) fuel) (passed q (slice_get q n) (λ u e. h n u (le_refl n) e))
      ∙ stays fuel (suc n) q (λ k u m e. h k u (omega (arith, m)) e)

split : (a b : ℕ) → a ≤ b → (k : ℕ) × (b ≡ a + k)
split zero b h = (b, omega arith)
split (suc a) zero h = absurd (omega (arith, h))
split (suc a) (suc b) h = let (k, e) = split a b (omega (arith, h)) in (k, omega (arith, e))

module _ (next : Reached → List Reached) (d : ℕ) (t : Term) where
  abbrev start : List Queued
  start = at_distance 0 (record { term = t; by = no_steps }) ∷ []

  -- all terms nearer than e are handled, and those at e stand behind them
  record IsReady (e : ℕ) : Type 0 where
    before : List Queued
    seg : List Queued
    far : EachOf (IsAt e) seg
    terms : queued_terms (before ++ seg) ≡ breadth_first next e t
    count : length before ≡ length (expanded next e t)
    is : (fuel : ℕ) → queue_from next d 0 (length before + fuel) start ≡ queue_from next d (length before) fuel (before ++ seg)

  last_terms : (e : ℕ) (s : IsReady e) → drop (length (expanded next e t)) (breadth_first next e t) ≡ queued_terms s.seg
  last_terms e s =
      let parts : breadth_first next e t ≡ queued_terms s.before ++ queued_terms s.seg = sym s.terms ∙ map-append (λ (u : Queued). u.reached) s.before s.seg in
      let n : length (expanded next e t) ≡ length (queued_terms s.before) = sym s.count ∙ sym (length-map s.before (λ (u : Queued). u.reached)) in
      ap (λ k. drop k (breadth_first next e t)) n
      ∙ ap (drop (length (queued_terms s.before))) parts
      ∙ drop_at (queued_terms s.before) (queued_terms s.seg) (length (queued_terms s.before)) refl

  ready : (e : ℕ) → e ≤ d → IsReady e
  ready zero h = record {
    before = [];
    seg = start;
    far = (refl, tt);
    terms = sym (no_rounds next t);
    count = refl;
    is = λ fuel. (let none : 0 + fuel ≡ fuel = omega arith in ap (λ n. queue_from next d 0 n start) none);
  }
  ready (suc e) h =
      let s = ready e (omega (arith, h)) in
      let l = level next d e h s.before s.seg s.far in
      let n = length-append s.before s.seg in
      record {
        before = s.before ++ s.seg;
        seg = l.more;
        far = l.far;
        terms = l.terms
            ∙ ap (λ z. with_terms z (flat_map next (queued_terms s.seg))) s.terms
            ∙ ap (λ z. with_terms (breadth_first next e t) (flat_map next z)) (sym (last_terms e s))
            ∙ sym (round next t e);
        count = sym (length-map (s.before ++ s.seg) (λ (u : Queued). u.reached)) ∙ ap length s.terms;
        is = λ fuel. let sum : length (s.before ++ s.seg) + fuel ≡ length s.before + (length s.seg + fuel) = omega (arith, n) in
            ap (λ k. queue_from next d 0 k start) sum ∙ s.is (length s.seg + fuel) ∙ l.is fuel
            ∙ ap (λ k. queue_from next d k fuel ((s.before ++ s.seg) ++ l.more)) (sym n);
      }

  few_before : (s : IsReady d) → length s.before ≤ 2000
  few_before s =
      let g = expanded_first next t d in
      let n = ap length g.is ∙ length-append (expanded next d t) g.more in
      let m = short next t d in
      let k = s.count in
      omega (arith, n, m, k)

  pub queue_is : queued_terms (queue next d t) ≡ breadth_first next d t
  queue_is =
      let s = ready d (le_refl d) in
      let (k, e) = split (length s.before) 2000 (few_before s) in
      ap (λ n. queued_terms (queue_from next d 0 n start)) e
      ∙ ap queued_terms (s.is k ∙ stays next d k (length s.before) (s.before ++ s.seg)
      (λ j u n f. let at : u.distance ≡ d = behind (IsAt d) s.before s.seg j u s.far n f in omega (arith, at)))
      ∙ s.terms

pub those_of_queues : ListsAreThoseOfQueues
those_of_queues sys hyps d c t = queue_is (successors sys hyps (condition_list sys hyps c)) d t

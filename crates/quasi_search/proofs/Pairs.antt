-- Pairs of listed terms of the left side of a condition.
use Rattle.std.proofs.Common.{ℕ, zero, suc, ◌≡◌, ◌+◌, ◌<◌, ◌≤◌, ◌↔◌, inl, inr, List, [], ◌∷◌, ◌++◌, map, length, get_or, drop, slice_get, None, Some, Ok}
use Rattle.std.proofs.Common.{refl, sym, ap, ◌∙◌, subst, add-one, arith}
use Rattle.std.specs.Prelude.{Bool, IsTrue}
use Rattle.std.proofs.Math.ListN.{drop_of_length-le}
use Rattle.std.proofs.lemmas.List.{map-append}
pub use Rattle.general_lemmas.proofs.Places.{slice_rest}
use Rattle.rewriting.specs.Prelude.{IsAmong, Terms, Fits, cons, nil, Condition, System}
use Rattle.unifier_run.specs.Run.{clash, IsOutcome}
use Rattle.unifier_run.specs.Overlaps.{Overlap}
use Rattle.unifier_run.proofs.Unique.{runs_same}
use Rattle.unification.specs.Answers.{UnifyAnswers}
use Rattle.unification.specs.declared.Unified.{Unified}
use Rattle.unification.specs.declared.Unified.TheVariants.{Mgu, Clash, TooLarge}
use Rattle.certificates.specs.Prelude.{unfeasible_pair, hypothesis_at, DoConditionsFit}
use Rattle.cert_model.specs.EvidenceView.{pair_evidence_view}
use Rattle.cert_model.specs.declared.evidence.PairEvidence.{PairEvidence}
use Rattle.valid_certificates.specs.Kinds.{quasi}
use Rattle.valid_certificates.specs.PairEvidence.{IsPairJudged}
use Rattle.term_core.specs.Prelude.{view, condition_view}
use Rattle.term_core.specs.declared.systems.Cond.{Cond}
use Rattle.critical_pairs.specs.View.{overlap_view}
use Rattle.critical_pairs.specs.declared.Overlap as listed
use Rattle.reach_lists.specs.Solutions.{Reached}
use Rattle.reach_lists.specs.Laws.{EachOf}
use Rattle.general_lemmas.proofs.Places.{map-drop_read}
use Rattle.first_found.specs.Items.{GivesNothing}
use Rattle.search_spaces.specs.Listings.{listing, pairs_of}
use Rattle.quasi_space.specs.QuasiItems.{QuasiItem, two_reducts, reduct_items, GivesQuasi}
use Rattle.quasi_space.proofs.Reducts.{reducts_unfeasible}
use Rattle.quasi_search.specs.declared.reducts.Reduct.{Reduct}
use Rattle.quasi_search.specs.Reducts.{reduct_view, reducts_view, pairs_with, condition_items, IsJudged, IsReductOf}

-- a run that ends in a clash has no other end
only_clash : (ts us : Terms) (f : Unified) → UnifyAnswers ts us (Ok f) → IsOutcome ts us clash → f ≡ Clash
only_clash ts us Clash h k = refl
only_clash ts us (Mgu s) h k = (let same = runs_same h.0.1 k in cc)
only_clash ts us TooLarge h k = (let same = runs_same h k in cc)

pub clash_told : (ts us : Terms) (f : Unified) (b : Bool) → UnifyAnswers ts us (Ok f) → IsTrue b ↔ (f ≡ Clash) → IsTrue b ↔ IsOutcome ts us clash
clash_told ts us f b h tells = (λ e. (subst (λ z. UnifyAnswers ts us (Ok z)) (tells.0 e) h).0, λ k. tells.1 (only_clash ts us f h k))

module _ (sys : System) (o : Overlap) (k : ℕ) (x y : Reduct) (first : IsReductOf sys o k x) (second : IsReductOf sys o k y) where
  abbrev DoClash : Type 0
  DoClash = IsOutcome (cons (reduct_view x).term nil) (cons (reduct_view y).term nil) clash

  -- where one is reducible, or they do not clash, the pair gives nothing
  pub bare_pair : (IsTrue x.is_irreducible → IsTrue y.is_irreducible → DoClash → ⊥) → GivesNothing (GivesQuasi sys o) (two_reducts k (reduct_view x, reduct_view y))
  bare_pair h e (is, valid) =
      let d = (reducts_unfeasible sys o k (reduct_view x) (reduct_view y) first.listed second.listed).0 (subst (λ z. IsPairJudged quasi sys o z None) is valid) in
      h (first.judged.1 d.0) (second.judged.1 d.1) d.2

  pub pair_gives : IsTrue x.is_irreducible → IsTrue y.is_irreducible → DoClash → (e : PairEvidence) → pair_evidence_view e ≡ unfeasible_pair k (reduct_view x).by (reduct_view y).by
      → GivesQuasi sys o (two_reducts k (reduct_view x, reduct_view y)) (pair_evidence_view e)
  pair_gives p q run e is = (
    is,
    subst (λ z. IsPairJudged quasi sys o z None) (sym is)
        ((reducts_unfeasible sys o k (reduct_view x) (reduct_view y) first.listed second.listed).1 (first.judged.0 p, second.judged.0 q, run)),
  )

-- what holds of each of a list
module _ {A : Type 0} (P : A → Type 0) where
  pub each_at : (xs : List A) (i : ℕ) (x : A) → i < length xs → x ≡ get_or xs i x → EachOf P xs → P x
  each_at [] i x h e each = absurd (omega (arith, h))
  each_at (y ∷ xs) zero x h e each = subst P (sym e) each.0
  each_at (y ∷ xs) (suc i) x h e each = each_at xs i x (omega (arith, h)) e each.1

  pub each_behind : (xs : List A) (i : ℕ) → EachOf P xs → EachOf P (drop i xs)
  each_behind [] zero each = tt
  each_behind [] (suc i) each = tt
  each_behind (y ∷ xs) zero each = each
  each_behind (y ∷ xs) (suc i) each = each_behind xs i each.1

-- the pairs that are left
module _ (k : ℕ) where
  abbrev pub items_with : Reached → List Reduct → List QuasiItem
  items_with x later = map (two_reducts k) (pairs_with x (reducts_view later))

  abbrev pub items_of : List Reduct → List QuasiItem
  items_of rs = map (two_reducts k) (pairs_of (reducts_view rs))

  pub next_with : (x : Reached) (later : List Reduct) (j : ℕ) (y : Reduct) → j < length later → y ≡ get_or later j y
      → items_with x (drop j later) ≡ (two_reducts k (x, reduct_view y) ∷ []) ++ items_with x (drop (j + 1) later)
  next_with x later j y h e = ap (λ z. map (two_reducts k) (pairs_with x z)) (map-drop_read reduct_view later j y h e)

  pub next_first : (rs : List Reduct) (i : ℕ) (x : Reduct) → i < length rs → x ≡ get_or rs i x
      → items_of (drop i rs) ≡ items_with (reduct_view x) (drop (i + 1) rs) ++ items_of (drop (i + 1) rs)
  next_first rs i x h e =
      ap (λ z. map (two_reducts k) (pairs_of z)) (map-drop_read reduct_view rs i x h e)
      ∙ map-append (two_reducts k) (pairs_with (reduct_view x) (reducts_view (drop (i + 1) rs))) (pairs_of (reducts_view (drop (i + 1) rs)))

  pub none_with : (x : Reached) (later : List Reduct) (j : ℕ) → length later ≤ j → items_with x (drop j later) ≡ []
  none_with x later j h = ap (λ z. map (two_reducts k) (pairs_with x z)) (ap (map reduct_view) (drop_of_length-le later h))

  pub none_of : (rs : List Reduct) (i : ℕ) → length rs ≤ i → items_of (drop i rs) ≡ []
  none_of rs i h = ap (λ z. map (two_reducts k) (pairs_of z)) (ap (map reduct_view) (drop_of_length-le rs h))

-- the terms of the listing of a condition's left side
module _ (sys : System) (o : Overlap) (k : ℕ) (c : Condition) (is : hypothesis_at o.pair.conditions k ≡ Some c) where
  pub each_listed : (rs : List Reduct) → EachOf (IsJudged sys) rs → ((x : Reached) → IsAmong x (reducts_view rs) → IsAmong x (listing sys o.pair.conditions c.left)) → EachOf (IsReductOf sys o k) rs
  each_listed [] judged within = tt
  each_listed (r ∷ rs) judged within = (
    record { judged = judged.0; listed = record { condition = c; is_condition = is; listed = within (reduct_view r) (inl refl) } },
    each_listed rs judged.1 (λ x h. within x (inr h)),
  )

-- the left side of a condition fits
left_fits : (cs : List Condition) (i : ℕ) (c : Condition) → slice_get cs i ≡ Some c → DoConditionsFit cs → Fits c.left
left_fits [] i c e fit = cc
left_fits (d ∷ cs) zero c e fit = (let same : d ≡ c = cc in subst (λ (z : Condition). Fits z.left) same fit.0)
left_fits (d ∷ cs) (suc i) c e fit = left_fits cs i c e fit.2

pub condition_fits : (cs : List Condition) (k : ℕ) (c : Condition) → hypothesis_at cs k ≡ Some c → DoConditionsFit cs → Fits c.left
condition_fits cs zero c e fit = cc
condition_fits cs (suc i) c e fit = left_fits cs i c e fit

-- a condition by its number
pub numbered : {A : Type 0} (f : A → Condition) (xs : List A) (i : ℕ) (x : A) → i < length xs → x ≡ get_or xs i x → hypothesis_at (map f xs) (i + 1) ≡ Some (f x)
numbered {A = A} f xs i x h e = rw add-one (go xs i h e)
  where
    go : (ys : List A) (j : ℕ) → j < length ys → x ≡ get_or ys j x → slice_get (map f ys) j ≡ Some (f x)
    go [] j h e = absurd (omega (arith, h))
    go (y ∷ ys) zero h e = ap (λ z. Some (f z)) (sym e)
    go (y ∷ ys) (suc j) h e = go ys j (omega (arith, h)) e

-- the conditions that are left
module _ (sys : System) (o : listed.Overlap) (i : ℕ) where
  abbrev pub items_behind : List QuasiItem
  items_behind = reduct_items sys (map condition_view o.conds.items) (i + 1) (map condition_view (drop i o.conds.items))

  pub none_behind : length o.conds.items ≤ i → items_behind ≡ []
  none_behind h = ap (reduct_items sys (map condition_view o.conds.items) (i + 1)) (ap (map condition_view) (drop_of_length-le o.conds.items h))

  pub next_condition : (x : Cond) → i < length o.conds.items → x ≡ get_or o.conds.items i x
      → items_behind
      ≡ condition_items sys (overlap_view o) (i + 1) (view x.left) ++ reduct_items sys (map condition_view o.conds.items) (i + 1 + 1) (map condition_view (drop (i + 1) o.conds.items))
  next_condition x h e =
      let number : suc (i + 1) ≡ i + 1 + 1 = omega arith in
      ap (reduct_items sys (map condition_view o.conds.items) (i + 1)) (map-drop_read condition_view o.conds.items i x h e)
      ∙ ap (λ m. condition_items sys (overlap_view o) (i + 1) (view x.left) ++ reduct_items sys (map condition_view o.conds.items) m (map condition_view (drop (i + 1) o.conds.items))) number

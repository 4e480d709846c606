-- Relations by their rows.
use Rattle.std.proofs.Common.{◌≡◌, ◌↔◌, ◌⊎◌, inl, inr, ⊎_elim, ℕ, zero, suc, ◌+◌, ◌<◌, ◌≤◌, Bool, true, false, not, IsTrue, if◌then◌else◌, nat_le, leb-true, leb-false, List, []}
use Rattle.std.proofs.Common.{◌∷◌, ◌++◌, map, length, get_or, take, take_all, Option, None, Some, slice_get, refl, ap, sym, subst, ◌∙◌, arith}
use Rattle.std.proofs.Math.ListN.{set}
use Rattle.std.proofs.lemmas.Bool.{cases_lt}
use Rattle.rewriting.specs.Lists.{IsAmong}
use Rattle.number_sets.specs.Sets.{members, IsLacking}
use Rattle.number_sets.specs.Relation.{members_of, row_of, Relates, PairAnswers, earlier_pair}
use Rattle.number_sets.specs.declared.words.NumberSet.{NumberSet}
use Rattle.number_sets.specs.declared.rows.NumberRelation.{NumberRelation}
use Rattle.rewriting.proofs.Lists.{among_either, among_left, among_right}

-- the numbers in the row at a place
abbrev pub members_in : List NumberSet → ℕ → List ℕ
members_in rows p = members_of (slice_get rows p)

-- an empty row put last changes nothing
pub put_empty : (rows : List NumberSet) (row : NumberSet) (p : ℕ) → members row ≡ [] → members_in (rows ++ row ∷ []) p ≡ members_in rows p
put_empty [] row zero e = e
put_empty [] row (suc p) e = refl
put_empty (r ∷ rows) row zero e = refl
put_empty (r ∷ rows) row (suc p) e = put_empty rows row p e

-- rows with the same numbers
pub same_rows : (rows others : List NumberSet) (p : ℕ) → map members rows ≡ map members others → members_in rows p ≡ members_in others p
same_rows [] [] p e = refl
same_rows [] (o ∷ others) p e = absurd (cc)
same_rows (r ∷ rows) [] p e = absurd (cc)
same_rows (r ∷ rows) (o ∷ others) zero e = cc
same_rows (r ∷ rows) (o ∷ others) (suc p) e = let rest : map members rows ≡ map members others = cc in same_rows rows others p rest

-- a row that gets the numbers of S
pub put_row : (S : ℕ → Type 0) (rows : List NumberSet) (n : ℕ) (old new : NumberSet) → n < length rows → old ≡ get_or rows n old → ((q : ℕ) → IsAmong q (members new) ↔ (IsAmong q (members old) ⊎ S q))
    → (p q : ℕ) → IsAmong q (members_in (set rows n new) p) ↔ (IsAmong q (members_in rows p) ⊎ ((p ≡ n) × S q))
put_row S [] n old new inside is step p q = absurd (omega arith)
put_row S (r ∷ rows) zero old new inside is step zero q =
    let same = subst (λ (s : NumberSet). IsAmong q (members new) ↔ (IsAmong q (members s) ⊎ S q)) is (step q) in
    (λ h. ⊎_elim (λ i. inl i) (λ s. inr (refl, s)) (same.0 h), λ h. same.1 (⊎_elim (λ i. inl i) (λ s. inr s.1) h))
put_row S (r ∷ rows) zero old new inside is step (suc p) q = (λ h. inl h, λ h. ⊎_elim (λ i. i) (λ s. let e = s.0 in absurd (omega arith)) h)
put_row S (r ∷ rows) (suc n) old new inside is step zero q = (λ h. inl h, λ h. ⊎_elim (λ i. i) (λ s. let e = s.0 in absurd (omega arith)) h)
put_row S (r ∷ rows) (suc n) old new inside is step (suc p) q =
    let rest = put_row S rows n old new (omega arith) is step p q in
    (λ h. ⊎_elim (λ i. inl i) (λ s. let e = s.0 in inr (omega arith, s.1)) (rest.0 h), λ h. rest.1 (⊎_elim (λ i. inl i) (λ s. let e = s.0 in inr (omega arith, s.1)) h))

-- a relation whose row at a number gets the numbers of S, once there is place for it
pub put_in_row : (S : ℕ → Type 0) (first : NumberRelation) (rows made : List NumberSet) (n : ℕ) (old new : NumberSet) → ((p : ℕ) → members_in rows p ≡ row_of first p)
    → n + 1 ≤ length rows → old ≡ get_or rows n old
    → ((q : ℕ) → IsAmong q (members new) ↔ (IsAmong q (members old) ⊎ S q)) → made ≡ set rows n new → (p q : ℕ) → IsAmong q (members_in made p) ↔ (Relates first p q ⊎ ((p ≡ n) × S q))
put_in_row S first rows made n old new same inside is step e p q =
    subst (λ (l : List NumberSet). IsAmong q (members_in l p) ↔ (Relates first p q ⊎ ((p ≡ n) × S q))) (sym e)
    (subst (λ (l : List ℕ). IsAmong q (members_in (set rows n new) p) ↔ (IsAmong q l ⊎ ((p ≡ n) × S q))) (same p) (put_row S rows n old new (omega arith) is step p q))

-- one of the elements so far, and one more
pub one_more : {A B C S : Type 0} (p x : ℕ) (xs ys : List ℕ) → ys ≡ xs ++ x ∷ [] → A ↔ (B ⊎ (IsAmong p xs × S)) → C ↔ (A ⊎ ((p ≡ x) × S)) → C ↔ (B ⊎ (IsAmong p ys × S))
one_more {A = A} {B = B} {C = C} {S = S} p x xs ys e front more = (into, back)
  where
    there : IsAmong p xs ⊎ (p ≡ x) → IsAmong p ys
    there (inl i) = subst (λ (l : List ℕ). IsAmong p l) (sym e) (among_left p xs (x ∷ []) i)
    there (inr s) = subst (λ (l : List ℕ). IsAmong p l) (sym e) (among_right p xs (x ∷ []) (inl s))

    into : C → B ⊎ (IsAmong p ys × S)
    into c = ⊎_elim (λ a. ⊎_elim (λ b. inl b) (λ i. inr (there (inl i.0), i.1)) (front.0 a)) (λ h. inr (there (inr h.0), h.1)) (more.0 c)

    one : IsAmong p xs ⊎ IsAmong p (x ∷ []) → S → C
    one (inl i) s = more.1 (inl (front.1 (inr (i, s))))
    one (inr (inl h)) s = more.1 (inr (h, s))
    one (inr (inr f)) s = absurd f

    back : B ⊎ (IsAmong p ys × S) → C
    back (inl b) = more.1 (inl (front.1 (inl b)))
    back (inr (i, s)) = one (among_either p xs (x ∷ []) (subst (λ (l : List ℕ). IsAmong p l) e i)) s

-- one of the numbers below n, and n
pub below_more : {A C : Type 0} (P : ℕ → Type 0) (n : ℕ) → A ↔ ((s : ℕ) × (s < n) × P s) → C ↔ (A ⊎ P n) → C ↔ ((s : ℕ) × (s < n + 1) × P s)
below_more {A = A} {C = C} P n front more = (into, back)
  where
    into : C → (s : ℕ) × (s < n + 1) × P s
    into c = ⊎_elim (λ a. let r = front.0 a in let low : r.0 < n = r.1 in (r.0, omega arith, r.2)) (λ h. (n, omega arith, h)) (more.0 c)

    one : (s : ℕ) → (s < n) ⊎ (n ≤ s) → s < n + 1 → P s → C
    one s (inl low) l h = more.1 (inl (front.1 (s, low, h)))
    one s (inr high) l h = let same : s ≡ n = omega arith in more.1 (inr (subst P same h))

    back : (s : ℕ) × (s < n + 1) × P s → C
    back (s, l, h) = one s (cases_lt s n) l h

pub below_skip : {A : Type 0} (P : ℕ → Type 0) (n : ℕ) → A ↔ ((s : ℕ) × (s < n) × P s) → (P n → ⊥) → A ↔ ((s : ℕ) × (s < n + 1) × P s)
below_skip {A = A} P n front never = below_more {A = A} {C = A} P n front (λ a. inl a, λ h. ⊎_elim (λ a. a) (λ k. absurd (never k)) h)

pub below_all : {A : Type 0} (P : ℕ → Type 0) (n : ℕ) → A ↔ ((s : ℕ) × (s < n) × P s) → ((s : ℕ) → P s → s < n) → A ↔ ((s : ℕ) × P s)
below_all {A = A} P n front low = (λ a. let r = front.0 a in (r.0, r.2), λ r. front.1 (r.0, low r.0 r.1, r.1))

-- the first pair among those with a left number below n
pub record IsFirstBelow (r other : NumberRelation) (n p q : ℕ) : Type 0 where
  pub low : p < n
  pub inside : Relates r p q
  pub lacking : Relates other p q → ⊥
  pub earlier : (left right : ℕ) → left < n → Relates r left right → (right < q) ⊎ ((right ≡ q) × (left < p)) → Relates other left right

abbrev pub FirstBelow : NumberRelation → NumberRelation → ℕ → Option (ℕ × ℕ) → Type 0
FirstBelow r other n None = (p q : ℕ) → p < n → Relates r p q → Relates other p q
FirstBelow r other n (Some (p, q)) = IsFirstBelow r other n p q

module _ (r other : NumberRelation) (n : ℕ) where
  had_more : (X : ℕ → ℕ → Type 0) → ((p q : ℕ) → p < n → Relates r p q → X p q → Relates other p q) → ((q : ℕ) → Relates r n q → X n q → Relates other n q)
      → (p q : ℕ) → p < n + 1 → Relates r p q → X p q → Relates other p q
  had_more X front here p q l h x = go (cases_lt p n)
    where
      go : (p < n) ⊎ (n ≤ p) → Relates other p q
      go (inl low) = front p q low h x
      go (inr high) =
          let same : p ≡ n = omega arith in
          subst (λ (k : ℕ). Relates other k q) (sym same) (here q (subst (λ (k : ℕ). Relates r k q) same h) (subst (λ (k : ℕ). X k q) same x))

  pub first_kept : (first : Option (ℕ × ℕ)) → FirstBelow r other n first → ((q : ℕ) → Relates r n q → Relates other n q) → FirstBelow r other (n + 1) first
  first_kept None front here = λ p q l h. had_more (λ a b. Unit {0}) (λ a b low k x. front a b low k) (λ b k x. here b k) p q l h tt
  first_kept (Some (p, q)) front here = record {
    low = let low = front.low in omega arith;
    inside = front.inside;
    lacking = front.lacking;
    earlier = had_more (λ a b. (b < q) ⊎ ((b ≡ q) × (a < p))) front.earlier (λ b k x. here b k);
  }

  taken : (q : ℕ) → ((a b : ℕ) → a < n → Relates r a b → (b < q) ⊎ ((b ≡ q) × (a < n)) → Relates other a b) → IsLacking (row_of r n) (row_of other n) q → IsFirstBelow r other (n + 1) n q
  taken q before least = record {
    low = omega arith;
    inside = least.inside;
    lacking = least.lacking;
    earlier = had_more (λ a b. (b < q) ⊎ ((b ≡ q) × (a < n))) before (λ b k x. ⊎_elim (λ (l : b < q). least.earlier b k l) (λ e. let low = e.1 in absurd (omega arith)) x);
  }

  pub first_taken : (first : Option (ℕ × ℕ)) (q : ℕ) → FirstBelow r other n first → IsLacking (row_of r n) (row_of other n) q → FirstBelow r other (n + 1) (earlier_pair first n q)
  first_taken None q front least = taken q (λ a b low k x. front a b low k) least
  first_taken (Some (p, s)) q front least = go (nat_le s q) refl
    where
      go : (b : Bool) → nat_le s q ≡ b → FirstBelow r other (n + 1) (if b then Some (p, s) else Some (n, q))
      go true e = let less : s ≤ q = leb-true s q e in record {
        low = let low = front.low in omega arith;
        inside = front.inside;
        lacking = front.lacking;
        earlier = had_more (λ a b. (b < s) ⊎ ((b ≡ s) × (a < p))) front.earlier
            (λ b k x. ⊎_elim (λ (l : b < s). least.earlier b k (omega arith)) (λ e. let late = e.1 in let low = front.low in absurd (omega arith)) x);
      }
      go false e =
          let more : q < s = leb-false s q e in
          taken q (λ a b low k x. front.earlier a b low k (inl (⊎_elim (λ (l : b < q). omega arith) (λ e. let same = e.0 in omega arith) x))) least

pub first_of_all : (r other : NumberRelation) (n : ℕ) (first : Option (ℕ × ℕ)) → ((p q : ℕ) → Relates r p q → p < n) → FirstBelow r other n first → PairAnswers r other first
first_of_all r other n None low front = λ p q h. front p q (low p q h) h
first_of_all r other n (Some (p, q)) low front = record {
  inside = front.inside;
  lacking = front.lacking;
  earlier = λ a b h x. front.earlier a b (low a b h) h x;
}

-- a row that is empty, and one that is not
pub has_some : (xs ys : List ℕ) (b : Bool) → IsTrue b ↔ (xs ≡ []) → xs ≡ ys → IsTrue (not b) ↔ ((q : ℕ) × IsAmong q ys)
has_some xs ys true h e = (λ t. absurd (cc), λ i. absurd (subst (λ (l : List ℕ). IsAmong i.0 l) (sym e ∙ h.0 refl) i.1))
has_some [] ys false h e = let never = h.1 refl in absurd (cc)
has_some (x ∷ xs) ys false h e = (λ t. (x, subst (λ (l : List ℕ). IsAmong x l) e (inl refl)), λ i. refl)

pub copied_all : (rows others : List NumberSet) (n : ℕ) → length rows ≤ n → map members others ≡ map members (take n rows) → (p q : ℕ) → IsAmong q (members_in others p) ↔ IsAmong q (members_in rows p)
copied_all rows others n long front p q =
    let same = same_rows others rows p (front ∙ ap (map members) (take_all n rows long)) in
    (λ i. subst (λ (l : List ℕ). IsAmong q l) same i, λ i. subst (λ (l : List ℕ). IsAmong q l) (sym same) i)

-- pairs by way of a number, one number more
pub below_none : {A : Type 0} (P : ℕ → Type 0) → (A → ⊥) → A ↔ ((s : ℕ) × (s < 0) × P s)
below_none P never = (λ a. absurd (never a), λ r. let low = r.1 in absurd (omega arith))

module _ (r by old new : NumberRelation) (n : ℕ) (front : (p q : ℕ) → Relates old p q ↔ ((s : ℕ) × (s < n) × (Relates by s p × Relates r s q))) where
  pub carried_more : (lefts rights : List ℕ) (last : NumberRelation) → new ≡ last → lefts ≡ row_of by n → rights ≡ row_of r n
      → ((p q : ℕ) → Relates last p q ↔ (Relates old p q ⊎ (IsAmong p lefts × IsAmong q rights)))
      → (p q : ℕ) → Relates new p q ↔ ((s : ℕ) × (s < n + 1) × (Relates by s p × Relates r s q))
  carried_more lefts rights last is here there more p q =
      below_more (λ (s : ℕ). Relates by s p × Relates r s q) n (front p q)
      (subst (λ (m : NumberRelation). Relates m p q ↔ (Relates old p q ⊎ (Relates by n p × Relates r n q))) (sym is)
      (subst (λ (l : List ℕ). Relates last p q ↔ (Relates old p q ⊎ (IsAmong p l × Relates r n q))) here
      (subst (λ (l : List ℕ). Relates last p q ↔ (Relates old p q ⊎ (IsAmong p lefts × IsAmong q l))) there (more p q))))

  pub carried_skip : new ≡ old → ((p q : ℕ) → Relates by n p → Relates r n q → ⊥) → (p q : ℕ) → Relates new p q ↔ ((s : ℕ) × (s < n + 1) × (Relates by s p × Relates r s q))
  carried_skip is never p q =
      subst (λ (m : NumberRelation). Relates m p q ↔ ((s : ℕ) × (s < n + 1) × (Relates by s p × Relates r s q))) (sym is)
      (below_skip (λ (s : ℕ). Relates by s p × Relates r s q) n (front p q) (λ h. never p q h.0 h.1))

pub carried_all : (r by made : NumberRelation) (n : ℕ) → ((p q : ℕ) → Relates r p q → p < n) → ((p q : ℕ) → Relates made p q ↔ ((s : ℕ) × (s < n) × (Relates by s p × Relates r s q)))
    → (p q : ℕ) → Relates made p q ↔ ((s : ℕ) × Relates by s p × Relates r s q)
carried_all r by made n low front p q =
    let all = below_all (λ (s : ℕ). Relates by s p × Relates r s q) n (front p q) (λ s h. low s q h.1) in
    (λ h. let i = all.0 h in (i.0, i.1.0, i.1.1), λ i. all.1 (i.0, (i.1, i.2)))

-- pairs that are turned, one number more
module _ (r old new : NumberRelation) (n : ℕ) (front : (p q : ℕ) → Relates old p q ↔ ((s : ℕ) × (s < n) × ((q ≡ s) × Relates r s p))) where
  pub turned_more : (rights alone : List ℕ) (last : NumberRelation) → new ≡ last → rights ≡ row_of r n → alone ≡ n ∷ []
      → ((p q : ℕ) → Relates last p q ↔ (Relates old p q ⊎ (IsAmong p rights × IsAmong q alone)))
      → (p q : ℕ) → Relates new p q ↔ ((s : ℕ) × (s < n + 1) × ((q ≡ s) × Relates r s p))
  turned_more rights alone last is here one more p q = below_more (λ (s : ℕ). (q ≡ s) × Relates r s p) n (front p q)
      (λ h. ⊎_elim (λ o. inl o) (λ i. inr (⊎_elim (λ e. e) (λ f. absurd f) i.1, i.0)) (step.0 h), λ h. step.1 (⊎_elim (λ o. inl o) (λ i. inr (i.1, inl i.0)) h))
    where
      step : Relates new p q ↔ (Relates old p q ⊎ (Relates r n p × IsAmong q (n ∷ [])))
      step =
          subst (λ (m : NumberRelation). Relates m p q ↔ (Relates old p q ⊎ (Relates r n p × IsAmong q (n ∷ [])))) (sym is)
          (subst (λ (l : List ℕ). Relates last p q ↔ (Relates old p q ⊎ (IsAmong p l × IsAmong q (n ∷ [])))) here
          (subst (λ (l : List ℕ). Relates last p q ↔ (Relates old p q ⊎ (IsAmong p rights × IsAmong q l))) one (more p q)))

  pub turned_skip : new ≡ old → ((p : ℕ) → Relates r n p → ⊥) → (p q : ℕ) → Relates new p q ↔ ((s : ℕ) × (s < n + 1) × ((q ≡ s) × Relates r s p))
  turned_skip is never p q =
      subst (λ (m : NumberRelation). Relates m p q ↔ ((s : ℕ) × (s < n + 1) × ((q ≡ s) × Relates r s p))) (sym is)
      (below_skip (λ (s : ℕ). (q ≡ s) × Relates r s p) n (front p q) (λ h. never p h.1))

pub turned_all : (r made : NumberRelation) (n : ℕ) → ((p q : ℕ) → Relates r p q → p < n) → ((p q : ℕ) → Relates made p q ↔ ((s : ℕ) × (s < n) × ((q ≡ s) × Relates r s p)))
    → (p q : ℕ) → Relates made p q ↔ Relates r q p
turned_all r made n low front p q = (
  λ h. let i = (front p q).0 h in subst (λ (k : ℕ). Relates r k p) (sym i.2.0) i.2.1,
  λ h. (front p q).1 (q, low q p h, (refl, h)),
)

-- a row that is not there
pub none_found : (numbers : List ℕ) → [] ≡ numbers → (q : ℕ) → IsAmong q numbers → ⊥
none_found numbers e q i = subst (λ (l : List ℕ). IsAmong q l) (sym e) i

-- the row at a place
at_place : (rows : List NumberSet) (i : ℕ) (row : NumberSet) → i < length rows → row ≡ get_or rows i row → members_in rows i ≡ members row
at_place [] i row inside is = absurd (omega arith)
at_place (r ∷ rows) zero row inside is = ap members (sym is)
at_place (r ∷ rows) (suc i) row inside is = at_place rows i row (omega arith) is

past : (rows : List NumberSet) (p : ℕ) → length rows ≤ p → members_in rows p ≡ []
past [] p h = refl
past (r ∷ rows) zero h = absurd (omega arith)
past (r ∷ rows) (suc p) h = past rows p (omega arith)

-- rows that are all empty, one row more at a time, and one that is not
pub row_none : (rows : List NumberSet) (i : ℕ) (row : NumberSet) → i < length rows → row ≡ get_or rows i row → members row ≡ [] → ((p q : ℕ) → p < i → IsAmong q (members_in rows p) → ⊥)
    → (p q : ℕ) → p < i + 1 → IsAmong q (members_in rows p) → ⊥
row_none rows i row inside is none front p q low h =
    ⊎_elim (λ (l : p < i). front p q l h)
    (λ (l : i ≤ p). let same : p ≡ i = omega arith in subst (λ (l : List ℕ). IsAmong q l) (at_place rows i row inside is ∙ none)
    (subst (λ (k : ℕ). IsAmong q (members_in rows k)) same h)) (cases_lt p i)

pub rows_none : (r : NumberRelation) (rows : List NumberSet) → rows ≡ r.rows.items → (i : ℕ) → length rows ≤ i → ((p q : ℕ) → p < i → IsAmong q (members_in rows p) → ⊥) → (p q : ℕ) → Relates r p q → ⊥
rows_none r rows same i long front p q h =
    let there = subst (λ (l : List NumberSet). IsAmong q (members_in l p)) (sym same) h in
    ⊎_elim (λ (l : p < i). front p q l there) (λ (l : i ≤ p). subst (λ (l : List ℕ). IsAmong q l) (past rows p (omega arith)) there) (cases_lt p i)

pub row_here : (r : NumberRelation) (rows : List NumberSet) → rows ≡ r.rows.items → (i : ℕ) (row : NumberSet) → i < length rows → row ≡ get_or rows i row → (b : Bool)
    → IsTrue b ↔ (members row ≡ []) → b ≡ false
    → ((p q : ℕ) → Relates r p q → ⊥) → ⊥
row_here r rows same i row inside is b empty full none =
    let there = (has_some (members row) (members_in rows i) b empty (sym (at_place rows i row inside is))).0 (ap not full) in
    none i there.0 (subst (λ (l : List NumberSet). IsAmong there.0 (members_in l i)) same there.1)

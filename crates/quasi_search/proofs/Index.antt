-- Listed terms are found by their keys.
use Rattle.std.proofs.Common.{◌≡◌, ℕ, ◌≤◌, Bool, true, false, cond, List, [], ◌∷◌, ◌++◌, map, append_assoc, Option, None, Some, Vec, Global, Bor, refl, sym, ap, ◌∙◌, subst}
use Rattle.std.proofs.lemmas.Bool.{false_from_ne_true, false≢true, or_from, or_left, or_right}
use Rattle.std.proofs.lemmas.List.{map-append}
use Rattle.std.specs.Str.{bytes_eq}
use Rattle.std.specs.Map.{lookup}
use Rattle.std.specs.HashMap.{HashMap, get}
use Rattle.indexmap.specs.IndexMap.{insert_entry}
use Rattle.indexmap.proofs.CallerLemmas.{insert_entry-new}
use Rattle.rewriting.specs.Prelude.{Term, size, is_same}
use Rattle.rewriting.proofs.Tests.{same_is, equal_same}
use Rattle.term_core.specs.View.{view}
use Rattle.reach_lists.specs.Solutions as math
use Rattle.reach_lists.specs.Lists.{is_listed}
use Rattle.reach_lists.specs.Laws.{EachOf, IsWithoutRepetition}
use Rattle.reach_lists.proofs.Each.{each_append}
use Rattle.reach.specs.Keys.{cells}
use Rattle.reach.specs.EntryView.{entry_view}
use Rattle.reach.specs.declared.listed.Entry.{Entry}
use Rattle.reach.proofs.Found.{key_tells, same_key}
use Rattle.quasi_search.specs.Joins.{IsIndexOf, IsFirstListed, FindAnswers, ShareNone, IsFirstShared}

abbrev Keyed : Type 0
Keyed = Vec ℕ Global × Bor Entry

abbrev keyed_view : Keyed → math.Reached
keyed_view e = entry_view e.1.now

abbrev IsKeyed : Keyed → Type 0
IsKeyed e = e.0.items ≡ cells (view e.1.now.term)

module _ (t : Term) where
  abbrev found : List Keyed → Option (Bor Entry)
  found es = lookup (λ k. bytes_eq (cells t) k.items) es

  abbrev Answer : List Keyed → Option (Bor Entry) → Type 0
  Answer es o = FindAnswers (map keyed_view es) t o

  behind_one : (e : Keyed) (es : List Keyed) (o : Option (Bor Entry)) → is_same (keyed_view e).term t ≡ false → Answer es o → Answer (e ∷ es) o
  behind_one e es (Some y) other h =
      record {
        before = keyed_view e ∷ h.before;
        behind = h.behind;
        split = ap (λ zs. keyed_view e ∷ zs) h.split;
        is_term = h.is_term;
        none_before = or_from (is_same (keyed_view e).term t) (is_listed t h.before) other h.none_before;
      }
  behind_one e es None other h = or_from (is_same (keyed_view e).term t) (is_listed t (map keyed_view es)) other h

  by_test : (e : Keyed) (es : List Keyed) (b : Bool) → is_same (keyed_view e).term t ≡ b → Answer es (found es) → Answer (e ∷ es) (cond b (Some e.1) (found es))
  by_test e es true same h =
      record { before = []; behind = map keyed_view es; split = refl; is_term = same_is (keyed_view e).term t same; none_before = refl }
  by_test e es false other h = behind_one e es (found es) other h

  find : size t ≤ 10000 → (es : List Keyed) → EachOf IsKeyed es → Answer es (found es)
  find few [] h = refl
  find few (e ∷ es) (h, hs) =
      let u = view e.1.now.term in
      let test : bytes_eq (cells t) e.0.items ≡ is_same u t = ap (bytes_eq (cells t)) h ∙ key_tells t u (is_same u t) few refl in
      by_test e es (bytes_eq (cells t) e.0.items) (sym test) (find few es hs)

-- what a look-up by a key finds
pub found_by : {S : Type 0} (m : HashMap (Vec ℕ Global) (Bor Entry) S) (key : List ℕ) (list : List math.Reached) (t : Term) → IsIndexOf list m.entries → size t ≤ 10000 → key ≡ cells t
    → (p : Option (Bor Entry)) → p ≡ lookup (λ k. bytes_eq key k.items) m.entries → FindAnswers list t p
found_by m key list t index few is p e =
    subst (λ l. FindAnswers l t p) index.all
    (subst (λ o. FindAnswers (map keyed_view m.entries) t o) (sym (e ∙ ap (λ z. lookup (λ k. bytes_eq z k.items) m.entries) is)) (find t few m.entries index.keyed))

-- some of a list is in the index, and the rest is left
pub record Indexing (list : List math.Reached) (entries : List Keyed) (rest : List math.Reached) : Type 0 where
  pub done : List math.Reached
  pub split : list ≡ done ++ rest
  pub index : IsIndexOf done entries

listed_middle : (t : Term) (before : List math.Reached) (x : math.Reached) (behind : List math.Reached) → x.term ≡ t → is_listed t (before ++ x ∷ behind) ≡ true
listed_middle t [] x behind e = or_left (is_same x.term t) (is_listed t behind) (equal_same x.term t e)
listed_middle t (y ∷ before) x behind e = or_right (is_same y.term t) (is_listed t (before ++ x ∷ behind)) (listed_middle t before x behind e)

-- no earlier term of a list without repetition is this one
pub new_term : (done : List math.Reached) (x : math.Reached) (rest : List math.Reached) → IsWithoutRepetition (done ++ x ∷ rest) → is_listed x.term done ≡ false
new_term [] x rest h = refl
new_term (d ∷ done) x rest (h, hs) =
    or_from (is_same d.term x.term) (is_listed x.term done)
    (false_from_ne_true (is_same d.term x.term) (λ e. false≢true (sym h ∙ listed_middle d.term done x rest (sym (same_is d.term x.term e)))))
    (new_term done x rest hs)

absent_key : (list : List math.Reached) (t : Term) (o : Option (Bor Entry)) → FindAnswers list t o → is_listed t list ≡ false → o ≡ None
absent_key list t None h e = refl
absent_key list t (Some y) h e =
    absurd (false≢true (sym e ∙ subst (λ z. is_listed t z ≡ true) (sym h.split) (listed_middle t h.before (entry_view y.now) h.behind h.is_term)))

module _ {S : Type 0} (m : HashMap (Vec ℕ Global) (Bor Entry) S) (key : Vec ℕ Global) (r : Bor Entry) (is : key.items ≡ cells (view r.now.term)) (few : size (view r.now.term) ≤ 10000) where
  one_more : (done : List math.Reached) → IsIndexOf done m.entries → is_listed (view r.now.term) done ≡ false → (entries : List Keyed) → entries ≡ insert_entry same_key m.entries key r
      → IsIndexOf (done ++ entry_view r.now ∷ []) entries
  one_more done index new entries e =
      let absent : get same_key m key ≡ None =
      absent_key done (view r.now.term) (get same_key m key) (found_by m key.items done (view r.now.term) index few is (get same_key m key) refl) new in
      let put : entries ≡ m.entries ++ (key, r) ∷ [] = e ∙ insert_entry-new same_key m key r absent in
      record {
        all = ap (map keyed_view) put ∙ map-append keyed_view m.entries ((key, r) ∷ []) ∙ ap (λ z. z ++ entry_view r.now ∷ []) index.all;
        keyed = subst (EachOf IsKeyed) (sym put) (each_append IsKeyed m.entries ((key, r) ∷ []) index.keyed (is, tt));
      }

  pub indexing_goes_on : (list rest behind : List math.Reached) → IsWithoutRepetition list → Indexing list m.entries rest → rest ≡ entry_view r.now ∷ behind
      → (entries : List Keyed) → entries ≡ insert_entry same_key m.entries key r → Indexing list entries behind
  indexing_goes_on list rest behind once so_far e entries put =
      let whole : list ≡ so_far.done ++ entry_view r.now ∷ behind = so_far.split ∙ ap (λ z. so_far.done ++ z) e in
      record {
        done = so_far.done ++ entry_view r.now ∷ [];
        split = whole ∙ sym (append_assoc so_far.done (entry_view r.now ∷ []) behind);
        index = one_more so_far.done so_far.index (new_term so_far.done (entry_view r.now) behind (subst IsWithoutRepetition whole once)) entries put;
      }

-- a look-up that finds none
pub none_found : (list : List math.Reached) (t : Term) (o : Option (Bor Entry)) → ((x : Bor Entry) → o ≡ Some x → ⊥) → FindAnswers list t o → is_listed t list ≡ false
none_found list t None other h = h
none_found list t (Some x) other h = absurd (other x refl)

-- some terms of a list are on no other one, and the rest is left
pub record Unshared (xs ys rest : List math.Reached) : Type 0 where
  pub done : List math.Reached
  pub split : xs ≡ done ++ rest
  pub none : ShareNone done ys

module _ (xs ys : List math.Reached) where
  module _ (rest : List math.Reached) (x : math.Reached) (behind : List math.Reached) (so_far : Unshared xs ys rest) (e : rest ≡ x ∷ behind) where
    whole : xs ≡ so_far.done ++ x ∷ behind
    whole = so_far.split ∙ ap (λ z. so_far.done ++ z) e

    pub unshared_goes_on : is_listed x.term ys ≡ false → Unshared xs ys behind
    unshared_goes_on h =
        record {
          done = so_far.done ++ x ∷ [];
          split = whole ∙ sym (append_assoc so_far.done (x ∷ []) behind);
          none = each_append (λ (z : math.Reached). is_listed z.term ys ≡ false) so_far.done (x ∷ []) so_far.none (h, tt);
        }

    pub shared_here : (y : math.Reached) → IsFirstListed ys x.term y → IsFirstShared xs ys x y
    shared_here y h = record { earlier = so_far.done; later = behind; left = whole; none_earlier = so_far.none; right = h }

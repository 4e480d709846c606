-- A walk through the pruned list of precedences: where it stands, and how it goes on.
use Rattle.std.proofs.Common.{ℕ, zero, suc, ◌≡◌, ◌+◌, ◌<◌, ◌≤◌, ◌⊎◌, inl, inr, List, [], ◌∷◌, ◌++◌, map, length, slice_get, Some, None, refl, sym, ap, ap₂, ◌∙◌, subst, arith}
use Rattle.std.proofs.lemmas.Bool.{cases_lt}
use Rattle.std.proofs.lemmas.List.{length-append, same_from_push}
use Rattle.std.proofs.lemmas.Option.{slice_get_within}
use Rattle.rewriting.specs.Prelude.{IsAmong, AreDistinct, IsSorted, System, Head, heads}
use Rattle.rewriting.proofs.Lists.{among_left, among_right, among_either, among_middle, before_one, sorted_right, sorted_across}
use Rattle.rewriting.proofs.Members.{place_among, among_place}
use Rattle.certificates.specs.Certificates.{precedence_measure}
use Rattle.interpretations.specs.Judgement.{good}
use Rattle.first_found.specs.Trees.{IsBarrenBelow, IsFirstBelow, StopsBelow}
use Rattle.first_found.specs.Paths.{IsAtChild, HasWalked}
use Rattle.first_found.proofs.Paths as paths
use Rattle.path_orders.specs.Precedences.{Precedence}
use Rattle.path_orders.specs.Dead.{IsDead}
use Rattle.path_orders.specs.Judged.{IsPrecedenceJudged}
use Rattle.path_orders.proofs.Dead.{dead_or_good}
use Rattle.path_orders.proofs.Heads.{heads_distinct}
use Rattle.precedence_walks.specs.Arrangements.{picks}
use Rattle.precedence_walks.specs.Precedences.{HasLessNumber}
use Rattle.precedence_walks.specs.Pruned.{Prefix, with_next, extensions, IsDeadPrefix, PrefixGives, start, IsPrunedFirst, IsPrunedBarren, PrunedStops}
use Rattle.precedence_walks.proofs.Arrangements.{pick_all, pick_one, pick_others, pick_distinct, pick_length, others_sorted}
use Rattle.precedence_walks.proofs.Listed.{heads_sorted}
use Rattle.precedence_walks.proofs.Pruned.{node}
use Rattle.lpo.specs.Places.{place_in}
use Rattle.lpo.proofs.Placing.{one_number}
use Rattle.precedence_search.specs.Walks.{FreeAnswers, StandsWith, HasComeTo, HasDoneWith, HasItsPlaces, IsAliveBefore}
use Rattle.precedence_search.proofs.Splits.{mapped_at, behind_all, picked_at}

module _ (sys : System) where
  abbrev Barren : ℕ → Prefix → ℕ → Type 0
  Barren = IsBarrenBelow extensions (IsDeadPrefix sys) (PrefixGives sys)

  abbrev top : ℕ
  top = length (heads sys)

  abbrev Walked : ℕ → ℕ → Prefix → ℕ → Type 0
  Walked = HasWalked extensions (IsDeadPrefix sys) (PrefixGives sys) top (start sys)

  -- the symbols that are left are those that do not stand among the entries, in order
  record IsTaken (p : Prefix) : Type 0 where
    sorted : IsSorted (HasLessNumber sys) p.left
    distinct : AreDistinct p.left
    symbols : (h : Head) → IsAmong h p.left → IsAmong h (heads sys)
    unused : (h : Head) → IsAmong h p.left → IsAmong h p.entries → ⊥
    others : (h : Head) → IsAmong h (heads sys) → (IsAmong h p.entries → ⊥) → IsAmong h p.left
    sum : length p.entries + length p.left ≡ length (heads sys)

  same_number : (f g : ℕ) (h : Head) → slice_get (heads sys) f ≡ Some h → slice_get (heads sys) g ≡ Some h → f ≡ g
  same_number f g h a b = one_number (heads sys) (heads_distinct sys) f g h a b

  taken_start : IsTaken (start sys)
  taken_start = record { sorted = heads_sorted sys; distinct = heads_distinct sys; symbols = λ h i. i; unused = λ h i j. j; others = λ h i j. i; sum = omega arith }

  taken_next : (p : Prefix) (q : Head × List Head) → IsTaken p → IsAmong q (picks p.left) → IsTaken (with_next p.entries q)
  taken_next p q t i =
      let apart = pick_distinct p.left t.distinct q i in
      record {
        sorted = others_sorted (HasLessNumber sys) p.left t.sorted q i;
        distinct = apart.1;
        symbols = λ h j. t.symbols h (pick_others p.left q i h j);
        unused = λ h j k. used h j (among_either h p.entries (q.0 ∷ []) k);
        others = λ h j k. left h (pick_all p.left q i h (t.others h j (λ used. k (among_left h p.entries (q.0 ∷ []) used)))) k;
        sum = count (length p.left) refl;
      }
    where
      used : (h : Head) → IsAmong h q.1 → IsAmong h p.entries ⊎ IsAmong h (q.0 ∷ []) → ⊥
      used h j (inl k) = t.unused h (pick_others p.left q i h j) k
      used h j (inr (inl e)) = (pick_distinct p.left t.distinct q i).0 (subst (λ z. IsAmong z q.1) e j)
      used h j (inr (inr k)) = k

      left : (h : Head) → (h ≡ q.0) ⊎ IsAmong h q.1 → (IsAmong h (p.entries ++ q.0 ∷ []) → ⊥) → IsAmong h q.1
      left h (inl e) k = absurd (k (among_right h p.entries (q.0 ∷ []) (inl e)))
      left h (inr j) k = j

      count : (n : ℕ) → length p.left ≡ n → length (p.entries ++ q.0 ∷ []) + length q.1 ≡ length (heads sys)
      count zero e = absurd (nothing p.left e (pick_one p.left q i))
        where
          nothing : (xs : List Head) → length xs ≡ 0 → IsAmong q.0 xs → ⊥
          nothing [] e i = i
          nothing (x ∷ xs) e i = omega (arith, e)
      count (suc n) e = let rest = pick_length n p.left q e i in let all = t.sum in let long = length-append p.entries (q.0 ∷ []) in omega (arith, e, rest, all, long)

  among_pick : (p : Prefix) (q : Prefix) (before behind : List Prefix) → extensions p ≡ before ++ q ∷ behind → (r : Head × List Head) × (q ≡ with_next p.entries r) × IsAmong r (picks p.left)
  among_pick p q before behind e =
      let at = mapped_at (with_next p.entries) (picks p.left) before q behind e in
      (at.item, at.is, subst (IsAmong at.item) (sym at.split) (among_middle at.item at.left at.right))

  taken_further : (p q : Prefix) (before behind : List Prefix) → IsTaken p → extensions p ≡ before ++ q ∷ behind → IsTaken q
  taken_further p q before behind t e = let at = among_pick p q before behind e in subst IsTaken (sym at.1) (taken_next p at.0 t at.2)

  taken : (k d : ℕ) (p : Prefix) (n : ℕ) → Walked k d p n → IsTaken p
  taken = paths.holds_along extensions (IsDeadPrefix sys) (PrefixGives sys) top (start sys) IsTaken taken_start taken_further

  pub begin : (order : Precedence) → order ≡ [] → HasComeTo sys order 0
  begin order e = subst (λ (z : Precedence). HasComeTo sys z 0) (sym e) (heads sys, (refl, refl, refl))

  -- which symbols have no place
  module _ (order : Precedence) (ps : List ℕ) (a : HasItsPlaces (heads sys) order ps) where
    free_unused : (f : ℕ) (h : Head) → slice_get (heads sys) f ≡ Some h → place_in ps f ≡ 0 → IsAmong h order → ⊥
    free_unused f h is free i =
        let at = among_place h order i in
        let there = a.complete f at.0 (slice_get_within order at.0 h at.1) (h, is, at.1) in omega (arith, there, free)

    unused_free : (f : ℕ) (h : Head) → slice_get (heads sys) f ≡ Some h → (IsAmong h order → ⊥) → place_in ps f ≡ 0
    unused_free f h is none = go (place_in ps f) refl
      where
        go : (p : ℕ) → place_in ps f ≡ p → place_in ps f ≡ 0
        go zero e = e
        go (suc j) e = (let s = (a.sound f j e).1 in absurd (none (place_among order j h (s.2 ∙ (let one = s.1 in let same : s.0 ≡ h = cc in ap Some same)))))

    number_inside : (f : ℕ) (h : Head) → slice_get (heads sys) f ≡ Some h → f < length ps
    number_inside f h is = let many = a.as_many in let within = slice_get_within (heads sys) f h is in omega (arith, many, within)

  -- the least symbol of a sorted list is its first
  least_first : (xs : List Head) → IsSorted (HasLessNumber sys) xs → (f : ℕ) (h : Head) → slice_get (heads sys) f ≡ Some h → IsAmong h xs
      → ((n : ℕ) (x : Head) → slice_get (heads sys) n ≡ Some x → IsAmong x xs → f ≤ n) → (rest : List Head) × (xs ≡ h ∷ rest)
  least_first [] s f h is i least = absurd i
  least_first (x ∷ xs) s f h is (inl e) least = (xs, ap (λ (z : Head). z ∷ xs) (sym e))
  least_first (x ∷ xs) (less, s) f h is (inr i) least =
      absurd (let b = before_one (HasLessNumber sys) x h xs less i in
      let same = same_number b.number_behind f h b.second is in
      let most = least b.number x b.first (inl refl) in
      let lt = b.less in omega (arith, same, most, lt))

  one_longer : (order : Precedence) (h : Head) → length (order ++ h ∷ []) ≡ suc (length order)
  one_longer order h = let sum = length-append order (h ∷ []) in omega (arith, sum)

  -- to the least symbol that is left
  pub go_down : (order : Precedence) (n : ℕ) (ps : List ℕ) (f : ℕ) (h : Head) → HasComeTo sys order n → (IsDead sys order → ⊥) → HasItsPlaces (heads sys) order ps → FreeAnswers ps 0 (Some f)
      → slice_get (heads sys) f ≡ Some h
      → HasComeTo sys (order ++ h ∷ []) n
  go_down order n ps f h (left, w) alive a (low, inside, free, least) is = below left w first.0 first.1
    where
      t : IsTaken (node order left)
      t = taken (length order) (length left) (node order left) n w

      first : (rest : List Head) × (left ≡ h ∷ rest)
      first =
          least_first left t.sorted f h is (t.others h (place_among (heads sys) f h is) (free_unused order ps a f h is free))
          (λ m x at i. not_less m x at i (cases_lt m f))
        where
          not_less : (m : ℕ) (x : Head) → slice_get (heads sys) m ≡ Some x → IsAmong x left → (m < f) ⊎ (f ≤ m) → f ≤ m
          not_less m x at i (inl lt) = absurd (least m (omega arith) lt (unused_free order ps a m x at (t.unused x i)))
          not_less m x at i (inr le) = le

      below : (left : List Head) → StandsWith sys left order n → (rest : List Head) → left ≡ h ∷ rest → HasComeTo sys (order ++ h ∷ []) n
      below left w rest e =
          let v : Walked (length order) (suc (length rest)) (node order (h ∷ rest)) n = subst (λ (z : List Head). Walked (length order) (length z) (node order z) n) e w in (
            rest,
            subst (λ (k : ℕ). Walked k (length rest) (node (order ++ h ∷ []) rest) n) (sym (one_longer order h))
                (paths.down extensions (IsDeadPrefix sys) (PrefixGives sys) top (start sys) (length order) (length rest) (node order (h ∷ rest)) (node (order ++ h ∷ []) rest) _ n v alive refl),
          )

  -- where the walk stands at the last of some symbols
  record IsAtSymbol (order : Precedence) (h : Head) (left : List Head) (n : ℕ) : Type 0 where
    at_child : IsAtChild extensions (IsDeadPrefix sys) (Barren (length left)) (Walked (length order) (suc (length left))) (node (order ++ h ∷ []) left) n
    before : List Head
    after : List Head
    parent : at_child.parent ≡ node order (before ++ h ∷ after)
    own : left ≡ before ++ after
    behind : at_child.behind ≡ map (with_next order) (map (behind_all (before ++ h ∷ [])) (picks after))

  of_child : (order : Precedence) (h : Head) (left : List Head) (n : ℕ)
      → IsAtChild extensions (IsDeadPrefix sys) (Barren (length left)) (Walked (length order) (suc (length left))) (node (order ++ h ∷ []) left) n → IsAtSymbol order h left n
  of_child order h left n child =
      let at = mapped_at (with_next child.parent.entries) (picks child.parent.left) child.before (node (order ++ h ∷ []) left) child.behind child.split in
      let pick = picked_at child.parent.left at.left at.item at.right at.split in
      let same = same_from_push order child.parent.entries h at.item.0 (ap (λ (p : Prefix). p.entries) at.is) in
      let further : left ≡ at.item.1 = ap (λ (p : Prefix). p.left) at.is in
      record {
        at_child = child;
        before = pick.before;
        after = pick.after;
        parent = ap₂ node (sym same.0) (pick.split ∙ ap (λ (z : Head). pick.before ++ z ∷ pick.after) (sym same.1));
        own = further ∙ pick.left;
        behind =
            at.behind ∙ ap (map (with_next child.parent.entries)) pick.behind
            ∙ ap (λ (z : Precedence). map (with_next z) (map (behind_all (pick.before ++ at.item.0 ∷ [])) (picks pick.after))) (sym same.0)
            ∙ ap (λ (z : Head). map (with_next order) (map (behind_all (pick.before ++ z ∷ [])) (picks pick.after))) (sym same.1);
      }

  at_symbol : (order : Precedence) (h : Head) (left : List Head) (n : ℕ) → StandsWith sys left (order ++ h ∷ []) n → IsAtSymbol order h left n
  at_symbol order h left n w = of_child order h left n (subst (λ (k : ℕ). Walked k (length left) (node (order ++ h ∷ []) left) n) (one_longer order h) w)

  module _ (order : Precedence) (h : Head) (f : ℕ) (is : slice_get (heads sys) f ≡ Some h) (left : List Head) (n : ℕ) (at : IsAtSymbol order h left n) (ps : List ℕ)
      (a : HasItsPlaces (heads sys) order ps) (u : ℕ)
      (bare : Barren (length left) (node (order ++ h ∷ []) left) u) where
    above : IsTaken (node order (at.before ++ h ∷ at.after))
    above = subst IsTaken at.parent (taken (length order) (suc (length left)) at.at_child.parent at.at_child.paid_above at.at_child.came_to)

    sorted_after : IsSorted (HasLessNumber sys) (h ∷ at.after)
    sorted_after = sorted_right (HasLessNumber sys) at.before (h ∷ at.after) above.sorted

    -- those behind have greater numbers, and no places
    after_free : (m : ℕ) (x : Head) → slice_get (heads sys) m ≡ Some x → IsAmong x at.after → (f < m) × (place_in ps m ≡ 0)
    after_free m x there i =
        let b = before_one (HasLessNumber sys) h x at.after sorted_after.0 i in
        let low = same_number b.number f h b.first is in
        let high = same_number b.number_behind m x b.second there in
        let lt = b.less in (omega (arith, low, high, lt), unused_free order ps a m x there (above.unused x (among_right x at.before (h ∷ at.after) (inr i))))

    -- those with greater numbers and no places are behind
    free_after : (g : ℕ) (x : Head) → slice_get (heads sys) g ≡ Some x → f < g → place_in ps g ≡ 0 → IsAmong x at.after
    free_after g x there lt free = go (among_either x at.before (h ∷ at.after) (above.others x (place_among (heads sys) g x there) (free_unused order ps a g x there free)))
      where
        go : IsAmong x at.before ⊎ IsAmong x (h ∷ at.after) → IsAmong x at.after
        go (inl i) =
            absurd (let b = sorted_across (HasLessNumber sys) at.before (h ∷ at.after) above.sorted x h i (inl refl) in
            let low = same_number b.number g x b.first there in
            let high = same_number b.number_behind f h b.second is in
            let less = b.less in omega (arith, low, high, less, lt))
        go (inr (inl e)) = absurd (let same = same_number g f h (there ∙ ap Some e) is in omega (arith, same, lt))
        go (inr (inr i)) = i

    -- to the next symbol
    across_to : (g : ℕ) (x : Head) → FreeAnswers ps (f + 1) (Some g) → slice_get (heads sys) g ≡ Some x → HasComeTo sys (order ++ x ∷ []) (n + u)
    across_to g x (low, inside, free, least) there = go at.after next.0 next.1 at.behind at.own
      where
        next : (rest : List Head) × (at.after ≡ x ∷ rest)
        next =
            least_first at.after sorted_after.1 g x there (free_after g x there (omega (arith, low)) free)
            (λ m y here i. not_less m y here i (cases_lt m g))
          where
            not_less : (m : ℕ) (y : Head) → slice_get (heads sys) m ≡ Some y → IsAmong y at.after → (m < g) ⊎ (g ≤ m) → g ≤ m
            not_less m y here i (inl lt) = absurd (let known = after_free m y here i in let more = known.0 in least m (omega (arith, more)) lt known.1)
            not_less m y here i (inr le) = le

        go : (after : List Head) (rest : List Head) → after ≡ x ∷ rest → at.at_child.behind ≡ map (with_next order) (map (behind_all (at.before ++ h ∷ [])) (picks after)) → left ≡ at.before ++ after
            → HasComeTo sys (order ++ x ∷ []) (n + u)
        go after rest e behind own =
            let remaining : List Head = (at.before ++ h ∷ []) ++ rest in
            let others = behind ∙ ap (λ (z : List Head). map (with_next order) (map (behind_all (at.before ++ h ∷ [])) (picks z))) e in
            let same : length left ≡ length remaining = (let one = ap length own in let two = ap length e in let sum = length-append at.before after in
            let first = length-append at.before (h ∷ []) in let both = length-append (at.before ++ h ∷ []) rest in
            omega (arith, one, two, sum, first, both)) in (
              remaining,
              subst (λ (k : ℕ). Walked k (length remaining) (node (order ++ x ∷ []) remaining) (n + u)) (sym (one_longer order x))
                  (subst (λ (d : ℕ). Walked (suc (length order)) d (node (order ++ x ∷ []) remaining) (n + u)) same
                  (paths.across extensions (IsDeadPrefix sys) (PrefixGives sys) top (start sys) (length order) (length left) (node (order ++ h ∷ []) left)
                  (node (order ++ x ∷ []) remaining) n u at.at_child bare _ others)),
            )

    -- it is done with the symbols before
    up_to : FreeAnswers ps (f + 1) None → HasDoneWith sys order (n + u)
    up_to none =
        let others = at.behind ∙ ap (λ (z : List Head). map (with_next order) (map (behind_all (at.before ++ h ∷ [])) (picks z))) nothing in
        let (m, barren, sum) = paths.up extensions (IsDeadPrefix sys) (PrefixGives sys) top (start sys) (length order) (length left) (node (order ++ h ∷ []) left) n u at.at_child bare others in
        let size : suc (length left) ≡ length (at.before ++ h ∷ at.after) = (let one = ap length at.own in let sum = length-append at.before at.after in
        let other = length-append at.before (h ∷ at.after) in omega (arith, one, sum, other)) in
        record {
          left = at.before ++ h ∷ at.after;
          paid = at.at_child.paid_above;
          units = m;
          came_to = subst (λ (d : ℕ). Walked (length order) d (node order (at.before ++ h ∷ at.after)) at.at_child.paid_above) size
              (subst (λ (p : Prefix). Walked (length order) (suc (length left)) p at.at_child.paid_above) at.parent at.at_child.came_to);
          barren = subst (λ (d : ℕ). Barren d (node order (at.before ++ h ∷ at.after)) m) size (subst (λ (p : Prefix). Barren (suc (length left)) p m) at.parent barren);
          sum = sym sum;
        }
      where
        nothing : at.after ≡ []
        nothing = empty at.after (λ x i. i)
          where
            empty : (xs : List Head) → ((x : Head) → IsAmong x xs → IsAmong x at.after) → xs ≡ []
            empty [] into = refl
            empty (x ∷ xs) into =
                absurd (let i = into x (inl refl) in
                let place = among_place x (heads sys) (above.symbols x (among_right x at.before (h ∷ at.after) (inr i))) in
                let known = after_free place.0 x place.1 i in
                let more = known.0 in none place.0 (omega (arith, more)) (number_inside order ps a place.0 x place.1) known.1)

  pub go_across : (order : Precedence) (h x : Head) (f g n : ℕ) (ps : List ℕ) → slice_get (heads sys) f ≡ Some h → slice_get (heads sys) g ≡ Some x → HasItsPlaces (heads sys) order ps
      → FreeAnswers ps (f + 1) (Some g)
      → HasDoneWith sys (order ++ h ∷ []) n → HasComeTo sys (order ++ x ∷ []) n
  go_across order h x f g n ps is there a free done =
      subst (HasComeTo sys (order ++ x ∷ [])) (sym done.sum)
      (across_to order h f is done.left done.paid (at_symbol order h done.left done.paid done.came_to) ps a done.units done.barren g x free there)

  pub go_up : (order : Precedence) (h : Head) (f n : ℕ) (ps : List ℕ) → slice_get (heads sys) f ≡ Some h → HasItsPlaces (heads sys) order ps → FreeAnswers ps (f + 1) None
      → HasDoneWith sys (order ++ h ∷ []) n → HasDoneWith sys order n
  go_up order h f n ps is a none done =
      subst (HasDoneWith sys order) (sym done.sum) (up_to order h f is done.left done.paid (at_symbol order h done.left done.paid done.came_to) ps a done.units done.barren none)

  pub is_alive_before : (order : Precedence) (n : ℕ) → HasComeTo sys order n → IsAliveBefore sys order
  is_alive_before order n (left, w) before h e =
      let at = at_symbol before h left n (subst (λ z. StandsWith sys left z n) e w) in subst (λ (p : Prefix). IsDeadPrefix sys p → ⊥) at.parent at.at_child.alive

  pub all_done : (n : ℕ) → HasDoneWith sys [] n → IsPrunedBarren sys n
  all_done n done =
      subst (IsPrunedBarren sys) (sym done.sum)
      (paths.barren_at_root extensions (IsDeadPrefix sys) (PrefixGives sys) top (start sys) (length done.left) (node [] done.left) done.paid done.units done.came_to done.barren)

  many : (order : Precedence) (left : List Head) (n : ℕ) → StandsWith sys left order n → length order + length left ≡ length (heads sys)
  many order left n w = (taken (length order) (length left) (node order left) n w).sum

  pub within : (order : Precedence) (n : ℕ) → HasComeTo sys order n → length order ≤ length (heads sys)
  within order n (left, w) = let sum = many order left n w in omega (arith, sum)

  nothing_left : (left : List Head) → length left ≡ 0 → left ≡ []
  nothing_left [] e = refl
  nothing_left (h ∷ left) e = absurd (omega (arith, e))

  -- what is dead is done with for a unit
  seen_barren : (order : Precedence) (left : List Head) → IsDead sys order → Barren (length left) (node order left) 1
  seen_barren order [] dead = ((λ m g. dead_or_good sys order dead g.1.1), refl)
  seen_barren order (h ∷ left) dead = inl (dead, refl)

  pub done_with_barren : (order : Precedence) (n : ℕ) → HasComeTo sys order n → IsDead sys order → HasDoneWith sys order (n + 1)
  done_with_barren order n (left, w) seen = record { left = left; paid = n; units = 1; came_to = w; barren = seen_barren order left seen; sum = refl }

  -- where it stops for want of a unit
  stopped : (order : Precedence) (left : List Head) → IsDead sys order ⊎ (left ≡ []) → StopsBelow extensions (IsDeadPrefix sys) (PrefixGives sys) (length left) (node order left) 0
  stopped order [] h = refl
  stopped order (x ∷ left) (inl dead) = inl (dead, refl)
  stopped order (x ∷ left) (inr e) = absurd (cc)

  pub stops_there : (order : Precedence) (n : ℕ) → HasComeTo sys order n → IsDead sys order ⊎ (length order ≡ length (heads sys)) → PrunedStops sys n
  stops_there order n (left, w) h =
      let sum : n + 0 ≡ n = omega arith in
      subst (PrunedStops sys) sum
      (paths.stops_at_root extensions (IsDeadPrefix sys) (PrefixGives sys) top (start sys) (length order) (length left) (node order left) n 0 w (stopped order left (cases h)))
    where
      cases : IsDead sys order ⊎ (length order ≡ length (heads sys)) → IsDead sys order ⊎ (left ≡ [])
      cases (inl dead) = inl dead
      cases (inr e) = inr (nothing_left left (let all = many order left n w in omega (arith, all, e)))

  -- the first good precedence
  pub found_there : (order : Precedence) (n : ℕ) → HasComeTo sys order n → length order ≡ length (heads sys) → IsPrecedenceJudged sys order good → IsPrunedFirst sys (precedence_measure order) (n + 1)
  found_there order n (left, w) e judged =
      paths.first_at_root extensions (IsDeadPrefix sys) (PrefixGives sys) top (start sys) (precedence_measure order) (length order) (length left) (node order left) n 1 w
      (leaf left (nothing_left left (let all = many order left n w in omega (arith, all, e))))
    where
      leaf : (left : List Head) → left ≡ [] → IsFirstBelow extensions (IsDeadPrefix sys) (PrefixGives sys) (precedence_measure order) (length left) (node order left) 1
      leaf [] e = ((refl, judged), refl)
      leaf (h ∷ left) e = absurd (cc)

-- The parts of a term level by level are those position by position.
use Rattle.std.proofs.Common.{◌≡◌, ℕ, suc, ◌+◌, ◌≤◌, List, [], ◌∷◌, ◌++◌, map, flat_map, length, Option, option_to_list, Some, None, refl, sym, ap, ap₂, ◌∙◌, subst, subst₂}
use Rattle.std.proofs.Common.{append_assoc, append-nil, arith}
use Rattle.std.specs.Borrow.{Bor}
use Rattle.std.proofs.lemmas.List.Concat.{flat_map-append}
use Rattle.rewriting.specs.Prelude.{Term, Terms, var, app, nil, cons, size_all, Position, argument, subterm, positions, positions_from}
use Rattle.rewriting.proofs.Positions.{subterm-append}
use Rattle.term_core.specs.View.{view, views}
use Rattle.term_core.specs.declared.terms.Term as program
use Rattle.rule_index.specs.Parts.{Part, part, part_at, parts, walk, walk_of, IsNext}
use Rattle.rule_index.specs.Levels.{parts_in, parts_among, arguments, later_parts, AreLevels, AreArgumentsOf, Leads}

pub first_part : (p : Position) (t : Term) → parts_in p t ≡ part p t ∷ parts_among p 1 (arguments t)
first_part p (var x) = refl
first_part p (app f ts) = refl

below_paths : (p : Position) (k : ℕ) (qs : List Position) → map (λ q. p ++ q) (map (λ q. k ∷ q) qs) ≡ map (λ q. (p ++ k ∷ []) ++ q) qs
below_paths p k [] = refl
below_paths p k (q ∷ qs) = ap₂ (λ a b. a ∷ b) (sym (append_assoc p (k ∷ []) q)) (below_paths p k qs)

two_lists : (p : Position) (xs ys : List Position) → map (λ q. p ++ q) (xs ++ ys) ≡ map (λ q. p ++ q) xs ++ map (λ q. p ++ q) ys
two_lists p [] ys = refl
two_lists p (x ∷ xs) ys = ap (λ z. (p ++ x) ∷ z) (two_lists p xs ys)

same_paths : (ps : List Position) → map (λ (q : Position). [] ++ q) ps ≡ ps
same_paths [] = refl
same_paths (p ∷ ps) = ap (λ z. p ∷ z) (same_paths ps)

module _ (whole : Term) where
  at_root : (p : Position) (t : Term) → subterm whole p ≡ Some t → part_at whole (p ++ []) ≡ part p t ∷ []
  at_root p t e = ap (part_at whole) (append-nil p) ∙ ap (λ o. map (part p) (option_to_list o)) e

  abbrev AreArguments : Position → ℕ → Terms → Type 0
  AreArguments p k ts = (j : ℕ) (s : Term) → argument ts (suc j) ≡ Some s → subterm whole (p ++ (k + j) ∷ []) ≡ Some s

  arguments_of : (p : Position) (f : ℕ) (ts : Terms) → subterm whole p ≡ Some (app f ts) → AreArguments p 1 ts
  arguments_of p f ts e j s h =
      let one : suc j ≡ 1 + j = omega arith in
      let inside : subterm (app f ts) (suc j ∷ []) ≡ Some s = rw h refl in
      subst (λ n. subterm whole (p ++ n ∷ []) ≡ Some s) one (subterm-append whole p (suc j ∷ []) (app f ts) s e inside)

  first_argument : (p : Position) (k : ℕ) (t : Term) (ts : Terms) → AreArguments p k (cons t ts) → subterm whole (p ++ k ∷ []) ≡ Some t
  first_argument p k t ts h = let same : k + 0 ≡ k = omega arith in subst (λ n. subterm whole (p ++ n ∷ []) ≡ Some t) same (h 0 t refl)

  next_arguments : (p : Position) (k : ℕ) (t : Term) (ts : Terms) → AreArguments p k (cons t ts) → AreArguments p (suc k) ts
  next_arguments p k t ts h j s e = let same : k + suc j ≡ suc k + j = omega arith in subst (λ n. subterm whole (p ++ n ∷ []) ≡ Some s) same (h (suc j) s e)

  mutual
    walked : (p : Position) (t : Term) → subterm whole p ≡ Some t → flat_map (part_at whole) (map (λ q. p ++ q) (positions t)) ≡ parts_in p t
    walked p (var x) e = append-nil (part_at whole (p ++ [])) ∙ at_root p (var x) e
    walked p (app f ts) e = ap₂ (λ a b. a ++ b) (at_root p (app f ts) e) (all_walked p 1 ts (arguments_of p f ts e))

    all_walked : (p : Position) (k : ℕ) (ts : Terms) → AreArguments p k ts → flat_map (part_at whole) (map (λ q. p ++ q) (positions_from k ts)) ≡ parts_among p k ts
    all_walked p k nil h = refl
    all_walked p k (cons t ts) h =
        ap (flat_map (part_at whole)) (two_lists p (map (λ q. k ∷ q) (positions t)) (positions_from (suc k) ts))
        ∙ flat_map-append (part_at whole) (map (λ q. p ++ q) (map (λ q. k ∷ q) (positions t))) (map (λ q. p ++ q) (positions_from (suc k) ts))
        ∙ ap₂ (λ a b. a ++ b) (ap (flat_map (part_at whole)) (below_paths p k (positions t)) ∙ walked (p ++ k ∷ []) t (first_argument p k t ts h))
        (all_walked p (suc k) ts (next_arguments p k t ts h))

pub all_parts : (t : Term) → parts_in [] t ≡ parts t
all_parts t = sym (walked t [] t refl) ∙ ap (flat_map (part_at t)) (same_paths (positions t))

-- the deepest level
pub deepest : (p : Position) (ns : List ℕ) (tss : List Terms) (n : ℕ) (ts : Terms) → AreLevels ns tss
    → later_parts p (ns ++ n ∷ []) (tss ++ ts ∷ []) ≡ parts_among (p ++ ns) (suc n) ts ++ later_parts p ns tss
deepest p [] [] n ts h = ap (λ q. parts_among q (suc n) ts) (sym (append-nil p)) ∙ sym (append-nil (parts_among (p ++ []) (suc n) ts))
deepest p [] (us ∷ tss) n ts h = absurd h
deepest p (m ∷ ns) [] n ts h = absurd h
deepest p (m ∷ ns) (us ∷ tss) n ts (few, h) =
    ap (λ z. z ++ parts_among p (suc m) us) (deepest (p ++ m ∷ []) ns tss n ts h ∙ ap (λ q. parts_among q (suc n) ts ++ later_parts (p ++ m ∷ []) ns tss) (append_assoc p (m ∷ []) ns))
    ∙ append_assoc (parts_among (p ++ m ∷ ns) (suc n) ts) (later_parts (p ++ m ∷ []) ns tss) (parts_among p (suc m) us)

pub level_more : (ns : List ℕ) (tss : List Terms) (n : ℕ) (ts : Terms) → AreLevels ns tss → n + size_all ts ≤ 10000 → AreLevels (ns ++ n ∷ []) (tss ++ ts ∷ [])
level_more [] [] n ts h few = (few, tt)
level_more [] (us ∷ tss) n ts h few = absurd h
level_more (m ∷ ns) [] n ts h few = absurd h
level_more (m ∷ ns) (us ∷ tss) n ts (k, h) few = (k, level_more ns tss n ts h few)

pub level_less : (ns : List ℕ) (tss : List Terms) (n : ℕ) (ts : Terms) → AreLevels (ns ++ n ∷ []) (tss ++ ts ∷ []) → AreLevels ns tss × (n + size_all ts ≤ 10000)
level_less [] [] n ts (few, h) = (tt, few)
level_less [] (us ∷ []) n ts (few, h) = absurd h
level_less [] (us ∷ vs ∷ tss) n ts (few, h) = absurd h
level_less (m ∷ []) [] n ts (few, h) = absurd h
level_less (m ∷ l ∷ ns) [] n ts (few, h) = absurd h
level_less (m ∷ ns) (us ∷ tss) n ts (k, h) = let r = level_less ns tss n ts h in ((k, r.0), r.1)

pub as_many : (ns : List ℕ) (tss : List Terms) → AreLevels ns tss → length ns ≡ length tss
as_many [] [] h = refl
as_many [] (us ∷ tss) h = absurd h
as_many (m ∷ ns) [] h = absurd h
as_many (m ∷ ns) (us ∷ tss) (k, h) = ap suc (as_many ns tss h)

-- a walk begins with all parts
pub begins : (t : Term) (path : List ℕ) (tss : List Terms) → path ≡ [] → tss ≡ [] → walk path (parts_in path t ++ later_parts [] path tss) ≡ walk_of t
begins t path tss e h =
    ap₂ (λ p us. walk p (parts_in p t ++ later_parts [] p us)) e h ∙ ap (walk []) (append-nil (parts_in [] t) ∙ all_parts t)

-- it enters the arguments of a part
pub entered_levels : (path new : List ℕ) (tss news : List Terms) (ts : Terms) → AreLevels path tss → size_all ts ≤ 10000 → new ≡ path ++ 0 ∷ [] → news ≡ tss ++ ts ∷ [] → AreLevels new news
entered_levels path new tss news ts h few e k = subst₂ AreLevels (sym e) (sym k) (level_more path tss 0 ts h (omega (arith, few)))

pub entered_parts : (path new : List ℕ) (tss news : List Terms) (ts : Terms) → AreLevels path tss → new ≡ path ++ 0 ∷ [] → news ≡ tss ++ ts ∷ []
    → parts_among path 1 ts ++ later_parts [] path tss ≡ later_parts [] new news
entered_parts path new tss news ts h e k = sym (ap₂ (later_parts []) e k ∙ deepest [] path tss 0 ts h)

-- and then stands before its arguments
pub stands : (before : List Part) (o : Option (Bor program.Term)) (p : Position) (later : List Part) (args : List program.Term) → Leads before o p later → AreArgumentsOf o args
    → IsNext before o p (parts_among p 1 (views args) ++ later)
stands before None p later args (e, h) none = (e, ap₂ (λ (us : List program.Term) rest. parts_among p 1 (views us) ++ rest) none h)
stands before (Some t) p later args (small, e) are =
    e ∙ ap (λ z. z ++ later) (first_part p (view t.now)) ∙ ap (λ ts. part p (view t.now) ∷ (parts_among p 1 ts ++ later)) (sym are)

-- a part that is next stands at the position that is told of it
pub told_part : (before after : List Part) (o : Option (Bor program.Term)) (t : Bor program.Term) (p told : Position) → IsNext before o p after → o ≡ Some t → told ≡ p
    → before ≡ part told (view t.now) ∷ after
told_part before after o t p told next is e = subst (λ x. IsNext before x p after) is next ∙ ap (λ x. part x (view t.now) ∷ after) (sym e)

pub leads_on : (before mid : List Part) (o : Option (Bor program.Term)) (p : Position) (later : List Part) → before ≡ mid → Leads mid o p later → Leads before o p later
leads_on before mid o p later e h = subst (λ z. Leads z o p later) (sym e) h

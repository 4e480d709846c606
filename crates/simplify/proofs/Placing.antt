-- Variables by their places in a row that grows.
use Rattle.std.proofs.Common.{◌≡◌, ℕ, suc, ◌<◌, ◌⊎◌, inl, inr, Bool, true, false, refl, sym, ap, ap₂, ◌∙◌, subst, List, [], ◌∷◌, ◌++◌, length, nat_eq}
use Rattle.std.proofs.Common.{eq-eqb, append-nil, append_assoc, arith}
use Rattle.std.proofs.lemmas.List.{length-map}
use Rattle.rewriting.specs.Prelude.{IsAmong, AreDistinct, IsFront, conditions_under, terms_of_rule, rule_variables, index_in}
use Rattle.rewriting.proofs.Common.{Term, var, apply, compose, occurs, with_variables, with_variables_of, variables_of, Condition, Rule, sides}
use Rattle.rewriting.proofs.Instances.{apply-apply, apply-agree, apply-var}
use Rattle.rewriting.proofs.Lists.{among_left, front_trans}
use Rattle.rewriting.proofs.Variables.{variables_have, variables_have_all}
use Rattle.renumbering.specs.Rows.{naming}
use Rattle.renumbering.proofs.Rows.{index_at}
use Rattle.simplifications.specs.Inlining.{numbering_of, rule_under, numbered}
use Rattle.simplifications.proofs.Anew.{list_renamed, places_differ}
use Rattle.simplifications.proofs.Parts.{terms_under}
use Rattle.simplify.specs.Rules.{rule_of}
use Rattle.simplify.specs.Numbering.{places, IsPlaced, ArePlaced, Progress, AddsNumbered}

-- a longer row has the same places
index_longer : (row rest : List ℕ) (x : ℕ) → IsAmong x row → index_in (row ++ rest) x ≡ index_in row x
index_longer [] rest x a = absurd a
index_longer (y ∷ row) rest x a = go (nat_eq x y) refl a (index_longer row rest x)
  where
    go : (b : Bool) → nat_eq x y ≡ b → (x ≡ y) ⊎ IsAmong x row → (IsAmong x row → index_in (row ++ rest) x ≡ index_in row x) → index_in (y ∷ (row ++ rest)) x ≡ index_in (y ∷ row) x
    go true e k later = rw e refl
    go false e (inl same) later = (let bad : true ≡ false = sym (eq-eqb x y same) ∙ e in absurd (cc))
    go false e (inr k) later = rw e (ap suc (later k))

front_among : (row long : List ℕ) (x : ℕ) → IsFront row long → IsAmong x row → IsAmong x long
front_among row long x (rest, e) a = subst (IsAmong x) (sym e) (among_left x row rest a)

index_front : (row long : List ℕ) (x : ℕ) → IsFront row long → IsAmong x row → index_in long x ≡ index_in row x
index_front row long x (rest, e) a = ap (λ z. index_in z x) e ∙ index_longer row rest x a

pub placed_longer : (row long : List ℕ) (t u : Term) → IsFront row long → IsPlaced row t u → IsPlaced long t u
placed_longer row long t u f h =
    record {
      is = h.is ∙ apply-agree (places row) (places long) t (λ x o. ap var (sym (index_front row long x f (h.among x o))));
      among = λ x o. front_among row long x f (h.among x o);
    }

all_longer : (row long : List ℕ) (cs ds : List Condition) → IsFront row long → ArePlaced row cs ds → ArePlaced long cs ds
all_longer row long [] [] f h = tt
all_longer row long [] (d ∷ ds) f h = absurd h
all_longer row long (c ∷ cs) [] f h = absurd h
all_longer row long (c ∷ cs) (d ∷ ds) f (h, g, hs) = (placed_longer row long c.left d.left f h, placed_longer row long c.right d.right f g, all_longer row long cs ds f hs)

-- from what a numbering tells of a term
pub placed : (old row : List ℕ) (t u : Term) → row ≡ with_variables old t → AreDistinct row → t ≡ apply (naming row) u → ((m : ℕ) → occurs m u ≡ true → m < length row) → IsPlaced row t u
placed old row t u grown distinct names below =
    record {
      is = sym (ap (apply (places row)) names ∙ apply-apply (naming row) (places row) u ∙ same);
      among = λ x o. subst (IsAmong x) (sym grown) (variables_have x old t o);
    }
  where
    same : apply (compose (naming row) (places row)) u ≡ u
    same = apply-agree (compose (naming row) (places row)) var u (λ m o. ap var (index_at row distinct m (below m o))) ∙ apply-var u

pub begun : (l r l' r' : Term) (first row : List ℕ) → IsFront first row → IsPlaced first l l' → IsPlaced row r r' → AreDistinct row → first ≡ with_variables [] l → row ≡ with_variables first r
    → Progress l r l' r' [] [] row
begun l r l' r' first row f h g d e k =
    record { row_is = k ∙ ap (λ z. with_variables z r) e; distinct = d; left = placed_longer first row l l' f h; right = g; conds = tt }

sides_more : (xs : List ℕ) (cs : List Condition) (c : Condition) → with_variables_of xs (sides (cs ++ c ∷ [])) ≡ with_variables (with_variables (with_variables_of xs (sides cs)) c.left) c.right
sides_more xs [] c = refl
sides_more xs (d ∷ cs) c = sides_more (with_variables (with_variables xs d.left) d.right) cs c

placed_more : (row : List ℕ) (cs ds : List Condition) (c d : Condition) → ArePlaced row cs ds → IsPlaced row c.left d.left → IsPlaced row c.right d.right → ArePlaced row (cs ++ c ∷ []) (ds ++ d ∷ [])
placed_more row [] [] c d h f g = (f, g, tt)
placed_more row [] (e ∷ ds) c d h f g = absurd h
placed_more row (b ∷ cs) [] c d h f g = absurd h
placed_more row (b ∷ cs) (e ∷ ds) c d (h, k, hs) f g = (h, k, placed_more row cs ds c d hs f g)

pub advanced : (l r l' r' : Term) (cs ds : List Condition) (row mid new : List ℕ) (c d : Condition) → Progress l r l' r' cs ds row → IsFront row mid → IsFront mid new
    → mid ≡ with_variables row c.left → new ≡ with_variables mid c.right → AreDistinct new → IsPlaced mid c.left d.left → IsPlaced new c.right d.right
    → Progress l r l' r' (cs ++ c ∷ []) (ds ++ d ∷ []) new
advanced l r l' r' cs ds row mid new c d p f g e k distinct h j =
    let far = front_trans row mid new f g in
    record {
      row_is = k ∙ ap (λ z. with_variables z c.right) (e ∙ ap (λ z. with_variables z c.left) p.row_is) ∙ sym (sides_more (with_variables (with_variables [] l) r) cs c);
      distinct = distinct;
      left = placed_longer row new l l' far p.left;
      right = placed_longer row new r r' far p.right;
      conds = placed_more new cs ds c d (all_longer row new cs ds far p.conds) (placed_longer mid new c.left d.left g h) j;
    }

pub moved : (l r l' r' : Term) (cs ds es fs : List Condition) (row : List ℕ) → cs ≡ ds → es ≡ fs → Progress l r l' r' cs es row → Progress l r l' r' ds fs row
moved l r l' r' cs ds es fs row e f p = subst (λ z. Progress l r l' r' z fs row) e (subst (λ z. Progress l r l' r' cs z row) f p)

conditions_are : (row : List ℕ) (cs ds : List Condition) → ArePlaced row cs ds → ds ≡ conditions_under (places row) cs
conditions_are row [] [] h = refl
conditions_are row [] (d ∷ ds) h = absurd h
conditions_are row (c ∷ cs) [] h = absurd h
conditions_are row (c ∷ cs) (d ∷ ds) (h, g, hs) = ap₂ (λ x xs. x ∷ xs) (same_condition d (apply (places row) c.left) (apply (places row) c.right) h.is g.is) (conditions_are row cs ds hs)
  where
    same_condition : (q : Condition) (a b : Term) → q.left ≡ a → q.right ≡ b → q ≡ record { left = a; right = b }
    same_condition q a b e f = grind arith

pub finished : (l r l' r' : Term) (cs ds : List Condition) (row : List ℕ) → Progress l r l' r' cs ds row → rule_of l' r' ds ≡ numbered (rule_of l r cs)
finished l r l' r' cs ds row p =
    ap (λ z. rule_of z r' ds) p.left.is ∙ ap (λ z. rule_of (apply (places row) l) z ds) p.right.is
    ∙ ap (λ z. rule_of (apply (places row) l) (apply (places row) r) z) (conditions_are row cs ds p.conds)
    ∙ ap (λ z. rule_under (places z) (rule_of l r cs)) p.row_is

-- as many variables as before
pub counted_same : (p : Rule) → length (rule_variables (numbered p)) ≡ length (rule_variables p)
counted_same p =
    let xs = rule_variables p in
    ap (λ ts. length (variables_of ts)) (terms_under (numbering_of p) p)
    ∙ ap length (list_renamed xs (index_in xs) (places_differ xs) (terms_of_rule p) (λ z o. variables_have_all z [] (terms_of_rule p) o))
    ∙ length-map xs (index_in xs)

pub row_counted : (l r l' r' : Term) (cs ds : List Condition) (row : List ℕ) → Progress l r l' r' cs ds row → length row ≡ length (rule_variables (numbered (rule_of l r cs)))
row_counted l r l' r' cs ds row p = ap length p.row_is ∙ sym (counted_same (rule_of l r cs))

-- conditions are added one by one
pub adds_none : (ds : List Condition) (row : List ℕ) → AddsNumbered [] ds row ds row
adds_none ds row l r l' r' cs p = moved l r l' r' cs (cs ++ []) ds ds row (sym (append-nil cs)) refl p

pub adds_more : (more ds es : List Condition) (row far mid new : List ℕ) (c d : Condition) → AddsNumbered more ds row es far → IsFront far mid → IsFront mid new
    → mid ≡ with_variables far c.left → new ≡ with_variables mid c.right → AreDistinct new → IsPlaced mid c.left d.left → IsPlaced new c.right d.right
    → AddsNumbered (more ++ c ∷ []) ds row (es ++ d ∷ []) new
adds_more more ds es row far mid new c d a f g e k distinct h j l r l' r' cs p =
    moved l r l' r' ((cs ++ more) ++ c ∷ []) (cs ++ (more ++ c ∷ [])) (es ++ d ∷ []) (es ++ d ∷ []) new (append_assoc cs more (c ∷ [])) refl
    (advanced l r l' r' (cs ++ more) es far mid new c d (a l r l' r' cs p) f g e k distinct h j)

-- all conditions of a rule, from two lists of them
pub both_added : (l r l' r' : Term) (none front behind mid all : List Condition) (row far last : List ℕ) → Progress l r l' r' [] [] row → none ≡ [] → AddsNumbered front none row mid far
    → AddsNumbered behind mid far all last → Progress l r l' r' (front ++ behind) all last
both_added l r l' r' none front behind mid all row far last p e a b = b l r l' r' front (a l r l' r' [] (subst (λ z. Progress l r l' r' [] z row) (sym e) p))

-- What a push does to what is read.
use Rattle.std.proofs.Common.{◌≡◌, ℕ, zero, suc, ◌<◌, List, [], ◌∷◌, ◌++◌, refl, ap, ◌∙◌, map, reverse, length, eqb, get_or, set, arith, length-append}
use Rattle.std.proofs.lemmas.Bool.Decides.{nat_tests}
use Rattle.std.proofs.lemmas.List.{map_push, reverse-append, length-reverse, length-map}
use Rattle.cops_syntax.specs.declared.tree.Node.{Node}
use Rattle.cops_syntax.specs.declared.tree.RuleText.{RuleText}
use Rattle.file_text.specs.Syntax as syntax
use Rattle.cops_syntax.specs.Flat.{is_flat, one_more, raised, arguments_at, IsRaisable, CanRaise}
use Rattle.cops_syntax.specs.View.{node_view}
use Rattle.cops_syntax.specs.States.{rule_view}

pub opens_push : (os : List ℕ) (o : ℕ) → reverse (os ++ o ∷ []) ≡ o ∷ reverse os
opens_push os o = reverse-append os (o ∷ [])

pub nodes_push : (ns : List Node) (n : Node) → map node_view (ns ++ n ∷ []) ≡ map node_view ns ++ node_view n ∷ []
nodes_push ns n = map_push node_view ns n

pub rules_push : (rs : List RuleText) (r : RuleText) → map rule_view (rs ++ r ∷ []) ≡ map rule_view rs ++ rule_view r ∷ []
rules_push rs r = map_push rule_view rs r

flat_same : (os : List ℕ) → is_flat os ≡ eqb (length os) 0
flat_same [] = refl
flat_same (o ∷ os) = grind (arith, nat_tests)

pub flat_empty : (os : List ℕ) → is_flat (reverse os) ≡ eqb (length os) 0
flat_empty os = flat_same (reverse os) ∙ ap (λ (n : ℕ). eqb n 0) (length-reverse os)

-- ---- one more argument

counted : (ns : List Node) (place : ℕ) (d : Node) → place < length ns → arguments_at (map node_view ns) place ≡ (get_or ns place d).arguments
counted [] place d lt = absurd (omega arith)
counted (n ∷ ns) zero d lt = refl
counted (n ∷ ns) (suc place) d lt = counted ns place d (omega arith)

raised_set : (ns : List Node) (place : ℕ) (d m : Node) → place < length ns → node_view m ≡ one_more (node_view (get_or ns place d)) → map node_view (set ns place m) ≡ raised (map node_view ns) place
raised_set [] place d m lt e = absurd (omega arith)
raised_set (n ∷ ns) zero d m lt e = ap (λ (k : syntax.Node). k ∷ map node_view ns) e
raised_set (n ∷ ns) (suc place) d m lt e = ap (λ (ks : List syntax.Node). node_view n ∷ ks) (raised_set ns place d m (omega arith) e)

-- the number of arguments stays below the length of the list
pub room_of : (ns : List Node) (place : ℕ) (n : Node) → IsRaisable (map node_view ns) place → n ≡ get_or ns place n → n.arguments < length ns
room_of ns place n r e =
    let lt : place < length ns = omega (arith, r.within, length-map ns node_view) in
    omega (arith, r.room, counted ns place n lt, ap (λ (m : Node). m.arguments) e, length-map ns node_view)

pub raised_of : (ns : List Node) (place : ℕ) (n m : Node) → IsRaisable (map node_view ns) place → n ≡ get_or ns place n → node_view m ≡ one_more (node_view n)
    → map node_view (set ns place m) ≡ raised (map node_view ns) place
raised_of ns place n m r e f =
    raised_set ns place n m (omega (arith, r.within, length-map ns node_view)) (f ∙ ap (λ (k : Node). one_more (node_view k)) e)

arguments_push : (ns : List syntax.Node) (n : syntax.Node) (place : ℕ) → place < length ns → arguments_at (ns ++ n ∷ []) place ≡ arguments_at ns place
arguments_push [] n place lt = absurd (omega arith)
arguments_push (k ∷ ns) n zero lt = refl
arguments_push (k ∷ ns) n (suc place) lt = arguments_push ns n place (omega arith)

-- with more at the end it stays so
pub raisable_push : (ns : List syntax.Node) (n : syntax.Node) (place : ℕ) → IsRaisable ns place → IsRaisable (ns ++ n ∷ []) place
raisable_push ns n place r = record {
  within = omega (arith, r.within, length-append ns (n ∷ []));
  room = rw (arguments_push ns n place r.within) (omega (arith, r.room, length-append ns (n ∷ [])));
}

pub can_raise_push : (ns : List syntax.Node) (n : syntax.Node) (os : List ℕ) → CanRaise ns os → CanRaise (ns ++ n ∷ []) os
can_raise_push ns n [] r = tt
can_raise_push ns n (place ∷ os) r = raisable_push ns n place r

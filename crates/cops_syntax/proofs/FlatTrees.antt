-- The lists that a reader of trees stands for.
use Rattle.std.proofs.Common.{◌≡◌, ℕ, suc, ◌+◌, ◌≤◌, true, List, [], ◌∷◌, ◌++◌, length, Option, Some, None, option_map, map, refl, sym, ap, subst, ◌∙◌, append_assoc, length-append, arith}
use Rattle.std.proofs.lemmas.List.{map_push, append-nil}
use Rattle.file_text.specs.Syntax.{Name, Node, Phrase, Phrases, word, call, none, more, with_last, count, ConditionTree, RuleTree, conditions_of, flat, flat_all}
use Rattle.file_text.specs.Grammar.{Word, id, left_paren, right_paren, comma, bar, arrow, equal}
use Rattle.file_text.proofs.Machine as machine
use Rattle.cops_syntax.specs.Flat as lists
use Rattle.cops_syntax.specs.Flat.{one_more, raised, arguments_at, IsRaisable, CanRaise}

abbrev pub condition_of : ConditionTree → lists.Condition
condition_of c = record { left = flat c.left; right = flat c.right }

abbrev pub rule_of : RuleTree → lists.Rule
rule_of r = record { left = flat r.left; right = flat r.right; bar = option_map (λ g. g.at) r.guard; conditions = map condition_of (conditions_of r) }

abbrev pub rules_of : List RuleTree → List lists.Rule
rules_of rs = map rule_of rs

abbrev pub open_node : Name → Phrases → Node
open_node g ts = record { name = g; brackets = true; arguments = count ts }

-- the identifiers up to the inmost open bracket, and the arguments behind it
abbrev pub opens_nodes : machine.Opens → List Node
opens_nodes [] = []
opens_nodes (o ∷ os) = opens_nodes os ++ open_node o.0 o.1 ∷ flat_all o.1

-- where in the list the open identifiers stand
abbrev pub places : machine.Opens → List ℕ
places [] = []
places (o ∷ os) = length (opens_nodes os) ∷ places os

abbrev pub last_of : machine.Last → lists.Last
last_of machine.want = lists.want
last_of (machine.first g) = lists.opened
last_of (machine.bare f) = lists.bare f
last_of (machine.done t) = lists.closed

abbrev pub nodes_of : machine.Opens → machine.Last → List Node
nodes_of os machine.want = opens_nodes os
nodes_of os (machine.first g) = opens_nodes os ++ open_node g none ∷ []
nodes_of os (machine.bare f) = opens_nodes os
nodes_of os (machine.done t) = opens_nodes os ++ flat t

abbrev pub opens_of : machine.Opens → machine.Last → List ℕ
opens_of os machine.want = places os
opens_of os (machine.first g) = length (opens_nodes os) ∷ places os
opens_of os (machine.bare f) = places os
opens_of os (machine.done t) = places os

abbrev pub part_rule : Phrase → Phrase → ℕ → List ConditionTree → lists.Rule
part_rule l r at cs = record { left = flat l; right = flat r; bar = Some at; conditions = map condition_of cs }

abbrev pub part_of : machine.Part → lists.Part
part_of machine.left = lists.left_side
part_of (machine.right l) = lists.right_side (flat l)
part_of (machine.condition_left l r at cs) = lists.condition_left (part_rule l r at cs)
part_of (machine.condition_right l r at cs s) = lists.condition_right (part_rule l r at cs) (flat s)

abbrev pub reading_of : machine.Reading → lists.Reading
reading_of r = lists.reading (rules_of r.rules) (part_of r.part) (nodes_of r.opens r.last) (opens_of r.opens r.last) (last_of r.last)

-- ---- one more argument

count-last : (ts : Phrases) (t : Phrase) → count (with_last ts t) ≡ count ts + 1
count-last none t = refl
count-last (more u us) t = ap suc (count-last us t) ∙ omega arith

pub flat-last : (ts : Phrases) (t : Phrase) → flat_all (with_last ts t) ≡ flat_all ts ++ flat t
flat-last none t = append-nil (flat t)
flat-last (more u us) t = ap (λ (ns : List Node). flat u ++ ns) (flat-last us t) ∙ sym (append_assoc (flat u) (flat_all us) (flat t))

raised-at : (xs : List Node) (n : Node) (ys : List Node) → raised (xs ++ n ∷ ys) (length xs) ≡ xs ++ one_more n ∷ ys
raised-at [] n ys = refl
raised-at (x ∷ xs) n ys = ap (λ (ns : List Node). x ∷ ns) (raised-at xs n ys)

open_node-last : (g : Name) (ts : Phrases) (t : Phrase) → one_more (open_node g ts) ≡ open_node g (with_last ts t)
open_node-last g ts t = ap (λ (n : ℕ). record { name = g; brackets = true; arguments = n }) (sym (count-last ts t))

-- an argument ends, and its identifier has one more
raised-last : (os : machine.Opens) (g : Name) (ts : Phrases) (t : Phrase)
    → raised (opens_nodes ((g, ts) ∷ os) ++ flat t) (length (opens_nodes os)) ≡ opens_nodes os ++ open_node g (with_last ts t) ∷ flat_all (with_last ts t)
raised-last os g ts t =
    ap (λ (ns : List Node). raised ns (length (opens_nodes os))) (append_assoc (opens_nodes os) (open_node g ts ∷ flat_all ts) (flat t))
    ∙ raised-at (opens_nodes os) (open_node g ts) (flat_all ts ++ flat t)
    ∙ ap (λ (n : Node). opens_nodes os ++ n ∷ (flat_all ts ++ flat t)) (open_node-last g ts t)
    ∙ ap (λ (ns : List Node). opens_nodes os ++ open_node g (with_last ts t) ∷ ns) (sym (flat-last ts t))

-- ---- behind a term

guard_conditions : (at : ℕ) (cs : List ConditionTree) (c : ConditionTree) (l r : Phrase)
    → rule_of record { left = l; right = r; guard = Some (machine.guard_with at cs c) } ≡ record {
      left = flat l;
      right = flat r;
      bar = Some at;
      conditions = map condition_of cs ++ condition_of c ∷ [];
    }
guard_conditions at [] c l r = refl
guard_conditions at (d ∷ ds) c l r =
    ap (λ (cs : List lists.Condition). record { left = flat l; right = flat r; bar = Some at; conditions = condition_of d ∷ cs }) (map_push condition_of ds c)

pub ended_of : (p : machine.Part) (t : Phrase) → lists.ended (part_of p) (flat t) ≡ option_map rule_of (machine.ended p t)
ended_of machine.left t = refl
ended_of (machine.right l) t = refl
ended_of (machine.condition_left l r at cs) t = refl
ended_of (machine.condition_right l r at cs s) t = ap (λ (q : lists.Rule). Some q) (sym (guard_conditions at cs record { left = s; right = t } l r))

pushed : (rs : List RuleTree) (o : Option RuleTree) → option_map (λ q. rules_of rs ++ q ∷ []) (option_map rule_of o) ≡ option_map rules_of (option_map (λ r. rs ++ r ∷ []) o)
pushed rs None = refl
pushed rs (Some r) = ap (λ (qs : List lists.Rule). Some qs) (sym (map_push rule_of rs r))

-- what is read over lists, with this term and these open places
abbrev read : List RuleTree → machine.Part → List Node → List ℕ → lists.Last → lists.Reading
read rs p ns os l = lists.reading (rules_of rs) (part_of p) ns os l

end_rule_of : (rs : List RuleTree) (p : machine.Part) (t : Phrase) (os : List ℕ) (l : lists.Last) → lists.end_rule (read rs p (flat t) os l) ≡ option_map rules_of (machine.with_ended rs p t)
end_rule_of rs p t os l = ap (option_map (λ q. rules_of rs ++ q ∷ [])) (ended_of p t) ∙ pushed rs (machine.ended p t)

next_of : (p : machine.Part) (t : Phrase) (w : Word) → lists.next_part (part_of p) (flat t) w ≡ option_map part_of (machine.next_part p t w)
next_of machine.left t arrow = refl
next_of machine.left t _ = refl
next_of (machine.right l) t (bar at) = refl
next_of (machine.right l) t _ = refl
next_of (machine.condition_left l r at cs) t equal = refl
next_of (machine.condition_left l r at cs) t _ = refl
next_of (machine.condition_right l r at cs s) t comma =
    ap (λ (qs : List lists.Condition). Some (lists.condition_left record { left = flat l; right = flat r; bar = Some at; conditions = qs }))
    (sym (map_push condition_of cs record { left = s; right = t }))
next_of (machine.condition_right l r at cs s) t _ = refl

-- a closing bracket ends no side
no_next : (p : machine.Part) (t : Phrase) → machine.next_part p t right_paren ≡ None
no_next machine.left t = refl
no_next _ t = refl

pub no_sign : (rs : List RuleTree) (p : machine.Part) (t : Phrase) → machine.behind_side rs p t right_paren ≡ None
no_sign rs p t = ap (option_map (λ q. machine.reading rs q [] machine.want)) (no_next p t)

began : (rs : List RuleTree) (f : Name) (o : Option RuleTree)
    → option_map (λ qs. lists.reading qs lists.left_side [] [] (lists.bare f)) (option_map rules_of (option_map (λ r. rs ++ r ∷ []) o)) ≡ option_map reading_of
    (option_map (λ r. machine.reading (rs ++ r ∷ []) machine.left [] (machine.bare f)) o)
began rs f None = refl
began rs f (Some r) = refl

led : (rs : List RuleTree) (o : Option machine.Part)
    → option_map (λ q. lists.reading (rules_of rs) q [] [] lists.want) (option_map part_of o) ≡ option_map reading_of (option_map (λ q. machine.reading rs q [] machine.want) o)
led rs None = refl
led rs (Some p) = refl

sign_of : (rs : List RuleTree) (p : machine.Part) (t : Phrase) (os : List ℕ) (l : lists.Last) (w : Word)
    → lists.next_side (read rs p (flat t) os l) w ≡ option_map reading_of (option_map (λ q. machine.reading rs q [] machine.want) (machine.next_part p t w))
sign_of rs p t os l w = ap (option_map (λ q. lists.reading (rules_of rs) q [] [] lists.want)) (next_of p t w) ∙ led rs (machine.next_part p t w)

behind_side_of : (rs : List RuleTree) (p : machine.Part) (t : Phrase) (os : List ℕ) (l : lists.Last) (w : Word)
    → lists.behind_side (read rs p (flat t) os l) w ≡ option_map reading_of (machine.behind_side rs p t w)
behind_side_of rs p t os l (id f) = ap (option_map (λ qs. lists.reading qs lists.left_side [] [] (lists.bare f))) (end_rule_of rs p t os l) ∙ began rs f (machine.ended p t)
behind_side_of rs p t os l w = sign_of rs p t os l w

behind_argument_of : (rs : List RuleTree) (p : machine.Part) (g : Name) (ts : Phrases) (os : machine.Opens) (t : Phrase) (l : lists.Last) (w : Word)
    → lists.behind_argument (read rs p (opens_nodes ((g, ts) ∷ os) ++ flat t) (places os) l) (length (opens_nodes os)) w ≡ option_map reading_of (machine.behind_argument rs p g ts os t w)
behind_argument_of rs p g ts os t l right_paren = ap (λ (ns : List Node). Some (read rs p ns (places os) lists.closed)) (raised-last os g ts t)
behind_argument_of rs p g ts os t l comma = ap (λ (ns : List Node). Some (read rs p ns (length (opens_nodes os) ∷ places os) lists.want)) (raised-last os g ts t)
behind_argument_of rs p g ts os t l _ = refl

behind_of : (rs : List RuleTree) (p : machine.Part) (os : machine.Opens) (t : Phrase) (l : lists.Last) (w : Word)
    → lists.behind (read rs p (opens_nodes os ++ flat t) (places os) l) w ≡ option_map reading_of (machine.behind rs p os t w)
behind_of rs p [] t l w = behind_side_of rs p t [] l w
behind_of rs p (o ∷ os) t l w = behind_argument_of rs p o.0 o.1 os t l w

abbrev pub shown : List RuleTree → machine.Part → machine.Opens → machine.Last → lists.Reading
shown rs p os l = reading_of (machine.reading rs p os l)

-- a word leads both readers the same way
pub step_of : (rs : List RuleTree) (p : machine.Part) (os : machine.Opens) (l : machine.Last) (w : Word) → lists.step (shown rs p os l) w ≡ option_map reading_of (machine.step_term rs p os l w)
step_of rs p os machine.want (id f) = refl
step_of rs p os machine.want _ = refl
step_of rs p os (machine.first g) (id f) = refl
step_of rs p os (machine.first g) right_paren = refl
step_of rs p os (machine.first g) _ = refl
step_of rs p os (machine.bare f) left_paren = refl
step_of rs p os (machine.bare f) w = behind_of rs p os (word f) (lists.bare f) w
step_of rs p os (machine.done t) w = behind_of rs p os t lists.closed w

none_begun : (p : machine.Part) (rs : List RuleTree) → lists.no_rule (shown rs p [] machine.want) (part_of p) ≡ option_map rules_of (machine.unbegun p rs)
none_begun machine.left rs = refl
none_begun (machine.right l) rs = refl
none_begun (machine.condition_left l r at cs) rs = refl
none_begun (machine.condition_right l r at cs s) rs = refl

pub close_of : (rs : List RuleTree) (p : machine.Part) (l : machine.Last) → lists.close_rule (shown rs p [] l) ≡ option_map rules_of (machine.whole rs p [] l)
close_of rs p machine.want = none_begun p rs
close_of rs p (machine.first g) = refl
close_of rs p (machine.bare f) = end_rule_of rs p (word f) [] (lists.bare f)
close_of rs p (machine.done t) = end_rule_of rs p t [] lists.closed

-- ---- an open identifier is in the list, with fewer arguments than the list is long

pub flat_some : (t : Phrase) → 1 ≤ length (flat t)
flat_some (word f) = omega arith
flat_some (call f ts) = omega arith

flat_count : (ts : Phrases) → count ts ≤ length (flat_all ts)
flat_count none = omega arith
flat_count (more t ts) = omega (arith, length-append (flat t) (flat_all ts), flat_some t, flat_count ts)

arguments-at : (xs : List Node) (n : Node) (ys : List Node) → arguments_at (xs ++ n ∷ ys) (length xs) ≡ n.arguments
arguments-at [] n ys = refl
arguments-at (x ∷ xs) n ys = arguments-at xs n ys

raisable : (xs : List Node) (n : Node) (ys : List Node) → n.arguments ≤ length ys → IsRaisable (xs ++ n ∷ ys) (length xs)
raisable xs n ys le = record {
  within = omega (arith, length-append xs (n ∷ ys));
  room = rw (arguments-at xs n ys) (omega (arith, length-append xs (n ∷ ys)));
}

can_raise : (os : machine.Opens) (t : List Node) → CanRaise (opens_nodes os ++ t) (places os)
can_raise [] t = tt
can_raise (o ∷ os) t =
    subst (λ (ns : List Node). IsRaisable ns (length (opens_nodes os))) (sym (append_assoc (opens_nodes os) (open_node o.0 o.1 ∷ flat_all o.1) t))
    (raisable (opens_nodes os) (open_node o.0 o.1) (flat_all o.1 ++ t) (omega (arith, length-append (flat_all o.1) t, flat_count o.1)))

can_raise-end : (os : machine.Opens) → CanRaise (opens_nodes os) (places os)
can_raise-end os = subst (λ (ns : List Node). CanRaise ns (places os)) (append-nil (opens_nodes os)) (can_raise os [])

pub can_step : (os : machine.Opens) (l : machine.Last) → CanRaise (nodes_of os l) (opens_of os l)
can_step os machine.want = can_raise-end os
can_step os (machine.first g) = raisable (opens_nodes os) (open_node g none) [] (omega arith)
can_step os (machine.bare f) = can_raise-end os
can_step os (machine.done t) = can_raise os (flat t)

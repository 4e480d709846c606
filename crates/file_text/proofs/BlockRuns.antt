-- Blocks that are spelled are read.
use Rattle.std.proofs.Common.{◌≡◌, ℕ, Bool, false, ◌&&◌, if◌then◌else◌, List, [], ◌∷◌, ◌++◌, map, Option, Some, None, refl, sym, ap, ◌∙◌, append_assoc, codes}
use Rattle.std.proofs.lemmas.List.{append-nil}
use Rattle.std.specs.Option.{option_map}
use Rattle.std.proofs.Math.Bool.{and-false}
use Rattle.general_lemmas.proofs.Options.{bound}
use Rattle.file_text.specs.declared.ConditionType.TheVariants.{Oriented, Join}
use Rattle.file_text.specs.Syntax.{Name, Phrase, word, RuleTree}
use Rattle.file_text.specs.Grammar.{Word, id, left_paren, right_paren, id_at, Block, condition_type, variables, rules, title, spelled_block}
use Rattle.file_text.specs.Grammar.{spelled_blocks, spelled_rules, has_block}
use Rattle.file_text.proofs.Machine.{Last, want, first, bare, done, Opens, Part, left, right, condition_left, condition_right, Reading, reading, no_rule, next_part, behind_side}
use Rattle.file_text.proofs.Machine.{step_term, whole, closing, State, outside, behind_bracket, behind_type, in_variables, in_rules, titled, rules_or}
use Rattle.file_text.proofs.TermRuns.{term_run}
use Rattle.file_text.proofs.RuleRuns.{rules_accepted}
use Rattle.file_text.proofs.Goes.{taken, goes_one, goes, goes_then, goes_step}

-- ---- rules

pub no_bracket : (p : Part) (t : Phrase) → next_part p t right_paren ≡ None
no_bracket left t = refl
no_bracket (right l) t = refl
no_bracket (condition_left l r at cs) t = refl
no_bracket (condition_right l r at cs s) t = refl

side_bracket : (rs : List RuleTree) (p : Part) (t : Phrase) → behind_side rs p t right_paren ≡ None
side_bracket rs p t = ap (option_map (λ (q : Part). reading rs q [] want)) (no_bracket p t)

-- a bracket that goes on ends no block
bracket_goes : (rs : List RuleTree) (p : Part) (os : Opens) (l : Last) (r : Reading) → step_term rs p os l right_paren ≡ Some r → whole rs p os l ≡ None
bracket_goes rs p (o ∷ os) l r e = refl
bracket_goes rs p [] want r e = absurd cc
bracket_goes rs p [] (first g) r e = refl
bracket_goes rs p [] (bare f) r e = let h = side_bracket rs p (word f) in absurd cc
bracket_goes rs p [] (done t) r e = let h = side_bracket rs p t in absurd cc

no_closing : (s : Reading) (w : Word) (r : Reading) → step_term s.rules s.part s.opens s.last w ≡ Some r → closing s w ≡ None
no_closing s right_paren r e = bracket_goes s.rules s.part s.opens s.last r e
no_closing s _ r e = refl

rules_step : (k : Bool) (bs : List Block) (at : ℕ) (s r : Reading) (w : Word) → step_term s.rules s.part s.opens s.last w ≡ Some r → goes_one k (in_rules bs at s) w ≡ Some (in_rules bs at r)
rules_step k bs at s r w e =
    ap (λ (m : Option (List RuleTree)). taken (rules_or bs at m (step_term s.rules s.part s.opens s.last w))) (no_closing s w r e) ∙ ap (λ (m : Option Reading). taken (rules_or bs at None m)) e

rules_go : (k : Bool) (bs : List Block) (at : ℕ) (ws : List Word) (s r : Reading) → term_run s ws ≡ Some r → goes k (in_rules bs at s) ws ≡ Some (in_rules bs at r)
rules_go k bs at [] s r e = ap (option_map (in_rules bs at)) e
rules_go k bs at (w ∷ ws) s r e =
    let h = bound (λ (t : Reading). term_run t ws) (step_term s.rules s.part s.opens s.last w) r e in
    goes_step k (in_rules bs at s) (in_rules bs at h.0) w ws (rules_step k bs at s h.0 w h.1) ∙ rules_go k bs at ws h.0 r h.2

rules_end : (k : Bool) (bs : List Block) (at : ℕ) (s : Reading) (rs : List RuleTree) → whole s.rules s.part s.opens s.last ≡ Some rs
    → goes k (in_rules bs at s) (right_paren ∷ []) ≡ Some (outside (bs ++ rules at rs ∷ []))
rules_end k bs at s rs e =
    goes_step k (in_rules bs at s) (outside (bs ++ rules at rs ∷ [])) right_paren []
    (ap (λ (m : Option (List RuleTree)). taken (rules_or bs at m (step_term s.rules s.part s.opens s.last right_paren))) e)

-- ---- variables

names_go : (k : Bool) (bs : List Block) (at : ℕ) (names others : List Name)
    → goes k (in_variables bs at names) (map (λ n. id n) others ++ right_paren ∷ []) ≡ Some (outside (bs ++ variables at (names ++ others) ∷ []))
names_go k bs at names [] = ap (λ (ns : List Name). Some (outside (bs ++ variables at ns ∷ []))) (sym (append-nil names))
names_go k bs at names (n ∷ ns) = names_go k bs at (names ++ n ∷ []) ns ∙ ap (λ (ns : List Name). Some (outside (bs ++ variables at ns ∷ []))) (append_assoc names (n ∷ []) ns)

-- ---- blocks

-- behind a bracket and a title that may stand there
pub title_goes : (k : Bool) (bs : List Block) (at : ℕ) (text : List ℕ) (s : State) (ws : List Word) → (has_block bs text && k) ≡ false → taken (titled bs record { at = at; text = text }) ≡ Some s
    → goes k (outside bs) (left_paren ∷ id_at at text ∷ ws) ≡ goes k s ws
title_goes k bs at text s ws free e =
    goes_step k (outside bs) (behind_bracket bs) left_paren (id_at at text ∷ ws) refl
    ∙ goes_step k (behind_bracket bs) s (id_at at text) ws (ap (λ (b : Bool). if b then None else taken (titled bs record { at = at; text = text })) free ∙ e)

pub block_goes : (k : Bool) (bs : List Block) (b : Block) → (has_block bs (title b) && k) ≡ false → goes k (outside bs) (spelled_block b) ≡ Some (outside (bs ++ b ∷ []))
block_goes k bs (condition_type p q Oriented) free = title_goes k bs p (codes "CONDITIONTYPE") (behind_type bs p) (id_at q (codes "ORIENTED") ∷ right_paren ∷ []) free refl
block_goes k bs (condition_type p q Join) free = title_goes k bs p (codes "CONDITIONTYPE") (behind_type bs p) (id_at q (codes "JOIN") ∷ right_paren ∷ []) free refl
block_goes k bs (variables p names) free = title_goes k bs p (codes "VAR") (in_variables bs p []) (map (λ n. id n) names ++ right_paren ∷ []) free refl ∙ names_go k bs p [] names
block_goes k bs (rules p rs) free =
    let all = rules_accepted rs in
    title_goes k bs p (codes "RULES") (in_rules bs p no_rule) (spelled_rules rs ++ right_paren ∷ []) free refl
    ∙ goes_then k (spelled_rules rs) (right_paren ∷ []) (in_rules bs p no_rule) (in_rules bs p all.0) (rules_go k bs p (spelled_rules rs) no_rule all.0 all.1) ∙ rules_end k bs p all.0 rs all.2

-- no title of the second list stands before it, where that is asked
abbrev pub AreFree : Bool → List Block → List Block → Type 0
AreFree k bs [] = Unit {0}
AreFree k bs (c ∷ cs) = ((has_block bs (title c) && k) ≡ false) × AreFree k (bs ++ c ∷ []) cs

pub blocks_go : (k : Bool) (cs bs : List Block) → AreFree k bs cs → goes k (outside bs) (spelled_blocks cs) ≡ Some (outside (bs ++ cs))
blocks_go k [] bs free = ap (λ (cs : List Block). Some (outside cs)) (sym (append-nil bs))
blocks_go k (c ∷ cs) bs free =
    goes_then k (spelled_block c) (spelled_blocks cs) (outside bs) (outside (bs ++ c ∷ [])) (block_goes k bs c free.0)
    ∙ blocks_go k cs (bs ++ c ∷ []) free.1 ∙ ap (λ (cs : List Block). Some (outside cs)) (append_assoc bs (c ∷ []) cs)

pub free_any : (cs bs : List Block) → AreFree false bs cs
free_any [] bs = tt
free_any (c ∷ cs) bs = (and-false (has_block bs (title c)), free_any cs (bs ++ c ∷ []))

-- blocks that may repeat
pub any_go : (bs : List Block) → goes false (outside []) (spelled_blocks bs) ≡ Some (outside bs)
any_go bs = blocks_go false bs [] (free_any bs [])

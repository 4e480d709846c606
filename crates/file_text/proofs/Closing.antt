-- Each state can be closed: some words lead from it to whole blocks.
use Rattle.std.proofs.Common.{◌≡◌, List, [], ◌∷◌, ◌++◌, map, Some, None, refl, sym, ap, ◌∙◌, append_assoc, codes}
use Rattle.std.proofs.lemmas.List.{append-nil}
use Rattle.file_text.specs.declared.ConditionType.TheVariants.{Oriented}
use Rattle.file_text.specs.Syntax.{Name, Phrase, word, call, none, with_last, RuleTree}
use Rattle.file_text.specs.Grammar.{Word, id, left_paren, right_paren, arrow, equal, spelled, spelled_rule, spelled_rules, id_at, type_text, Block, condition_type, variables}
use Rattle.file_text.specs.Grammar.{rules, spelled_block, spelled_blocks}
use Rattle.file_text.proofs.Machine.{Last, want, first, bare, done, Opens, Part, left, right, condition_left, condition_right, Reading, ended, State, outside}
use Rattle.file_text.proofs.Machine.{behind_bracket, behind_type, behind_type_word, in_variables, in_rules}
use Rattle.file_text.proofs.ReadingWords.{commaed, begun, open_words, last_words, part_words, reading_words, arguments-last, rules-last, rule_if, ended_reads}

-- the words of the blocks so far
abbrev pub state_words : State → List Word
state_words (outside bs) = spelled_blocks bs
state_words (behind_bracket bs) = spelled_blocks bs ++ left_paren ∷ []
state_words (behind_type bs at) = spelled_blocks bs ++ left_paren ∷ id_at at (codes "CONDITIONTYPE") ∷ []
state_words (behind_type_word bs at place kind) = spelled_blocks bs ++ left_paren ∷ id_at at (codes "CONDITIONTYPE") ∷ id_at place (type_text kind) ∷ []
state_words (in_variables bs at names) = spelled_blocks bs ++ left_paren ∷ id_at at (codes "VAR") ∷ map (λ n. id n) names
state_words (in_rules bs at r) = spelled_blocks bs ++ left_paren ∷ id_at at (codes "RULES") ∷ reading_words r

pub blocks-last : (bs : List Block) (b : Block) → spelled_blocks (bs ++ b ∷ []) ≡ spelled_blocks bs ++ spelled_block b
blocks-last [] b = append-nil (spelled_block b)
blocks-last (c ∷ cs) b = ap (λ (ws : List Word). spelled_block c ++ ws) (blocks-last cs b) ∙ sym (append_assoc (spelled_block c) (spelled_blocks cs) (spelled_block b))

some_name : Name
some_name = record { at = 0; text = [] }

some_term : Phrase
some_term = word some_name

-- what was read last is the front of a term
pub last_closes : (l : Last) → (rest : List Word) × (t : Phrase) × (last_words l ++ rest ≡ spelled t)
unfolding some_term
last_closes want = (id some_name ∷ [], some_term, refl)
last_closes (first g) = (right_paren ∷ [], call g none, refl)
last_closes (bare f) = ([], word f, refl)
last_closes (done t) = ([], t, append-nil (spelled t))

-- the open terms can be closed behind an argument
pub opens_close : (os : Opens) (t : Phrase) → (rest : List Word) × (u : Phrase) × (open_words os ++ (spelled t ++ rest) ≡ spelled u)
opens_close [] t = ([], t, append-nil (spelled t))
opens_close (o ∷ os) t =
    let outer = opens_close os (call o.0 (with_last o.1 t)) in (
      right_paren ∷ outer.0,
      outer.1,
      append_assoc (open_words os) (id o.0 ∷ left_paren ∷ commaed o.1) (spelled t ++ right_paren ∷ outer.0)
          ∙ ap (λ (ws : List Word). open_words os ++ (id o.0 ∷ left_paren ∷ ws)) (argument (commaed o.1) (spelled t) outer.0)
          ∙ ap (λ (ws : List Word). open_words os ++ (id o.0 ∷ left_paren ∷ ((ws ++ right_paren ∷ []) ++ outer.0))) (arguments-last o.1 t)
          ∙ outer.2,
    )
  where
    argument : (a b c : List Word) → a ++ (b ++ right_paren ∷ c) ≡ ((a ++ b) ++ right_paren ∷ []) ++ c
    argument a b c = simp append_assoc

pub term_closes : (os : Opens) (l : Last) → (rest : List Word) × (t : Phrase) × (open_words os ++ (last_words l ++ rest) ≡ spelled t)
term_closes os l =
    let inner = last_closes l in
    let outer = opens_close os inner.1 in (
      inner.0 ++ outer.0,
      outer.1,
      ap (λ (ws : List Word). open_words os ++ ws) (sym (append_assoc (last_words l) inner.0 outer.0))
          ∙ ap (λ (ws : List Word). open_words os ++ (ws ++ outer.0)) inner.2 ∙ outer.2,
    )

ended_closes : (p : Part) (t : Phrase) (r : RuleTree) → ended p t ≡ Some r → (rest : List Word) × (r : RuleTree) × (part_words p ++ (spelled t ++ rest) ≡ spelled_rule r)
ended_closes p t r e = ([], r, ap (λ (ws : List Word). part_words p ++ ws) (append-nil (spelled t)) ∙ sym (ended_reads p t r e))

-- a rule can be ended behind a term
pub rule_closes : (p : Part) (t : Phrase) → (rest : List Word) × (r : RuleTree) × (part_words p ++ (spelled t ++ rest) ≡ spelled_rule r)
unfolding some_term
rule_closes left t = (arrow ∷ id some_name ∷ [], record { left = t; right = some_term; guard = None }, refl)
rule_closes (right l) t = ended_closes (right l) t record { left = l; right = t; guard = None } refl
rule_closes (condition_left l r at cs) t =
    let q = condition_right l r at cs t in (
      equal ∷ id some_name ∷ [],
      rule_if l r at cs t some_term,
      regroup (spelled l) (spelled r) (begun at cs) (spelled t) ∙ sym (ended_reads q some_term (rule_if l r at cs t some_term) refl),
    )
  where
    regroup : (a b c d : List Word) → (a ++ arrow ∷ (b ++ c)) ++ (d ++ equal ∷ id some_name ∷ []) ≡ (a ++ arrow ∷ (b ++ (c ++ (d ++ equal ∷ [])))) ++ id some_name ∷ []
    regroup a b c d = simp append_assoc
rule_closes (condition_right l r at cs s) t = ended_closes (condition_right l r at cs s) t (rule_if l r at cs s t) refl

reading_closes : (r : Reading) → (rest : List Word) × (rs : List RuleTree) × (reading_words r ++ rest ≡ spelled_rules rs)
reading_closes r =
    let term = term_closes r.opens r.last in
    let rule = rule_closes r.part term.1 in (
      term.0 ++ rule.0,
      r.rules ++ rule.1 ∷ [],
      regroup (spelled_rules r.rules) (part_words r.part) (open_words r.opens) (last_words r.last) term.0 rule.0
          ∙ ap (λ (ws : List Word). spelled_rules r.rules ++ (part_words r.part ++ (ws ++ rule.0))) term.2
          ∙ ap (λ (ws : List Word). spelled_rules r.rules ++ ws) rule.2 ∙ sym (rules-last r.rules rule.1),
    )
  where
    regroup : (a b c d e f : List Word) → (a ++ (b ++ (c ++ d))) ++ (e ++ f) ≡ a ++ (b ++ ((c ++ (d ++ e)) ++ f))
    regroup a b c d e f = simp append_assoc

-- a block can be closed
block_closes : (bs : List Block) (front rest : List Word) (b : Block) → front ++ rest ≡ spelled_block b → (spelled_blocks bs ++ front) ++ rest ≡ spelled_blocks (bs ++ b ∷ [])
block_closes bs front rest b e = append_assoc (spelled_blocks bs) front rest ∙ ap (λ (ws : List Word). spelled_blocks bs ++ ws) e ∙ sym (blocks-last bs b)

pub state_closes : (s : State) → (rest : List Word) × (bs : List Block) × (state_words s ++ rest ≡ spelled_blocks bs)
state_closes (outside bs) = ([], bs, append-nil (spelled_blocks bs))
state_closes (behind_bracket bs) = (id_at 0 (codes "VAR") ∷ right_paren ∷ [], bs ++ variables 0 [] ∷ [], block_closes bs (left_paren ∷ []) _ (variables 0 []) refl)
state_closes (behind_type bs at) =
    (id_at 0 (codes "ORIENTED") ∷ right_paren ∷ [], bs ++ condition_type at 0 Oriented ∷ [], block_closes bs (left_paren ∷ id_at at (codes "CONDITIONTYPE") ∷ []) _ (condition_type at 0 Oriented) refl)
state_closes (behind_type_word bs at place kind) = (
  right_paren ∷ [],
  bs ++ condition_type at place kind ∷ [],
  block_closes bs (left_paren ∷ id_at at (codes "CONDITIONTYPE") ∷ id_at place (type_text kind) ∷ []) _ (condition_type at place kind) refl,
)
state_closes (in_variables bs at names) =
    (right_paren ∷ [], bs ++ variables at names ∷ [], block_closes bs (left_paren ∷ id_at at (codes "VAR") ∷ map (λ n. id n) names) _ (variables at names) refl)
state_closes (in_rules bs at r) =
    let inner = reading_closes r in (
      inner.0 ++ right_paren ∷ [],
      bs ++ rules at inner.1 ∷ [],
      block_closes bs (left_paren ∷ id_at at (codes "RULES") ∷ reading_words r) _ (rules at inner.1)
          (ap (λ (ws : List Word). left_paren ∷ id_at at (codes "RULES") ∷ ws) (sym (append_assoc (reading_words r) inner.0 (right_paren ∷ []))
          ∙ ap (λ (ws : List Word). ws ++ right_paren ∷ []) inner.2)),
    )

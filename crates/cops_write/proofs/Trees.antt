-- Syntax trees as they are written: their texts and tokens, with what follows them.
use Rattle.std.proofs.Common.{◌≡◌, ℕ, List, [], ◌∷◌, ◌++◌, Option, None, Some}
use Rattle.file_text.specs.declared.Kind.TheVariants.{Id, LeftParen, RightParen, Comma, Bar, Arrow, Equal}
use Rattle.file_text.specs.Syntax.{Name, Phrase, Phrases, word, call, none, more, ConditionTree, Guard, RuleTree}
use Rattle.file_text.proofs.Names.{IsName}
use Rattle.file_text.proofs.Lexemes.{Lexeme, lexeme}
use Rattle.file_text.proofs.TreeWords.{OfPhrase, OfPhrases, OfConditions, OfGuard, OfRules}

-- an empty list of arguments has no brackets
abbrev mutual
  pub text : Phrase → List ℕ → List ℕ
  text (word f) k = f.text ++ k
  text (call f ts) k = f.text ++ arguments ts k

  pub arguments : Phrases → List ℕ → List ℕ
  arguments none k = k
  arguments (more t ts) k = 40 ∷ text t (further ts k)

  pub further : Phrases → List ℕ → List ℕ
  further none k = 41 ∷ k
  further (more t ts) k = 44 ∷ text t (further ts k)

abbrev pub condition : ConditionTree → List ℕ → List ℕ
condition c k = text c.left (32 ∷ 61 ∷ 61 ∷ 32 ∷ text c.right k)

abbrev pub others : List ConditionTree → List ℕ → List ℕ
others [] k = k
others (c ∷ cs) k = 44 ∷ 32 ∷ condition c (others cs k)

abbrev pub guarded : Option Guard → List ℕ → List ℕ
guarded None k = k
guarded (Some g) k = 32 ∷ 124 ∷ 32 ∷ condition g.first (others g.others k)

abbrev pub rule : RuleTree → List ℕ → List ℕ
rule r k = 32 ∷ 32 ∷ text r.left (32 ∷ 45 ∷ 62 ∷ 32 ∷ text r.right (guarded r.guard (10 ∷ k)))

abbrev pub rules : List RuleTree → List ℕ → List ℕ
rules [] k = k
rules (r ∷ rs) k = rule r (rules rs k)

-- the tokens
abbrev mutual
  pub text_tokens : Phrase → List Lexeme → List Lexeme
  text_tokens (word f) k = lexeme Id f.text ∷ k
  text_tokens (call f ts) k = lexeme Id f.text ∷ arguments_tokens ts k

  pub arguments_tokens : Phrases → List Lexeme → List Lexeme
  arguments_tokens none k = k
  arguments_tokens (more t ts) k = lexeme LeftParen (40 ∷ []) ∷ text_tokens t (further_tokens ts k)

  pub further_tokens : Phrases → List Lexeme → List Lexeme
  further_tokens none k = lexeme RightParen (41 ∷ []) ∷ k
  further_tokens (more t ts) k = lexeme Comma (44 ∷ []) ∷ text_tokens t (further_tokens ts k)

abbrev pub condition_tokens : ConditionTree → List Lexeme → List Lexeme
condition_tokens c k = text_tokens c.left (lexeme Equal (61 ∷ 61 ∷ []) ∷ text_tokens c.right k)

abbrev pub others_tokens : List ConditionTree → List Lexeme → List Lexeme
others_tokens [] k = k
others_tokens (c ∷ cs) k = lexeme Comma (44 ∷ []) ∷ condition_tokens c (others_tokens cs k)

abbrev pub guarded_tokens : Option Guard → List Lexeme → List Lexeme
guarded_tokens None k = k
guarded_tokens (Some g) k = lexeme Bar (124 ∷ []) ∷ condition_tokens g.first (others_tokens g.others k)

abbrev pub rule_tokens : RuleTree → List Lexeme → List Lexeme
rule_tokens r k = text_tokens r.left (lexeme Arrow (45 ∷ 62 ∷ []) ∷ text_tokens r.right (guarded_tokens r.guard k))

abbrev pub rules_tokens : List RuleTree → List Lexeme → List Lexeme
rules_tokens [] k = k
rules_tokens (r ∷ rs) k = rule_tokens r (rules_tokens rs k)

-- every identifier is one of the text; nothing is said of the places of bars
abbrev pub IsOfText : Name → Type 0
IsOfText n = IsName n.text

abbrev pub AnyPlace : ℕ → Type 0
AnyPlace at = Unit {0}

abbrev pub HasNames : Phrase → Type 0
HasNames p = OfPhrase IsOfText AnyPlace p

abbrev pub HaveNames : Phrases → Type 0
HaveNames ts = OfPhrases IsOfText AnyPlace ts

abbrev pub ConditionsHaveNames : List ConditionTree → Type 0
ConditionsHaveNames cs = OfConditions IsOfText AnyPlace cs

abbrev pub GuardHasNames : Option Guard → Type 0
GuardHasNames g = OfGuard IsOfText AnyPlace g

abbrev pub RulesHaveNames : List RuleTree → Type 0
RulesHaveNames rs = OfRules IsOfText AnyPlace rs

-- the same trees but for places, and for empty brackets, which the second has not
abbrev mutual
  pub Alike : Phrase → Phrase → Type 0
  Alike (word f) (word g) = f.text ≡ g.text
  Alike (word f) (call g us) = ⊥
  Alike (call f ts) (word g) = (f.text ≡ g.text) × (ts ≡ none)
  Alike (call f ts) (call g us) = (f.text ≡ g.text) × AreAlike ts us

  pub AreAlike : Phrases → Phrases → Type 0
  AreAlike none none = Unit {0}
  AreAlike none (more u us) = ⊥
  AreAlike (more t ts) none = ⊥
  AreAlike (more t ts) (more u us) = Alike t u × AreAlike ts us

abbrev pub ConditionsAlike : List ConditionTree → List ConditionTree → Type 0
ConditionsAlike [] [] = Unit {0}
ConditionsAlike [] (d ∷ ds) = ⊥
ConditionsAlike (c ∷ cs) [] = ⊥
ConditionsAlike (c ∷ cs) (d ∷ ds) = Alike c.left d.left × Alike c.right d.right × ConditionsAlike cs ds

abbrev pub GuardsAlike : Option Guard → Option Guard → Type 0
GuardsAlike None None = Unit {0}
GuardsAlike None (Some h) = ⊥
GuardsAlike (Some g) None = ⊥
GuardsAlike (Some g) (Some h) = ConditionsAlike (g.first ∷ g.others) (h.first ∷ h.others)

abbrev pub RulesAlike : List RuleTree → List RuleTree → Type 0
RulesAlike [] [] = Unit {0}
RulesAlike [] (s ∷ ss) = ⊥
RulesAlike (r ∷ rs) [] = ⊥
RulesAlike (r ∷ rs) (s ∷ ss) = Alike r.left s.left × Alike r.right s.right × GuardsAlike r.guard s.guard × RulesAlike rs ss

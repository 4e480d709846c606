-- What holds of each identifier and of the place of each bar in the words of a tree holds of those in the tree.
use Rattle.std.proofs.Common.{◌≡◌, ℕ, List, [], ◌∷◌, ◌++◌, Option, None, Some, refl, subst}
use Rattle.file_text.specs.declared.Kind.{Kind}
use Rattle.file_text.specs.declared.Kind.TheVariants.{Id, LeftParen, RightParen, Comma, Bar, Arrow, Equal}
use Rattle.file_text.specs.Texts.{word_of_kind}
use Rattle.file_text.specs.Syntax.{Name, Phrase, Phrases, word, call, none, more, ConditionTree, Guard, RuleTree, FileTree}
use Rattle.file_text.specs.Grammar.{Word, id, left_paren, right_paren, comma, bar, arrow, equal, spelled, spelled_arguments, spelled_further, spelled_condition, spelled_others}
use Rattle.file_text.specs.Grammar.{spelled_guard, spelled_rule, spelled_rules, Block, condition_type, variables, rules, spelled_block, spelled_blocks, rules_in, SpellTree}

module _ (P : Name → Type 0) (Q : ℕ → Type 0) where
  abbrev pub OfWord : Word → Type 0
  OfWord (id n) = P n
  OfWord left_paren = Unit {0}
  OfWord right_paren = Unit {0}
  OfWord comma = Unit {0}
  OfWord (bar at) = Q at
  OfWord arrow = Unit {0}
  OfWord equal = Unit {0}

  abbrev pub OfWords : List Word → Type 0
  OfWords [] = Unit {0}
  OfWords (w ∷ ws) = OfWord w × OfWords ws

  abbrev mutual
    pub OfPhrase : Phrase → Type 0
    OfPhrase (word f) = P f
    OfPhrase (call f ts) = P f × OfPhrases ts

    pub OfPhrases : Phrases → Type 0
    OfPhrases none = Unit {0}
    OfPhrases (more t ts) = OfPhrase t × OfPhrases ts

  abbrev pub OfConditions : List ConditionTree → Type 0
  OfConditions [] = Unit {0}
  OfConditions (c ∷ cs) = OfPhrase c.left × OfPhrase c.right × OfConditions cs

  abbrev pub OfGuard : Option Guard → Type 0
  OfGuard None = Unit {0}
  OfGuard (Some g) = Q g.at × OfConditions (g.first ∷ g.others)

  abbrev pub OfRules : List RuleTree → Type 0
  OfRules [] = Unit {0}
  OfRules (r ∷ rs) = OfPhrase r.left × OfPhrase r.right × OfGuard r.guard × OfRules rs

  -- the word of a token is an identifier, a bar or neither
  pub of_kind : (k : Kind) (n : Name) → (k ≡ Id → P n) → (k ≡ Bar → Q n.at) → OfWord (word_of_kind k n)
  of_kind Id n name place = name refl
  of_kind LeftParen n name place = tt
  of_kind RightParen n name place = tt
  of_kind Comma n name place = tt
  of_kind Bar n name place = place refl
  of_kind Arrow n name place = tt
  of_kind Equal n name place = tt

  parted : (xs ys : List Word) → OfWords (xs ++ ys) → OfWords xs × OfWords ys
  parted [] ys h = (tt, h)
  parted (x ∷ xs) ys h = let p = parted xs ys h.1 in ((h.0, p.0), p.1)

  mutual
    of_phrase : (p : Phrase) → OfWords (spelled p) → OfPhrase p
    of_phrase (word f) h = h.0
    of_phrase (call f ts) h = (h.0, of_arguments ts (parted (spelled_arguments ts) (right_paren ∷ []) h.1.1).0)

    of_arguments : (ts : Phrases) → OfWords (spelled_arguments ts) → OfPhrases ts
    of_arguments none h = tt
    of_arguments (more t ts) h = let p = parted (spelled t) (spelled_further ts) h in (of_phrase t p.0, of_further ts p.1)

    of_further : (ts : Phrases) → OfWords (spelled_further ts) → OfPhrases ts
    of_further none h = tt
    of_further (more t ts) h = let p = parted (spelled t) (spelled_further ts) h.1 in (of_phrase t p.0, of_further ts p.1)

  of_condition : (c : ConditionTree) → OfWords (spelled_condition c) → OfPhrase c.left × OfPhrase c.right
  of_condition c h = let p = parted (spelled c.left) (equal ∷ spelled c.right) h in (of_phrase c.left p.0, of_phrase c.right p.1.1)

  of_others : (cs : List ConditionTree) → OfWords (spelled_others cs) → OfConditions cs
  of_others [] h = tt
  of_others (c ∷ cs) h =
      let p = parted (spelled_condition c) (spelled_others cs) h.1 in
      let q = of_condition c p.0 in
      (q.0, q.1, of_others cs p.1)

  of_guard : (g : Option Guard) → OfWords (spelled_guard g) → OfGuard g
  of_guard None h = tt
  of_guard (Some g) h =
      let p = parted (spelled_condition g.first) (spelled_others g.others) h.1 in
      let q = of_condition g.first p.0 in
      (h.0, (q.0, q.1, of_others g.others p.1))

  of_rules : (rs : List RuleTree) → OfWords (spelled_rules rs) → OfRules rs
  of_rules [] h = tt
  of_rules (r ∷ rs) h =
      let p = parted (spelled_rule r) (spelled_rules rs) h in
      let q = parted (spelled r.left) (arrow ∷ (spelled r.right ++ spelled_guard r.guard)) p.0 in
      let s = parted (spelled r.right) (spelled_guard r.guard) q.1.1 in
      (of_phrase r.left q.0, of_phrase r.right s.0, of_guard r.guard s.1, of_rules rs p.1)

  of_blocks : (bs : List Block) (rs : List RuleTree) → OfWords (spelled_blocks bs) → rules_in bs ≡ Some rs → OfRules rs
  of_blocks [] rs h e = absurd cc
  of_blocks (condition_type p q kind ∷ bs) rs h e = of_blocks bs rs (parted (spelled_block (condition_type p q kind)) (spelled_blocks bs) h).1 e
  of_blocks (variables p ns ∷ bs) rs h e = of_blocks bs rs (parted (spelled_block (variables p ns)) (spelled_blocks bs) h).1 e
  of_blocks (rules p ts ∷ bs) rs h e =
      let here = (parted (spelled_block (rules p ts)) (spelled_blocks bs) h).0 in
      let same : ts ≡ rs = cc in
      subst OfRules same (of_rules ts (parted (spelled_rules ts) (right_paren ∷ []) here.1.1).0)

  pub of_file : (ws : List Word) (file : FileTree) → SpellTree ws file → OfWords ws → OfRules file.rules
  of_file ws file f h = of_blocks f.blocks file.rules (subst OfWords f.spelled h) f.rules

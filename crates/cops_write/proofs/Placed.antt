-- A list of words that has a written tree's tokens is spelled by a tree that is alike.
use Rattle.std.proofs.Common.{◌≡◌, ℕ, List, [], ◌∷◌, ◌++◌, map, Option, None, Some, refl, sym, ap, subst, ◌∙◌, append_assoc}
use Rattle.file_text.specs.declared.Kind.{Kind}
use Rattle.file_text.specs.declared.Kind.TheVariants.{Id, LeftParen, RightParen, Comma, Bar, Arrow, Equal}
use Rattle.file_text.specs.declared.Token.{Token}
use Rattle.file_text.specs.Syntax.{Name, Phrase, Phrases, word, call, none, more, ConditionTree, Guard, RuleTree}
use Rattle.file_text.specs.Grammar.{Word, id, left_paren, right_paren, comma, bar, arrow, equal, spelled, spelled_further, spelled_condition, spelled_others, spelled_guard}
use Rattle.file_text.specs.Grammar.{spelled_rule, spelled_rules}
use Rattle.file_text.specs.Texts.{word_of_kind, word_of, words_of}
use Rattle.file_text.proofs.Lexemes.{Lexeme, lexeme, lexeme_of, lexemes_of}
use Rattle.cops_write.proofs.Trees.{text_tokens, arguments_tokens, further_tokens, condition_tokens, others_tokens, guarded_tokens, rules_tokens, Alike, AreAlike, ConditionsAlike}
use Rattle.cops_write.proofs.Trees.{GuardsAlike, RulesAlike}

abbrev nowhere : List ℕ → Name
nowhere s = record { at = 0; text = s }

-- a word without its place
abbrev pub bare : Word → Word
bare (id n) = id (nowhere n.text)
bare left_paren = left_paren
bare right_paren = right_paren
bare comma = comma
bare (bar at) = bar 0
bare arrow = arrow
bare equal = equal

abbrev pub word_for : Lexeme → Word
word_for l = word_of_kind l.kind (nowhere l.text)

-- the words have these tokens
abbrev pub Have : List Word → List Lexeme → Type 0
Have ws ls = map bare ws ≡ map word_for ls

bare_kind : (k : Kind) (n : Name) → bare (word_of_kind k n) ≡ word_of_kind k (nowhere n.text)
bare_kind Id n = refl
bare_kind _ n = refl

pub words_have : (bytes : List ℕ) (ts : List Token) → Have (words_of bytes ts) (lexemes_of bytes ts)
words_have bytes [] = refl
words_have bytes (t ∷ ts) =
    let here : bare (word_of bytes t) ≡ word_for (lexeme_of bytes t) = bare_kind t.kind _ in
    let rest = words_have bytes ts in
    cc

-- ---- the next word

pub record NextName (ws : List Word) (s : List ℕ) (ls : List Lexeme) : Type 0 where
  pub name : Name
  pub rest : List Word
  pub split : ws ≡ id name ∷ rest
  pub same : s ≡ name.text
  pub left : Have rest ls

pub next_name : (ws : List Word) (s : List ℕ) (ls : List Lexeme) → Have ws (lexeme Id s ∷ ls) → NextName ws s ls
next_name (id n ∷ ws) s ls e =
    let both : nowhere n.text ≡ nowhere s = cc in
    record { name = n; rest = ws; split = refl; same = sym (ap (λ (m : Name). m.text) both); left = cc }
next_name _ s ls e = absurd (cc)

record NextBar (ws : List Word) (ls : List Lexeme) : Type 0 where
  at : ℕ
  rest : List Word
  split : ws ≡ bar at ∷ rest
  left : Have rest ls

next_bar : (ws : List Word) (ls : List Lexeme) → Have ws (lexeme Bar (124 ∷ []) ∷ ls) → NextBar ws ls
next_bar (bar at ∷ ws) ls e = record { at = at; rest = ws; split = refl; left = cc }
next_bar _ ls e = absurd (cc)

abbrev pub IsFixed : Word → Type 0
IsFixed (id n) = ⊥
IsFixed (bar at) = ⊥
IsFixed _ = Unit {0}

is_fixed : (w v : Word) → IsFixed v → bare w ≡ v → w ≡ v
is_fixed (id n) v h e = absurd (subst IsFixed (sym e) h)
is_fixed (bar at) v h e = absurd (subst IsFixed (sym e) h)
is_fixed _ v h e = e

pub record NextFixed (ws : List Word) (v : Word) (ls : List Lexeme) : Type 0 where
  pub rest : List Word
  pub split : ws ≡ v ∷ rest
  pub left : Have rest ls

pub next_fixed : (ws : List Word) (l : Lexeme) (ls : List Lexeme) → IsFixed (word_for l) → Have ws (l ∷ ls) → NextFixed ws (word_for l) ls
next_fixed [] l ls h e = absurd (cc)
next_fixed (w ∷ ws) l ls h e =
    let here : bare w ≡ word_for l = cc in
    let rest : Have ws ls = cc in
    record { rest = ws; split = ap (λ (v : Word). v ∷ ws) (is_fixed w (word_for l) h here); left = rest }

-- the words begin with the spelling of a tree that is alike, and the others have the tokens
pub record Placed (Tree : Type 0) (spell : Tree → List Word) (IsLike : Tree → Type 0) (ws : List Word) (ls : List Lexeme) : Type 0 where
  pub tree : Tree
  pub rest : List Word
  pub split : ws ≡ spell tree ++ rest
  pub left : Have rest ls
  pub alike : IsLike tree

-- ---- a term

-- behind an identifier
record PlacedBehind (n : Name) (ts : Phrases) (ws : List Word) (ls : List Lexeme) : Type 0 where
  phrase : Phrase
  rest : List Word
  split : id n ∷ ws ≡ spelled phrase ++ rest
  left : Have rest ls
  alike : (f : Name) → f.text ≡ n.text → Alike (call f ts) phrase

record PlacedFurther (ts : Phrases) (ws : List Word) (ls : List Lexeme) : Type 0 where
  phrases : Phrases
  rest : List Word
  split : ws ≡ spelled_further phrases ++ right_paren ∷ rest
  left : Have rest ls
  alike : AreAlike ts phrases

mutual
  placed : (p : Phrase) (ws : List Word) (ls : List Lexeme) → Have ws (text_tokens p ls) → Placed Phrase spelled (Alike p) ws ls
  placed (word f) ws ls e =
      let n = next_name ws f.text ls e in
      record { tree = word n.name; rest = n.rest; split = n.split; left = n.left; alike = n.same }
  placed (call f ts) ws ls e =
      let n = next_name ws f.text (arguments_tokens ts ls) e in
      let b = placed_arguments n.name ts n.rest ls n.left in
      record { tree = b.phrase; rest = b.rest; split = n.split ∙ b.split; left = b.left; alike = b.alike f n.same }

  placed_arguments : (n : Name) (ts : Phrases) (ws : List Word) (ls : List Lexeme) → Have ws (arguments_tokens ts ls) → PlacedBehind n ts ws ls
  placed_arguments n none ws ls e = record { phrase = word n; rest = ws; split = refl; left = e; alike = λ f same. (same, refl) }
  placed_arguments n (more t ts) ws ls e =
      let o = next_fixed ws (lexeme LeftParen (40 ∷ [])) (text_tokens t (further_tokens ts ls)) tt e in
      let a = placed t o.rest (further_tokens ts ls) o.left in
      let b = placed_further ts a.rest ls a.left in
      record {
        phrase = call n (more a.tree b.phrases);
        rest = b.rest;
        split = ap (λ (w : List Word). id n ∷ w) (o.split ∙ ap (λ (w : List Word). left_paren ∷ w) (a.split ∙ ap (λ (w : List Word). spelled a.tree ++ w) b.split
            ∙ sym (append_assoc (spelled a.tree) (spelled_further b.phrases) (right_paren ∷ b.rest)) ∙ sym (append_assoc (spelled a.tree ++ spelled_further b.phrases) (right_paren ∷ []) b.rest)));
        left = b.left;
        alike = λ f same. (same, (a.alike, b.alike));
      }

  placed_further : (ts : Phrases) (ws : List Word) (ls : List Lexeme) → Have ws (further_tokens ts ls) → PlacedFurther ts ws ls
  placed_further none ws ls e =
      let c = next_fixed ws (lexeme RightParen (41 ∷ [])) ls tt e in
      record { phrases = none; rest = c.rest; split = c.split; left = c.left; alike = tt }
  placed_further (more t ts) ws ls e =
      let o = next_fixed ws (lexeme Comma (44 ∷ [])) (text_tokens t (further_tokens ts ls)) tt e in
      let a = placed t o.rest (further_tokens ts ls) o.left in
      let b = placed_further ts a.rest ls a.left in
      record {
        phrases = more a.tree b.phrases;
        rest = b.rest;
        split = o.split ∙ ap (λ (w : List Word). comma ∷ w) (a.split ∙ ap (λ (w : List Word). spelled a.tree ++ w) b.split
            ∙ sym (append_assoc (spelled a.tree) (spelled_further b.phrases) (right_paren ∷ b.rest)));
        left = b.left;
        alike = (a.alike, b.alike);
      }

-- ---- conditions and rules

placed_condition : (c : ConditionTree) (ws : List Word) (ls : List Lexeme) → Have ws (condition_tokens c ls)
    → Placed ConditionTree spelled_condition (λ t. Alike c.left t.left × Alike c.right t.right) ws ls
placed_condition c ws ls e =
    let a = placed c.left ws (lexeme Equal (61 ∷ 61 ∷ []) ∷ text_tokens c.right ls) e in
    let o = next_fixed a.rest (lexeme Equal (61 ∷ 61 ∷ [])) (text_tokens c.right ls) tt a.left in
    let b = placed c.right o.rest ls o.left in
    record {
      tree = record { left = a.tree; right = b.tree };
      rest = b.rest;
      split = a.split ∙ ap (λ (w : List Word). spelled a.tree ++ w) (o.split ∙ ap (λ (w : List Word). equal ∷ w) b.split) ∙ sym (append_assoc (spelled a.tree) (equal ∷ spelled b.tree) b.rest);
      left = b.left;
      alike = (a.alike, b.alike);
    }

placed_others : (cs : List ConditionTree) (ws : List Word) (ls : List Lexeme) → Have ws (others_tokens cs ls) → Placed (List ConditionTree) spelled_others (ConditionsAlike cs) ws ls
placed_others [] ws ls e = record { tree = []; rest = ws; split = refl; left = e; alike = tt }
placed_others (c ∷ cs) ws ls e =
    let o = next_fixed ws (lexeme Comma (44 ∷ [])) (condition_tokens c (others_tokens cs ls)) tt e in
    let a = placed_condition c o.rest (others_tokens cs ls) o.left in
    let b = placed_others cs a.rest ls a.left in
    record {
      tree = a.tree ∷ b.tree;
      rest = b.rest;
      split = o.split ∙ ap (λ (w : List Word). comma ∷ w) (a.split ∙ ap (λ (w : List Word). spelled_condition a.tree ++ w) b.split
          ∙ sym (append_assoc (spelled_condition a.tree) (spelled_others b.tree) b.rest));
      left = b.left;
      alike = (a.alike.0, a.alike.1, b.alike);
    }

placed_guard : (g : Option Guard) (ws : List Word) (ls : List Lexeme) → Have ws (guarded_tokens g ls) → Placed (Option Guard) spelled_guard (GuardsAlike g) ws ls
placed_guard None ws ls e = record { tree = None; rest = ws; split = refl; left = e; alike = tt }
placed_guard (Some g) ws ls e =
    let o = next_bar ws (condition_tokens g.first (others_tokens g.others ls)) e in
    let a = placed_condition g.first o.rest (others_tokens g.others ls) o.left in
    let b = placed_others g.others a.rest ls a.left in
    record {
      tree = Some record { at = o.at; first = a.tree; others = b.tree };
      rest = b.rest;
      split = o.split ∙ ap (λ (w : List Word). bar o.at ∷ w) (a.split ∙ ap (λ (w : List Word). spelled_condition a.tree ++ w) b.split
          ∙ sym (append_assoc (spelled_condition a.tree) (spelled_others b.tree) b.rest));
      left = b.left;
      alike = (a.alike.0, a.alike.1, b.alike);
    }

pub placed_rules : (rs : List RuleTree) (ws : List Word) (ls : List Lexeme) → Have ws (rules_tokens rs ls) → Placed (List RuleTree) spelled_rules (RulesAlike rs) ws ls
placed_rules [] ws ls e = record { tree = []; rest = ws; split = refl; left = e; alike = tt }
placed_rules (r ∷ rs) ws ls e =
    let later = rules_tokens rs ls in
    let a = placed r.left ws (lexeme Arrow (45 ∷ 62 ∷ []) ∷ text_tokens r.right (guarded_tokens r.guard later)) e in
    let o = next_fixed a.rest (lexeme Arrow (45 ∷ 62 ∷ [])) (text_tokens r.right (guarded_tokens r.guard later)) tt a.left in
    let b = placed r.right o.rest (guarded_tokens r.guard later) o.left in
    let g = placed_guard r.guard b.rest later b.left in
    let t : RuleTree = record { left = a.tree; right = b.tree; guard = g.tree } in
    let c = placed_rules rs g.rest ls g.left in
    record {
      tree = t ∷ c.tree;
      rest = c.rest;
      split = a.split
          ∙ ap (λ (w : List Word). spelled a.tree ++ w)
          (o.split ∙ ap (λ (w : List Word). arrow ∷ w) (b.split ∙ ap (λ (w : List Word). spelled b.tree ++ w) g.split
          ∙ sym (append_assoc (spelled b.tree) (spelled_guard g.tree) g.rest)))
          ∙ sym (append_assoc (spelled a.tree) (arrow ∷ (spelled b.tree ++ spelled_guard g.tree)) g.rest)
          ∙ ap (λ (w : List Word). spelled_rule t ++ w) c.split
          ∙ sym (append_assoc (spelled_rule t) (spelled_rules c.tree) c.rest);
      left = c.left;
      alike = (a.alike, b.alike, g.alike, c.alike);
    }

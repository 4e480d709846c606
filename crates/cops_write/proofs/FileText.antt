-- The text that is written of a file's tree, its tokens, and the tree that they spell.
use Rattle.std.proofs.Common.{◌≡◌, ℕ, Bool, true, false, List, [], ◌∷◌, ◌++◌, map, Option, Some, None, if◌then◌else◌, refl, sym, ap, ap₂, ◌∙◌, subst, append_assoc, append-nil, codes}
use Rattle.file_text.specs.declared.Kind.TheVariants.{Id, LeftParen, RightParen}
use Rattle.file_text.specs.declared.ConditionType.{ConditionType}
use Rattle.file_text.specs.declared.ConditionType.TheVariants.{Oriented}
use Rattle.file_text.specs.Syntax.{Name, RuleTree, FileTree}
use Rattle.file_text.specs.Grammar.{Word, id, left_paren, right_paren, spelled_rules, Block, condition_type, variables, rules, spelled_block, spelled_blocks, type_in, variables_in}
use Rattle.file_text.specs.Grammar.{rules_in, are_distinct, SpellTree}
use Rattle.file_text.specs.Texts.{words_of, IsText}
use Rattle.file_text.proofs.Names.{IsName, ends_id, condition_type_name, oriented_name, variables_name, rules_name}
use Rattle.file_text.proofs.Lexemes.{Lexeme, lexeme, Reads, reads_end, reads_white, reads_id, reads_block, reads_closing_bracket, spelled}
use Rattle.cops_write.specs.Text.{spaced, block_text, type_text}
use Rattle.cops_write.proofs.Trees as trees
use Rattle.cops_write.proofs.Trees.{rules_tokens, RulesHaveNames, RulesAlike}
use Rattle.cops_write.proofs.TreeTokens.{reads_rules}
use Rattle.cops_write.proofs.Placed.{Have, words_have, next_name, next_fixed, placed_rules}

-- ---- the tokens

abbrev pub AllNames : List (List ℕ) → Type 0
AllNames [] = Unit {0}
AllNames (x ∷ xs) = IsName x × AllNames xs

abbrev name_tokens : List (List ℕ) → List Lexeme → List Lexeme
name_tokens [] k = k
name_tokens (x ∷ xs) k = lexeme Id x ∷ name_tokens xs k

abbrev left : Lexeme
left = lexeme LeftParen (40 ∷ [])

abbrev right : Lexeme
right = lexeme RightParen (41 ∷ [])

abbrev type_tokens : Bool → List Lexeme → List Lexeme
type_tokens true k = left ∷ lexeme Id (codes "CONDITIONTYPE") ∷ lexeme Id (codes "ORIENTED") ∷ right ∷ k
type_tokens false k = k

abbrev block_tokens : List (List ℕ) → List Lexeme → List Lexeme
block_tokens [] k = k
block_tokens (x ∷ xs) k = left ∷ lexeme Id (codes "VAR") ∷ name_tokens (x ∷ xs) (right ∷ k)

abbrev last_tokens : List RuleTree → List Lexeme
last_tokens rs = left ∷ lexeme Id (codes "RULES") ∷ rules_tokens rs (right ∷ [])

abbrev file_tokens : Bool → List (List ℕ) → List RuleTree → List Lexeme
file_tokens conditional names rs = type_tokens conditional (block_tokens names (last_tokens rs))

-- the text
abbrev last_text : List RuleTree → List ℕ
last_text rs = codes "(RULES\n" ++ trees.rules rs (41 ∷ 10 ∷ [])

abbrev pub file_text : Bool → List (List ℕ) → List RuleTree → List ℕ
file_text conditional names rs = type_text conditional ++ (block_text names ++ last_text rs)

spaced_ends : (xs : List (List ℕ)) (k : List ℕ) → ends_id k ≡ true → ends_id (spaced xs ++ k) ≡ true
spaced_ends [] k e = e
spaced_ends (x ∷ xs) k e = refl

reads_names : (xs : List (List ℕ)) (k : List ℕ) (ls : List Lexeme) → AllNames xs → ends_id k ≡ true → Reads 1 k ls → Reads 1 (spaced xs ++ k) (name_tokens xs ls)
reads_names [] k ls h e r = r
reads_names (x ∷ xs) k ls h e r =
    subst (λ (w : List ℕ). Reads 1 (32 ∷ w) (lexeme Id x ∷ name_tokens xs ls)) (sym (append_assoc x (spaced xs) k))
    (reads_white 1 32 (x ++ (spaced xs ++ k)) _ refl (reads_id 1 x (spaced xs ++ k) (name_tokens xs ls) h.0 (spaced_ends xs k e) (reads_names xs k ls h.1 e r)))

reads_last : (rs : List RuleTree) → RulesHaveNames rs → Reads 0 (last_text rs) (last_tokens rs)
reads_last rs h =
    let inside = trees.rules rs (41 ∷ 10 ∷ []) in
    reads_block 0 (codes "RULES") (10 ∷ inside) (rules_tokens rs (right ∷ [])) rules_name refl (λ e. cc)
    (reads_white 1 10 inside (rules_tokens rs (right ∷ [])) refl
    (reads_rules rs (41 ∷ 10 ∷ []) (right ∷ []) h (reads_closing_bracket 0 (10 ∷ []) [] (reads_white 0 10 [] [] refl (reads_end 0)))))

reads_variables : (xs : List (List ℕ)) (k : List ℕ) (ls : List Lexeme) → AllNames xs → Reads 0 k ls → Reads 0 (block_text xs ++ k) (block_tokens xs ls)
reads_variables [] k ls h r = r
reads_variables (x ∷ xs) k ls h r =
    let inside = spaced (x ∷ xs) ++ (41 ∷ 10 ∷ k) in
    subst (λ (w : List ℕ). Reads 0 (40 ∷ 86 ∷ 65 ∷ 82 ∷ w) (block_tokens (x ∷ xs) ls)) (sym (append_assoc (spaced (x ∷ xs)) (41 ∷ 10 ∷ []) k))
    (reads_block 0 (codes "VAR") inside (name_tokens (x ∷ xs) (right ∷ ls)) variables_name refl (λ e. cc)
    (reads_names (x ∷ xs) (41 ∷ 10 ∷ k) (right ∷ ls) h refl (reads_closing_bracket 0 (10 ∷ k) ls (reads_white 0 10 k ls refl r))))

reads_type : (conditional : Bool) (k : List ℕ) (ls : List Lexeme) → Reads 0 k ls → Reads 0 (type_text conditional ++ k) (type_tokens conditional ls)
reads_type false k ls r = r
reads_type true k ls r =
    reads_block 0 (codes "CONDITIONTYPE") (codes " ORIENTED)\n" ++ k) (lexeme Id (codes "ORIENTED") ∷ right ∷ ls) condition_type_name refl (λ e. cc)
    (reads_white 1 32 (codes "ORIENTED)\n" ++ k) _ refl
    (reads_id 1 (codes "ORIENTED") (41 ∷ 10 ∷ k) (right ∷ ls) oriented_name refl (reads_closing_bracket 0 (10 ∷ k) ls (reads_white 0 10 k ls refl r))))

reads_file : (conditional : Bool) (names : List (List ℕ)) (rs : List RuleTree) → AllNames names → RulesHaveNames rs → Reads 0 (file_text conditional names rs) (file_tokens conditional names rs)
reads_file conditional names rs h k =
    reads_type conditional (block_text names ++ last_text rs) (block_tokens names (last_tokens rs)) (reads_variables names (last_text rs) (last_tokens rs) h (reads_last rs k))

-- ---- the words

record PlacedNames (xs : List (List ℕ)) (ws : List Word) (ls : List Lexeme) : Type 0 where
  names : List Name
  rest : List Word
  split : ws ≡ map (λ n. id n) names ++ rest
  same : map (λ n. n.text) names ≡ xs
  left_over : Have rest ls

placed_names : (xs : List (List ℕ)) (ws : List Word) (ls : List Lexeme) → Have ws (name_tokens xs ls) → PlacedNames xs ws ls
placed_names [] ws ls e = record { names = []; rest = ws; split = refl; same = refl; left_over = e }
placed_names (x ∷ xs) ws ls e =
    let n = next_name ws x (name_tokens xs ls) e in
    let p = placed_names xs n.rest ls n.left in
    record {
      names = n.name ∷ p.names;
      rest = p.rest;
      split = n.split ∙ ap (λ (w : List Word). id n.name ∷ w) p.split;
      same = ap₂ (λ (s : List ℕ) (ss : List (List ℕ)). s ∷ ss) (sym n.same) p.same;
      left_over = p.left_over;
    }

-- a word of a block's title, at its place
titled : (n : Name) (s : List ℕ) (ws : List Word) → s ≡ n.text → id n ∷ ws ≡ id (record { at = n.at; text = s }) ∷ ws
titled n s ws e = ap (λ (x : List ℕ). id (record { at = n.at; text = x }) ∷ ws) (sym e)

no_words : (ws : List Word) → Have ws [] → ws ≡ []
no_words [] e = refl
no_words (w ∷ ws) e = absurd cc

record LastBlock (rs : List RuleTree) (ws : List Word) : Type 0 where
  at : ℕ
  trees : List RuleTree
  split : ws ≡ spelled_block (rules at trees)
  alike : RulesAlike rs trees

last_block : (rs : List RuleTree) (ws : List Word) → Have ws (last_tokens rs) → LastBlock rs ws
last_block rs ws e =
    let o = next_fixed ws left (lexeme Id (codes "RULES") ∷ rules_tokens rs (right ∷ [])) tt e in
    let n = next_name o.rest (codes "RULES") (rules_tokens rs (right ∷ [])) o.left in
    let p = placed_rules rs n.rest (right ∷ []) n.left in
    let c = next_fixed p.rest right [] tt p.left in
    record {
      at = n.name.at;
      trees = p.tree;
      split = o.split ∙ ap (λ (w : List Word). left_paren ∷ w) (n.split ∙ titled n.name (codes "RULES") n.rest n.same
          ∙ ap (λ (w : List Word). id (record { at = n.name.at; text = codes "RULES" }) ∷ w)
          (p.split ∙ ap (λ (w : List Word). spelled_rules p.tree ++ w) (c.split ∙ ap (λ (w : List Word). right_paren ∷ w) (no_words c.rest c.left))));
      alike = p.alike;
    }

-- the blocks behind a condition type
record Blocks (names : List (List ℕ)) (rs : List RuleTree) (ws : List Word) : Type 0 where
  blocks : List Block
  split : ws ≡ spelled_blocks blocks
  trees : List RuleTree
  alike : RulesAlike rs trees
  variables : map (λ n. n.text) (variables_in blocks) ≡ names
  whole : rules_in blocks ≡ Some trees
  untyped : type_in blocks ≡ None
  distinct : are_distinct blocks ≡ true
  also : (p q : ℕ) → are_distinct (condition_type p q Oriented ∷ blocks) ≡ true

blocks_behind : (names : List (List ℕ)) (rs : List RuleTree) (ws : List Word) → Have ws (block_tokens names (last_tokens rs)) → Blocks names rs ws
blocks_behind [] rs ws e =
    let b = last_block rs ws e in
    record {
      blocks = rules b.at b.trees ∷ [];
      split = b.split ∙ sym (append-nil (spelled_block (rules b.at b.trees)));
      trees = b.trees;
      alike = b.alike;
      variables = refl;
      whole = refl;
      untyped = refl;
      distinct = refl;
      also = λ p q. refl;
    }
blocks_behind (x ∷ xs) rs ws e =
    let o = next_fixed ws left (lexeme Id (codes "VAR") ∷ name_tokens (x ∷ xs) (right ∷ last_tokens rs)) tt e in
    let n = next_name o.rest (codes "VAR") (name_tokens (x ∷ xs) (right ∷ last_tokens rs)) o.left in
    let p = placed_names (x ∷ xs) n.rest (right ∷ last_tokens rs) n.left in
    let c = next_fixed p.rest right (last_tokens rs) tt p.left_over in
    let b = last_block rs c.rest c.left in
    let ids : List Word = map (λ m. id m) p.names in
    let last = spelled_block (rules b.at b.trees) in
    record {
      blocks = variables n.name.at p.names ∷ rules b.at b.trees ∷ [];
      split = o.split ∙ ap (λ (w : List Word). left_paren ∷ w) (n.split ∙ titled n.name (codes "VAR") n.rest n.same
          ∙ ap (λ (w : List Word). id (record { at = n.name.at; text = codes "VAR" }) ∷ w)
          (p.split ∙ ap (λ (w : List Word). ids ++ w) (c.split ∙ ap (λ (w : List Word). right_paren ∷ w) (b.split ∙ sym (append-nil last)))
          ∙ sym (append_assoc ids (right_paren ∷ []) (last ++ []))));
      trees = b.trees;
      alike = b.alike;
      variables = p.same;
      whole = refl;
      untyped = refl;
      distinct = refl;
      also = λ p q. refl;
    }

-- the condition type that is written
abbrev pub written_type : Bool → Option ConditionType
written_type conditional = if conditional then Some Oriented else None

-- a tree that the written text spells
pub record Written (conditional : Bool) (names : List (List ℕ)) (rs : List RuleTree) : Type 0 where
  pub tree : FileTree
  pub spelled : IsText (file_text conditional names rs) tree
  pub condition_type : tree.condition_type ≡ written_type conditional
  pub variables : map (λ n. n.text) tree.variables ≡ names
  pub alike : RulesAlike rs tree.rules

-- the words of the whole text
record WholeFile (conditional : Bool) (names : List (List ℕ)) (rs : List RuleTree) (ws : List Word) : Type 0 where
  tree : FileTree
  whole : SpellTree ws tree
  condition_type : tree.condition_type ≡ written_type conditional
  variables : map (λ n. n.text) tree.variables ≡ names
  alike : RulesAlike rs tree.rules

whole_file : (conditional : Bool) (names : List (List ℕ)) (rs : List RuleTree) (ws : List Word) → Have ws (file_tokens conditional names rs) → WholeFile conditional names rs ws
whole_file false names rs ws e =
    let b = blocks_behind names rs ws e in
    record {
      tree = record { condition_type = None; variables = variables_in b.blocks; rules = b.trees };
      whole = record { blocks = b.blocks; spelled = b.split; distinct = b.distinct; condition_type = sym b.untyped; variables = refl; rules = b.whole };
      condition_type = refl;
      variables = b.variables;
      alike = b.alike;
    }
whole_file true names rs ws e =
    let rest = block_tokens names (last_tokens rs) in
    let o = next_fixed ws left (lexeme Id (codes "CONDITIONTYPE") ∷ lexeme Id (codes "ORIENTED") ∷ right ∷ rest) tt e in
    let n = next_name o.rest (codes "CONDITIONTYPE") (lexeme Id (codes "ORIENTED") ∷ right ∷ rest) o.left in
    let m = next_name n.rest (codes "ORIENTED") (right ∷ rest) n.left in
    let c = next_fixed m.rest right rest tt m.left in
    let b = blocks_behind names rs c.rest c.left in
    let split : ws ≡ spelled_blocks (condition_type n.name.at m.name.at Oriented ∷ b.blocks) =
    o.split ∙ ap (λ (w : List Word). left_paren ∷ w) (n.split ∙ titled n.name (codes "CONDITIONTYPE") n.rest n.same
    ∙ ap (λ (w : List Word). id (record { at = n.name.at; text = codes "CONDITIONTYPE" }) ∷ w) (m.split ∙ titled m.name (codes "ORIENTED") m.rest m.same
    ∙ ap (λ (w : List Word). id (record { at = m.name.at; text = codes "ORIENTED" }) ∷ w) (c.split ∙ ap (λ (w : List Word). right_paren ∷ w) b.split))) in
    record {
      tree = record { condition_type = Some Oriented; variables = variables_in b.blocks; rules = b.trees };
      whole = record {
        blocks = condition_type n.name.at m.name.at Oriented ∷ b.blocks;
        spelled = split;
        distinct = b.also n.name.at m.name.at;
        condition_type = refl;
        variables = refl;
        rules = b.whole;
      };
      condition_type = refl;
      variables = b.variables;
      alike = b.alike;
    }

pub written : (conditional : Bool) (names : List (List ℕ)) (rs : List RuleTree) → AllNames names → RulesHaveNames rs → Written conditional names rs
written conditional names rs h k =
    let bytes = file_text conditional names rs in
    let s = spelled bytes (file_tokens conditional names rs) (reads_file conditional names rs h k) in
    let have : Have (words_of bytes s.0) (file_tokens conditional names rs) = subst (Have (words_of bytes s.0)) s.2 (words_have bytes s.0) in
    let w = whole_file conditional names rs (words_of bytes s.0) have in
    record {
      tree = w.tree;
      spelled = record { tokens = s.0; spelled = s.1; whole = w.whole };
      condition_type = w.condition_type;
      variables = w.variables;
      alike = w.alike;
    }

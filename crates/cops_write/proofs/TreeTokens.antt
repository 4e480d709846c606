-- The tokens of a written tree are those of its text.
use Rattle.std.proofs.Common.{◌≡◌, ℕ, ◌+◌, ◌<◌, true, List, [], ◌∷◌, Option, None, Some, refl, arith}
use Rattle.file_text.specs.Syntax.{Phrase, Phrases, word, call, none, more, ConditionTree, Guard, RuleTree}
use Rattle.file_text.proofs.Names.{ends_id}
use Rattle.file_text.proofs.Lexemes.{Lexeme, Reads, reads_id, reads_white, reads_comma, reads_bar, reads_arrow, reads_equal, reads_inner_bracket, reads_closing_bracket}
use Rattle.cops_write.proofs.Trees.{text, arguments, further, condition, others, guarded, rules, text_tokens, arguments_tokens, further_tokens, condition_tokens, others_tokens}
use Rattle.cops_write.proofs.Trees.{guarded_tokens, rules_tokens, HasNames, HaveNames, ConditionsHaveNames, GuardHasNames, RulesHaveNames}

further_ends : (ts : Phrases) (k : List ℕ) → ends_id (further ts k) ≡ true
further_ends none k = refl
further_ends (more t ts) k = refl

arguments_end : (ts : Phrases) (k : List ℕ) → ends_id k ≡ true → ends_id (arguments ts k) ≡ true
arguments_end none k e = e
arguments_end (more t ts) k e = refl

mutual
  pub reads_text : (count : ℕ) (p : Phrase) (k : List ℕ) (ls : List Lexeme) → 0 < count → HasNames p → ends_id k ≡ true → Reads count k ls → Reads count (text p k) (text_tokens p ls)
  reads_text count (word f) k ls some h e r = reads_id count f.text k ls h e r
  reads_text count (call f ts) k ls some h e r =
      reads_id count f.text (arguments ts k) (arguments_tokens ts ls) h.0 (arguments_end ts k e) (reads_arguments count ts k ls some h.1 r)

  reads_arguments : (count : ℕ) (ts : Phrases) (k : List ℕ) (ls : List Lexeme) → 0 < count → HaveNames ts → Reads count k ls → Reads count (arguments ts k) (arguments_tokens ts ls)
  reads_arguments count none k ls some h r = r
  reads_arguments count (more t ts) k ls some h r =
      reads_inner_bracket count (text t (further ts k)) (text_tokens t (further_tokens ts ls)) some
      (reads_text (count + 1) t (further ts k) (further_tokens ts ls) (omega arith) h.0 (further_ends ts k) (reads_further count ts k ls some h.1 r))

  reads_further : (count : ℕ) (ts : Phrases) (k : List ℕ) (ls : List Lexeme) → 0 < count → HaveNames ts → Reads count k ls → Reads (count + 1) (further ts k) (further_tokens ts ls)
  reads_further count none k ls some h r = reads_closing_bracket count k ls r
  reads_further count (more t ts) k ls some h r =
      reads_comma (count + 1) (text t (further ts k)) (text_tokens t (further_tokens ts ls))
      (reads_text (count + 1) t (further ts k) (further_tokens ts ls) (omega arith) h.0 (further_ends ts k) (reads_further count ts k ls some h.1 r))

reads_condition : (c : ConditionTree) (k : List ℕ) (ls : List Lexeme) → HasNames c.left → HasNames c.right → ends_id k ≡ true → Reads 1 k ls → Reads 1 (condition c k) (condition_tokens c ls)
reads_condition c k ls l r e h =
    let right = text c.right k in
    let tokens = text_tokens c.right ls in
    reads_text 1 c.left _ _ (omega arith) l refl
    (reads_white 1 32 (61 ∷ 61 ∷ 32 ∷ right) _ refl (reads_equal 1 (32 ∷ right) tokens (reads_white 1 32 right tokens refl (reads_text 1 c.right k ls (omega arith) r e h))))

others_end : (cs : List ConditionTree) (k : List ℕ) → ends_id k ≡ true → ends_id (others cs k) ≡ true
others_end [] k e = e
others_end (c ∷ cs) k e = refl

reads_others : (cs : List ConditionTree) (k : List ℕ) (ls : List Lexeme) → ConditionsHaveNames cs → ends_id k ≡ true → Reads 1 k ls → Reads 1 (others cs k) (others_tokens cs ls)
reads_others [] k ls h e r = r
reads_others (c ∷ cs) k ls h e r =
    let rest = condition c (others cs k) in
    let tokens = condition_tokens c (others_tokens cs ls) in
    reads_comma 1 (32 ∷ rest) tokens (reads_white 1 32 rest tokens refl (reads_condition c (others cs k) (others_tokens cs ls) h.0 h.1 (others_end cs k e) (reads_others cs k ls h.2 e r)))

guard_ends : (g : Option Guard) (k : List ℕ) → ends_id k ≡ true → ends_id (guarded g k) ≡ true
guard_ends None k e = e
guard_ends (Some g) k e = refl

reads_guard : (g : Option Guard) (k : List ℕ) (ls : List Lexeme) → GuardHasNames g → ends_id k ≡ true → Reads 1 k ls → Reads 1 (guarded g k) (guarded_tokens g ls)
reads_guard None k ls h e r = r
reads_guard (Some g) k ls h e r =
    let rest = condition g.first (others g.others k) in
    let tokens = condition_tokens g.first (others_tokens g.others ls) in
    reads_white 1 32 (124 ∷ 32 ∷ rest) _ refl (reads_bar 1 (32 ∷ rest) tokens (reads_white 1 32 rest tokens refl
    (reads_condition g.first (others g.others k) (others_tokens g.others ls) h.1.0 h.1.1 (others_end g.others k e) (reads_others g.others k ls h.1.2 e r))))

-- inside the block of rules
pub reads_rules : (rs : List RuleTree) (k : List ℕ) (ls : List Lexeme) → RulesHaveNames rs → Reads 1 k ls → Reads 1 (rules rs k) (rules_tokens rs ls)
reads_rules [] k ls h r = r
reads_rules (t ∷ ts) k ls h r =
    let later = rules ts k in
    let later_tokens = rules_tokens ts ls in
    let behind = guarded t.guard (10 ∷ later) in
    let behind_tokens = guarded_tokens t.guard later_tokens in
    let right = text t.right behind in
    let right_tokens = text_tokens t.right behind_tokens in
    reads_white 1 32 _ _ refl (reads_white 1 32 _ _ refl (reads_text 1 t.left (32 ∷ 45 ∷ 62 ∷ 32 ∷ right) _ (omega arith) h.0 refl
    (reads_white 1 32 (45 ∷ 62 ∷ 32 ∷ right) _ refl (reads_arrow 1 (32 ∷ right) right_tokens (reads_white 1 32 right right_tokens refl
    (reads_text 1 t.right behind behind_tokens (omega arith) h.1 (guard_ends t.guard (10 ∷ later) refl)
    (reads_guard t.guard (10 ∷ later) later_tokens h.2 refl (reads_white 1 10 later later_tokens refl (reads_rules ts k ls h.3 r)))))))))

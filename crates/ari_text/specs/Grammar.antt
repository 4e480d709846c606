-- The words of a tree in the ARI format, with those that follow it.
use Rattle.std.specs.Prelude.{◌≡◌, ℕ, zero, suc, List, [], ◌∷◌, ◌++◌, codes, decimal}
use Rattle.file_text.specs.Syntax.{Phrase, Phrases, word, call, none, more, ConditionTree, RuleTree, conditions_of}
use Rattle.ari_text.specs.declared.heads.Format.{Format}
use Rattle.ari_text.specs.declared.heads.Format.TheVariants.{Plain, Oriented, Join}
use Rattle.ari_text.specs.Signs.{Sign, opening, closing, name, odd}

-- f, or (f t1 .. tn)
abbrev mutual
  pub term_signs : Phrase → List Sign → List Sign
  term_signs (word f) k = name f.text ∷ k
  term_signs (call f ts) k = opening ∷ name f.text ∷ terms_signs ts (closing ∷ k)

  pub terms_signs : Phrases → List Sign → List Sign
  terms_signs none k = k
  terms_signs (more t ts) k = term_signs t (terms_signs ts k)

-- (= s t)
abbrev pub condition_signs : ConditionTree → List Sign → List Sign
condition_signs c k = opening ∷ name (codes "=") ∷ term_signs c.left (term_signs c.right (closing ∷ k))

abbrev pub conditions_signs : List ConditionTree → List Sign → List Sign
conditions_signs [] k = k
conditions_signs (c ∷ cs) k = condition_signs c (conditions_signs cs k)

-- l r (= s t) .. and the closing bracket
abbrev pub rule_signs : RuleTree → List Sign → List Sign
rule_signs r k = term_signs r.left (term_signs r.right (conditions_signs (conditions_of r) (closing ∷ k)))

-- brackets match, where so many are open before
abbrev pub AreMatched : ℕ → List Sign → Type 0
AreMatched n [] = n ≡ 0
AreMatched n (opening ∷ ws) = AreMatched (suc n) ws
AreMatched zero (closing ∷ ws) = ⊥
AreMatched (suc n) (closing ∷ ws) = AreMatched n ws
AreMatched n (name f ∷ ws) = AreMatched n ws
AreMatched n (odd ∷ ws) = AreMatched n ws

-- (meta-info ..) for each of these insides
abbrev pub metas_signs : List (List Sign) → List Sign → List Sign
metas_signs [] k = k
metas_signs (m ∷ ms) k = opening ∷ name (codes "meta-info") ∷ (m ++ closing ∷ metas_signs ms k)

abbrev pub AreAllMatched : List (List Sign) → Type 0
AreAllMatched [] = Unit {0}
AreAllMatched (m ∷ ms) = AreMatched 0 m × AreAllMatched ms

-- parts that tell of the problem, and then these words
pub record IsBehindMetas (ws k : List Sign) : Type 0 where
  pub metas : List (List Sign)
  pub matched : AreAllMatched metas
  pub words : ws ≡ metas_signs metas k

-- the format behind its key word, and the closing bracket
abbrev pub format_signs : Format → List Sign → List Sign
format_signs Plain k = name (codes "TRS") ∷ closing ∷ k
format_signs Oriented k = name (codes "CTRS") ∷ name (codes "oriented") ∷ closing ∷ k
format_signs Join k = name (codes "CTRS") ∷ name (codes "join") ∷ closing ∷ k

-- f n and the closing bracket
abbrev pub function_signs : List ℕ × ℕ → List Sign → List Sign
function_signs f k = name f.0 ∷ name (decimal f.1) ∷ closing ∷ k

-- (rule ..) for each rule, up to the end
abbrev pub AreRulesIn : List Sign → List RuleTree → Type 0
AreRulesIn ws [] = IsBehindMetas ws []
AreRulesIn ws (r ∷ rs) = (k : List Sign) × IsBehindMetas ws (opening ∷ name (codes "rule") ∷ rule_signs r k) × AreRulesIn k rs

-- (fun ..) for each function, and then the rules
abbrev pub ArePartsIn : List Sign → List (List ℕ × ℕ) → List RuleTree → Type 0
ArePartsIn ws [] rs = AreRulesIn ws rs
ArePartsIn ws (f ∷ fs) rs = (k : List Sign) × IsBehindMetas ws (opening ∷ name (codes "fun") ∷ function_signs f k) × ArePartsIn k fs rs

-- (format ..), and then these
abbrev pub IsProblem : List Sign → Format → List (List ℕ × ℕ) → List RuleTree → Type 0
IsProblem ws format fs rs = (k : List Sign) × IsBehindMetas ws (opening ∷ name (codes "format") ∷ format_signs format k) × ArePartsIn k fs rs

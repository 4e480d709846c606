-- What a tree means keeps the limits.
use Rattle.std.proofs.Common.{inl, inr, ℕ, ◌≤◌, Bool, List, [], ◌∷◌, ◌++◌, map, length, sym, subst, arith, All}
use Rattle.std.proofs.lemmas.List.Elements.{All-nil, All-cons, All-head, All-tail}
use Rattle.std.proofs.lemmas.List.{length-map}
use Rattle.file_text.specs.Syntax.{FileTree, has_type}
use Rattle.rewriting.specs.Rules.{Rule, System}
use Rattle.cops_names.specs.NameTable.{NameTable}
use Rattle.join_systems.specs.Joined.{joined_condition, joined_rule, last_rule}
use Rattle.join_systems.proofs.Unique.{unique, all_own}
use Rattle.cops_read.specs.Limits.{IsAllowed, IsWithinLimits, KeepsLimits}
use Rattle.cops_read.specs.File.{IsSystemOf, IsJoinedFile, IsMeant}
use Rattle.cops_read.proofs.Within.{is_within_limits}
use Rattle.cops_read.proofs.Meant.{file_is_joined}

few_plain : (typed : Bool) (rs : List Rule) → All (IsAllowed typed) rs → All (λ r. length r.conditions ≤ 20) rs
few_plain typed [] h = All-nil (λ (r : Rule). length r.conditions ≤ 20)
few_plain typed (r ∷ rs) h =
    All-cons (λ r. length r.conditions ≤ 20) r rs (All-head (IsAllowed typed) r rs h).few_conditions (few_plain typed rs (All-tail (IsAllowed typed) r rs h))

few_joined : (typed : Bool) (f : ℕ) (rs : List Rule) → All (IsAllowed typed) rs → All (λ r. length r.conditions ≤ 20) (map (joined_rule f) rs ++ last_rule f ∷ [])
few_joined typed f [] h = All-cons (λ r. length r.conditions ≤ 20) (last_rule f) [] (omega arith) (All-nil (λ (r : Rule). length r.conditions ≤ 20))
few_joined typed f (r ∷ rs) h =
    let few = (All-head (IsAllowed typed) r rs h).few_conditions in
    let same = length-map r.conditions (joined_condition f) in
    All-cons (λ r. length r.conditions ≤ 20) (joined_rule f r) (map (joined_rule f) rs ++ last_rule f ∷ []) (omega (arith, few, same)) (few_joined typed f rs (All-tail (IsAllowed typed) r rs h))

kept_plain : (file : FileTree) (sys : System) (names : NameTable) → IsSystemOf file sys names → KeepsLimits (has_type file) sys names
kept_plain file sys names h =
    let limits = is_within_limits file sys names h in
    record {
      own = λ _. limits;
      joined = λ j is. absurd (all_own sys h.own j is);
      few_conditions = few_plain (has_type file) sys.rules limits.rules;
    }

kept_joined : (file : FileTree) (sys : System) (names : NameTable) → IsJoinedFile file sys names → KeepsLimits (has_type file) sys names
kept_joined file sys names h =
    let limits = is_within_limits file h.rules h.table h.listed in
    let mine = file_is_joined file sys names h in
    record {
      own = λ e. absurd (all_own sys e h.rules mine);
      joined = λ j is. (h.table, h.number, h.named, subst (λ s. IsWithinLimits (has_type file) s h.table) (unique h.rules j sys mine is) limits);
      few_conditions = subst (λ (s : System). All (λ r. length r.conditions ≤ 20) s.rules) (sym h.system) (few_joined (has_type file) (length h.rules.arities) h.rules.rules limits.rules);
    }

pub kept : (file : FileTree) (sys : System) (names : NameTable) → IsMeant file sys names → KeepsLimits (has_type file) sys names
kept file sys names (inl (a, h)) = kept_plain file sys names h
kept file sys names (inr (a, h)) = kept_joined file sys names h

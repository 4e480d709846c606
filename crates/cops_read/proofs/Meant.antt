-- What a tree means is one system, is a system, and tells what its file's symbols are.
use Rattle.std.proofs.Common.{◌≡◌, inl, inr, ℕ, suc, ◌*◌, ◌^◌, ◌<◌, ◌≤◌, max, Bool, true, false, ◌||◌, ◌&&◌, Result, Ok, Err, Option, Some, option_map, is_some, List, []}
use Rattle.std.proofs.Common.{◌∷◌, map, length, length-append, None, refl, sym, ap, ap₂, ◌∙◌, subst, arith, All}
use Rattle.std.proofs.lemmas.List.Elements.{All-head, All-tail}
use Rattle.std.proofs.Math.Nat.{max-le}
use Rattle.std.proofs.lemmas.List.{length-map}
use Rattle.file_text.specs.Syntax.{Guard, RuleTree, FileTree, has_type}
use Rattle.rewriting.specs.Prelude.{Fits, depth, Condition, Rule, System, sides, Each, IsSystem}
use Rattle.rewriting.proofs.Laws.{well_formed}
use Rattle.cops_names.specs.NameTable.{NameTable}
use Rattle.join_systems.specs.Joined.{join_of, joined, IsJoined, DoJoinsFit, DoAllJoinsFit}
use Rattle.join_systems.specs.FileRelation.{IsFromFile}
use Rattle.join_systems.proofs.Sound.{joined_is_system}
use Rattle.join_systems.proofs.Unique.{all_own}
use Rattle.join_names.specs.Fresh.{all_of, all_names, IsFresh, with_join_names}
use Rattle.join_names.proofs.Fresh.{fresh_numbers}
use Rattle.cops_read.specs.Meaning.{variables_of, rule_variables, AreRulesOf}
use Rattle.cops_syntax.specs.View.{AreRules, IsFileText}
use Rattle.cops_syntax.specs.declared.tree.RuleText.{RuleText}
use Rattle.cops_read.specs.RuleSteps.{have_bars, JoinedAnswers, FileAnswers}
use Rattle.cops_read.specs.Steps.{Tells}
use Rattle.cops_read.specs.declared.errors.ReadError.{ReadError}
use Rattle.cops_syntax.specs.declared.tree.FileText.{FileText}
use Rattle.cops_read.specs.Limits.{IsSmall, IsAllowed}
use Rattle.cops_read.specs.Refusals.{refusal_of}
use Rattle.cops_read.specs.File.{IsSystemOf, is_join, have_conditions, asks_joins, IsJoinedFile, IsMeant}
use Rattle.cops_read.proofs.Within.{is_within_limits}
use Rattle.cops_read.proofs.Sound.{system_is, few_listed, listed_rules}
use Rattle.cops_read.proofs.Means.{meaning}
use Rattle.cops_read.proofs.Unique.{one_table, one_system}

-- one system, with one table of names
joined_once : (file : FileTree) (sys other : System) (names others : NameTable) → IsJoinedFile file sys names → IsJoinedFile file other others → (sys ≡ other) × (names ≡ others)
joined_once file sys other names others h g =
    let system : h.rules ≡ g.rules = one_system file h.rules g.rules h.table g.table h.listed g.listed in
    let table : h.table ≡ g.table = one_table file h.rules g.rules h.table g.table h.listed g.listed in
    let number : h.number ≡ g.number = fresh_numbers.one (all_names g.table) h.number g.number (subst (λ t. IsFresh (all_names t) h.number) table h.fresh) g.fresh in
    (h.system ∙ ap joined system ∙ sym g.system, h.named ∙ ap₂ with_join_names table number ∙ sym g.named)

pub one_meaning : (file : FileTree) (sys other : System) (names others : NameTable) → IsMeant file sys names → IsMeant file other others → (sys ≡ other) × (names ≡ others)
one_meaning file sys other names others (inl (a, h)) (inl (b, g)) = (one_system file sys other names others h g, one_table file sys other names others h g)
one_meaning file sys other names others (inl (a, h)) (inr (b, g)) = absurd (let bad : false ≡ true = sym a ∙ b in cc)
one_meaning file sys other names others (inr (a, h)) (inl (b, g)) = absurd (let bad : true ≡ false = sym a ∙ b in cc)
one_meaning file sys other names others (inr (a, h)) (inr (b, g)) = joined_once file sys other names others h g

-- nothing in the tree is refused
pub meant_accepted : (file : FileTree) (sys : System) (names : NameTable) → IsMeant file sys names → refusal_of file ≡ None
meant_accepted file sys names (inl (a, h)) = h.accepted
meant_accepted file sys names (inr (a, h)) = h.listed.accepted

-- the limits leave room for `join`
small_join : (c : Condition) → IsSmall c.left → IsSmall c.right → (f : ℕ) → Fits (join_of f c.left c.right)
small_join c l r f =
    let a = l.nodes in
    let b = r.nodes in
    let deep : max (depth c.left) (max (depth c.right) 0) ≤ 200 = max-le l.levels (max-le r.levels (omega arith)) in
    record { nodes = omega (arith, a, b); levels = omega (arith, deep) }

conditions_fit : (cs : List Condition) → Each IsSmall (sides cs) → DoJoinsFit cs
conditions_fit [] h = tt
conditions_fit (c ∷ cs) h = (small_join c h.0 h.1.0, conditions_fit cs h.1.1)

all_fit : (typed : Bool) (rs : List Rule) → All (IsAllowed typed) rs → DoAllJoinsFit rs
all_fit typed [] h = tt
all_fit typed (r ∷ rs) h = (conditions_fit r.conditions (All-head (IsAllowed typed) r rs h).terms.1.1, all_fit typed rs (All-tail (IsAllowed typed) r rs h))

pub listed_fit : (file : FileTree) (sys : System) (names : NameTable) → IsSystemOf file sys names → DoAllJoinsFit sys.rules
listed_fit file sys names h = all_fit (has_type file) sys.rules (is_within_limits file sys names h).rules

pub joined_listed : (file : FileTree) (sys : System) (names : NameTable) → IsSystemOf file sys names → IsSystem (joined sys)
joined_listed file sys names h =
    joined_is_system sys (system_is file sys names h).rules (listed_fit file sys names h) (few_listed file sys names h) (listed_rules file sys names h)

-- what a tree means is a system
pub meant_is_system : (file : FileTree) (sys : System) (names : NameTable) → IsMeant file sys names → IsSystem sys
meant_is_system file sys names (inl (a, h)) = system_is file sys names h
meant_is_system file sys names (inr (a, h)) = subst IsSystem (sym h.system) (joined_listed file h.rules h.table h.listed)

pub file_is_joined : (file : FileTree) (sys : System) (names : NameTable) → (h : IsJoinedFile file sys names) → IsJoined h.rules sys
file_is_joined file sys names h = record { well_formed = well_formed h.rules (system_is file h.rules h.table h.listed); all_own = h.listed.own; is = h.system }

-- of join rules, or all its symbols are the file's
pub meant_from_file : (file : FileTree) (sys : System) (names : NameTable) → IsMeant file sys names → IsFromFile sys
meant_from_file file sys names (inl (a, h)) = inr h.own
meant_from_file file sys names (inr (a, h)) = inl (h.rules, file_is_joined file sys names h)

-- where all symbols are the file's, the rules are those of the tree
pub own_meant : (file : FileTree) (sys : System) (names : NameTable) → IsMeant file sys names → sys.own ≡ length sys.arities → IsSystemOf file sys names
own_meant file sys names (inl (a, h)) own = h
own_meant file sys names (inr (a, h)) own = absurd (all_own sys own h.rules (file_is_joined file sys names h))

-- how many names there are
few_of : (lists : List (List (List ℕ))) → All (λ list. length list ≤ 100) lists → length (all_of lists) ≤ 100 * length lists
few_of [] h = omega arith
few_of (ns ∷ rest) h =
    let here = All-head (λ list. length list ≤ 100) ns rest h in
    let more = few_of rest (All-tail (λ list. length list ≤ 100) ns rest h) in
    let all = length-append ns (all_of rest) in
    omega (arith, here, more, all)

as_long : (file : FileTree) (table : List (List ℕ × ℕ)) (ts : List RuleTree) (rs : List Rule) → AreRulesOf (variables_of file) table ts rs → length ts ≡ length rs
as_long file table [] [] h = refl
as_long file table [] (r ∷ rs) h = absurd h
as_long file table (t ∷ ts) [] h = absurd h
as_long file table (t ∷ ts) (r ∷ rs) h = ap suc (as_long file table ts rs h.1)

pub trees_long : (file : FileTree) (sys : System) (names : NameTable) → IsSystemOf file sys names → length names.variables ≤ 1000
trees_long file sys names h =
    let same = as_long file names.symbols file.rules sys.rules h.rules in
    let limits = is_within_limits file sys names h in
    let few = limits.few_rules in
    let lists = ap length h.variables in
    let count = length-map file.rules (rule_variables (variables_of file)) in
    omega (arith, same, few, lists, count)

pub few_names : (file : FileTree) (sys : System) (names : NameTable) → IsSystemOf file sys names → length (all_names names) < 2 ^ 31
few_names file sys names h =
    let limits = is_within_limits file sys names h in
    let symbols = limits.few_symbols in
    let lists = trees_long file sys names h in
    let of_rules = few_of names.variables limits.few_variables in
    let all = length-append (map (λ (s : List ℕ × ℕ). s.0) names.symbols) (all_of names.variables) in
    let same = length-map names.symbols (λ (s : List ℕ × ℕ). s.0) in
    omega (arith, symbols, lists, of_rules, all, same)

pub listed_symbols : (file : FileTree) (sys : System) (names : NameTable) → IsSystemOf file sys names → length names.symbols ≤ 1000
listed_symbols file sys names h = (is_within_limits file sys names h).few_symbols

-- bars are where there are conditions
bar_or_none : {A : Type 0} {B : Type 0} (f : A → B) (o : Option A) → is_some (option_map f o) ≡ is_some o
bar_or_none f None = refl
bar_or_none f (Some x) = refl

pub bars_are : (rs : List RuleText) (ts : List RuleTree) → AreRules rs ts → have_bars rs ≡ have_conditions ts
bars_are [] [] h = refl
bars_are [] (t ∷ ts) h = absurd h
bars_are (r ∷ rs) [] h = absurd h
bars_are (r ∷ rs) (t ∷ ts) h = ap₂ (λ (a b : Bool). a || b) (ap (λ (o : Option ℕ). is_some o) h.0.bar ∙ bar_or_none (λ (g : Guard). g.at) t.guard) (bars_are rs ts h.1)

pub asks_of : (f : FileText) (t : FileTree) → IsFileText f t → (is_join f.condition_type && have_bars f.rules.items) ≡ asks_joins t
asks_of f t h = ap₂ (λ (a b : Bool). a && b) (ap is_join h.condition_type) (bars_are f.rules.items t.rules h.rules)

-- what is answered of a tree that asks for common reducts
pub meant_joined : (file : FileTree) (r : Result (System × NameTable) ReadError) → asks_joins file ≡ true → JoinedAnswers file r → FileAnswers file r
meant_joined file (Ok found) asks h = inr (asks, h)
meant_joined file (Err e) asks h = subst (λ z. Tells z (refusal_of file)) (sym h) tt

-- a tree in which nothing is refused means a system
pub record HasMeaning (file : FileTree) : Type 0 where
  pub system : System
  pub names : NameTable
  pub is : IsMeant file system names

pub some_meaning : (file : FileTree) → refusal_of file ≡ None → HasMeaning file
some_meaning file e = go (asks_joins file) refl
  where
    go : (b : Bool) → asks_joins file ≡ b → HasMeaning file
    go false is = let m = meaning file e in record { system = m.system; names = m.names; is = inl (is, m.is) }
    go true is =
        let m = meaning file e in
        let k = fresh_numbers.some (all_names m.names) (let few = few_names file m.system m.names m.is in omega (arith, few)) in
        record {
          system = joined m.system;
          names = with_join_names m.names k.0;
          is = inr (is, record { rules = m.system; table = m.names; number = k.0; listed = m.is; fresh = k.2; system = refl; named = refl });
        }

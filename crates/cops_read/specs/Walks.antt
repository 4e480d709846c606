-- What the parts of a reader of terms and conditions answer, whatever it refuses: the first refusal in what they read, or what it adds to the tables and means.
use Rattle.std.specs.Prelude.{◌≡◌, ℕ, suc, ◌+◌, true, false, List, [], ◌∷◌, map, Option, Some, None, option_map, slice_get, Result, Ok, Err}
use Rattle.std.specs.Global.{Vec}
use Rattle.std.specs.Option.{option_or}
use Rattle.file_text.specs.Syntax.{Phrase, Phrases, word, call, none, more, count, Node, ConditionTree}
use Rattle.rewriting.specs.Terms as math
use Rattle.rewriting.specs.Rules as rules
use Rattle.term_core.specs.Prelude.{view, views, condition_view}
use Rattle.term_core.specs.declared.terms.Term.{Term}
use Rattle.term_core.specs.declared.systems.Cond.{Cond}
use Rattle.cops_names.specs.NameTable.{number_of}
use Rattle.cops_names.specs.NameLists.{is_among, name_index, with_name}
use Rattle.cops_read.specs.Meaning.{with_symbol, with_symbols, with_all_symbols, with_variables, with_all_variables, sides, IsTermOf, AreTermsOf, AreConditionsOf}
use Rattle.cops_read.specs.Uses.{Side, side_of, Use}
use Rattle.cops_read.specs.Refusals.{first_or}
use Rattle.cops_read.specs.declared.heads.VariableOrSymbol.{VariableOrSymbol}
use Rattle.cops_read.specs.declared.heads.VariableOrSymbol.TheVariants.{Variable, Symbol}

-- the number of identifiers
abbrev mutual
  pub nodes : Phrase → ℕ
  nodes (word f) = 1
  nodes (call f ts) = suc (all_nodes ts)

  pub all_nodes : Phrases → ℕ
  all_nodes none = 0
  all_nodes (more t ts) = nodes t + all_nodes ts

-- an identifier of a term, behind so many others of the term
abbrev pub use_at : Side → ℕ → ℕ → ℕ → Node → Use
use_at side depth argument before node = record { side = side; spot = record { node = node; depth = depth; argument = argument }; number = suc before }

-- Of the identifiers, those of the block are variables. A cause, and so a refusal, comes with the symbols and the rule's variables so far.
module _ {C : Type 0} (cause : List (List ℕ × ℕ) → List (List ℕ) → Use → Option C) (block : List (List ℕ)) where
  -- in a term of which so many identifiers stand before
  abbrev mutual
    pub term_refusal : List (List ℕ × ℕ) → List (List ℕ) → Side → ℕ → ℕ → ℕ → Phrase → Option (C × ℕ)
    term_refusal table names side depth argument before (word f) =
        first_or (cause table names (use_at side depth argument before record { name = f; brackets = false; arguments = 0 })) f.at None
    term_refusal table names side depth argument before (call f ts) =
        first_or (cause table names (use_at side depth argument before record { name = f; brackets = true; arguments = count ts })) f.at
        (terms_refusal (with_symbol table f.text (count ts)) names side (depth + 1) 1 (before + 1) ts)

    pub terms_refusal : List (List ℕ × ℕ) → List (List ℕ) → Side → ℕ → ℕ → ℕ → Phrases → Option (C × ℕ)
    terms_refusal table names side depth argument before none = None
    terms_refusal table names side depth argument before (more t ts) =
        option_or (term_refusal table names side depth argument before t)
        (terms_refusal (with_symbols block table t) (with_variables block names t) side depth (argument + 1) (before + nodes t) ts)

  -- in a side of a rule or of a condition
  abbrev pub side_refusal : List (List ℕ × ℕ) → List (List ℕ) → Side → Phrase → Option (C × ℕ)
  side_refusal table names side p = term_refusal table names side 1 0 0 p

  -- in the condition with a number
  abbrev pub condition_refusal : List (List ℕ × ℕ) → List (List ℕ) → ℕ → ℕ → ConditionTree → Option (C × ℕ)
  condition_refusal table names rule number c =
      option_or (side_refusal table names (side_of rule number false) c.left)
      (side_refusal (with_symbols block table c.left) (with_variables block names c.left) (side_of rule number false) c.right)

  -- in conditions from a number on
  abbrev pub conditions_refusal : List (List ℕ × ℕ) → List (List ℕ) → ℕ → ℕ → List ConditionTree → Option (C × ℕ)
  conditions_refusal table names rule number [] = None
  conditions_refusal table names rule number (c ∷ cs) =
      option_or (condition_refusal table names rule number c)
      (conditions_refusal (with_symbols block (with_symbols block table c.left) c.right) (with_variables block (with_variables block names c.left) c.right) rule (number + 1) cs)

  -- an identifier that is not refused is a variable, with its number
  pub record IsVariable (table : List (List ℕ × ℕ)) (names : List (List ℕ)) (u : Use) (after : List (List ℕ × ℕ)) (later : List (List ℕ)) (x : ℕ) : Type 0 where
    pub accepted : cause table names u ≡ None
    pub known : is_among block u.spot.node.name.text ≡ true
    pub bare : u.spot.node.brackets ≡ false
    pub symbols : after ≡ table
    pub variables : later ≡ with_name names u.spot.node.name.text
    pub number : name_index later u.spot.node.name.text ≡ Some x

  -- or a symbol, with its number and its arity
  pub record IsSymbol (table : List (List ℕ × ℕ)) (names : List (List ℕ)) (u : Use) (after : List (List ℕ × ℕ)) (later : List (List ℕ)) (f : ℕ) : Type 0 where
    pub accepted : cause table names u ≡ None
    pub known : is_among block u.spot.node.name.text ≡ false
    pub symbols : after ≡ with_symbol table u.spot.node.name.text u.spot.node.arguments
    pub variables : later ≡ names
    pub number : number_of after u.spot.node.name.text ≡ Some f
    pub arity : option_map (λ s. s.1) (slice_get after f) ≡ Some u.spot.node.arguments

  -- a phrase was read: what it adds to the symbols and the variables, what it means, and the identifiers up to its end
  pub record IsRead (table : List (List ℕ × ℕ)) (names : List (List ℕ)) (side : Side) (depth argument before : ℕ) (p : Phrase) (after : List (List ℕ × ℕ))
      (later : List (List ℕ)) (t : math.Term) (next : ℕ) : Type 0 where
    pub accepted : term_refusal table names side depth argument before p ≡ None
    pub symbols : after ≡ with_symbols block table p
    pub variables : later ≡ with_variables block names p
    pub means : IsTermOf block after later p t
    pub end : next ≡ before + nodes p

  -- the same of a list of phrases
  pub record AreRead (table : List (List ℕ × ℕ)) (names : List (List ℕ)) (side : Side) (depth argument before : ℕ) (ps : Phrases) (after : List (List ℕ × ℕ))
      (later : List (List ℕ)) (ts : math.Terms) (next : ℕ) : Type 0 where
    pub accepted : terms_refusal table names side depth argument before ps ≡ None
    pub symbols : after ≡ with_all_symbols block table ps
    pub variables : later ≡ with_all_variables block names ps
    pub mean : AreTermsOf block after later ps ts
    pub end : next ≡ before + all_nodes ps

  -- of a side of a rule or a condition
  pub record IsSideRead (table : List (List ℕ × ℕ)) (names : List (List ℕ)) (side : Side) (p : Phrase) (after : List (List ℕ × ℕ)) (later : List (List ℕ)) (t : math.Term) : Type 0 where
    pub accepted : side_refusal table names side p ≡ None
    pub symbols : after ≡ with_symbols block table p
    pub variables : later ≡ with_variables block names p
    pub means : IsTermOf block after later p t

  -- of a condition
  pub record IsConditionRead (table : List (List ℕ × ℕ)) (names : List (List ℕ)) (rule number : ℕ) (c : ConditionTree) (after : List (List ℕ × ℕ)) (later : List (List ℕ))
      (d : rules.Condition) : Type 0 where
    pub accepted : condition_refusal table names rule number c ≡ None
    pub symbols : after ≡ with_symbols block (with_symbols block table c.left) c.right
    pub variables : later ≡ with_variables block (with_variables block names c.left) c.right
    pub left : IsTermOf block after later c.left d.left
    pub right : IsTermOf block after later c.right d.right

  -- and of conditions, from the first on
  pub record AreConditionsRead (table : List (List ℕ × ℕ)) (names : List (List ℕ)) (rule : ℕ) (cs : List ConditionTree) (after : List (List ℕ × ℕ)) (later : List (List ℕ))
      (ds : List rules.Condition) : Type 0 where
    pub accepted : conditions_refusal table names rule 1 cs ≡ None
    pub symbols : after ≡ with_all_symbols block table (sides cs)
    pub variables : later ≡ with_all_variables block names (sides cs)
    pub mean : AreConditionsOf block after later cs ds

  -- What an error tells is a refusal, or none.
  module _ {E : Type 0} (Tells : E → Option (C × ℕ) → Type 0) where
    abbrev pub HeadAnswers : List (List ℕ × ℕ) → List (List ℕ) → Use → List (List ℕ × ℕ) → List (List ℕ) → Result VariableOrSymbol E → Type 0
    HeadAnswers table names u after later (Ok (Variable x)) = IsVariable table names u after later x
    HeadAnswers table names u after later (Ok (Symbol f)) = IsSymbol table names u after later f
    HeadAnswers table names u after later (Err e) = Tells e (first_or (cause table names u) u.spot.node.name.at None)

    abbrev pub TermAnswers : List (List ℕ × ℕ) → List (List ℕ) → Side → ℕ → ℕ → ℕ → Phrase → List (List ℕ × ℕ) → List (List ℕ) → Result (Term × ℕ) E → Type 0
    TermAnswers table names side depth argument before p after later (Ok r) = IsRead table names side depth argument before p after later (view r.0) r.1
    TermAnswers table names side depth argument before p after later (Err e) = Tells e (term_refusal table names side depth argument before p)

    abbrev pub ArgumentsAnswers : List (List ℕ × ℕ) → List (List ℕ) → Side → ℕ → ℕ → Phrases → List (List ℕ × ℕ) → List (List ℕ) → Result (Vec Term × ℕ) E → Type 0
    ArgumentsAnswers table names side depth before ps after later (Ok r) = AreRead table names side depth 1 before ps after later (views r.0.items) r.1
    ArgumentsAnswers table names side depth before ps after later (Err e) = Tells e (terms_refusal table names side depth 1 before ps)

    abbrev pub SideAnswers : List (List ℕ × ℕ) → List (List ℕ) → Side → Phrase → List (List ℕ × ℕ) → List (List ℕ) → Result Term E → Type 0
    SideAnswers table names side p after later (Ok t) = IsSideRead table names side p after later (view t)
    SideAnswers table names side p after later (Err e) = Tells e (side_refusal table names side p)

    abbrev pub ConditionAnswers : List (List ℕ × ℕ) → List (List ℕ) → ℕ → ℕ → ConditionTree → List (List ℕ × ℕ) → List (List ℕ) → Result Cond E → Type 0
    ConditionAnswers table names rule number c after later (Ok d) = IsConditionRead table names rule number c after later (condition_view d)
    ConditionAnswers table names rule number c after later (Err e) = Tells e (condition_refusal table names rule number c)

    abbrev pub ConditionsAnswers : List (List ℕ × ℕ) → List (List ℕ) → ℕ → List ConditionTree → List (List ℕ × ℕ) → List (List ℕ) → Result (Vec Cond) E → Type 0
    ConditionsAnswers table names rule cs after later (Ok v) = AreConditionsRead table names rule cs after later (map condition_view v.items)
    ConditionsAnswers table names rule cs after later (Err e) = Tells e (conditions_refusal table names rule 1 cs)

-- what is told goes on where the refusal stays
pub record GoesOn {C E : Type 0} (T : E → Option (C × ℕ) → Type 0) : Type 0 where
  pub stays : (o others : Option (C × ℕ)) → ((r : C × ℕ) → o ≡ Some r → others ≡ Some r) → (e : E) → T e o → T e others

-- Reading a term, whatever is refused: from an identifier and its arguments to the whole.
use Rattle.std.proofs.Common.{◌≡◌, ℕ, suc, ◌+◌, ◌≤◌, List, [], ◌∷◌, ◌++◌, drop, map, Option, None, Vec, Global, refl, sym, ap, ap₂, subst, ◌∙◌, arith, append_assoc}
use Rattle.std.specs.Option.{option_or}
use Rattle.file_text.specs.Syntax.{Phrase, Phrases, word, call, none, more, with_last, count, Node, flat, flat_all}
use Rattle.rewriting.specs.Terms as math
use Rattle.rewriting.specs.Terms.{var, app, nil, cons}
use Rattle.term_core.specs.View.{view, views}
use Rattle.term_core.specs.declared.terms.Term.{Term, Var, Fun}
use Rattle.term_core.proofs.Views.{view-Var, view-Fun}
use Rattle.cops_read.specs.Meaning.{with_symbol, with_symbols, with_all_symbols, with_variables, with_all_variables, IsTermOf, AreTermsOf}
use Rattle.cops_read.specs.Uses.{Side, Use}
use Rattle.cops_read.specs.Refusals.{first_or}
use Rattle.cops_read.specs.Walks.{nodes, all_nodes, use_at, term_refusal, terms_refusal, IsVariable, IsSymbol, IsRead, AreRead, GoesOn}
use Rattle.cops_names.proofs.Lists.{Extends}
use Rattle.cops_read.proofs.Growth.{symbols_extend, all_symbols_extend, variables_extend, symbol_grows, terms_grow}
use Rattle.cops_read.proofs.Tells.{tells_at, tells_behind, tells_here}
use Rattle.cops_read.proofs.Phrases.{head_of, arguments_of, flat_length, drop_phrases, take_phrases, IsNext, dropped_all, taken_all, behind}

pub terms_end : (block : List (List ℕ)) (table : List (List ℕ × ℕ)) (names : List (List ℕ)) (ps : Phrases) (ts : List Term) (p : Phrase) (t : Term) → AreTermsOf block table names ps (views ts)
    → IsTermOf block table names p (view t) → AreTermsOf block table names (with_last ps p) (views (ts ++ t ∷ []))
terms_end block table names none [] p t h g = (g, tt)
terms_end block table names none (u ∷ us) p t h g = absurd h
terms_end block table names (more q qs) [] p t h g = absurd h
terms_end block table names (more q qs) (u ∷ us) p t h g = (h.0, terms_end block table names qs us p t h.1 g)

module _ {C : Type 0} (cause : List (List ℕ × ℕ) → List (List ℕ) → Use → Option C) (block : List (List ℕ)) where
  module _ (table : List (List ℕ × ℕ)) (names : List (List ℕ)) (side : Side) (depth argument before : ℕ) where
    refusal_is : (p : Phrase) → term_refusal cause block table names side depth argument before p
        ≡ first_or (cause table names (use_at side depth argument before (head_of p))) (head_of p).name.at
        (terms_refusal cause block (with_symbol table (head_of p).name.text (head_of p).arguments) names side (depth + 1) 1 (before + 1) (arguments_of p))
    refusal_is (word f) = refl
    refusal_is (call f ts) = refl

    module _ {E : Type 0} {T : E → Option (C × ℕ) → Type 0} (goes_on : GoesOn T) where
      -- the identifier is refused
      pub head_fails : (p : Phrase) (n : Node) (e : E) → n ≡ head_of p → T e (first_or (cause table names (use_at side depth argument before n)) n.name.at None)
          → T e (term_refusal cause block table names side depth argument before p)
      head_fails p n e same t =
          let t' = subst (λ (m : Node). T e (first_or (cause table names (use_at side depth argument before m)) m.name.at None)) same t in
          subst (T e) (sym (refusal_is p)) (tells_at goes_on (cause table names (use_at side depth argument before (head_of p))) (head_of p).name.at
          (terms_refusal cause block (with_symbol table (head_of p).name.text (head_of p).arguments) names side (depth + 1) 1 (before + 1) (arguments_of p)) e t')

      -- the identifier is a symbol, and an argument is refused
      pub arguments_fail : (p : Phrase) (n : Node) (middle : List (List ℕ × ℕ)) (between : List (List ℕ)) (f : ℕ) (e : E) → n ≡ head_of p
          → IsSymbol cause block table names (use_at side depth argument before n) middle between f
          → T e (terms_refusal cause block middle between side (depth + 1) 1 (before + 1) (arguments_of p)) → T e (term_refusal cause block table names side depth argument before p)
      arguments_fail p n middle between f e same h t =
          let h' = subst (λ (m : Node). IsSymbol cause block table names (use_at side depth argument before m) middle between f) same h in
          let t1 = subst (λ (x : List (List ℕ)). T e (terms_refusal cause block middle x side (depth + 1) 1 (before + 1) (arguments_of p))) h'.variables t in
          let t2 = subst (λ (x : List (List ℕ × ℕ)). T e (terms_refusal cause block x names side (depth + 1) 1 (before + 1) (arguments_of p))) h'.symbols t1 in
          subst (T e) (sym (refusal_is p))
          (tells_behind goes_on (cause table names (use_at side depth argument before (head_of p))) (head_of p).name.at _ e h'.accepted t2)

    -- the identifier is a variable
    variable_read : (p : Phrase) (after : List (List ℕ × ℕ)) (later : List (List ℕ)) (x : ℕ) → IsVariable cause block table names (use_at side depth argument before (head_of p)) after later x
        → IsRead cause block table names side depth argument before p after later (var x) (before + 1)
    variable_read (word f) after later x h = record {
      accepted = ap (λ (c : Option C). first_or c f.at None) h.accepted;
      symbols = h.symbols ∙ (let b = h.known in rw b refl);
      variables = h.variables ∙ (let b = h.known in rw b refl);
      means = (h.known, h.number);
      end = refl;
    }
    variable_read (call f ts) after later x h = absurd (let b = h.bare in cc)

    pub whole_variable : (p : Phrase) (n : Node) (after : List (List ℕ × ℕ)) (later : List (List ℕ)) (x : ℕ) → n ≡ head_of p
        → IsVariable cause block table names (use_at side depth argument before n) after later x
        → IsRead cause block table names side depth argument before p after later (view (Var x)) (before + 1)
    whole_variable p n after later x same h =
        subst (λ (t : math.Term). IsRead cause block table names side depth argument before p after later t (before + 1)) (sym (view-Var x))
        (variable_read p after later x (subst (λ (m : Node). IsVariable cause block table names (use_at side depth argument before m) after later x) same h))

    -- the identifier is a symbol, and its arguments were read
    symbol_read : (p : Phrase) (middle after : List (List ℕ × ℕ)) (later : List (List ℕ)) (f : ℕ) (us : math.Terms) (next : ℕ)
        → IsSymbol cause block table names (use_at side depth argument before (head_of p)) middle names f
        → AreRead cause block middle names side (depth + 1) 1 (before + 1) (arguments_of p) after later us next
        → IsRead cause block table names side depth argument before p after later (app f us) next
    symbol_read (word g) middle after later f (cons u us) next h r = absurd r.mean
    symbol_read (word g) middle after later f nil next h r =
        let b = h.known in
        let whole = r.symbols ∙ h.symbols in
        record {
          accepted = ap (λ (c : Option C). first_or c g.at None) h.accepted;
          symbols = whole ∙ (rw b refl);
          variables = r.variables ∙ (rw b refl);
          means = (
            symbol_grows block middle after g.text 0 f (subst (λ (x : List (List ℕ × ℕ)). Extends middle x) (sym r.symbols) (all_symbols_extend block middle none))
                (h.known, h.number, h.arity),
            refl,
          );
          end = let e = r.end in omega arith;
        }
    symbol_read (call g ts) middle after later f us next h r =
        let refused = subst (λ (x : List (List ℕ × ℕ)). terms_refusal cause block x names side (depth + 1) 1 (before + 1) ts ≡ None) h.symbols r.accepted in
        record {
          accepted = ap (λ (c : Option C). first_or c g.at (terms_refusal cause block (with_symbol table g.text (count ts)) names side (depth + 1) 1 (before + 1) ts)) h.accepted ∙ refused;
          symbols = r.symbols ∙ ap (λ (x : List (List ℕ × ℕ)). with_all_symbols block x ts) h.symbols;
          variables = r.variables;
          means = (
            symbol_grows block middle after g.text (count ts) f (subst (λ (x : List (List ℕ × ℕ)). Extends middle x) (sym r.symbols) (all_symbols_extend block middle ts))
                (h.known, h.number, h.arity),
            r.mean,
          );
          end = let e = r.end in omega arith;
        }

    pub whole_symbol : (p : Phrase) (n : Node) (middle after : List (List ℕ × ℕ)) (between later : List (List ℕ)) (f : ℕ) (terms : Vec Term Global) (next : ℕ) → n ≡ head_of p
        → IsSymbol cause block table names (use_at side depth argument before n) middle between f
        → AreRead cause block middle between side (depth + 1) 1 (before + 1) (arguments_of p) after later (views terms.items) next
        → IsRead cause block table names side depth argument before p after later (view (Fun f terms)) next
    whole_symbol p n middle after between later f terms next same h r =
        let h' = subst (λ (m : Node). IsSymbol cause block table names (use_at side depth argument before m) middle between f) same h in
        let h'' = subst (λ (x : List (List ℕ)). IsSymbol cause block table names (use_at side depth argument before (head_of p)) middle x f) h'.variables h' in
        let r' = subst (λ (x : List (List ℕ)). AreRead cause block middle x side (depth + 1) 1 (before + 1) (arguments_of p) after later (views terms.items) next) h'.variables r in
        subst (λ (t : math.Term). IsRead cause block table names side depth argument before p after later t next) (sym (view-Fun f terms))
        (symbol_read p middle after later f (views terms.items) next h'' r')

  -- what a loop over phrases keeps
  pub record Loop (table : List (List ℕ × ℕ)) (names : List (List ℕ)) (side : Side) (depth start : ℕ) {N : Type 0} (node : N → Node) (ns : List N) (ps : Phrases) (rest : List Node) (i : ℕ)
      (now : List (List ℕ × ℕ)) (later : List (List ℕ)) (terms : List Term) (before : ℕ) : Type 0 where
    pub refusal : terms_refusal cause block now later side depth (i + 1) before (drop_phrases i ps) ≡ terms_refusal cause block table names side depth 1 start ps
    pub symbols : with_all_symbols block now (drop_phrases i ps) ≡ with_all_symbols block table ps
    pub variables : with_all_variables block later (drop_phrases i ps) ≡ with_all_variables block names ps
    pub mean : AreTermsOf block now later (take_phrases i ps) (views terms)
    pub end : before + all_nodes (drop_phrases i ps) ≡ start + all_nodes ps
    pub nodes_left : map node (drop before ns) ≡ flat_all (drop_phrases i ps) ++ rest

module _ {C : Type 0} {cause : List (List ℕ × ℕ) → List (List ℕ) → Use → Option C} {block : List (List ℕ)} {table : List (List ℕ × ℕ)} {names : List (List ℕ)} {side : Side} {depth start : ℕ}
    {N : Type 0} {node : N → Node} {ns : List N} {ps : Phrases} {rest : List Node} {i : ℕ} {now : List (List ℕ × ℕ)} {later : List (List ℕ)} {terms : List Term} {before : ℕ}
    (h : Loop cause block table names side depth start node ns ps rest i now later terms before) where
  -- where the next phrase stands
  pub nodes_here : (n : IsNext ps i) → map node (drop before ns) ≡ flat n.phrase ++ (flat_all (drop_phrases (suc i) ps) ++ rest)
  nodes_here n = h.nodes_left ∙ ap (λ (qs : Phrases). flat_all qs ++ rest) n.later ∙ append_assoc (flat n.phrase) (flat_all (drop_phrases (suc i) ps)) rest

  pub loop_fails : {E : Type 0} {T : E → Option (C × ℕ) → Type 0} (goes_on : GoesOn T) (n : IsNext ps i) (e : E)
      → T e (term_refusal cause block now later side depth (i + 1) before n.phrase) → T e (terms_refusal cause block table names side depth 1 start ps)
  loop_fails {T = T} goes_on n e t =
      let whole = ap (terms_refusal cause block now later side depth (i + 1) before) n.later in
      subst (T e) (sym whole ∙ h.refusal) (tells_here goes_on (term_refusal cause block now later side depth (i + 1) before n.phrase) _ e t)

  pub loop_step : (n : IsNext ps i) (after : List (List ℕ × ℕ)) (latest : List (List ℕ)) (t : Term) (next : ℕ)
      → IsRead cause block now later side depth (i + 1) before n.phrase after latest (view t) next
      → Loop cause block table names side depth start node ns ps rest (suc i) after latest (terms ++ t ∷ []) next
  loop_step n after latest t next r =
      let left = drop_phrases (suc i) ps in
      let grown : Extends now after = subst (λ (x : List (List ℕ × ℕ)). Extends now x) (sym r.symbols) (symbols_extend block now n.phrase) in
      let grown_names : Extends later latest = subst (λ (x : List (List ℕ)). Extends later x) (sym r.variables) (variables_extend block later n.phrase) in
      let place : suc i + 1 ≡ (i + 1) + 1 = omega arith in
      let further : Option (C × ℕ) = terms_refusal cause block (with_symbols block now n.phrase) (with_variables block later n.phrase) side depth ((i + 1) + 1)
      (before + nodes n.phrase) left in
      let refusal : further ≡ terms_refusal cause block table names side depth 1 start ps =
      ap (λ (o : Option (C × ℕ)). option_or o further) (sym r.accepted) ∙ sym (ap (terms_refusal cause block now later side depth (i + 1) before) n.later) ∙ h.refusal in
      let count_left = ap all_nodes n.later in
      let before_end = h.end in
      let next_end = r.end in
      record {
        refusal = ap (λ (x : List (List ℕ × ℕ)). terms_refusal cause block x latest side depth (suc i + 1) next left) r.symbols
            ∙ ap (λ (x : List (List ℕ)). terms_refusal cause block (with_symbols block now n.phrase) x side depth (suc i + 1) next left) r.variables
            ∙ ap₂ (λ (a b : ℕ). terms_refusal cause block (with_symbols block now n.phrase) (with_variables block later n.phrase) side depth a b left) place r.end ∙ refusal;
        symbols = ap (λ (x : List (List ℕ × ℕ)). with_all_symbols block x left) r.symbols ∙ sym (ap (with_all_symbols block now) n.later) ∙ h.symbols;
        variables = ap (λ (x : List (List ℕ)). with_all_variables block x left) r.variables ∙ sym (ap (with_all_variables block later) n.later) ∙ h.variables;
        mean = subst (λ (qs : Phrases). AreTermsOf block after latest qs (views (terms ++ t ∷ []))) (sym n.front)
            (terms_end block after latest (take_phrases i ps) terms n.phrase t (terms_grow block now later after latest (take_phrases i ps) (views terms) grown grown_names h.mean) r.means);
        end = omega arith;
        nodes_left = subst (λ (k : ℕ). map node (drop k ns) ≡ flat_all left ++ rest) (ap (λ (k : ℕ). before + k) (flat_length n.phrase) ∙ sym r.end)
            (behind node ns before (flat n.phrase) (flat_all left ++ rest) (nodes_here n));
      }

  pub loop_end : count ps ≤ i → AreRead cause block table names side depth 1 start ps now later (views terms) before
  loop_end l =
      let over = dropped_all ps i l in
      let none_left = ap all_nodes over in
      let end_here = h.end in
      record {
        accepted = sym h.refusal ∙ ap (terms_refusal cause block now later side depth (i + 1) before) over;
        symbols = ap (with_all_symbols block now) (sym over) ∙ h.symbols;
        variables = ap (with_all_variables block later) (sym over) ∙ h.variables;
        mean = subst (λ (qs : Phrases). AreTermsOf block now later qs (views terms)) (taken_all ps i l) h.mean;
        end = omega arith;
      }

-- How the writer writes uses of automata, and each member of a list.
use Rattle.std.specs.Prelude.{List, ℕ, ◌++◌, decimal, codes}
use Rattle.rewriting.specs.Prelude.{Head}
use Rattle.certificates.specs.Prelude.{Transition, LinearEntry, PairEntry, Redex, Simplification, dropped, inlined}
use Rattle.cops_names.specs.NameTable.{NameTable}
use Rattle.cert_grammar.specs.Prelude.{automaton_text, place_among, in_full, by_number, head_text, measured_text, numbers_text, position_text, evidence_text, infeasibility_text}
use Rattle.cert_grammar.specs.Versions as versions
use Rattle.cert_writing.specs.declared.written_evidence.Uses.{Uses}
use Rattle.cert_writing.specs.declared.written_evidence.Uses.TheVariants.{InFull, ByNumber}

abbrev pub uses_view : NameTable → Uses → versions.Uses
uses_view names InFull = in_full
uses_view names (ByNumber texts) = by_number (λ a. place_among (automaton_text names a) texts.now)

module _ (names : NameTable) where
  abbrev pub transition_text : Transition → List ℕ
  transition_text t = head_text names t.symbol t.arguments ++ (codes " " ++ (decimal t.target ++ codes "\n"))

  abbrev pub entry_text : LinearEntry → List ℕ
  entry_text e = measured_text names e.head ++ (numbers_text e.coefficients ++ codes "\n")

  abbrev pub place_text : Head → List ℕ
  place_text h = measured_text names h ++ codes "\n"

  module _ (uses : versions.Uses) where
    abbrev pub pair_text : PairEntry → List ℕ
    pair_text p = codes "pair " ++ (decimal p.inner ++ (codes " " ++ (position_text p.position ++ (codes " " ++ (decimal p.outer ++ (codes " " ++ evidence_text names uses p.evidence))))))

    abbrev pub redex_text : Redex → List ℕ
    redex_text r = codes "redex " ++ (decimal r.which ++ (codes " " ++ (position_text r.position ++ (codes " " ++ (decimal r.rule ++ (codes " " ++ infeasibility_text names uses r.evidence))))))

    abbrev pub step_text : Simplification → List ℕ
    step_text (dropped rule e) = codes "drop " ++ (decimal rule ++ (codes " " ++ infeasibility_text names uses e))
    step_text (inlined rule condition) = codes "inline " ++ (decimal rule ++ (codes " " ++ (decimal condition ++ codes "\n")))

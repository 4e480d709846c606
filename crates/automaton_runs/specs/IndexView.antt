-- The automaton and the symbols that an `AutomatonIndex` stands for.
use Rattle.std.specs.Prelude.{map}
use Rattle.cert_model.specs.EvidenceView.{transition_view, automaton_view}
use Rattle.automaton_runs.specs.Counted.{Indexed, symbols_of}
use Rattle.automaton_runs.specs.Counting.{symbol_key, first_key, target_key}
use Rattle.automaton_runs.specs.Twins.{AreKnown}
use Rattle.automaton_runs.specs.Indexed.{IsGroupedBy}
use Rattle.automaton_runs.specs.declared.index.AutomatonIndex.TheInside.{Inside}

abbrev pub index_view : Inside → Indexed
index_view i = record { symbols = symbols_of i.arities; automaton = automaton_view i.automaton.now }

-- its lists are those of the automaton
pub record IsIndexed (i : Inside) : Type 0 where
  pub by_symbol : IsGroupedBy symbol_key (index_view i) i.by_symbol
  pub by_first : IsGroupedBy first_key (index_view i) i.by_first
  pub by_target : IsGroupedBy target_key (index_view i) i.by_target
  pub known : AreKnown (symbols_of i.arities) i.automaton.now.states (map transition_view i.automaton.now.transitions.items) i.known

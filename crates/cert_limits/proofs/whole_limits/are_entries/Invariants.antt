use Rattle.cert_limits.proofs.Prelude.{drop, map, ◌↔◌, linear_entry_view, AreEntries}
use Rattle.cert_limits.proofs.whole_limits.are_entries.Given as goal

abbrev pub invariant-entries : goal.invariant-entries
invariant-entries l = AreEntries l.names (map linear_entry_view l.entries) ↔ AreEntries l.names (map linear_entry_view (drop l.entry-index l.entries))

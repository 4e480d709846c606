use Rattle.std.proofs.Common.{◌≡◌, [], map, drop}
use Rattle.cops_syntax.specs.View.{names_view}
use Rattle.cops_names.specs.NameLists.{with_names}
use Rattle.cops_read.proofs.files.block_names.Given as goal

abbrev pub invariant-names : goal.invariant-names
invariant-names l = with_names l.block (map (λ n. n.text) (names_view (drop l.name-index l.names))) ≡ with_names [] (map (λ n. n.text) (names_view l.names))

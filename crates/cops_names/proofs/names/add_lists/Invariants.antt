use Rattle.std.proofs.Common.{◌≡◌, drop, map}
use Rattle.cops_names.specs.NameTable.{all_of}
use Rattle.cops_names.specs.NameLists.{with_names}
use Rattle.cops_names.specs.NamesView.{texts_of}
use Rattle.cops_names.proofs.names.add_lists.Given as goal

abbrev pub invariant-lists : goal.invariant-lists
invariant-lists l =
    with_names l.set (all_of (map (λ v. texts_of v.items) (drop l.names-index l.lists))) ≡ with_names l.fn.set (all_of (map (λ v. texts_of v.items) l.lists))

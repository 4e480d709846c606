use Rattle.std.proofs.Common.{◌≡◌, drop}
use Rattle.cops_names.specs.NameLists.{with_names}
use Rattle.cops_names.specs.NamesView.{texts_of}
use Rattle.cops_names.proofs.names.add_list.Given as goal

abbrev pub invariant-texts : goal.invariant-texts
invariant-texts l = with_names l.set (texts_of (drop l.text-index l.names)) ≡ with_names l.fn.set (texts_of l.names)

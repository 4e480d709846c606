use Rattle.std.proofs.Common.{◌≡◌, ◌∙◌, ◌+◌, sym, ap, drop, map, List, ℕ}
use Rattle.cops_names.specs.NameTable.{all_of}
use Rattle.cops_names.specs.NameLists.{with_names}
use Rattle.cops_names.specs.NamesView.{texts_of}
use Rattle.cops_names.proofs.Used.{all_of_drop, with_both}
use Rattle.cops_names.proofs.names.add_lists.Goals as goal

pub lists-preserved : goal.lists-preserved
lists-preserved c =
    let rest = all_of (map (λ v. texts_of v.items) (drop (c.lists.names-index + 1) c.args.lists.now)) in
    let next = all_of_drop (λ v. texts_of v.items) c.args.lists.now c.lists.names-index c.names-item.result c.lists-test.true c.names-item.is in
    let added : c.add_list.new.set ≡ with_names c.lists.set (texts_of c.names-item.result.items) = rw c.deref.ensures.value at c.in_ok-add_list.ensures in
    ap (λ (s : List (List ℕ)). with_names s rest) added ∙ sym (with_both c.lists.set (texts_of c.names-item.result.items) rest)
    ∙ ap (with_names c.lists.set) (sym next) ∙ c.lists.invariant

use Rattle.std.proofs.Common.{◌∙◌, ◌++◌, ◌∷◌, [], ap, sym, ◌≡◌, map, length, flat_map, append_assoc, arith}
use Rattle.std.specs.Vec.Iter.{into_iter_items}
use Rattle.std.proofs.lemmas.List.{append-nil, nil_from_length}
use Rattle.critical_pairs.specs.View.{overlap_view}
use Rattle.critical_pairs.specs.Kept.{renumbered}
use Rattle.critical_pairs.proofs.Taken.{next_kept}
use Rattle.critical_pairs.proofs.kept.all_renumbered.Goals as goal

pub loop-overlap-preserved : goal.loop-overlap-preserved
loop-overlap-preserved c = record {
  made = next_kept c.args.now.now c.loop-overlap.kept.items c.loop-overlap.yielded c.in-Some.overlap c.loop-overlap.invariant.made _ c.in_ok-keep.ensures;
  many = let before = c.loop-overlap.invariant.many in let gone = c.in-Some.ensures.steps.1 in let short = ap length c.in-Some.ensures.steps.0 in omega arith;
  left = append_assoc c.loop-overlap.yielded (c.in-Some.overlap ∷ []) (into_iter_items c.next.new.self)
      ∙ (ap (λ z. c.loop-overlap.yielded ++ z) (sym c.in-Some.ensures.steps.0) ∙ c.loop-overlap.invariant.left);
}

pub returns : goal.returns
returns c =
    let none : into_iter_items c.loop-overlap.overlap-iterator ≡ [] = nil_from_length (into_iter_items c.loop-overlap.overlap-iterator)
    (sym c.loop-overlap.invariant.many ∙ c.in-None.ensures.steps.0) in
    c.loop-overlap.invariant.made
    ∙ ap (λ z. flat_map (renumbered c.args.now.now) (map overlap_view z)) (sym (append-nil c.loop-overlap.yielded) ∙ (ap (λ z. c.loop-overlap.yielded ++ z) (sym none) ∙ c.loop-overlap.invariant.left))

use Rattle.std.proofs.lemmas.List.{map-append}
use Rattle.term_core.proofs.Views.{spliced_views, rest_of}
use Rattle.term_core.proofs.positions.spliced.Goals as goal

pub returns : goal.returns
returns c =
    spliced_views c.args.args.now _ c.args.at _
    (simp (c.in_ok-copy_onto-2.ensures, c.in_ok-push.ensures.items, map-append, c.in_ok-copy_onto.ensures, c.in_ok-out.ensures.items, rest_of))
    c.requires

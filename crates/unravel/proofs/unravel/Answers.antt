use Rattle.unravel.proofs.Sound.{made_sound}
use Rattle.unravel.proofs.Whole.{is_unraveled}
use Rattle.unravel.proofs.unravel.Goals as goal

pub of_sound-system-requires-clause-sound : goal.of_sound-system-requires-clause-sound
of_sound-system-requires-clause-sound c =
    let rules = c.in_ok-rules.ensures in
    made_sound c.args.sys.now c.in_ok-rules.rules.items c.in_ok-arities.arities.items rules.rules.0 c.in_ok-arities.ensures rules.sound

pub returns : goal.returns
returns c =
    let rules = c.in_ok-rules.ensures in
    let heads = c.in_ok-heads.ensures.heads in
    is_unraveled c.args.sys.now _ c.in_ok-rules.rules.items c.in_ok-arities.arities.items rules.rules.0 rules.rules.1 c.in_ok-arities.ensures c.of_sound-system.ensures heads

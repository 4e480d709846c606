use Rattle.told_certificates.proofs.Numbers.{sound_got}
use Rattle.told_certificates.proofs.rules.rule_of.Goals as goal

pub returns : goal.returns
returns c =
    let e = c.get.ensures.lookup in
    sound_got c.args.scene.sys.now c.rules-rules.result.now _ c.get.result c.rules-rules.ensures.sound c.rules-rules.ensures.rules c.rules-rules.ensures.counted e.0 e.1

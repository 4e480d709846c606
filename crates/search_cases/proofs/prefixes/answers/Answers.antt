use Rattle.std.proofs.Common.{length, map, subst, arith}
use Rattle.std.proofs.lemmas.List.{take_all}
use Rattle.term_core.specs.HeadView.{head_view}
use Rattle.lpo.specs.Answers.{HasPrefix}
use Rattle.search_cases.proofs.Heads.{first_heads}
use Rattle.search_cases.proofs.prefixes.answers.Goals as goal

pub lpo_prefix-requires : goal.lpo_prefix-requires
lpo_prefix-requires c = first_heads c.args.sys.now c.args.unraveled.now c.deref-heads.result.now c.counts.count c.requires c.deref-heads.ensures.value

pub lpo_prefix-requires-2 : goal.lpo_prefix-requires-2
lpo_prefix-requires-2 c =
    let hs = c.deref-heads.result.now in
    subst (λ z. HasPrefix c.args.unraveled.now (map head_view z)) (take_all (length hs) hs (omega arith))
    (first_heads c.args.sys.now c.args.unraveled.now hs (length hs) c.requires c.deref-heads.ensures.value)

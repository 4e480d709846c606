use Rattle.std.proofs.Common.{map, length, sym, ap, ◌∙◌, subst, arith}
use Rattle.std.proofs.lemmas.List.{length_push}
use Rattle.cert_model.specs.CertificateView.{linear_entry_view}
use Rattle.grid_search.specs.Prefix.{HasPrefix}
use Rattle.check_cases.proofs.Ones.{as_many, one_more}
use Rattle.check_cases.proofs.prefixes.answers.Goals as goal

pub symbols-init : goal.symbols-init
symbols-init c = (ap length c.new-prefix.ensures.items, subst (λ es. HasPrefix c.args.unraveled.now (map linear_entry_view es)) (sym c.new-prefix.ensures.items) c.requires)

pub bounds-arities-symbol : goal.bounds-arities-symbol
bounds-arities-symbol c =
    let many = as_many c.args.unraveled.now c.symbols.prefix.items c.symbols.invariant.1 c.deref-head-items.result.now c.deref-head-items.ensures.value
    c.arities-arities.result.now c.arities-arities.ensures in
    let within = c.symbols-test.true in
    omega (arith, many, within)

pub check_prefix-requires-in-symbols : goal.check_prefix-requires-in-symbols
check_prefix-requires-in-symbols c =
    one_more c.args.unraveled.now c.symbols.prefix.items c.symbols.invariant.1 c.deref-head-items.result.now c.deref-head-items.ensures.value c.arities-arities.result.now
    c.arities-arities.ensures c.symbols.symbol
    c.symbols.invariant.0 c.symbols-test.true _ _ c.in_ok-ones.field-0 c.in_ok-ones.ensures c.deref-in-symbols.result.now (c.deref-in-symbols.ensures.value ∙ c.in_ok-push-2.ensures.items)

pub symbols-preserved : goal.symbols-preserved
symbols-preserved c =
    let long = ap length c.in_ok-push-2.ensures.items ∙ length_push c.symbols.prefix.items c.in_ok-ones.field-0 in
    let before = c.symbols.invariant.0 in (
      omega (arith, long, before),
      one_more c.args.unraveled.now c.symbols.prefix.items c.symbols.invariant.1 c.deref-head-items.result.now c.deref-head-items.ensures.value c.arities-arities.result.now
          c.arities-arities.ensures c.symbols.symbol
          c.symbols.invariant.0 c.symbols-test.true _ _ c.in_ok-ones.field-0 c.in_ok-ones.ensures c.push-in-symbols.new.self.items c.in_ok-push-2.ensures.items,
    )

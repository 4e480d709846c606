use Rattle.std.proofs.Common.{ℕ, Some, ap, sym, ◌∙◌}
use Rattle.ari_text.proofs.Functions.{one_symbol_more}
use Rattle.ari_text.proofs.scope.check_symbols.Goals as goal

pub symbols-preserved : goal.symbols-preserved
symbols-preserved c =
    one_symbol_more c.args.functions.now.symbols c.args.names.now.symbols c.symbols.n c.in-Some-Some.name.now c.in-Some-Some.arity c.in-Some-Some.ensures c.in-Some-Some.ensures'
    (sym c.arity_in.ensures ∙ (c.in-Some.is ∙ ap (λ (k : ℕ). Some k) c.if-found-arity.false)) c.symbols.invariant

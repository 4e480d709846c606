use Rattle.std.proofs.Common.{◌≡◌, ap, sym, subst, List, [], ◌∷◌, ◌++◌}
use Rattle.cops_names.specs.NameTable.{NameTable}
use Rattle.cops_syntax.specs.declared.tree.RuleText.{RuleText}
use Rattle.ari_text.proofs.Parts.{ArePartsSoFar, Functions, one_rule_more, parts_read}
use Rattle.ari_text.proofs.rules.read_parts.Goals as goal

pub parts-preserved-in_ok-push : goal.parts-preserved-in_ok-push
parts-preserved-in_ok-push c =
    let one = one_rule_more c.args.reader.now c.parts.reader c.key.new.self c.read_rule.new.reader c.parts.scope.functions.symbols c.parts.rules.items c.in-Some.key.text.now
    c.in_ok-read_rule.field-0 c.parts.invariant
    (rw c.in-Some.is at c.in_ok-key.ensures.part) c.if-is.ensures c.in_ok-read_rule.ensures.rule in
    let same : c.read_rule.new.scope.functions.symbols ≡ c.parts.scope.functions.symbols = ap (λ (n : NameTable). n.symbols) c.in_ok-read_rule.ensures.functions in
    subst (λ (rs : List RuleText). ArePartsSoFar c.args.reader.now c.read_rule.new.reader c.read_rule.new.scope.functions.symbols rs) (sym c.in_ok-push.ensures.items)
    (subst (λ (fs : Functions). ArePartsSoFar c.args.reader.now c.read_rule.new.reader fs (c.parts.rules.items ++ c.in_ok-read_rule.field-0 ∷ [])) (sym same) one)

pub returns : goal.returns
returns c = parts_read c.args.reader.now c.parts.reader c.parts.scope.functions.symbols c.parts.rules.items c.parts.invariant (rw c.in_default.is at c.in_ok-key.ensures.part)

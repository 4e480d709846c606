use Rattle.std.proofs.Common.{◌≡◌, ◌∙◌, List, ℕ, map, ap}
use Rattle.cops_names.specs.NameTable.{NameTable}
use Rattle.generated_systems.specs.Generated.{arities, generated_names}
use Rattle.generator.proofs.Distinct.{arities_are}
use Rattle.generator.proofs.Sound.{made, is_made}
use Rattle.generator.proofs.system_of.Goals as goal

symbols_are : (n : ℕ) (names : NameTable) (items : List ℕ) → names ≡ generated_names n → items ≡ map (λ s. s.1) names.symbols → items ≡ arities n
symbols_are n names items e f = f ∙ ap (λ (t : NameTable). map (λ (s : List ℕ × ℕ). s.1) t.symbols) e ∙ arities_are n

pub of_sound-system-requires-clause-sound : goal.of_sound-system-requires-clause-sound
of_sound-system-requires-clause-sound c =
    is_made c.args.n c.in_ok-arities.arities.items c.in_ok-rules.rules.items c.requires.most
    (symbols_are c.args.n c.in_ok-names.names c.in_ok-arities.arities.items c.in_ok-names.ensures c.in_ok-arities.ensures) c.in_ok-rules.ensures.rules

pub returns-clause-system : goal.returns-clause-system
returns-clause-system c =
    c.of_sound-system.ensures
    ∙ made c.args.n c.in_ok-arities.arities.items c.in_ok-rules.rules.items c.requires.most
    (symbols_are c.args.n c.in_ok-names.names c.in_ok-arities.arities.items c.in_ok-names.ensures c.in_ok-arities.ensures) c.in_ok-rules.ensures.rules

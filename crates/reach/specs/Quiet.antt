-- Terms whose steps ask for no list.
use Rattle.std.specs.Prelude.{◌≡◌, [], Option, None, Some}
use Rattle.rewriting.specs.Prelude.{Term, Terms, var, app, nil, cons, Rule, System, rule_at}
use Rattle.rule_index.specs.Roots.{rules_at}
use Rattle.reach_lists.specs.Laws.{EachOf}

abbrev pub IsWithoutConditions : Option Rule → Type 0
IsWithoutConditions None = Unit {0}
IsWithoutConditions (Some r) = r.conditions ≡ []

-- the rules with the root of a part have no conditions
abbrev pub IsBare : System → Term → Type 0
IsBare sys part = EachOf (λ i. IsWithoutConditions (rule_at sys i)) (rules_at sys part)

-- it is so at each part of a term
abbrev mutual
  pub IsQuiet : System → Term → Type 0
  IsQuiet sys (var x) = IsBare sys (var x)
  IsQuiet sys (app f ts) = IsBare sys (app f ts) × AreQuiet sys ts

  pub AreQuiet : System → Terms → Type 0
  AreQuiet sys nil = Unit {0}
  AreQuiet sys (cons t ts) = IsQuiet sys t × AreQuiet sys ts

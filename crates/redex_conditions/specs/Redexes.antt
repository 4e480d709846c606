-- The redexes of a term, in order.
use Rattle.std.specs.Prelude.{ℕ, ◌≡◌, Bool, false, if◌then◌else◌, List, [], ◌∷◌, map, flat_map, Option, None, Some, is_some}
use Rattle.std.specs.FinMap.{empty}
use Rattle.rewriting.specs.Prelude.{IsAmong, IsSorted, Term, Position, Rule, System, rule_at, match_onto}
use Rattle.rule_index.specs.Roots.{rules_at}
use Rattle.rule_index.specs.Parts.{Part, parts}
use Rattle.valid_certificates.specs.Peaks.{RedexPlace, MatchesAt, IsEarlierRedex}

-- whether there is a rule, and its left side matches the term
abbrev pub is_hit : Option Rule → Term → Bool
is_hit None t = false
is_hit (Some r) t = is_some (match_onto empty r.left t)

-- the numbers among these of the rules that match the term
abbrev pub hits : System → Term → List ℕ → List ℕ
hits sys t [] = []
hits sys t (i ∷ is) = if is_hit (rule_at sys i) t then i ∷ hits sys t is else hits sys t is

-- a rule at a position of a term with this number
abbrev pub place : ℕ → Position → ℕ → RedexPlace
place which p i = record { which = which; position = p; rule = i }

-- the places at a part of a term with this number, for those of the rules with some numbers that match the part
abbrev pub places : System → ℕ → Part → List ℕ → List RedexPlace
places sys which q is = map (place which q.position) (hits sys q.term is)

-- those for the rules that have the part's root
abbrev pub part_redexes : System → ℕ → Part → List RedexPlace
part_redexes sys which q = places sys which q (rules_at sys q.term)

-- the places where rules match in a term with this number, part by part
abbrev pub redexes : System → ℕ → Term → List RedexPlace
redexes sys which t = flat_map (part_redexes sys which) (parts t)

-- the list has exactly the places where rules match in a term with this number, in order
pub record AreRedexesOf (sys : System) (which : ℕ) (t : Term) (rs : List RedexPlace) : Type 0 where
  pub each : (r : RedexPlace) → IsAmong r rs → (r.which ≡ which) × MatchesAt sys t r.position r.rule
  pub whole : (p : Position) (i : ℕ) → MatchesAt sys t p i → IsAmong (record { which = which; position = p; rule = i }) rs
  pub sorted : IsSorted IsEarlierRedex rs

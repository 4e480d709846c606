-- The names that other crates cite, passed on from one place. Declares nothing.
pub use Rattle.rewriting.specs.Lists.{IsAmong, AreDistinct, IsBeforeAll, IsSorted, IsFront}
pub use Rattle.rewriting.specs.Relations.{Relation, Star, done, more, Joins, Commute}
pub use Rattle.rewriting.specs.Terms.{Term, var, app, Terms, nil, cons, terms_of, count, append, IsVariable, size, size_all, depth, depth_all, Fits}
pub use Rattle.rewriting.specs.Positions.{subterm, argument, Position, with_argument, argument_of, with_argument_of, replace, positions, positions_from, IsBefore}
pub use Rattle.rewriting.specs.Substitutions.{Substitution, apply, apply_all, compose, replacing, Matches, Bindings, values_of}
pub use Rattle.rewriting.specs.Variables.{variables, occurs, occurs_in, variable_occurrences, variable_occurrences_of, IsWithin, IsDisjoint, IsGround, occurrences, occurrences_in}
pub use Rattle.rewriting.specs.Variables.{IsLinear, with_new, with_variables, with_variables_of, variables_of}
pub use Rattle.rewriting.specs.Signatures.{Signature, IsOver, AreOver, AreValuesOver, HasSymbolsBelow, HaveSymbolsBelow}
pub use Rattle.rewriting.specs.Rules.{Condition, Rule, System, system_of, rule_at, numbers_where, EachRule, sides, right_sides, left_sides}
pub use Rattle.rewriting.specs.Systems.{Each, terms_of_rule, CountsFrom, rule_variables, IsRuleOver, IsWellFormed, IsRule, AreRules, DoSidesFit, condition_count, IsSystem}
pub use Rattle.rewriting.specs.Reduction.{Meets, Contraction, Step, Steps, Rewrites, Reaches}
pub use Rattle.rewriting.specs.Confluence.{IsConfluent, AreApart}
pub use Rattle.rewriting.specs.Infeasibility.{IsInfeasible}
pub use Rattle.rewriting.specs.Unifiers.{AreUnifiable, IsMostGeneralOfAll, even, odd}
pub use Rattle.rewriting.specs.NormalForms.{IsAbsolutelyIrreducible, IsNormalForm, IsIrreducible}
pub use Rattle.rewriting.specs.Classes.{IsAt, known, IsLeftLinearRule, IsType3Rule, IsExtendedOrientedRule, HasRoot, IsDefined, IsConstructorTerm, AreConstructorTerms, IsStable}
pub use Rattle.rewriting.specs.Classes.{IsRightStableRule, IsDeterministicRule, IsLeftLinear, IsType3, IsExtendedOriented, IsRightStable, IsDeterministic, IsStronglyDeterministic}
pub use Rattle.rewriting.specs.Overlaps.{IsPlace, IsOverlap, IsEarlierOverlap, condition_under, conditions_under, CriticalPair, IsCriticalPair}
pub use Rattle.rewriting.specs.Unraveling.{variable_terms, index_in, numbered_anew, keeper, auxiliary, unraveled_from, unraveled_rule, unraveled_rules, keeper_arities}
pub use Rattle.rewriting.specs.Unraveling.{all_keeper_arities, unraveled, Head, file, file_heads, condition_heads, auxiliary_heads, heads}
pub use Rattle.rewriting.specs.Descents.{IsActive, IsActiveArgument, IsActivePosition, ActiveStep, Descends, IsBounded, AreDescentsBounded}
pub use Rattle.rewriting.specs.Examples.{constant, unary, binary, plain, under, fibonacci, equal_sides}
pub use Rattle.rewriting.specs.Matching.{Covers, Extends, Solves, SolvesAll, IsLeastMatch, HasNoMatch}
pub use Rattle.rewriting.specs.Codes.{coded_term, coded_condition, coded_system, coded_bindings}
pub use Rattle.rewriting.specs.Tests.{is_same, are_same, is_covered, is_fit, match_onto, match_all_onto}

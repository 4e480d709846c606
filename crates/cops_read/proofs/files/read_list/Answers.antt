use Rattle.std.proofs.Common.{◌∙◌, refl}
use Rattle.cops_read.specs.RuleSteps.{ListAnswers}
use Rattle.cops_read.specs.declared.errors.ReadError.TheVariants.{NoMemory}
use Rattle.cops_read.proofs.Firsts.{handed}
use Rattle.cops_read.proofs.Wholes.{rules_told, few_arguments, rules_sound, rules_counted, file_read}
use Rattle.cops_read.proofs.files.read_list.Goals as goal

pub returns-in_err-rules : goal.returns-in_err-rules
returns-in_err-rules c tree h =
    handed (ListAnswers tree) c.in_err-rules.field-0.0 c.from_residual-in_err-rules.result c.from_residual-in_err-rules.ensures.1
    (rules_told h (c.new.ensures ∙ c.in_ok-block_names.ensures) c.deref.ensures.value c.new-2.ensures c.is_some-has_type.ensures
    c.read_rules.new.scope.names.symbols c.read_rules.new.scope.names.variables c.in_err-rules.field-0.0 c.in_err-rules.ensures.rules)

pub returns-in_err-arities : goal.returns-in_err-arities
returns-in_err-arities c tree h = handed (ListAnswers tree) NoMemory c.from_residual-in_err-arities.result c.from_residual-in_err-arities.ensures.1 tt

pub read_rules-requires-clause-texts : goal.read_rules-requires-clause-texts
read_rules-requires-clause-texts c = (c.requires.0.rules, c.requires.1.rules)

pub into_names-names-requires : goal.into_names-names-requires
into_names-names-requires c =
    few_arguments c.requires.1 (c.new.ensures ∙ c.in_ok-block_names.ensures) c.deref.ensures.value c.new-2.ensures c.is_some-has_type.ensures
    {names = c.read_rules.new.scope.names} refl refl c.in_ok-rules.ensures.rules

pub of_sound-system-requires-clause-sound : goal.of_sound-system-requires-clause-sound
of_sound-system-requires-clause-sound c =
    rules_sound c.requires.1 (c.new.ensures ∙ c.in_ok-block_names.ensures) c.deref.ensures.value c.new-2.ensures c.is_some-has_type.ensures
    c.into_names-names.ensures c.in_ok-arities.ensures c.in_ok-rules.ensures.rules

pub of_sound-system-requires-clause-counted : goal.of_sound-system-requires-clause-counted
of_sound-system-requires-clause-counted c =
    rules_counted c.requires.1 (c.new.ensures ∙ c.in_ok-block_names.ensures) c.deref.ensures.value c.new-2.ensures c.is_some-has_type.ensures
    c.into_names-names.ensures c.in_ok-arities.ensures c.in_ok-rules.ensures.rules

pub returns : goal.returns
returns c tree h =
    file_read h (c.new.ensures ∙ c.in_ok-block_names.ensures) c.deref.ensures.value c.new-2.ensures c.is_some-has_type.ensures
    c.into_names-names.ensures c.in_ok-arities.ensures c.in_ok-rules.ensures.rules c.of_sound-system.ensures

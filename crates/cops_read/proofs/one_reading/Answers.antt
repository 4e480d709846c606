use Rattle.cops_read.proofs.Laws as laws
use Rattle.cops_read.proofs.Refused as refused
use Rattle.cops_read.proofs.one_reading.Goals as goal

pub returns-clause-one : goal.returns-clause-one
returns-clause-one c = refused.one_reading

pub returns-clause-sound : goal.returns-clause-sound
returns-clause-sound c = laws.sound

pub returns-clause-limits : goal.returns-clause-limits
returns-clause-limits c = laws.within_limits

pub returns-clause-named : goal.returns-clause-named
returns-clause-named c = laws.named

pub returns-clause-refusal : goal.returns-clause-refusal
returns-clause-refusal c = refused.one_refusal

pub returns-clause-within : goal.returns-clause-within
returns-clause-within c = laws.refusals_within

pub returns-clause-either : goal.returns-clause-either
returns-clause-either c = refused.never_both

pub returns-clause-some : goal.returns-clause-some
returns-clause-some c = refused.some_reading

pub returns-clause-told : goal.returns-clause-told
returns-clause-told c = laws.told

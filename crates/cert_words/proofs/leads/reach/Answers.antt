use Rattle.std.proofs.Common.{rules}
use Rattle.cert_words.proofs.Prelude.{[], text, keyword, refl, sym}
use Rattle.cert_words.proofs.Fronts.{spelt_front, not_front, not_ended, check_front}
use Rattle.cert_words.proofs.leads.reach.Goals as goal

pub returns-in-Some : goal.returns-in-Some
returns-in-Some c = rw c.in-Text.is (spelt_front (text c.in-Text.word.now []) c.in-Text.word.now c.args.left.now c.in-Some.field-0.now _ (search rules) refl refl refl c.in-Some.ensures)

pub returns-in-None : goal.returns-in-None
returns-in-None c = rw c.in-Text.is (not_front (text c.in-Text.word.now []) c.in-Text.word.now c.args.left.now refl (λ rest e t. c.in-None.ensures rest e))

pub returns-in-Some-behind : goal.returns-in-Some-behind
returns-in-Some-behind c = rw c.in-Keyword.is
    (spelt_front (keyword c.in-Keyword.word.now [] []) c.in-Keyword.word.now c.args.left.now c.in-Some-behind.rest.now _ (search rules)
    refl refl (sym c.if-ends_here.ensures) c.in-Some-behind.ensures)

pub returns-in_default : goal.returns-in_default
returns-in_default c = rw c.in-Keyword.is
    (not_ended c.in-Keyword.word.now c.args.left.now c.in-Some-behind.rest.now c.in-Some-behind.ensures (sym c.if-ends_here.ensures))

pub returns-in_default-2 : goal.returns-in_default-2
returns-in_default-2 c = rw c.in-Keyword.is
    (not_front (keyword c.in-Keyword.word.now [] []) c.in-Keyword.word.now c.args.left.now refl
    (λ rest e t. (rw c.in_default.is at c.behind-in-Keyword.ensures) rest e))

pub returns-in-len1-up : goal.returns-in-len1-up
returns-in-len1-up c = rw c.in-Check.is (check_front c.in-Check.b c.args.left.now c.in-len1-up.len_at_least c.if-a-b.true)

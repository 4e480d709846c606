use Rattle.std.proofs.Common.{List, ℕ, refl, subst}
use Rattle.file_text.specs.Texts.{words_of}
use Rattle.cops_lex.specs.Reading.{IsIdText}
use Rattle.cops_syntax.specs.States.{word_view}
use Rattle.cops_syntax.proofs.Words.{reads_none, reads_next, reads_refused, reads_whole, reads_early}
use Rattle.cops_syntax.proofs.reader.read_words.Goals as goal

pub tokens-init : goal.tokens-init
tokens-init g c = reads_none g.R.WordReader.has_taken _ _ _ c.new-lexer.ensures.text c.new-lexer.ensures.none c.requires

pub word_at-requires : goal.word_at-requires
word_at-requires g c = subst (λ (bytes : List ℕ). IsIdText bytes c.in-Some.token) c.tokens.invariant.text (rw c.in-Some.is at c.in_ok-token.ensures.id_text)

pub take-requires : goal.take-requires
take-requires g c κs = ((refl, tt), (words_of c.args.bytes.now c.tokens.invariant.tokens, c.tokens.invariant.words))

pub returns-in-Some-2 : goal.returns-in-Some-2
returns-in-Some-2 g c =
    reads_refused g.R.WordReader.has_taken g.R.WordReader.spells g.R.WordReader.refuses c.args.bytes.now c.tokens.lexer c.next.new.self c.in-Some.token c.tokens.reader c.take.new.self
    (word_view c.word_at.result) c.in_ok-cause.field-0 c.tokens.invariant (rw c.in-Some.is at c.in_ok-token.ensures.answer) c.in_ok-token.ensures.text c.word_at.ensures c.in_ok-cause.ensures
    c.in-Some-2.cause c.in-Some-2.is c.in_ok-finish.ensures

pub tokens-preserved : goal.tokens-preserved
tokens-preserved g c =
    reads_next g.R.WordReader.has_taken g.R.WordReader.spells g.R.WordReader.refuses c.args.bytes.now c.tokens.lexer c.next.new.self c.in-Some.token c.tokens.reader c.take.new.self
    (word_view c.word_at.result) c.in_ok-cause.field-0 c.tokens.invariant (rw c.in-Some.is at c.in_ok-token.ensures.answer) c.in_ok-token.ensures.text c.word_at.ensures c.in_ok-cause.ensures
    c.in_default-2.is

pub end-requires : goal.end-requires
end-requires g c κs = ((refl, tt), (words_of c.args.bytes.now c.tokens.invariant.tokens, c.tokens.invariant.words))

pub returns-in-Ok : goal.returns-in-Ok
returns-in-Ok g c =
    reads_whole g.R.WordReader.has_taken g.R.WordReader.spells g.R.WordReader.refuses c.args.bytes.now c.tokens.lexer c.tokens.reader c.end.result c.tokens.invariant
    (rw c.in_default.is at c.in_ok-token.ensures.answer) c.end.ensures c.in-Ok.tree c.in-Ok.is

pub returns-in-Err : goal.returns-in-Err
returns-in-Err g c =
    reads_early g.R.WordReader.has_taken g.R.WordReader.spells g.R.WordReader.refuses c.args.bytes.now c.tokens.lexer c.tokens.reader c.end.result c.tokens.invariant
    (rw c.in_default.is at c.in_ok-token.ensures.answer) c.end.ensures c.in-Err.cause c.in-Err.is

use Rattle.ari_text.proofs.Spelt.{spelt_on, spelt_end}
use Rattle.ari_text.proofs.words.read_words.Goals as goal

pub pieces-preserved : goal.pieces-preserved
pieces-preserved c = spelt_on c.args.bytes.now c.split_at.result.1.now c.pieces.words.items c.push_word.new.words.items c.in_ok-word.word c.pieces.at c.in_ok-word.len
    c.pieces.invariant c.split_at.ensures.back c.split_at.ensures.back_len c.in_ok-word.ensures c.in_ok-push_word.ensures

pub returns : goal.returns
returns c = spelt_end c.args.bytes.now c.pieces.words.items c.pieces.at c.pieces.invariant c.pieces-test.false

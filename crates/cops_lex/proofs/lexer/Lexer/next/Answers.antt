use Rattle.std.proofs.Common.{sym, ◌∙◌, arith, rules}
use Rattle.cops_lex.specs.ReadingView.{reading_view}
use Rattle.cops_lex.proofs.Pieces.{token_read}
use Rattle.cops_lex.proofs.Fronts.{front_of, at_end, bad_there, long_there, none_before_bad, none_before_long}
use Rattle.cops_lex.proofs.Texts.{id_text}
use Rattle.cops_lex.proofs.lexer.Lexer.next.Goals as goal

pub returns-then-is_empty-clause-answer : goal.returns-then-is_empty-clause-answer
returns-then-is_empty-clause-answer c = rw (← c.self.view_is)
    (at_end (reading_view c.self.inside) _ _ (front_of _ _ _ c.self.view_is c.in_ok-from.ensures.answer) c.split_at.ensures.back (search rules))

pub returns-in_default-clause-answer : goal.returns-in_default-clause-answer
returns-in_default-clause-answer c =
    rw (← c.self.view_is) (bad_there (reading_view c.self.inside) _ _ _ (front_of _ _ _ c.self.view_is c.in_ok-from.ensures.answer) c.self.invariant.read c.split_at.ensures.back
    (search rules) (sym c.in_default.is ∙ c.kind_of.ensures))

pub returns-then-len-gt-LONGEST-clause-answer : goal.returns-then-len-gt-LONGEST-clause-answer
returns-then-len-gt-LONGEST-clause-answer c =
    rw (← c.self.view_is) (long_there (reading_view c.self.inside) _ _ _ _ _ (front_of _ _ _ c.self.view_is c.in_ok-from.ensures.answer) c.self.invariant.read
    c.split_at.ensures.back c.in-Some.ensures c.len_of-len.ensures.len
    c.if-len-gt-LONGEST.true)

pub returns-in_default-clause-none_ready : goal.returns-in_default-clause-none_ready
returns-in_default-clause-none_ready c =
    let front = front_of (reading_view c.self.inside) _ _ c.self.view_is c.in_ok-from.ensures.answer in
    rw (← c.self.view_is) (none_before_bad _ _ _ front c.self.invariant.read (bad_there (reading_view c.self.inside) _ _ _ front c.self.invariant.read c.split_at.ensures.back
    (search rules) (sym c.in_default.is ∙ c.kind_of.ensures)))

pub returns-then-len-gt-LONGEST-clause-none_ready : goal.returns-then-len-gt-LONGEST-clause-none_ready
returns-then-len-gt-LONGEST-clause-none_ready c =
    let front = front_of (reading_view c.self.inside) _ _ c.self.view_is c.in_ok-from.ensures.answer in
    rw (← c.self.view_is) (none_before_long _ _ _ front c.self.invariant.read (long_there (reading_view c.self.inside) _ _ _ _ _ front c.self.invariant.read c.split_at.ensures.back
    c.in-Some.ensures c.len_of-len.ensures.len
    c.if-len-gt-LONGEST.true))

pub invariant_of-self : goal.invariant_of-self
invariant_of-self c =
    let front = front_of (reading_view c.self.inside) _ _ c.self.view_is c.in_ok-from.ensures.answer in
    record {
      tokens = _;
      read = token_read (reading_view c.self.inside) _ _ _ _ _ front c.split_at.ensures.back c.in-Some.ensures c.len_of-len.ensures.len c.if-len-gt-LONGEST.false
          c.open_after-self-inside.ensures.opened _ c.self.invariant.read;
      within = omega (arith, c.len_of-len.ensures.within, c.split_at.ensures.back_len);
      few = omega (arith, c.open_after-self-inside.ensures.within, c.len_of-len.ensures.some, c.self.invariant.few, front.onward);
    }

pub returns-clause-answer : goal.returns-clause-answer
returns-clause-answer c ts h =
    token_read (reading_view c.self.inside) _ _ _ _ _ (front_of _ _ _ c.self.view_is c.in_ok-from.ensures.answer) c.split_at.ensures.back c.in-Some.ensures
    c.len_of-len.ensures.len c.if-len-gt-LONGEST.false
    c.open_after-self-inside.ensures.opened _ (rw c.self.view_is h)

pub returns-clause-id_text : goal.returns-clause-id_text
returns-clause-id_text c = rw (← c.self.view_is) (id_text (reading_view c.self.inside).bytes _ _ _ _ c.split_at.ensures.back c.len_of-len.ensures.len)

use Rattle.ari_text.proofs.Written.{join_texts}
use Rattle.ari_text.proofs.writing.write_text.Goals as goal

pub returns-in-Join : goal.returns-in-Join
returns-in-Join c =
    join_texts (λ v. v.items) c.with_join.result c.args.format c.args.names.now c.args.sys c.new-text.result.items c.write_system.new.out.items c.deref.result.now c.in-Join.is
    c.new-text.ensures.items c.in_ok-write_system.ensures.written c.deref.ensures.value c.with_join.ensures

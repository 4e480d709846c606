use Rattle.std.proofs.Common.{◌∙◌, sym, inl}
use Rattle.cops_read.proofs.Meant.{asks_of, meant_joined}
use Rattle.cops_read.proofs.files.read_file.Goals as goal

pub returns-then-joins : goal.returns-then-joins
returns-then-joins c tree h =
    let asks = sym (asks_of c.args.file tree h) ∙ sym c.asks_joins-joins.ensures ∙ c.if-joins.true in
    meant_joined tree c.join_list.result asks (c.join_list.ensures tree (c.in_ok-list.ensures tree h))

pub returns-else-joins : goal.returns-else-joins
returns-else-joins c tree h =
    let asks = sym (asks_of c.args.file tree h) ∙ sym c.asks_joins-joins.ensures ∙ c.if-joins.false in
    inl (asks, c.in_ok-list.ensures tree h)

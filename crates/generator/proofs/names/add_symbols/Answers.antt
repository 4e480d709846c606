use Rattle.std.proofs.Common.{◌+◌, ap, arith, length, add-one}
use Rattle.std.specs.Prelude.{string_bytes}
use Rattle.generator.proofs.Distinct.{added_symbols, symbol_count, with_one_more}
use Rattle.generator.proofs.names.add_symbols.Goals as goal

pub add-requires : goal.add-requires
add-requires c = let so_far = ap length c.requires.so_far in let most = c.requires.most in omega (arith, symbol_count c.args.k c.requires.least)

pub add-requires-2 : goal.add-requires-2
add-requires-2 c =
    let so_far = ap length c.requires.so_far in
    let most = c.requires.most in
    let added = ap length c.in_ok-add.ensures.symbols in
    omega (arith, symbol_count c.args.k c.requires.least, with_one_more c.args.names.now.symbols (string_bytes c.in_ok-p_name.p_name) 1)

pub returns-clause-symbols : goal.returns-clause-symbols
returns-clause-symbols c =
    added_symbols c.args.k (c.args.k + 1) (string_bytes c.in_ok-p_name.p_name) (string_bytes c.in_ok-f_name.f_name) c.args.names.now.symbols c.add.new.names.symbols c.add-2.new.names.symbols
    c.requires.least c.requires.most (add-one c.args.k) c.in_ok-p_name.ensures c.in_ok-f_name.ensures c.requires.so_far c.in_ok-add.ensures.symbols c.in_ok-add-2.ensures.symbols

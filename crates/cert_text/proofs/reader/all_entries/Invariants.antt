use Rattle.cert_text.proofs.Prelude.{◌≡◌, [], length, map, pair_entry_view, Opening, HasRead}
use Rattle.cert_text.proofs.reader.all_entries.Given as goal

abbrev pub invariant-entries : goal.invariant-entries
invariant-entries l = record {
  names : l.pairs.names ≡ l.fn.pairs.names;
  bytes : l.pairs.bytes ≡ l.fn.pairs.bytes;
  read : (o : Opening) → HasRead l.fn.pairs o [] → HasRead l.pairs o (map pair_entry_view l.entries.items);
  counted : length l.entries.items ≡ l.counter;
}

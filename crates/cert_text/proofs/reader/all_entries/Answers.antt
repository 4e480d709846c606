use Rattle.cert_text.proofs.Prelude.{◌∙◌, ap, arith, length, length_push, length-map, pair_entry_view, seen_push}
use Rattle.cert_text.proofs.WholeTexts.{few_entries}
use Rattle.cert_text.proofs.reader.all_entries.Goals as goal

pub entries-preserved : goal.entries-preserved
entries-preserved c =
    let before = c.entries.invariant in
    let items = c.entries.entries.items in
    let grown = c.in_ok-push-in-Some.ensures.items in
    record {
      names = c.next.ensures.text.0 ∙ before.names;
      bytes = c.next.ensures.text.1 ∙ before.bytes;
      read = λ o h. rw (seen_push pair_entry_view items _ c.in-Some.entry grown) ((rw c.in-Some.is at c.in_ok-entry.ensures.entry) o _ (before.read o h));
      counted = let long = ap length grown in omega (arith, long, length_push items c.in-Some.entry, before.counted);
    }

pub returns-in-None-clause-all : goal.returns-in-None-clause-all
returns-in-None-clause-all c = λ o h.
    let before = c.entries.invariant in
    rw (← before.names, ← before.bytes) ((rw c.in-None.is at c.in_ok-entry.ensures.none) o _ (before.read o h))

pub unreachable-requires : goal.unreachable-requires
unreachable-requires c =
    let o = c.requires in
    let few = few_entries _ o.0 _ (c.entries.invariant.read o.0 o.1).within in
    let out = c.entries-test.false in
    omega (arith, few, out, length-map c.entries.entries.items pair_entry_view, c.entries.invariant.counted)

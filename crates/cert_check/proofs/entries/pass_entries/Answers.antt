use Rattle.std.proofs.Common.{[], refl, ◌∙◌, arith}
use Rattle.cert_check.proofs.Reading.{never_more, one_taken, all_read}
use Rattle.cert_check.proofs.entries.pass_entries.Goals as goal

pub entries-init : goal.entries-init
entries-init c = record { names = refl; bytes = refl; taken = λ o h. record { entries = []; read = h; counted = refl; tally = tt } }

pub entries-preserved : goal.entries-preserved
entries-preserved c =
    let before = c.entries.invariant in
    record {
      names = c.next.ensures.text.0 ∙ before.names;
      bytes = c.next.ensures.text.1 ∙ before.bytes;
      taken = λ o h.
          one_taken c.entries.pairs c.next.new.self o c.entries.counter _ _ c.in_ok-_entry.field-0 c.in-Some._entry c.in-Some.is c.in_ok-_entry.ensures.entry (λ es t. tt) (before.taken o h);
    }

pub returns-in_default : goal.returns-in_default
returns-in_default c = λ o h.
    let before = c.entries.invariant in
    let taken = before.taken o h in (
      taken.entries,
      all_read c.args.pairs.now.names c.args.pairs.now.bytes c.entries.pairs o taken.entries before.names before.bytes c.in_ok-_entry.field-0 c.in_default.not-Some
          c.in_ok-_entry.ensures.none taken.read,
    )

pub unreachable-requires : goal.unreachable-requires
unreachable-requires c =
    let out = c.entries-test.false in
    never_more c.entries.pairs c.requires.0 c.entries.counter _ (c.entries.invariant.taken c.requires.0 c.requires.1) (omega (arith, out))

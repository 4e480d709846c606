use Rattle.cert_text.proofs.Prelude.{map, [], ◌∷◌, length, refl, sym, ap, subst, automaton_view, simp_view, second_version, between, line, simplification_count, simplifications_of, then_reads, framed}
use Rattle.cert_text.proofs.Prelude.{AreShared}
use Rattle.cert_reading.proofs.KindMarks.{kind_still}
use Rattle.cert_text.proofs.Fronts.{begun_on}
use Rattle.cert_text.proofs.Openings.{steps_begin, known_at_steps}
use Rattle.cert_text.proofs.opening.open_second.Goals as goal

pub open_body-requires : goal.open_body-requires
open_body-requires c = record { given = c.args.given; begun = begun_on c.requires (kind_still c.args.given c.in-Some.kind) (c.in-Some.ensures.kind c.args.names.now) }

pub all_simplifications-steps-requires : goal.all_simplifications-steps-requires
all_simplifications-steps-requires c =
    let names = c.args.names.now in
    let n = c.counted_steps-count.result in
    let count = then_reads (c.counted_steps-count.ensures names simplification_count (λ k. between line ∷ simplifications_of k) refl)
    (framed (simplifications_of n) (c.text.ensures.read names (between line) [] refl)) in
    subst (λ xs. AreShared second_version names (map automaton_view xs) (length c.args.bytes.now) c.text.new.at) (sym c.deref.ensures.value)
    (known_at_steps n c.requires (c.in_default.ensures.steps names) count)

pub open_body-requires-2 : goal.open_body-requires-2
open_body-requires-2 c =
    let names = c.args.names.now in
    let n = c.counted_steps-count.result in
    let count = then_reads (c.counted_steps-count.ensures names simplification_count (λ k. between line ∷ simplifications_of k) refl)
    (framed (simplifications_of n) (c.text.ensures.read names (between line) [] refl)) in
    let steps = c.all_simplifications-steps.ensures in
    record {
      given = c.args.given;
      begun = steps_begin n c.requires (c.in_default.ensures.steps names) count _ (map simp_view c.all_simplifications-steps.result.items) c.kind_word-kind.result
          (ap (map automaton_view) c.deref.ensures.value) steps.read steps.counted steps.plain steps.known (c.kind_word-kind.ensures names second_version);
    }

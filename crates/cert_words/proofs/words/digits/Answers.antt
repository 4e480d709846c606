use Rattle.cert_words.proofs.Lemmas.{refused_word, one_stop, only, out_of_range, Some, bad_number, refl, ap, map, value, plain, Reading}
use Rattle.cert_words.proofs.words.digits.Goals as goal

pub returns-in_default : goal.returns-in_default
returns-in_default c =
    let m = c.in_default.ensures in
    record { why = m.why; refused = m.refused; left = m.left; at = λ names i fits marks to. m.at names i (ap (map plain) fits.2) marks to }

pub returns-in-None : goal.returns-in-None
returns-in-None c =
    let h = c.in-Some.ensures in
    record {
      why = _;
      refused = refl;
      left = ap (λ (s : Reading). s.left) h.same;
      at = λ names i fits marks to. refused_word h (one_stop names c.args.end (only fits.2 refl h) c.args.at.now.shares (Some (bad_number, c.in-Some.found.here))
          (out_of_range names _ c.args.least c.args.bound (value c.in-Some.found.word.now) _ (fits.0 (value c.in-Some.found.word.now)) h.place c.in-None.ensures));
    }

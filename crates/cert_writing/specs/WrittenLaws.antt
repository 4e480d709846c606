-- Texts that come in parts: what is written, and what is counted.
use Rattle.std.proofs.Common.{◌≡◌, ℕ, List, [], ◌++◌, Bool, true, false, ap, sym, ◌∙◌, refl, arith, length-append, append_assoc, append-nil}
use Rattle.std.proofs.lemmas.Bool.{false≢true}
use Rattle.cert_writing.specs.Written.{IsWritten, IsCounted}

pub written_nothing : (bytes : List ℕ) (refused : Bool) → IsWritten bytes refused [] bytes refused
written_nothing bytes refused = record {
  whole = λ h. (h, sym (append-nil bytes));
  front = record { front = []; rest = []; parts = refl; grown = sym (append-nil bytes) };
  ended = λ h. (h, refl);
}

joined : (s t u a b : List ℕ) → t ≡ s ++ a → u ≡ t ++ b → u ≡ s ++ (a ++ b)
joined s t u a b e f = f ∙ ap (λ (w : List ℕ). w ++ b) e ∙ append_assoc s a b

pub written_parts : (s : List ℕ) (sr : Bool) (t : List ℕ) (tr : Bool) (u : List ℕ) (ur : Bool) (a b : List ℕ) → IsWritten s sr a t tr → IsWritten t tr b u ur → IsWritten s sr (a ++ b) u ur
written_parts s sr t false u ur a b x y = record {
  whole = λ h. ((x.whole refl).0, joined s t u a b (x.whole refl).1 (y.whole h).1);
  front = record {
    front = a ++ y.front.front;
    rest = y.front.rest;
    parts = ap (λ (w : List ℕ). a ++ w) y.front.parts ∙ sym (append_assoc a y.front.front y.front.rest);
    grown = joined s t u a y.front.front (x.whole refl).1 y.front.grown;
  };
  ended = λ h. absurd (false≢true (x.ended h).0);
}
written_parts s sr t true u ur a b x y = record {
  whole = λ h. absurd (false≢true (sym (y.whole h).0));
  front = record {
    front = x.front.front;
    rest = x.front.rest ++ b;
    parts = ap (λ (w : List ℕ). w ++ b) x.front.parts ∙ append_assoc x.front.front x.front.rest b;
    grown = (y.ended refl).1 ∙ x.front.grown;
  };
  ended = λ h. ((y.ended refl).0, (y.ended refl).1 ∙ (x.ended h).1);
}

pub counted_nothing : (n : ℕ) (refused : Bool) → IsCounted n refused [] n refused
counted_nothing n refused = λ r. (r, λ h. omega arith)

pub counted_parts : (n : ℕ) (nr : Bool) (m : ℕ) (mr : Bool) (k : ℕ) (kr : Bool) (a b : List ℕ) → IsCounted n nr a m mr → IsCounted m mr b k kr → IsCounted n nr (a ++ b) k kr
counted_parts n nr m mr k kr a b x y = λ r. let q = y r in let p = x q.0 in (p.0, λ h. let e = p.1 h in let f = q.1 (omega (arith, e)) in omega (arith, e, f, length-append a b))

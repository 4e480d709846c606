-- Lists of terms, one behind the other.
use Rattle.std.proofs.Common.{◌≡◌, ◌+◌, refl, ap, ap₂, arith}
use Rattle.rewriting.specs.Prelude.{Terms, nil, cons, count, Substitution, apply, apply_all, append}

pub apply_all-append : (s : Substitution) (ts us : Terms) → apply_all s (append ts us) ≡ append (apply_all s ts) (apply_all s us)
apply_all-append s nil us = refl
apply_all-append s (cons t ts) us = ap (cons (apply s t)) (apply_all-append s ts us)

pub append-nil : (ts : Terms) → append ts nil ≡ ts
append-nil nil = refl
append-nil (cons t ts) = ap (cons t) (append-nil ts)

pub count-append : (ts us : Terms) → count (append ts us) ≡ count ts + count us
count-append nil us = omega arith
count-append (cons t ts) us = let e = count-append ts us in omega (arith, e)

-- two lists that are equal, taken apart behind lists of one length
pub record Parted (ts bs us vs : Terms) : Type 0 where
  pub first : ts ≡ bs
  pub second : us ≡ vs

pub part : (ts bs us vs : Terms) → count ts ≡ count bs → append ts us ≡ append bs vs → Parted ts bs us vs
part nil nil us vs c e = record { first = refl; second = e }
part nil (cons b bs) us vs c e = absurd (omega (arith, c))
part (cons t ts) nil us vs c e = absurd (omega (arith, c))
part (cons t ts) (cons b bs) us vs c e =
    let h : t ≡ b = cc in
    let k : append ts us ≡ append bs vs = cc in
    let c' : count ts ≡ count bs = omega (arith, c) in
    let p = part ts bs us vs c' k in
    record { first = ap₂ cons h p.first; second = p.second }

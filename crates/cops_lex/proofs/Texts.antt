-- An identifier is ASCII, and so text.
use Rattle.std.proofs.Common.{◌≡◌, ℕ, zero, suc, ◌+◌, ◌-◌, ◌<◌, Bool, true, false, cond, not, ◌&&◌, ◌||◌, List, [], ◌∷◌, get_or, take, drop, refl, ap, ap₂, ◌∙◌, subst, arith}
use Rattle.std.specs.List.{AllByRecursion}
use Rattle.std.specs.Str.{IsUtf8}
use Rattle.std.proofs.lemmas.Str.{IsUtf8-from_ascii}
use Rattle.file_text.specs.declared.Kind.{Kind}
use Rattle.file_text.specs.Bytes.{is_id, begins_arrow, begins_equal, run_len}
use Rattle.file_text.specs.Tokens.{len_at}
use Rattle.file_text.proofs.Names.{id_small}
use Rattle.cops_lex.specs.Reading.{IsIdText}
use Rattle.cops_lex.proofs.Pieces.{made}

run_small : (bs : List ℕ) → AllByRecursion (λ b. b < 127) (take (run_len bs) bs)
unfolding run_len
run_small [] = tt
run_small (b ∷ bs) = by (is_id b) (begins_arrow (b ∷ bs) || begins_equal (b ∷ bs)) refl (run_small bs)
  where
    by : (v w : Bool) → is_id b ≡ v → AllByRecursion (λ b. b < 127) (take (run_len bs) bs) → AllByRecursion (λ b. b < 127) (take (cond (v && not w) (suc (run_len bs)) 0) (b ∷ bs))
    by true true e h = tt
    by true false e h = (id_small b e, h)
    by false w e h = tt

ascii : (bs : List ℕ) → AllByRecursion (λ b. b < 127) bs → (i : ℕ) → get_or bs i 0 < 128
ascii [] e i = omega arith
ascii (b ∷ bs) e zero = omega (arith, e.0)
ascii (b ∷ bs) e (suc i) = ascii bs e.1 i

pub id_text : (bytes rest : List ℕ) (from len : ℕ) (k : Kind) → rest ≡ drop from bytes → len ≡ len_at k rest → IsIdText bytes (made k from (from + len))
id_text bytes rest from len k is long id =
    let run : len ≡ run_len rest = long ∙ ap (λ (q : Kind). len_at q rest) id in
    let span : run_len rest ≡ (from + len) - from = omega (arith, run) in
    subst IsUtf8 (ap₂ (λ (n : ℕ) (bs : List ℕ). take n bs) span is) (IsUtf8-from_ascii (take (run_len rest) rest) (ascii (take (run_len rest) rest) (run_small rest)))

-- What the use of a symbol adds to a table.
use Rattle.std.proofs.Common.{◌≡◌, ℕ, ◌+◌, ◌<◌, ◌≤◌, Bool, true, false, List, [], ◌∷◌, ◌++◌, length, Option, Some, None, refl, sym, ap, subst, ◌∙◌, arith}
use Rattle.std.specs.Prelude.{option_map, slice_get, if◌then◌else◌, is_some}
use Rattle.std.specs.List.{list_any}
use Rattle.std.specs.Str.{bytes_eq}
use Rattle.std.proofs.lemmas.Slice.Eq.{bytes_eq-Decides}
use Rattle.std.proofs.lemmas.Bool.Decides.{nat_tests}
use Rattle.general_lemmas.proofs.Places.{slice_get_seam}
use Rattle.cops_names.specs.NameTable.{number_of}
use Rattle.cops_read.specs.Meaning.{with_symbol}
use Rattle.cops_read.specs.Uses.{Use}
use Rattle.cops_read.specs.Refusals.{arity_in, known_symbol_cause, symbol_cause}
use Rattle.cops_read.specs.Steps.{Tells}
use Rattle.cops_read.specs.Heads.{IsSymbolUsed}
use Rattle.cops_names.proofs.Lists.{position_of_any, position_end}

abbrev pub is_name : List ℕ → (List ℕ × ℕ) → Bool
is_name name s = bytes_eq name s.0

pub with_fresh : (table : List (List ℕ × ℕ)) (name : List ℕ) (n : ℕ) → number_of table name ≡ None → with_symbol table name n ≡ table ++ (name, n) ∷ []
with_fresh table name n h = by (number_of table name) h
  where
    by : (o : Option ℕ) → o ≡ None → (if is_some o then table else (table ++ (name, n) ∷ [])) ≡ table ++ (name, n) ∷ []
    by None e = refl
    by (Some g) e = cc

none_of : (table : List (List ℕ × ℕ)) (name : List ℕ) → number_of table name ≡ None → list_any (is_name name) table ≡ false
none_of table name h = by (list_any (is_name name) table) refl
  where
    by : (b : Bool) → list_any (is_name name) table ≡ b → b ≡ false
    by true e = let there = position_of_any (is_name name) table e in cc
    by false e = refl

-- the number and the arity of a symbol that was put last
pub put_last : (table : List (List ℕ × ℕ)) (name : List ℕ) (n : ℕ) → number_of table name ≡ None
    → (number_of (table ++ (name, n) ∷ []) name ≡ Some (length table)) × (option_map (λ s. s.1) (slice_get (table ++ (name, n) ∷ []) (length table)) ≡ Some n)
put_last table name n h = (
  position_end (is_name name) table (name, n) [] (none_of table name h) ((bytes_eq-Decides name name).1 refl),
  ap (option_map (λ (s : List ℕ × ℕ). s.1)) (slice_get_seam table (name, n) []),
)

few : (table : List (List ℕ × ℕ)) (u : Use) → length table < 1000 → known_symbol_cause table u None ≡ None
few table u h = grind (arith, nat_tests)

added : (table : List (List ℕ × ℕ)) (u : Use) → number_of table u.spot.node.name.text ≡ None → length table < 1000
    → IsSymbolUsed Tells symbol_cause table u (table ++ (u.spot.node.name.text, u.spot.node.arguments) ∷ []) (length table)
added table u h less =
    let last = put_last table u.spot.node.name.text u.spot.node.arguments h in
    record {
      accepted = ap (λ (o : Option ℕ). known_symbol_cause table u (arity_in table o)) h ∙ few table u less;
      added = sym (with_fresh table u.spot.node.name.text u.spot.node.arguments h);
      number = last.0;
      arity = last.1;
    }

-- a name that was not there was put last
pub put : (table after : List (List ℕ × ℕ)) (u : Use) (name bytes : List ℕ) (n f : ℕ) → name ≡ u.spot.node.name.text → n ≡ u.spot.node.arguments → None ≡ number_of table name → bytes ≡ name
    → after ≡ table ++ (bytes, n) ∷ [] → f ≡ length table → f + 1 ≤ 1000 → IsSymbolUsed Tells symbol_cause table u after f
put table after u name bytes n f named many h same last is less =
    let whole : after ≡ table ++ (u.spot.node.name.text, u.spot.node.arguments) ∷ [] =
    last ∙ ap (λ (x : List ℕ). table ++ (x, n) ∷ []) (same ∙ named) ∙ ap (λ (m : ℕ). table ++ (u.spot.node.name.text, m) ∷ []) many in
    subst (λ (t : List (List ℕ × ℕ)). IsSymbolUsed Tells symbol_cause table u t f) (sym whole)
    (subst (λ (i : ℕ). IsSymbolUsed Tells symbol_cause table u (table ++ (u.spot.node.name.text, u.spot.node.arguments) ∷ []) i) (sym is)
    (added table u (sym (h ∙ ap (number_of table) named)) (omega arith)))

-- The text of a problem's system is a file.
use Rattle.std.proofs.Common.{◌≡◌, inl, inr, ◌≤◌, [], ◌++◌, drop, length, arith, codes, IfOk, Result, Ok, Err, ℕ, Bool, true, false, List, refl, sym, ap, ◌∙◌, subst}
use Rattle.std.specs.Prelude.{◌&&◌}
use Rattle.file_text.specs.Syntax.{FileTree}
use Rattle.rewriting.specs.Rules.{System}
use Rattle.join_systems.specs.Joined.{joined}
use Rattle.cops_names.specs.NameTable.{NameTable}
use Rattle.cops_read.specs.File.{IsSystemOf, IsMeant, IsFile, asks_joins, is_join, have_conditions}
use Rattle.cops_write.specs.Text.{system_text}
use Rattle.cops_write.proofs.ReadBack.{tree_is_written}
use Rattle.ari_text.specs.declared.heads.Format.{Format}
use Rattle.ari_text.specs.declared.heads.Format.TheVariants.{Plain, Oriented, Join}
use Rattle.ari_text.specs.Signs.{Sign}
use Rattle.ari_text.specs.Spelling.{Spell}
use Rattle.ari_text.specs.Grammar.{IsProblem}
use Rattle.ari_text.specs.Functions.{AreUndeclared, AreDeclared}
use Rattle.ari_text.specs.Texts.{IsTyped, IsJoinFile, IsRetyped, IsTextOf, type_of, IsWritten}
use Rattle.ari_text.proofs.Named.{problem_named}
use Rattle.ari_text.proofs.Spelt.{are_spelt}

pub typed : (text : List ℕ) (r : Bool) → (r ≡ true → text ≡ codes "(CONDITIONTYPE ORIENTED)\n" ++ drop 25 text) × ((rest : List ℕ)
    → text ≡ codes "(CONDITIONTYPE ORIENTED)\n" ++ rest → r ≡ true) → IsTyped text r
typed text r h = record {
  front = h.0;
  other = λ (e : r ≡ false) rest q. let t : r ≡ true = h.1 rest q in cc;
}

has_front : (xs : List ℕ) → 25 ≤ length (codes "(CONDITIONTYPE ORIENTED)\n" ++ xs)
has_front xs = omega arith

pub long_enough : (text : List ℕ) → IsTyped text true → 25 ≤ length text
long_enough text t = subst (λ (xs : List ℕ). 25 ≤ length xs) (sym (t.front refl)) (has_front (drop 25 text))

pub retyped : (sys : System) (text back empty first out : List ℕ) → IsTyped text true → back ≡ drop 25 text → empty ≡ [] → first ≡ empty ++ codes "(CONDITIONTYPE JOIN)\n"
    → out ≡ first ++ back → IsJoinFile sys out → IsRetyped sys text out
retyped sys text back empty first out t b e f o j =
    inl (
      back,
      t.front refl ∙ ap (λ (w : List ℕ). codes "(CONDITIONTYPE ORIENTED)\n" ++ w) (sym b),
      o
          ∙ ap (λ (w : List ℕ). w ++ back) (f ∙ ap (λ (w : List ℕ). w ++ codes "(CONDITIONTYPE JOIN)\n") e),
      j,
    )

pub not_retyped : (sys : System) (text empty out : List ℕ) → IsTyped text false → empty ≡ [] → out ≡ empty ++ text → IsRetyped sys text out
not_retyped sys text empty out t e o = inr (t.other refl, o ∙ ap (λ (w : List ℕ). w ++ text) e)

joins_none : (f : Format) → is_join (type_of f) ≡ false
joins_none Plain = refl
joins_none Oriented = refl
joins_none Join = refl

-- rules that are read as oriented ones
pub plain_system : (f : Format) (tree : FileTree) (sys : System) (names : NameTable) → tree.condition_type ≡ type_of f → IsMeant tree sys names → IsSystemOf tree sys names
plain_system f tree sys names e (inl m) = m.1
plain_system f tree sys names e (inr m) =
    let none : asks_joins tree ≡ false = ap (λ (j : Bool). j && have_conditions tree.rules) (ap is_join e ∙ joins_none f) in
    let all = m.0 in
    absurd cc

text_read : (f : Format) (tree : FileTree) (sys : System) (names : NameTable) (text : List ℕ) → IsFile (system_text names sys) sys names → IsTextOf f names sys text
    → (s : System) × (t : NameTable) × IsFile text s t
text_read Plain tree sys names text h e = (sys, names, subst (λ (b : List ℕ). IsFile b sys names) (sym e) h)
text_read Oriented tree sys names text h e = (sys, names, subst (λ (b : List ℕ). IsFile b sys names) (sym e) h)
text_read Join tree sys names text h (inl e) = (joined sys, e.3.0, e.3.1)
text_read Join tree sys names text h (inr e) = (sys, names, subst (λ (b : List ℕ). IsFile b sys names) (sym e.1) h)

pub is_written : (bytes text : List ℕ) (words : List Sign) (f : Format) (fs : List (List ℕ × ℕ)) (tree : FileTree) (sys : System) (names : NameTable)
    → Spell bytes words → IsProblem words f fs tree.rules → tree.condition_type ≡ type_of f → IsSystemOf tree sys names → AreUndeclared fs tree.variables
    → AreDeclared fs names.symbols → IsTextOf f names sys text → IsWritten bytes text
is_written bytes text words f fs tree sys names s p t m v d e =
    let have = problem_named words f fs tree.rules p (are_spelt bytes words s) in
    record {
      words = words;
      spelled = s;
      format = f;
      functions = fs;
      tree = tree;
      problem = p;
      typed = t;
      system = sys;
      names = names;
      meant = m;
      variables = v;
      symbols = d;
      is_text = e;
      read = text_read f tree sys names text (tree_is_written tree sys names m have) e;
    }

-- the text of join rules
join_text : (f : Format) (names : NameTable) (sys : System) (empty text seen out : List ℕ) → f ≡ Join → empty ≡ [] → text ≡ empty ++ system_text names sys → seen ≡ text
    → IsRetyped sys seen out → IsTextOf f names sys out
join_text f names sys empty text seen out j e t s r =
    let same : seen ≡ system_text names sys = s ∙ t ∙ ap (λ (w : List ℕ). w ++ system_text names sys) e in
    subst (λ (g : Format). IsTextOf g names sys out) (sym j) (subst (λ (w : List ℕ). IsRetyped sys w out) same r)

pub join_texts : {V E : Type 0} (items : V → List ℕ) (r : Result V E) (f : Format) (names : NameTable) (sys : System) (empty text seen : List ℕ) → f ≡ Join → empty ≡ []
    → text ≡ empty ++ system_text names sys → seen ≡ text
    → IfOk r (λ v. IsRetyped sys seen (items v)) → IfOk r (λ v. IsTextOf f names sys (items v))
join_texts items (Ok v) f names sys empty text seen j e t s h = join_text f names sys empty text seen (items v) j e t s h
join_texts items (Err x) f names sys empty text seen j e t s h = tt

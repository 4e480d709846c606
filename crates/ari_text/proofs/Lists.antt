-- Lists of names and of terms, with one more at the end.
use Rattle.std.proofs.Common.{◌≡◌, ℕ, suc, ◌+◌, arith, true, List, [], ◌∷◌, ◌++◌, refl, sym, ap, ◌∙◌, append_assoc, append-nil}
use Rattle.std.proofs.lemmas.List.{map-append}
use Rattle.file_text.specs.Syntax.{Phrase, Phrases, word, call, none, more, with_last, count, Node, flat, flat_all}
use Rattle.cops_syntax.specs.declared.tree.Node as program
use Rattle.cops_syntax.specs.View.{nodes_view, node_view}
use Rattle.cops_syntax.specs.declared.tree.Name as program_name
use Rattle.cops_syntax.specs.View.{name_view}
use Rattle.cops_syntax.proofs.FlatTrees.{flat-last}
use Rattle.ari_text.specs.Signs.{Sign, opening, closing, name}
use Rattle.ari_text.specs.Grammar.{term_signs, terms_signs}
use Rattle.ari_text.specs.Reads.{IsTermRead, AreTermsRead, IsBarePut}

pub last_count : (ts : Phrases) (u : Phrase) → count (with_last ts u) ≡ suc (count ts)
last_count none u = refl
last_count (more t ts) u = ap suc (last_count ts u)

last_signs : (ts : Phrases) (u : Phrase) (k : List Sign) → terms_signs (with_last ts u) k ≡ terms_signs ts (term_signs u k)
last_signs none u k = refl
last_signs (more t ts) u k = ap (term_signs t) (last_signs ts u k)

pub no_terms : (ws : List Sign) (before : List program.Node) → AreTermsRead ws ws before before 0
no_terms ws before = record { phrases = none; many = refl; words = refl; listed = sym (append-nil (nodes_view before)) }

pub one_term_more : (old mid new : List Sign) (before between after : List program.Node) (n : ℕ) → AreTermsRead old mid before between n → IsTermRead mid new between after
    → AreTermsRead old new before after (n + 1)
one_term_more old mid new before between after n ts t = record {
  phrases = with_last ts.phrases t.phrase;
  many = omega (arith, ts.many, last_count ts.phrases t.phrase);
  words = ts.words ∙ ap (terms_signs ts.phrases) t.words ∙ sym (last_signs ts.phrases t.phrase new);
  listed = t.listed ∙ ap (λ (w : List Node). w ++ flat t.phrase) ts.listed ∙ append_assoc (nodes_view before) (flat_all ts.phrases) (flat t.phrase)
      ∙ ap (λ (w : List Node). nodes_view before ++ w) (sym (flat-last ts.phrases t.phrase));
}

-- a name alone
pub bare_read : (old new : List Sign) (before after : List program.Node) (f : program_name.Name) → old ≡ name f.text.now ∷ new → IsBarePut (name_view f) before after → IsTermRead old new before after
bare_read old new before after f e p = record { phrase = word (name_view f); words = e; listed = p.listed }

-- a name with its arguments
pub call_read : (old named mid new : List Sign) (before pushed after : List program.Node) (f : program_name.Name) (arity n : ℕ)
    → old ≡ name f.text.now ∷ named → pushed ≡ before ++ record { name = f; brackets = true; arguments = arity } ∷ [] → AreTermsRead named mid pushed after n → n ≡ arity → mid ≡ closing ∷ new
    → IsTermRead (opening ∷ old) new before after
call_read old named mid new before pushed after f arity n e p ts q k =
    let node : Node = record { name = name_view f; brackets = true; arguments = arity } in
    let same : record { name = name_view f; brackets = true; arguments = arity } ≡ record { name = name_view f; brackets = true; arguments = count ts.phrases } = ap
    (λ (m : ℕ). record { name = name_view f; brackets = true; arguments = m }) (sym q ∙ ts.many) in
    let last : nodes_view pushed ≡ nodes_view before ++ node ∷ [] = ap nodes_view p ∙ map-append node_view before (record { name = f; brackets = true; arguments = arity } ∷ []) in
    record {
      phrase = call (name_view f) ts.phrases;
      words = ap (λ (ws : List Sign). opening ∷ ws) (e ∙ ap (λ (ws : List Sign). name f.text.now ∷ ws) (ts.words ∙ ap (terms_signs ts.phrases) k));
      listed = ts.listed ∙ ap (λ (w : List Node). w ++ flat_all ts.phrases) last ∙ append_assoc (nodes_view before) (node ∷ []) (flat_all ts.phrases)
          ∙ ap (λ (m : Node). nodes_view before ++ m ∷ flat_all ts.phrases) same;
    }

use Rattle.std.proofs.Common.{◌∙◌, ℕ, List, ◌∷◌, subst, sym, ap, IfOk}
use Rattle.ari_text.specs.Pieces.{IsPiece}
use Rattle.ari_text.proofs.Spelt.{first_byte, left_piece, right_piece, white_piece, comment_piece}
use Rattle.ari_text.proofs.words.read_piece.Goals as goal

pub returns-then-first-eq40 : goal.returns-then-first-eq40
returns-then-first-eq40 c = left_piece c.args.rest.now _ c.split_at.result.1.now c.args.at (first_byte c.args.rest.now c.split_at.result.1.now c.requires c.split_at.ensures.back) c.if-first-eq40.true

pub returns-then-first-eq41 : goal.returns-then-first-eq41
returns-then-first-eq41 c = right_piece c.args.rest.now _ c.split_at.result.1.now c.args.at (first_byte c.args.rest.now c.split_at.result.1.now c.requires c.split_at.ensures.back) c.if-first-eq41.true

pub returns-then-is_white : goal.returns-then-is_white
returns-then-is_white c = white_piece c.args.rest.now _ c.split_at.result.1.now (first_byte c.args.rest.now c.split_at.result.1.now c.requires c.split_at.ensures.back)
    (sym c.is_white.ensures ∙ c.if-is_white.true)

pub returns-then-first-eq59 : goal.returns-then-first-eq59
returns-then-first-eq59 c = comment_piece c.args.rest.now _ c.split_at.result.1.now c.place_of.result
    (first_byte c.args.rest.now c.split_at.result.1.now c.requires c.split_at.ensures.back) c.if-first-eq59.true c.place_of.ensures

pub returns-then-first-eq124 : goal.returns-then-first-eq124
returns-then-first-eq124 c =
    let first = first_byte c.args.rest.now c.split_at.result.1.now c.requires c.split_at.ensures.back in
    let same = first ∙ ap (λ (b : ℕ). b ∷ c.split_at.result.1.now) c.if-first-eq124.true in
    subst (λ (xs : List ℕ). IfOk c.barred.result (λ p. IsPiece xs p.0 p.1)) (sym same) c.barred.ensures

pub returns-then-first-eq34 : goal.returns-then-first-eq34
returns-then-first-eq34 c =
    let first = first_byte c.args.rest.now c.split_at.result.1.now c.requires c.split_at.ensures.back in
    let same = first ∙ ap (λ (b : ℕ). b ∷ c.split_at.result.1.now) c.if-first-eq34.true in
    subst (λ (xs : List ℕ). IfOk c.quoted.result (λ p. IsPiece xs p.0 p.1)) (sym same) c.quoted.ensures

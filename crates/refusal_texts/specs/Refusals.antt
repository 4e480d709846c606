-- What a refusal tells.
use Rattle.std.specs.Prelude.{ℕ, List}
use Rattle.refusal_texts.specs.declared.refusal.Refusal.{Refusal}

abbrev pub place_and_words : Refusal → ℕ × List ℕ
place_and_words r = (r.at, r.why.now)

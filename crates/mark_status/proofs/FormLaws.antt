-- The form that asks about a mark, as it is read.
use Rattle.std.proofs.Common.{◌≡◌, ◌<◌, ℕ, List, [], ◌∷◌, codes, refl, ap, ◌∙◌, rules}
use Rattle.std.specs.Prelude.{All}
use Rattle.std.proofs.lemmas.List.Elements.{All-cons, All-nil}
use Rattle.form_urlencoded.specs.Form.{extend_pairs, parse}
use Rattle.form_urlencoded.proofs.FormLemmas.{IsBytePair, round_trip}
use Rattle.form_urlencoded.proofs.OnLiterals.{form_urlencoded_on_literals}
use Rattle.mark_status.specs.Answers.{form_of}

abbrev name : List ℕ
name = codes "trust_mark"

-- the form is what the serializer writes
form-is : (mark : List ℕ) → form_of mark ≡ extend_pairs [] ((name, mark) ∷ [])
unfolding form_of form_urlencoded_on_literals
form-is mark = refl

name_bytes : All (λ b. b < 256) name
name_bytes = search rules

pub form-read : (mark : List ℕ) → All (λ b. b < 256) mark → parse (form_of mark) ≡ (name, mark) ∷ []
form-read mark small = ap parse (form-is mark) ∙ round_trip ((name, mark) ∷ []) (All-cons IsBytePair (name, mark) [] (name_bytes, small) (All-nil IsBytePair))

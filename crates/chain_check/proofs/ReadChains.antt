-- The texts of a chain, read one after the other.
use Rattle.std.proofs.Common.{◌≡◌, ◌<◌, ◌≤◌, ◌+◌, ◌++◌, ◌∷◌, [], ℕ, List, length, take, get_or, Some, None, refl, sym, ap, ap₂, ◌∙◌, subst, arith, rules, below_more}
use Rattle.std.specs.Prelude.{All, is_some, true, slice_get}
use Rattle.std.proofs.lemmas.List.{map-append, take_all, take_more}
use Rattle.std.proofs.lemmas.List.Elements.{All-push, filter_map-append}
use Rattle.std.proofs.lemmas.Option.{slice_get-get_or}
use Rattle.entity_statement.specs.declared.signed.SignedStatement.{SignedStatement}
use Rattle.entity_statement.specs.Signed.{IsReading, IsSplit, statement_of}
use Rattle.fed_base.specs.Places.{HoldsBelow}
use Rattle.chain_check.specs.Chains.{Texts, ReadsAt, LosesForm, max_statements, statements_of}
use Rattle.chain_check.specs.Reading.{AreRead, claims_in, entry_claims, entry_text, texts_in}

-- the first j texts are read
pub record ReadUpTo (texts : Texts) (entries : List SignedStatement) (j : ℕ) : Type 0 where
  pub fits : HoldsBelow (ReadsAt texts) j
  pub same : texts_in entries ≡ take j texts
  pub statements : claims_in entries ≡ statements_of (take j texts)
  pub split : All IsSplit entries

pub ReadUpTo-none : (texts : Texts) → ReadUpTo texts [] 0
unfolding statements_of
ReadUpTo-none texts = record { fits = λ j below. absurd (omega arith); same = refl; statements = refl; split = search rules }

-- one text more, which the list has at j
module _ (texts : Texts) (entries : List SignedStatement) (j : ℕ) (text : List ℕ) (short : j < length texts) (is : text ≡ get_or texts j text) where
  there : slice_get texts j ≡ Some text
  there = slice_get-get_or texts j text short ∙ ap Some (sym is)

  longer : take (j + 1) texts ≡ take j texts ++ text ∷ []
  longer = take_more texts j text short ∙ ap (λ x. take j texts ++ x ∷ []) (sym is)

  pub ReadUpTo-more : (entry : SignedStatement) (more : List SignedStatement) → j < max_statements → IsReading text (Some entry) → more ≡ entries ++ entry ∷ [] → ReadUpTo texts entries j → ReadUpTo texts more (j + 1)
  unfolding statements_of
  ReadUpTo-more entry more near reading pushed read =
      let here : ReadsAt texts j = record { near = near; text = text; there = there; reads = ap is_some reading.0 } in
      let one : statements_of (text ∷ []) ≡ entry_claims entry ∷ [] = rw reading.0 refl in
      record {
        fits = below_more _ _ read.fits here;
        same = ap texts_in pushed ∙ map-append entry_text entries (entry ∷ []) ∙ ap₂ (λ xs x. xs ++ x ∷ []) read.same reading.1 ∙ sym longer;
        statements = ap claims_in pushed ∙ map-append entry_claims entries (entry ∷ []) ∙ ap₂ (λ xs ys. xs ++ ys) read.statements (sym one)
            ∙ sym (filter_map-append statement_of (take j texts) (text ∷ [])) ∙ sym (ap statements_of longer);
        split = subst (All IsSplit) (sym pushed) (All-push IsSplit entries entry read.split reading.2);
      }

  -- it reads as no statement, or it is one too many
  pub LosesForm-unread : statement_of text ≡ None → ReadUpTo texts entries j → LosesForm texts j
  LosesForm-unread none read = record {
    within = omega arith;
    before = read.fits;
    here = λ (at : ReadsAt texts j).
        let same : text ≡ at.text = cc (sym there ∙ at.there) in
        let bad : is_some (statement_of text) ≡ true = ap (λ t. is_some (statement_of t)) same ∙ at.reads in
        cc (bad, none);
  }

  pub LosesForm-long : max_statements ≤ j → ReadUpTo texts entries j → LosesForm texts j
  LosesForm-long far read = record { within = omega arith; before = read.fits; here = λ (at : ReadsAt texts j). absurd (omega (arith, far, at.near)) }

pub LosesForm-empty : (texts : Texts) → texts ≡ [] → LosesForm texts 0
LosesForm-empty texts none = record {
  within = omega arith;
  before = λ j below. absurd (omega arith);
  here = λ (at : ReadsAt texts 0). let bad : slice_get [] 0 ≡ Some at.text = ap (λ t. slice_get t 0) (sym none) ∙ at.there in cc bad;
}

-- all are read
pub AreRead-all : (texts : Texts) (entries : List SignedStatement) (j : ℕ) → 0 < length texts → length texts ≤ j → ReadUpTo texts entries j → AreRead texts entries
AreRead-all texts entries j some all read =
    let whole = take_all j texts all in
    record {
      form = λ i below. read.fits i (omega arith);
      same = read.same ∙ whole;
      statements = read.statements ∙ ap statements_of whole;
      split = read.split;
    }

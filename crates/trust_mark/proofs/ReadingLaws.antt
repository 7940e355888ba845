-- What the reading of a text says of its parts.
use Rattle.std.proofs.Common.{◌≡◌, ℕ, List, Option, Some, None, Result, Ok, Err, IfOk, sym, ap, ◌∙◌, subst}
use Rattle.std.specs.Option.{option_and_then}
use Rattle.std.specs.Result.{result_ok}
use Rattle.fed_base.specs.declared.faults.Memory.{Memory as NoMemory}
use Rattle.jws_form.specs.Compact.{IsCompact}
use Rattle.jws_form.specs.Splitting.{splitting}
use Rattle.jws_form.specs.declared.compact.Compact.{Compact}
use Rattle.trust_mark.specs.Claims.{Gives}
use Rattle.trust_mark.specs.Signed.{IsReading}
use Rattle.trust_mark.specs.Stages.{Keeps}
use Rattle.trust_mark.specs.declared.fault.MarkFault.{MarkFault}
use Rattle.trust_mark.specs.declared.fault.MarkFault.TheVariants.{Typ, Tree, Missing, Shape, Memory}
use Rattle.trust_mark.specs.declared.signed.Signed.{Signed}

-- the text is one, and its parts are those that were kept
pub read-some : {X : Type 0} (of : List ℕ → Option X) (text slice : List ℕ) (o : Option (Signed X)) (s : Signed X) → slice ≡ text → o ≡ Some s → IsReading of slice o
    → IsReading of text (Some s)
read-some of text slice o s same is reading = subst (λ x. IsReading of x (Some s)) same (subst (IsReading of slice) is reading)

-- the text is none
pub read-none : {X : Type 0} (of : List ℕ → Option X) (text slice : List ℕ) (o : Option (Signed X)) → slice ≡ text → o ≡ None → IsReading of slice o → of text ≡ None
read-none of text slice o same is reading = let read = subst (IsReading of slice) is reading in ap of (sym same) ∙ read

-- what was read and kept is what the text reads as
module _ {X : Type 0} (says : Compact → Result X MarkFault) (text : List ℕ) (c : Compact) (splits : Some c ≡ result_ok (splitting text)) (compact : IsCompact text c) where
  abbrev reading : List ℕ → Option X
  reading x = option_and_then (λ parts. result_ok (says parts)) (result_ok (splitting x))

  is_said : (r : Result X MarkFault) → says c ≡ r → reading text ≡ result_ok r
  is_said r is = ap (option_and_then (λ parts. result_ok (says parts))) (sym splits) ∙ ap result_ok is

  unread : (fault : MarkFault) (kept : Result (Option (Signed X)) NoMemory) → says c ≡ Err fault → kept ≡ Ok None → IfOk kept (IsReading reading text)
  unread fault kept is keeps = subst (λ k. IfOk k (IsReading reading text)) (sym keeps) (is_said (Err fault) is)

  pub kept-reading : (read : Result X MarkFault) (kept : Result (Option (Signed X)) NoMemory) → Gives read (says c) → Keeps c read kept → IfOk kept (IsReading reading text)
  kept-reading (Ok claims) kept is keeps =
      subst (λ k. IfOk k (IsReading reading text)) (sym keeps) (is_said (Ok claims) is, compact.whole_is, subst (λ x. IsCompact x c) (sym compact.whole_is) compact)
  kept-reading (Err Memory) kept is keeps = subst (λ k. IfOk k (IsReading reading text)) (sym keeps) tt
  kept-reading (Err Typ) kept is keeps = unread Typ kept is keeps
  kept-reading (Err Tree) kept is keeps = unread Tree kept is keeps
  kept-reading (Err (Missing name)) kept is keeps = unread (Missing name) kept is keeps
  kept-reading (Err (Shape name)) kept is keeps = unread (Shape name) kept is keeps

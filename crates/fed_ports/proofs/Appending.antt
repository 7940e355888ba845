-- What is given to a sink adds up.
use Rattle.std.proofs.Common.{◌≡◌, ℕ, ◌+◌, List, [], ◌++◌, take, drop, Option, Some, None, refl, sym, ap, ◌∙◌, subst, append_assoc, append-nil}
use Rattle.std.proofs.Math.Seq.{take-add}
use Rattle.fed_ports.specs.Bytes.{Appends}

pub appends_none : (a : Option (List ℕ)) → Appends a a []
appends_none None = refl
appends_none (Some held) = ap Some (sym (append-nil held))

pub appends_on : (a b c : Option (List ℕ)) (bytes piece : List ℕ) (at n : ℕ) → piece ≡ drop at bytes → Appends a b (take at bytes) → Appends b c (take n piece) → Appends a c (take (at + n) bytes)
appends_on None b c bytes piece at n is p q = subst (λ o. Appends o c (take n piece)) p q
appends_on (Some held) b c bytes piece at n is p q =
    subst (λ o. Appends o c (take n piece)) p q
    ∙ ap Some (append_assoc held (take at bytes) (take n piece) ∙ ap (λ y. held ++ y) (sym (take-add at n bytes ∙ ap (λ y. take at bytes ++ take n y) (sym is))))

-- A file that is kept of a ring opens.
use Rattle.std.proofs.Common.{◌≡◌, ◌⊎◌, inl, inr, ⊎_elim, ℕ, List, Some, Ok, Err, sym, ◌∙◌, subst}
use Rattle.fed_base.specs.declared.faults.Failed.{Failed}
use Rattle.fed_ports.specs.Stores.{Files, Keeps}
use Rattle.key_ring.specs.Files.{ring_text}
use Rattle.key_ring.specs.Keeping.{IsChanged, IsTorn, IsUntouched, OpensAs, Standing}
use Rattle.key_ring.specs.Rings.{Ring}

pub made-opens : (ring changed : Ring) (before now : Standing) (name : List ℕ) → OpensAs before.files name ring → IsChanged before changed name now → OpensAs now.files name changed
made-opens ring changed before now name opens made =
    let kept = subst (λ files. Keeps {E = Failed} files now.files name (ring_text changed) (Ok tt)) opens.told made.files in
    record { all = kept.0; told = kept.1; text = ring_text changed; stands = kept.2.kept; opens = made.written.1 }

pub either-opens : (ring changed : Ring) (before now : Standing) (name : List ℕ) → OpensAs before.files name ring → IsTorn before changed name now
    → OpensAs now.files name ring ⊎ OpensAs now.files name changed
either-opens ring changed before now name opens torn =
    let kept = subst (λ files. Keeps files now.files name (ring_text changed) (Err torn.fault)) opens.told torn.files in
    ⊎_elim (λ old. inl (record { all = kept.0; told = kept.1; text = opens.text; stands = old ∙ opens.stands; opens = opens.opens }))
    (λ new. inr (record { all = kept.0; told = kept.1; text = ring_text changed; stands = new; opens = torn.written.1 })) kept.2.torn

pub same-opens : (ring : Ring) (before now : Standing) (name : List ℕ) → OpensAs before.files name ring → IsUntouched before now → OpensAs now.files name ring
same-opens ring before now name opens same = subst (λ files. OpensAs files name ring) (sym same.files) opens

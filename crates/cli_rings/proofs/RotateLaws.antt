-- What a call on a ring answers gives the reply of the change.
use Rattle.std.proofs.Common.{◌≡◌, ℕ, List, [], ◌∷◌, ◌++◌, Some, sym, ap, ◌∙◌, subst}
use Rattle.std.specs.Prelude.{Option, None, Result, Ok, Err, IfOk}
use Rattle.fed_base.specs.declared.faults.Failed.{Failed}
use Rattle.fed_ports.specs.Stores.{Files, Keeps}
use Rattle.key_ring.specs.Changes.{Answers, Change, after, fault_of}
use Rattle.key_ring.specs.Files.{ring_text}
use Rattle.key_ring.specs.Rings.{Ring}
use Rattle.key_ring.specs.declared.fault.RingFault.{RingFault}
use Rattle.key_ring.specs.declared.fault.RingFault.TheVariants.{Shape, Known, Unknown, Order, StoreFault, Memory}
use Rattle.cli_rings.specs.Rotations.{IsRefusedAs, by_fault, change_reply}
use Rattle.cli_rings.specs.declared.reply.Reply.{Reply}

-- a change that was refused
pub refused_change : (X : Type 0) (ring : Ring) (change : Change) (line : List ℕ) (fault : RingFault) (reply : Reply) → Answers {X = X} ring change (Err fault) → IsRefusedAs fault reply
    → reply ≡ change_reply ring change line
unfolding change_reply
refused_change X ring change line Shape reply answer is = absurd is
refused_change X ring change line (Known kid) reply answer is = is ∙ sym (ap (λ f. by_fault f (after ring change) line) answer)
refused_change X ring change line (Unknown kid) reply answer is = is ∙ sym (ap (λ f. by_fault f (after ring change) line) answer)
refused_change X ring change line (Order fault) reply answer is = is ∙ sym (ap (λ f. by_fault f (after ring change) line) answer)
refused_change X ring change line StoreFault reply answer is = absurd is
refused_change X ring change line Memory reply answer is = absurd is

pub change_refused : {E : Type 0} (X : Type 0) (result : Result Reply E) (ring : Ring) (change : Change) (line : List ℕ) (fault : RingFault) → Answers {X = X} ring change (Err fault)
    → IfOk result (IsRefusedAs fault) → IfOk result (λ reply. reply ≡ change_reply ring change line)
change_refused X (Ok reply) ring change line fault answer is = refused_change X ring change line fault reply answer is
change_refused X (Err e) ring change line fault answer is = tt

-- what was kept in a store of one file is read there
kept_file : (old new : Files) (name bytes : List ℕ) → Keeps {E = Failed} (Some old) (Some new) name bytes (Ok tt) → new name ≡ Some bytes
kept_file old new name bytes (files, same, kept) = let is : new ≡ files = cc same in subst (λ f. f name ≡ Some bytes) (sym is) kept.kept

-- a change that was made over a store with the one name of no letters
pub change_made : {E : Type 0} (result : Result Reply E) (ring : Ring) (change : Change) (line told : List ℕ) (old new : Files) (name : List ℕ) (file : Option (List ℕ))
    → fault_of ring change ≡ None → Keeps {E = Failed} (Some old) (Some new) name (ring_text (after ring change)) (Ok tt) → name ≡ [] → file ≡ new [] → told ≡ line
    → IfOk result (λ reply. (bytes : List ℕ) → file ≡ Some bytes → reply ≡ record { status = 0; text = told ++ 10 ∷ []; kept = Some bytes })
    → IfOk result (λ reply. reply ≡ change_reply ring change line)
unfolding change_reply
change_made (Ok reply) ring change line told old new name file answer keeps unnamed found same is =
    let text = ring_text (after ring change) in
    let there : file ≡ Some text = found ∙ (ap new (sym unnamed) ∙ kept_file old new name text keeps) in
    is text there ∙ (ap (λ l. by_fault None (after ring change) l) same ∙ sym (ap (λ f. by_fault f (after ring change) line) answer))
change_made (Err e) ring change line told old new name file answer keeps unnamed found same is = tt

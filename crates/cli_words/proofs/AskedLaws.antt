-- What the words behind `check-reply` ask for, option by option.
use Rattle.std.proofs.Common.{◌≡◌, ℕ, List, codes, Option, Some, ap}
use Rattle.entity_id.specs.Identifiers.{identifier_of}
use Rattle.cli_words.specs.Inspections.{asked_in}
use Rattle.cli_words.specs.Options.{option_in, moment_in}
use Rattle.cli_words.specs.declared.inspection.ReplyAsked.{ReplyAsked}

pub asked-is : (words : List (List ℕ)) (keys anchor_keys given anchor : List ℕ) (at : Option ℕ) → option_in (codes "--keys") words ≡ Some keys → option_in (codes "--anchor-keys") words ≡ Some anchor_keys → option_in (codes "--anchor") words ≡ Some given
    → identifier_of given ≡ Some anchor → at ≡ moment_in (codes "--at") words → Some (record { keys_file = keys; anchor = anchor; anchor_keys_file = anchor_keys; at = at }) ≡ asked_in words
unfolding asked_in
asked-is words keys anchor_keys given anchor at e f g h moment = rw (e, f, g, h) (ap (λ t. Some (record { keys_file = keys; anchor = anchor; anchor_keys_file = anchor_keys; at = t })) moment)

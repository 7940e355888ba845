-- What a link gave, in one call and in calls one after the other.
use Rattle.std.proofs.Common.{◌≡◌, ℕ, List, [], ◌∷◌, ◌++◌, Err, refl, sym, ap, ◌∙◌, subst, inl, inr, append-nil, append_assoc}
use Rattle.fed_ports.specs.declared.link.LinkFault.TheVariants.{Memory}
use Rattle.resolve_round.specs.declared.trace.Ask.{Ask}
use Rattle.resolve_round.specs.Walking.{GaveEach, GaveGot, Giving, Stumbled, Walked}

-- no call
pub walked-none : {L : Type 0} → (gave : Giving L) → (old new : L) (before after : List Ask) → new ≡ old → after ≡ before → Walked gave old new before after
walked-none gave old new before after still same = record { more = []; are = same ∙ sym (append-nil before); gave_each = still }

-- one ask
pub walked-one : {L : Type 0} → (gave : Giving L) → (old new : L) (before after : List Ask) (ask : Ask)
    → after ≡ before ++ ask ∷ [] → GaveGot gave ask.url ask.got old new → Walked gave old new before after
walked-one gave old new before after ask are given = record { more = ask ∷ []; are = are; gave_each = (new, given, refl) }

each-then : {L : Type 0} → (gave : Giving L) → (first rest : List Ask) (old mid new : L) → GaveEach gave first old mid → GaveEach gave rest mid new → GaveEach gave (first ++ rest) old new
each-then gave [] rest old mid new still later = subst (λ m. GaveEach gave rest m new) still later
each-then gave (ask ∷ first) rest old mid new given later = (given.0, given.1, each-then gave first rest given.0 mid new given.2 later)

-- calls, and then calls
pub walked-then : {L : Type 0} → (gave : Giving L) → (old mid new : L) (before between after : List Ask)
    → Walked gave old mid before between → Walked gave mid new between after → Walked gave old new before after
walked-then gave old mid new before between after first later = record {
  more = first.more ++ later.more;
  are = later.are ∙ ap (λ l. l ++ later.more) first.are ∙ append_assoc before first.more later.more;
  gave_each = each-then gave first.more later.more old mid new first.gave_each later.gave_each;
}

-- calls, and then calls of which memory was wanting for the last, at most
pub stumbled-then : {L : Type 0} → (gave : Giving L) → (old mid new : L) (before between after : List Ask)
    → Walked gave old mid before between → Stumbled gave mid new between after → Stumbled gave old new before after
stumbled-then gave old mid new before between after first later = record {
  at = later.at;
  walked = walked-then gave old mid later.at before between after first later.walked;
  last = later.last;
}

-- no call more
pub stumbled-still : {L : Type 0} → (gave : Giving L) → (old new : L) (before after : List Ask) → Walked gave old new before after → Stumbled gave old new before after
stumbled-still gave old new before after walked = record { at = new; walked = walked; last = inl refl }

-- one call, for which memory was wanting
pub stumbled-one : {L : Type 0} → (gave : Giving L) → (old new : L) (before after : List Ask) (url : List ℕ) → after ≡ before → gave old new url (Err Memory)
    → Stumbled gave old new before after
stumbled-one gave old new before after url same given = record { at = old; walked = walked-none gave old old before after refl same; last = inr (url, given) }

-- What a call does in stretches, one after the other.
use Rattle.std.proofs.Common.{◌≡◌, ◌≤◌, ◌<◌, ◌+◌, ◌⊎◌, ℕ, zero, suc, List, [], ◌∷◌, ◌++◌, Result, Ok, Err, refl, sym, ap, ◌∙◌, subst, inl, inr, ⊎_elim, append-nil, append_assoc, arith}
use Rattle.std.proofs.lemmas.List.Concat.{flat_map-append}
use Rattle.std.proofs.lemmas.List.Sums.{sum_by-append, sum_by-cons}
use Rattle.turn_log.specs.Groups.{known}
use Rattle.chain_climb.proofs.Elements.{among-split}
use Rattle.statement_shelf.specs.Passes.{CommonsKnown}
use Rattle.resolve_round.specs.declared.trace.Ask.{Ask}
use Rattle.resolve_round.specs.declared.trace.Search.{Search}
use Rattle.resolve_round.specs.declared.trace.Trace.{Trace}
use Rattle.resolve_round.specs.Told.{IsTrueSoFar}
use Rattle.resolve_round.specs.Traces.{asks_in}
use Rattle.resolve_round.specs.declared.halt.Halt.{Halt}
use Rattle.resolve_round.specs.declared.halt.Halt.TheVariants as halt
use Rattle.resolve_round.specs.Acts.{Continues, IsKept}
use Rattle.resolve_round.specs.Linking.{FetchesOf, LinkSeen, LinkView, UsesLink, seen_by}
use Rattle.resolve_round.specs.declared.call.Call.{Call}
use Rattle.resolve_round.specs.Calls.{Acted, Acts, HasPass}
use Rattle.resolve_search.specs.Turning.{RoundUsed, SameBut, TriesOnce, UsesLinkOnce, blank}
use Rattle.resolve_round.specs.Walking.{GaveEach, Giving, Stumbled, StumblesOnce, Walked, WalkedRound}
use Rattle.resolve_round.proofs.ActsLaws.{continues-none, continues-then}
use Rattle.resolve_round.proofs.LinkLaws.{counted-lower, counted-then}
use Rattle.resolve_round.proofs.PassLaws.{kept-then}
use Rattle.resolve_round.proofs.WalkLaws.{stumbled-then, walked-then}
use Rattle.resolve_round.proofs.CallLaws.{acted-none, parts-then as same-then}
use Rattle.fed_resolver.specs.Stretches.{Goes, GoesFor, GoesTo, KeepsParts, Moment, SameKeys, StumbledRounds, UsesRounds, WalkedRounds, WalksFor, moment_at, moment_of}
use Rattle.fed_resolver.specs.Uses.{calls_made, calls_of, faults_met, faults_of}
use Rattle.fed_base.specs.Counts.{counted}

-- ---- the link

pub rounds-none : (seen : LinkSeen) (old new : List Search) → new ≡ old → UsesRounds 0 seen seen old new
rounds-none seen old new same = record {
  more = [];
  are = same ∙ sym (append-nil old);
  called = refl;
  later = omega arith;
  failed = omega arith;
  shown = λ less. absurd (omega (arith, less));
  web = refl;
  fetched = λ search among. absurd among;
}

round-added : (extra : ℕ) (seen now : LinkSeen) (search : Search) (old new : List Search) → new ≡ old ++ search ∷ [] → UsesLink extra seen now (blank []) search → UsesRounds extra seen now old new
round-added extra seen now search old new added uses =
    let calls : calls_made (search ∷ []) ≡ uses.calls = let p = uses.calls_are in let q = sum_by-cons calls_of search [] in omega (arith, p, q) in
    let faults : faults_met (search ∷ []) ≡ uses.faults = let p = uses.faults_are in let q = sum_by-cons faults_of search [] in omega (arith, p, q) in
    record {
      more = search ∷ [];
      are = added;
      called = uses.called ∙ ap (λ n. counted (n + extra) seen.calls) (sym calls);
      later = uses.later;
      failed = subst (λ n. counted n seen.faults ≤ now.faults) (sym faults) uses.failed;
      shown = λ less. subst (λ n. 0 < n) (sym faults) (uses.shown less);
      web = uses.web;
      fetched = λ s among. ⊎_elim (λ same. subst (FetchesOf seen.web) (sym same) (uses.fetched (λ url page none. absurd none))) (λ none. absurd none) among;
    }

pub round-uses : (seen now : LinkSeen) (old new : Trace) → UsesLinkOnce 0 seen now old new → UsesRounds 0 seen now old.searches new.searches
round-uses seen now old new once =
    ⊎_elim (λ same. subst (λ n. UsesRounds 0 seen n old.searches new.searches) (sym (once.none same)) (rounds-none seen old.searches new.searches same))
    (λ added. round-added 0 seen now once.search old.searches new.searches added once.used) once.added

round-once : (seen now : LinkSeen) (old new : Trace) → UsesLinkOnce 1 seen now old new → UsesRounds 0 seen now old.searches new.searches ⊎ UsesRounds 1 seen now old.searches new.searches
round-once seen now old new once =
    ⊎_elim (λ same. inl (subst (λ n. UsesRounds 0 seen n old.searches new.searches) (sym (once.none same)) (rounds-none seen old.searches new.searches same)))
    (λ added. inr (round-added 1 seen now once.search old.searches new.searches added once.used)) once.added

compare : (b c : ℕ) → (b < c) ⊎ (c ≤ b)
compare zero zero = inr (omega arith)
compare zero (suc c) = inl (omega arith)
compare (suc b) zero = inr (omega arith)
compare (suc b) (suc c) = ⊎_elim (λ l. inl (omega (arith, l))) (λ r. inr (omega (arith, r))) (compare b c)

some-more : (m n a b c : ℕ) → a < c → (a < b → 0 < m) → (b < c → 0 < n) → 0 < m + n
some-more m n a b c less first later =
    ⊎_elim (λ l. let more = later l in omega (arith, more))
    (λ r. let ahead : a < b = omega (arith, less, r) in let more = first ahead in omega (arith, more))
    (compare b c)

pub rounds-then : (extra : ℕ) (a b c : LinkSeen) (first mid last : List Search) → UsesRounds 0 a b first mid → UsesRounds extra b c mid last → UsesRounds extra a c first last
rounds-then extra a b c first mid last one two =
    let calls : calls_made (one.more ++ two.more) ≡ calls_made one.more + calls_made two.more = sum_by-append calls_of one.more two.more in
    let faults : faults_met (one.more ++ two.more) ≡ faults_met one.more + faults_met two.more = sum_by-append faults_of one.more two.more in
    record {
      more = one.more ++ two.more;
      are = two.are ∙ ap (λ l. l ++ two.more) one.are ∙ append_assoc first one.more two.more;
      called = two.called ∙ ap (counted (calls_made two.more + extra)) one.called
          ∙ sym (counted-then (calls_made one.more + 0) (calls_made two.more + extra) (calls_made (one.more ++ two.more) + extra) a.calls (omega (arith, calls)));
      later = let p = one.later in let q = two.later in omega (arith, p, q);
      failed =
          let p = counted-lower (faults_met two.more) (counted (faults_met one.more) a.faults) b.faults one.failed in
          let q = two.failed in
          let e = counted-then (faults_met one.more) (faults_met two.more) (faults_met (one.more ++ two.more)) a.faults faults in
          omega (arith, p, q, e);
      shown = λ less. subst (λ n. 0 < n) (sym faults) (some-more (faults_met one.more) (faults_met two.more) a.faults b.faults c.faults less one.shown two.shown);
      web = two.web ∙ one.web;
      fetched = λ search among.
          ⊎_elim (λ front. one.fetched search front) (λ back. subst (λ w. FetchesOf w search) one.web (two.fetched search back)) (among-split search one.more two.more among);
    }

-- ---- stretches

keys-then : (a b c : Trace) → SameKeys a b → SameKeys b c → SameKeys a c
keys-then a b c one two = record { moment = two.moment ∙ one.moment; epoch = two.epoch ∙ one.epoch; keys = two.keys ∙ one.keys; bounds = two.bounds ∙ one.bounds }

-- nothing is done
pub goes-still : (age : ℕ) (m : Moment) → IsTrueSoFar age m.trace → Goes age 0 m m
goes-still age m told = record {
  call = record { moment = refl; epoch = refl; keys = refl; bounds = refl };
  told = told;
  continues = continues-none m.trace.events m.known;
  used = rounds-none m.link m.trace.searches m.trace.searches refl;
}

pub goes-then : (age extra : ℕ) (a b c : Moment) → Goes age 0 a b → Goes age extra b c → Goes age extra a c
goes-then age extra a b c one two = record {
  call = keys-then a.trace b.trace c.trace one.call two.call;
  told = two.told;
  continues = continues-then a.trace.events b.trace.events c.trace.events a.known b.known c.known one.continues two.continues;
  used = rounds-then extra a.link b.link c.link a.trace.searches b.trace.searches c.trace.searches one.used two.used;
}

-- a stretch after which a call broke off
pub goes-to : (age : ℕ) (a b : Moment) (h : Halt) → Goes age 0 a b → GoesTo age a b h
goes-to age a b (halt.Worn count) one = one
goes-to age a b halt.Memory one = inl one

-- and one in which it did, after another
pub goes-on_to : (age : ℕ) (a b c : Moment) (h : Halt) → Goes age 0 a b → GoesTo age b c h → GoesTo age a c h
goes-on_to age a b c (halt.Worn count) one two = goes-then age 0 a b c one two
goes-on_to age a b c halt.Memory one (inl two) = inl (goes-then age 0 a b c one two)
goes-on_to age a b c halt.Memory one (inr two) = inr (goes-then age 1 a b c one two)

-- one round
module _ (age : ℕ) (old new : Trace) (before after : CommonsKnown) (seen now : LinkSeen) (same : SameBut old new) (told : IsTrueSoFar age new) (continues : Continues old.events new.events before after) where
  goes-by : (extra : ℕ) → UsesRounds extra seen now old.searches new.searches → Goes age extra (moment_at old before seen) (moment_at new after now)
  goes-by extra used = record { call = record { moment = same.moment; epoch = same.epoch; keys = same.keys; bounds = same.bounds }; told = told; continues = continues; used = used }

  pub goes-round : UsesLinkOnce 0 seen now old new → Goes age 0 (moment_at old before seen) (moment_at new after now)
  goes-round once = goes-by 0 (round-uses seen now old new once)

  pub goes-halted : (cause : Halt) → TriesOnce seen now old new cause → GoesTo age (moment_at old before seen) (moment_at new after now) cause
  goes-halted (halt.Worn count) once = goes-round once
  goes-halted halt.Memory (inl once) = inl (goes-round once)
  goes-halted halt.Memory (inr once) = ⊎_elim (λ u. inl (goes-by 0 u)) (λ u. inr (goes-by 1 u)) (round-once seen now old new once)

-- ---- what the link gave

module _ {L : Type 0} (gave : Giving L) where
  walked-after : (xs ys : List Ask) (old new : L) → Walked gave old new [] ys → Walked gave old new xs (xs ++ ys)
  walked-after xs ys old new walked = record { more = walked.more; are = ap (λ l. xs ++ l) walked.are; gave_each = walked.gave_each }

  stumbled-after : (xs ys : List Ask) (old new : L) → Stumbled gave old new [] ys → Stumbled gave old new xs (xs ++ ys)
  stumbled-after xs ys old new stumbled = record { at = stumbled.at; walked = walked-after xs ys old stumbled.at stumbled.walked; last = stumbled.last }

  walk-of : (old new : L) (before after : Trace) (walked : WalkedRounds gave old new before after) → Walked gave old new [] (asks_in walked.more)
  walk-of old new before after walked = record { more = asks_in walked.more; are = refl; gave_each = walked.gave_each }

  together : (a b : List Search) → asks_in (a ++ b) ≡ asks_in a ++ asks_in b
  together a b = flat_map-append (λ (s : Search). s.asks) a b

  alone : (search : Search) → asks_in (search ∷ []) ≡ search.asks
  alone search = append-nil search.asks

  -- no round
  pub walked-still : (l : L) (t : Trace) → WalkedRounds gave l l t t
  walked-still l t = record { more = []; are = sym (append-nil t.searches); gave_each = refl }

  pub stumbled-still : (l : L) (t : Trace) → StumbledRounds gave l l t t
  stumbled-still l t = record { more = []; are = sym (append-nil t.searches); stumbled = record { at = l; walked = record { more = []; are = refl; gave_each = refl }; last = inl refl } }

  -- one round
  pub walked-round : (old new : L) (before after : Trace) → WalkedRound gave old new before after → WalkedRounds gave old new before after
  walked-round old new before after walked = record {
    more = walked.search ∷ [];
    are = walked.added;
    gave_each = subst (λ l. GaveEach gave l old new) (sym (alone walked.search)) walked.gave_each;
  }

  pub stumbled-round : (old new : L) (before after : Trace) → StumblesOnce gave old new before after → StumbledRounds gave old new before after
  stumbled-round old new before after (inl (same, still)) = record {
    more = [];
    are = same ∙ sym (append-nil before.searches);
    stumbled = record { at = old; walked = record { more = []; are = refl; gave_each = refl }; last = inl still };
  }
  stumbled-round old new before after (inr round) = record {
    more = round.search ∷ [];
    are = round.added;
    stumbled = subst (Stumbled gave old new []) (sym (alone round.search)) round.stumbled;
  }

  more-then : (first mid last more later : List Search) → mid ≡ first ++ more → last ≡ mid ++ later → last ≡ first ++ (more ++ later)
  more-then first mid last more later one two = two ∙ ap (λ l. l ++ later) one ∙ append_assoc first more later

  -- rounds, and then rounds
  pub walks-then : (old mid new : L) (first between last : Trace) → WalkedRounds gave old mid first between → WalkedRounds gave mid new between last → WalkedRounds gave old new first last
  walks-then old mid new first between last one two =
      let both = walked-then gave old mid new [] (asks_in one.more) (asks_in one.more ++ asks_in two.more) (walk-of old mid first between one)
      (walked-after (asks_in one.more) (asks_in two.more) mid new (walk-of mid new between last two)) in
      record {
        more = one.more ++ two.more;
        are = more-then first.searches between.searches last.searches one.more two.more one.are two.are;
        gave_each = subst (λ l. GaveEach gave l old new) (sym both.are ∙ sym (together one.more two.more)) both.gave_each;
      }

  pub stumbles-then : (old mid new : L) (first between last : Trace) → WalkedRounds gave old mid first between → StumbledRounds gave mid new between last → StumbledRounds gave old new first last
  stumbles-then old mid new first between last one two = record {
    more = one.more ++ two.more;
    are = more-then first.searches between.searches last.searches one.more two.more one.are two.are;
    stumbled =
        subst (Stumbled gave old new []) (sym (together one.more two.more))
        (stumbled-then gave old mid new [] (asks_in one.more) (asks_in one.more ++ asks_in two.more) (walk-of old mid first between one)
        (stumbled-after (asks_in one.more) (asks_in two.more) mid new two.stumbled));
  }

  -- rounds, after which a call broke off
  pub stumbles-none : (old new : L) (before after : Trace) → WalkedRounds gave old new before after → StumbledRounds gave old new before after
  stumbles-none old new before after walked = record {
    more = walked.more;
    are = walked.are;
    stumbled = record { at = new; walked = walk-of old new before after walked; last = inl refl };
  }

-- ---- by the result

-- one round
module _ {L : Type 0} (view : LinkView L) where
  pub round-goes : {R G A : Type 0} → (old new : Call R G) (before after : L) (age : ℕ) (result : Result A Halt) → SameBut old.trace.now new.trace.now → IsTrueSoFar age new.trace.now → Acts old new result
      → RoundUsed view before after old.trace.now new.trace.now result → GoesFor age (moment_of view old before) (moment_of view new after) result
  round-goes old new before after age (Ok value) same told acts link =
      goes-round age old.trace.now new.trace.now (known old.pass.now) (known new.pass.now) (seen_by view before) (seen_by view after) same told acts.continues link.0
  round-goes old new before after age (Err cause) same told acts link =
      goes-halted age old.trace.now new.trace.now (known old.pass.now) (known new.pass.now) (seen_by view before) (seen_by view after) same told acts.0.continues cause link.0

  pub round-walks : {A : Type 0} → (old new : L) (before after : Trace) (result : Result A Halt) → RoundUsed view old new before after result → WalksFor view.gave old new before after result
  round-walks old new before after (Ok value) link = walked-round view.gave old new before after link.1
  round-walks old new before after (Err cause) link = stumbled-round view.gave old new before after link.1

-- a stretch, and then one that ended so
pub goes-for-then : {A : Type 0} → (age : ℕ) (a b c : Moment) (result : Result A Halt) → Goes age 0 a b → GoesFor age b c result → GoesFor age a c result
goes-for-then age a b c (Ok value) one two = goes-then age 0 a b c one two
goes-for-then age a b c (Err cause) one two = goes-on_to age a b c cause one two

pub walks-for-then : {L A : Type 0} → (gave : Giving L) (old mid new : L) (first between last : Trace) (result : Result A Halt) → WalkedRounds gave old mid first between → WalksFor gave mid new between last result
    → WalksFor gave old new first last result
walks-for-then gave old mid new first between last (Ok value) one two = walks-then gave old mid new first between last one two
walks-for-then gave old mid new first between last (Err cause) one two = stumbles-then gave old mid new first between last one two

-- ---- what stays of a call

pub parts-acted : {R G : Type 0} → (old new : Call R G) → Acted old new → KeepsParts old new
parts-acted old new acted = record { parts = acted.parts; kept = acted.kept }

pub parts-none : {R G : Type 0} → (call : Call R G) → HasPass call → KeepsParts call call
parts-none call of = parts-acted call call (acted-none call of)

pub parts-behind : {R G : Type 0} → (first mid last : Call R G) → KeepsParts mid last → KeepsParts first mid → KeepsParts first last
parts-behind first mid last two one = record {
  parts = same-then first mid last one.parts two.parts;
  kept =
      kept-then first.commons.now first.pass.now mid.pass.now last.pass.now one.kept
      (subst (λ commons. IsKept commons mid.pass.now last.pass.now) one.parts.commons two.kept);
}

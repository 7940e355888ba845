-- What calls on the book keep and change.
use Rattle.std.proofs.Common.{◌≡◌, ◌≤◌, ℕ, Bool, true, false, cond, List, [], ◌∷◌, ◌++◌, Option, Some, None, refl, sym, ap, ◌∙◌, subst, arith, le_trans, true≢false}
use Rattle.std.specs.Prelude.{bytes_eq, IsSome}
use Rattle.std.specs.Option.{option_or}
use Rattle.fed_json.proofs.Order.{bytes_eq-itself, equal-bytes_eq}
use Rattle.jwk_set.specs.declared.set.JwkSet.{JwkSet}
use Rattle.turn_log.specs.Runs.{Runs}
use Rattle.statement_shelf.specs.Book.{Book, BookStep, IsRotated, keys_of, opened_with, with_keys}
use Rattle.statement_shelf.specs.Laws.{rotated_by, last_rotated, standing_keys}
use Rattle.statement_shelf.specs.declared.calls.AnchorKeys.{AnchorKeys}
use Rattle.statement_shelf.specs.declared.calls.BookCall.{BookCall}
use Rattle.statement_shelf.specs.declared.calls.BookCall.TheVariants.{Read, Epoch, Rotate}
use Rattle.statement_shelf.specs.declared.calls.BookReply.{BookReply}
use Rattle.statement_shelf.specs.declared.calls.BookReply.TheVariants.{Keys, At, Rotated, Behind, NoAnchor, Memory}

-- a call changes nothing, or it is a rotation
by_step : (P : BookCall → BookReply → Book → Type 0) (old : Book) → ((call : BookCall) (reply : BookReply) → ((a : List ℕ) → rotated_by a call reply ≡ None) → P call reply old)
    → ((anchor : List ℕ) (from : ℕ) (keys : JwkSet) (n : ℕ) (new : Book) → IsRotated old anchor from keys n new → P (Rotate anchor from keys) (Rotated n) new)
    → (call : BookCall) (reply : BookReply) (new : Book) → BookStep old call reply new → P call reply new
by_step P old same rotated (Read a) (Keys n keys) new step = subst (P (Read a) (Keys n keys)) (sym step.2) (same (Read a) (Keys n keys) (λ u. refl))
by_step P old same rotated (Read a) (At n) new step = absurd step
by_step P old same rotated (Read a) (Rotated n) new step = absurd step
by_step P old same rotated (Read a) (Behind n) new step = absurd step
by_step P old same rotated (Read a) NoAnchor new step = subst (P (Read a) NoAnchor) (sym step.1) (same (Read a) NoAnchor (λ u. refl))
by_step P old same rotated (Read a) Memory new step = subst (P (Read a) Memory) (sym step) (same (Read a) Memory (λ u. refl))
by_step P old same rotated Epoch (Keys n keys) new step = absurd step
by_step P old same rotated Epoch (At n) new step = subst (P Epoch (At n)) (sym step.1) (same Epoch (At n) (λ u. refl))
by_step P old same rotated Epoch (Rotated n) new step = absurd step
by_step P old same rotated Epoch (Behind n) new step = absurd step
by_step P old same rotated Epoch NoAnchor new step = absurd step
by_step P old same rotated Epoch Memory new step = absurd step
by_step P old same rotated (Rotate a from keys) (Keys n other) new step = absurd step
by_step P old same rotated (Rotate a from keys) (At n) new step = absurd step
by_step P old same rotated (Rotate a from keys) (Rotated n) new step = rotated a from keys n new step
by_step P old same rotated (Rotate a from keys) (Behind n) new step = subst (P (Rotate a from keys) (Behind n)) (sym step.3) (same (Rotate a from keys) (Behind n) (λ u. refl))
by_step P old same rotated (Rotate a from keys) NoAnchor new step = subst (P (Rotate a from keys) NoAnchor) (sym step.1) (same (Rotate a from keys) NoAnchor (λ u. refl))
by_step P old same rotated (Rotate a from keys) Memory new step = subst (P (Rotate a from keys) Memory) (sym step) (same (Rotate a from keys) Memory (λ u. refl))

-- ---- epochs

step-rises : (old : Book) (call : BookCall) (reply : BookReply) (new : Book) → BookStep old call reply new → old.epoch ≤ new.epoch
step-rises old = by_step (λ call reply new. old.epoch ≤ new.epoch) old (λ call reply none. omega arith) (λ anchor from keys n new is. let e = ap (λ b. b.epoch) is.is in omega (arith, e))

pub epochs-rise : (calls : List (BookCall × BookReply)) (old new : Book) → Runs BookStep old calls new → old.epoch ≤ new.epoch
epochs-rise [] old new run = let e = ap (λ b. b.epoch) run in omega (arith, e)
epochs-rise (e ∷ es) old new run = le_trans (step-rises old e.0 e.1 run.0 run.1) (epochs-rise es run.0 new run.2)

-- ---- keys

once : {X : Type 0} (c : Bool) (k x q : X) → cond c k q ≡ cond c k (cond c x q)
once true k x q = refl
once false k x q = refl

swapped : {X : Type 0} (c d : Bool) (k x q : X) → (c ≡ true → d ≡ true → ⊥) → cond d x (cond c k q) ≡ cond c k (cond d x q)
swapped true true k x q apart = absurd (apart refl refl)
swapped true false k x q apart = refl
swapped false true k x q apart = refl
swapped false false k x q apart = refl

module _ (a anchor : List ℕ) (keys : JwkSet) where
  keys_by : (b : Bool) (x : AnchorKeys) (more : List AnchorKeys) → bytes_eq x.anchor anchor ≡ b → IsSome (cond b (Some x.keys) (keys_of anchor more))
      → (IsSome (keys_of anchor more) → keys_of a (with_keys anchor keys more) ≡ cond (bytes_eq anchor a) (Some keys) (keys_of a more))
      → keys_of a (cond b (record { anchor = anchor; keys = keys } ∷ more) (x ∷ with_keys anchor keys more)) ≡ cond (bytes_eq anchor a) (Some keys) (cond (bytes_eq x.anchor a) (Some x.keys) (keys_of a more))
  keys_by true x more same listed rest =
      subst (λ n. cond (bytes_eq anchor a) (Some keys) (keys_of a more) ≡ cond (bytes_eq anchor a) (Some keys) (cond (bytes_eq n a) (Some x.keys) (keys_of a more)))
      (sym (equal-bytes_eq x.anchor anchor same)) (once (bytes_eq anchor a) (Some keys) (Some x.keys) (keys_of a more))
  keys_by false x more same listed rest =
      ap (λ q. cond (bytes_eq x.anchor a) (Some x.keys) q) (rest listed)
      ∙ swapped (bytes_eq anchor a) (bytes_eq x.anchor a) (Some keys) (Some x.keys) (keys_of a more)
      (λ one two. true≢false (sym (subst (λ n. bytes_eq n anchor ≡ true) (equal-bytes_eq anchor a one ∙ sym (equal-bytes_eq x.anchor a two)) (bytes_eq-itself anchor)) ∙ same))

  -- after a rotation of an anchor, it has the new keys and the others have theirs
  pub keys_of-with_keys : (more : List AnchorKeys) → IsSome (keys_of anchor more) → keys_of a (with_keys anchor keys more) ≡ cond (bytes_eq anchor a) (Some keys) (keys_of a more)
  keys_of-with_keys [] listed = cc
  keys_of-with_keys (x ∷ more) listed = keys_by (bytes_eq x.anchor anchor) x more refl listed (keys_of-with_keys more)

or_cond : {X : Type 0} (b : Bool) (k : X) (q : Option X) → cond b (Some k) q ≡ option_or (cond b (Some k) None) q
or_cond true k q = refl
or_cond false k q = refl

step-keys : (a : List ℕ) (old : Book) (call : BookCall) (reply : BookReply) (new : Book) → BookStep old call reply new
    → keys_of a new.anchors ≡ option_or (rotated_by a call reply) (keys_of a old.anchors)
step-keys a old = by_step (λ call reply new. keys_of a new.anchors ≡ option_or (rotated_by a call reply) (keys_of a old.anchors)) old
    (λ call reply none. ap (λ o. option_or o (keys_of a old.anchors)) (sym (none a)))
    (λ anchor from keys n new is. ap (λ b. keys_of a b.anchors) is.is ∙ keys_of-with_keys a anchor keys old.anchors is.listed ∙ or_cond (bytes_eq anchor a) keys (keys_of a old.anchors))

or_assoc : {X : Type 0} (a b c : Option X) → option_or a (option_or b c) ≡ option_or (option_or a b) c
or_assoc None b c = refl
or_assoc (Some a) b c = refl

run-keys : (a : List ℕ) (calls : List (BookCall × BookReply)) (old new : Book) → Runs BookStep old calls new → keys_of a new.anchors ≡ option_or (last_rotated a calls) (keys_of a old.anchors)
run-keys a [] old new run = ap (λ b. keys_of a b.anchors) run
run-keys a (e ∷ es) old new run =
    run-keys a es run.0 new run.2 ∙ ap (λ o. option_or (last_rotated a es) o) (step-keys a old e.0 e.1 run.0 run.1)
    ∙ or_assoc (last_rotated a es) (rotated_by a e.0 e.1) (keys_of a old.anchors)

pub read-tells-last : (anchors : List AnchorKeys) (calls : List (BookCall × BookReply)) (book new : Book) (anchor : List ℕ) (epoch : ℕ) (keys : JwkSet) → Runs BookStep (opened_with anchors) calls book
    → BookStep book (Read anchor) (Keys epoch keys) new → standing_keys anchors anchor calls ≡ Some keys
read-tells-last anchors calls book new anchor epoch keys run step = sym (run-keys anchor calls (opened_with anchors) book run) ∙ step.0

-- ---- a Read after other calls

split_run : (seen rest : List (BookCall × BookReply)) (first last : Book) → Runs BookStep first (seen ++ rest) last → (mid : Book) × Runs BookStep first seen mid × Runs BookStep mid rest last
split_run [] rest first last run = (first, refl, run)
split_run (e ∷ es) rest first last run = let s = split_run es rest run.0 last run.2 in (s.0, (run.0, run.1, s.1), s.2)

pub read-is-as-new : (first last : Book) (seen more : List (BookCall × BookReply)) (anchor : List ℕ) (epoch : ℕ) (keys : JwkSet)
    → Runs BookStep first (seen ++ (more ++ (Read anchor, Keys epoch keys) ∷ [])) last → (book : Book) × Runs BookStep first seen book × (book.epoch ≤ epoch)
read-is-as-new first last seen more anchor epoch keys run =
    let known = split_run seen (more ++ (Read anchor, Keys epoch keys) ∷ []) first last run in
    let before = split_run more ((Read anchor, Keys epoch keys) ∷ []) known.0 last known.2 in
    let rose = epochs-rise more known.0 before.0 before.1 in
    let told = before.2.1.1 in
    (known.0, known.1, omega (arith, rose, told))

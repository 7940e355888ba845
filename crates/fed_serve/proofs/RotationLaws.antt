-- How other keys for a trust anchor were dealt with, by what the test of their text answered.
use Rattle.std.proofs.Common.{◌≡◌, ℕ, List, [], false, Result, Ok, Err, refl, cond, sym, subst}
use Rattle.fed_base.specs.Counts.{next_count}
use Rattle.fed_base.specs.declared.faults.Memory.{Memory}
use Rattle.http_messages.specs.declared.response.Response.{Response}
use Rattle.jwk_set.specs.declared.jwk.Jwk.{Jwk}
use Rattle.jws_form.specs.Compact.{IsCompact}
use Rattle.sealed.specs.Answers.{Decides, IsChecked, was_checked}
use Rattle.sealed.specs.Seals.{IsSealedBy, Pair}
use Rattle.sealed.specs.declared.fault.SealFault.{SealFault}
use Rattle.sealed.specs.declared.fault.SealFault.TheVariants.{NoKid, NoKey, BadSignature, Memory as WantOfMemory}
use Rattle.sealed.proofs.SealLaws.{tells-counted}
use Rattle.turn_log.proofs.Gains.{adds-none}
use Rattle.turn_log.specs.Groups.{AddsOnBook}
use Rattle.turn_log.specs.declared.worn.Worn.{Worn}
use Rattle.node_requests.specs.declared.change.AnchorChange.{AnchorChange}
use Rattle.statement_shelf.specs.Passes.{CommonsKnown}
use Rattle.fed_serve.specs.Rotations.{ChangesKeys, IsRotateAnswer, IsUnsealedAnswer, asked, rotation_at, stranger, untested, worn}

-- no call was made
book-none : (known : CommonsKnown) → AddsOnBook known [] known
book-none known = record { here = adds-none known.book; parts = λ p. refl }

module _ (control : List Jwk) (change : AnchorChange) (is : IsCompact change.body.whole change.body) (old new : CommonsKnown) (before now : ℕ) where
  -- the body is sealed by a control key
  pub sealed-answer : (answer : Result (Result Response Memory) Worn) → IsSealedBy change.body.whole control → now ≡ next_count before → ChangesKeys change old new answer
      → IsRotateAnswer control change (rotation_at old before) (rotation_at new now) answer
  sealed-answer (Ok made) seal count changes = record { dealing = asked changes.0; dealt = (seal, changes.1, count); answered = changes.2 }
  sealed-answer (Err w) seal count changes = record { dealing = worn; dealt = (seal, changes.0, changes.1, count); answered = changes.2 }

module _ (control : List Jwk) (change : AnchorChange) (is : IsCompact change.body.whole change.body) (known : CommonsKnown) (before now : ℕ) where
  -- it wasn't found to be
  pub unsealed-answer : (fault : SealFault) (made : Result Response Memory) → IsChecked change.body control (Err fault) → Decides {X = Pair} (Err fault) (IsSealedBy change.body.whole control)
      → now ≡ cond (was_checked {X = Pair} (Err fault)) (next_count before) before → IsUnsealedAnswer fault made
      → IsRotateAnswer control change (rotation_at known before) (rotation_at known now) (Ok made)
  unsealed-answer NoKid made checked fails count is-made = record { dealing = stranger; dealt = (fails, book-none known, tells-counted control change.body (Ok false) before now is (Err NoKid) refl checked count); answered = is-made }
  unsealed-answer NoKey made checked fails count is-made = record { dealing = stranger; dealt = (fails, book-none known, tells-counted control change.body (Ok false) before now is (Err NoKey) refl checked count); answered = is-made }
  unsealed-answer BadSignature made checked fails count is-made =
      record { dealing = stranger; dealt = (fails, book-none known, tells-counted control change.body (Ok false) before now is (Err BadSignature) refl checked count); answered = is-made }
  unsealed-answer WantOfMemory made checked fails count is-made = subst (λ m. IsRotateAnswer control change (rotation_at known before) (rotation_at known now) (Ok m)) (sym is-made) (record { dealing = untested; dealt = (book-none known, count); answered = tt })

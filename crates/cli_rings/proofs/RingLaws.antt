-- The ring of a file.
use Rattle.std.proofs.Common.{◌≡◌, ℕ, List, Some, None, refl, sym, ap, ◌∙◌, subst, arith}
use Rattle.std.specs.Prelude.{Option, Err}
use Rattle.key_ring.proofs.FileLaws.{one-ring}
use Rattle.key_ring.specs.Files.{Opens, repeated_in}
use Rattle.key_ring.specs.Rings.{Ring}
use Rattle.key_ring.specs.declared.fault.RingFault.{RingFault}
use Rattle.key_ring.specs.declared.fault.RingFault.TheVariants.{Shape, Known, Unknown, Order, StoreFault, Memory}
use Rattle.cli_rings.specs.RingFiles.{IsFileOf, IsOpened, IsRingFound}
use Rattle.cli_rings.specs.declared.ring_file.File.{File}
use Rattle.cli_rings.specs.declared.ring_file.File.TheVariants.{Absent, TooLong, Whole}

-- no ring is opened where another answer was given
pub unopened : (bytes : List ℕ) (fault : RingFault) → Opens bytes (Err fault) → (fault ≡ Memory → ⊥) → (ring : Ring) → ¬ IsOpened bytes ring
unopened bytes Shape opens other = λ ring opened. opens ring opened.0
unopened bytes (Known kid) (again, file, twice) other = λ ring opened.
    let same : None ≡ Some kid = sym opened.1 ∙ (ap repeated_in (one-ring bytes ring again opened.0 file) ∙ twice) in
    cc same
unopened bytes (Unknown kid) opens other = absurd opens
unopened bytes (Order fault) opens other = absurd opens
unopened bytes StoreFault opens other = absurd opens
unopened bytes Memory opens other = absurd (other refl)

-- what was looked at isn't a file that was read whole
pub not_whole : (file : File) (bytes : Option (List ℕ)) → ((read : List ℕ) → file ≡ Whole read → ⊥) → IsFileOf file bytes → IsRingFound bytes None
not_whole Absent bytes other is = subst (λ b. IsRingFound b None) (sym is) refl
not_whole TooLong bytes other (read, is, long) = subst (λ b. IsRingFound b None) (sym is) (λ ring short. absurd (omega (arith, long, short)))
not_whole (Whole read) bytes other is = absurd (other read refl)

-- a file that was read whole has the ring that was opened
pub opened_found : (file : File) (read : List ℕ) (bytes : Option (List ℕ)) (ring : Ring) → file ≡ Whole read → IsFileOf file bytes → IsOpened read ring → IsRingFound bytes (Some ring)
opened_found file read bytes ring whole is opened =
    let there : IsFileOf (Whole read) bytes = subst (λ f. IsFileOf f bytes) whole is in
    subst (λ b. IsRingFound b (Some ring)) (sym there.0) (there.1, opened)

-- or none
pub unopened_found : (file : File) (read : List ℕ) (bytes : Option (List ℕ)) (fault : RingFault) → file ≡ Whole read → IsFileOf file bytes → Opens read (Err fault) → (fault ≡ Memory → ⊥)
    → IsRingFound bytes None
unopened_found file read bytes fault whole is opens other =
    let there : IsFileOf (Whole read) bytes = subst (λ f. IsFileOf f bytes) whole is in
    subst (λ b. IsRingFound b None) (sym there.0) (λ ring short. unopened read fault opens other ring)

pub shape_found : (file : File) (read : List ℕ) (bytes : Option (List ℕ)) (fault : RingFault) → file ≡ Whole read → IsFileOf file bytes → Opens read (Err fault) → fault ≡ Shape → IsRingFound bytes None
shape_found file read bytes fault whole is opens shape =
    unopened_found file read bytes fault whole is opens (λ memory. let e : Shape ≡ Memory = sym shape ∙ memory in cc e)

pub known_found : (file : File) (read : List ℕ) (bytes : Option (List ℕ)) (fault : RingFault) (kid : List ℕ) → file ≡ Whole read → IsFileOf file bytes → Opens read (Err fault)
    → fault ≡ Known kid → IsRingFound bytes None
known_found file read bytes fault kid whole is opens known =
    unopened_found file read bytes fault whole is opens (λ memory. let e : Known kid ≡ Memory = sym known ∙ memory in cc e)

-- a file has one ring, or none
pub found_once : (file : Option (List ℕ)) (a b : Option Ring) → IsRingFound file a → IsRingFound file b → a ≡ b
found_once None a b p q = p ∙ sym q
found_once (Some bytes) (Some a) (Some b) (few, p) (few', q) = ap Some (one-ring bytes a b p.0 q.0)
found_once (Some bytes) (Some a) None (few, p) none = absurd (none a few p)
found_once (Some bytes) None (Some b) none (few, q) = absurd (none b few q)
found_once (Some bytes) None None none none' = refl

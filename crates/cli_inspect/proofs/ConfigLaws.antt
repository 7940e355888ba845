-- What is found of a configuration's file, and of a ring's.
use Rattle.std.proofs.Common.{◌≡◌, ℕ, List, [], length, cond, Option, None, Err, option_map, unwrap_or, lt-ltb, sym, ap, ◌∙◌, subst}
use Rattle.fed_json.specs.Reading.{tree_in}
use Rattle.fed_ports.specs.Stores.{file_limit}
use Rattle.key_ring.specs.Files.{Opens}
use Rattle.key_ring.specs.declared.fault.RingFault.{RingFault}
use Rattle.key_ring.specs.declared.fault.RingFault.TheVariants as fault
use Rattle.cli_rings.specs.RingFiles.{IsFileOf}
use Rattle.cli_rings.specs.declared.ring_file.File.{File}
use Rattle.cli_rings.specs.declared.ring_file.File.TheVariants.{Absent, TooLong, Whole}
use Rattle.config_warnings.specs.declared.source.ConfigText.{ConfigText}
use Rattle.fed_json.specs.declared.tree.Json.{Json}
use Rattle.cli_inspect.specs.Configs.{IsFoundIn, text_of_file, tree_of_file}
use Rattle.cli_inspect.specs.declared.rings.RingFound.TheVariants as found

-- ---- the text of a file

pub absent_text : (file : File) (bytes : Option (List ℕ)) → file ≡ Absent → IsFileOf file bytes → None ≡ text_of_file bytes
absent_text file bytes is there =
    let none : bytes ≡ None = subst (λ f. IsFileOf f bytes) is there in
    ap text_of_file (sym none)

pub long_text : (file : File) (bytes : Option (List ℕ)) → file ≡ TooLong → IsFileOf file bytes → None ≡ text_of_file bytes
long_text file bytes is there =
    let long : IsFileOf TooLong bytes = subst (λ f. IsFileOf f bytes) is there in
    let none : tree_of_file bytes ≡ None = ap tree_of_file long.1 ∙ ap (λ b. cond b None (tree_in long.0)) (lt-ltb file_limit (length long.0) long.2) in
    let with_text : Option Json → Option ConfigText = option_map (λ tree. record { text = unwrap_or bytes []; tree = tree }) in
    sym (ap with_text none)

-- ---- the ring of a file

pub found_shape : (file : File) (read : List ℕ) (bytes : Option (List ℕ)) (why : RingFault) → file ≡ Whole read → IsFileOf file bytes → Opens read (Err why) → why ≡ fault.Shape
    → IsFoundIn bytes found.Shape
found_shape file read bytes why is there opens shape = (read, subst (λ f. IsFileOf f bytes) is there, subst (λ e. Opens read (Err e)) shape opens)

pub found_known : (file : File) (read : List ℕ) (bytes : Option (List ℕ)) (why : RingFault) (kid : List ℕ) → file ≡ Whole read → IsFileOf file bytes → Opens read (Err why)
    → why ≡ fault.Known kid → IsFoundIn bytes found.Known
found_known file read bytes why kid is there opens known = (read, subst (λ f. IsFileOf f bytes) is there, (kid, subst (λ e. Opens read (Err e)) known opens))

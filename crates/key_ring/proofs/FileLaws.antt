-- A file is that of one ring.
use Rattle.std.proofs.Common.{◌≡◌, ℕ, List, [], ◌∷◌, Option, Some, None, Result, Ok, Err, IfOk, MatchOption, sym, ◌∙◌, subst}
use Rattle.std.specs.List.{AllByRecursion}
use Rattle.fed_json.specs.declared.tree.Json.{Json}
use Rattle.fed_json.specs.Reading.{tree_in}
use Rattle.key_ring.specs.declared.version.Version.TheVariants.{First, Second}
use Rattle.key_ring.specs.Changes.{Change, after}
use Rattle.key_ring.specs.Files.{IsFileIn, IsKeyIn, IsOldFile, IsRingFile, IsRingTree, IsTreeIn, IsWritten, ring_text, tree_of}
use Rattle.key_ring.specs.Keeping.{IsChanged, Migrates, Standing}
use Rattle.key_ring.specs.Rings.{IsRing, IsRingKey, Ring}
use Rattle.key_ring.proofs.FoundAgain.{not-both, one-tree}
use Rattle.key_ring.proofs.OpenLaws.{none-twice}

one : (a b : Json) → Some a ≡ Some b → a ≡ b
one a b e = cc e

-- the tree of a file is that of its ring
pub tree-is : (bytes : List ℕ) (tree : Json) (ring : Ring) → tree_in bytes ≡ Some tree → IsRingFile bytes ring → IsRingTree tree ring
tree-is bytes tree ring reads (version, (other, found, is)) = (version, subst (λ t. IsTreeIn version t ring) (one other tree (sym found ∙ reads)) is)

pub file-is : (bytes : List ℕ) (tree : Json) (ring : Ring) → tree_in bytes ≡ Some tree → IsRingTree tree ring → IsRingFile bytes ring
file-is bytes tree ring reads (version, is) = (version, (tree, reads, is))

-- what was read of a tree was read of its file
pub read-is : {E : Type 0} (r : Result (Option Ring) E) (bytes : List ℕ) (tree : Json) → tree_in bytes ≡ Some tree
    → IfOk r (λ read. MatchOption read ((ring : Ring) → ¬ IsRingTree tree ring) (IsRingTree tree)) → IfOk r (λ read. MatchOption read ((ring : Ring) → ¬ IsRingFile bytes ring) (IsRingFile bytes))
read-is (Ok None) bytes tree reads none = λ ring is. none ring (tree-is bytes tree ring reads is)
read-is (Ok (Some ring)) bytes tree reads is = file-is bytes tree ring reads is
read-is (Err e) bytes tree reads is = tt

-- the file of a ring of these keys opens as the ring
keys-told : (keys : Ring) → AllByRecursion IsRingKey keys → AllByRecursion (IsKeyIn Second) keys
keys-told [] all = tt
keys-told (key ∷ keys) all = (record { formed = all.0; told = tt }, keys-told keys all.1)

pub written-is : (text : List ℕ) (tree : Json) (keys : Ring) → IsRing keys → tree ≡ tree_of Second keys → tree_in text ≡ Some tree → IsWritten text keys
written-is text tree keys is same reads =
    let file : IsFileIn Second text keys = (tree, reads, record { is = same; keys = keys-told keys is.form.keys; form = is.form }) in
    (file, ((Second, file), none-twice keys is))

-- bytes that read as no tree are no file
pub no-tree : (bytes : List ℕ) → tree_in bytes ≡ None → (ring : Ring) → ¬ IsRingFile bytes ring
no-tree bytes none ring (version, (tree, found, is)) = let bad : ◌≡◌ {A = Option Json} None (Some tree) = sym none ∙ found in cc bad

-- a file is that of one ring, and of one version
pub one-ring : (bytes : List ℕ) (a b : Ring) → IsRingFile bytes a → IsRingFile bytes b → a ≡ b
one-ring bytes a b (version, (tree, reads, is)) second = one-tree tree a b (version, is) (tree-is bytes tree b reads second)

pub not-old : (bytes : List ℕ) (a b : Ring) → IsFileIn Second bytes a → ¬ IsFileIn First bytes b
not-old bytes a b (tree, reads, is) (other, found, old) = not-both tree b a (subst (λ t. IsTreeIn First t b) (one other tree (sym found ∙ reads)) old) is

-- the file that an accepted change keeps is of version 2
pub migrated : (bytes : List ℕ) (before now : Standing) (change : Change) (name : List ℕ) → IsOldFile bytes before.ring → IsChanged before (after before.ring change) name now
    → Migrates before change name now
migrated bytes before now change name old made =
    let changed = after before.ring change in
    let written = made.written in
    record { text = ring_text changed; files = made.files; opens = written.1; newer = λ ring. not-old (ring_text changed) changed ring written.0 }

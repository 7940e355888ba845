-- An inspection has one reply, where the files and the input are told.
use Rattle.std.proofs.Common.{◌≡◌, ◌≤◌, ◌<◌, ℕ, List, length, Bool, Option, Some, None, Result, Ok, Err, refl, sym, ap, ◌∙◌, subst, unwrap_or, arith}
use Rattle.std.specs.Prelude.{[]}
use Rattle.fed_ports.specs.Stores.{Files, IsFile, file_limit}
use Rattle.key_ring.specs.Files.{IsRingFile, Opens, repeated_in}
use Rattle.key_ring.specs.Rings.{Ring}
use Rattle.key_ring.specs.declared.fault.RingFault.TheVariants as fault
use Rattle.key_ring.proofs.FileLaws.{one-ring}
use Rattle.node_config.specs.Configurations.{configuration_in}
use Rattle.node_config.specs.Nodes.{Settings}
use Rattle.node_config.specs.declared.fault.ConfigFault.{ConfigFault}
use Rattle.node_config.specs.declared.fault.ConfigFault.TheVariants.{Shape, Memory}
use Rattle.cli_commands.specs.Answers.{MayBe, text_of}
use Rattle.cli_rings.specs.RingFiles.{IsRingFound}
use Rattle.cli_rings.specs.declared.reply.Reply.{Reply}
use Rattle.cli_rings.proofs.RingLaws.{found_once}
use Rattle.jwk_set.specs.declared.jwk.Jwk.{Jwk}
use Rattle.reply_check.proofs.VerdictLaws.{reply-one}
use Rattle.reply_check.specs.Verdicts.{Case, case_of}
use Rattle.cli_inspect.specs.Reports.{IsReport, report_of}
use Rattle.cli_words.specs.declared.inspection.Inspection.{Inspection}
use Rattle.cli_words.specs.declared.inspection.Inspection.TheVariants.{Public, Show, Config, Help, Reply as ReplyCheck}
use Rattle.cli_words.specs.declared.inspection.ReplyAsked.{ReplyAsked}
use Rattle.config_warnings.specs.declared.source.ConfigText.{ConfigText}
use Rattle.cli_inspect.specs.Configs.{IsConfigReply, IsFoundIn, IsSettingsReply, IsTextReply, found_reply, text_of_file}
use Rattle.cli_inspect.specs.Inspections.{AreTold, IsInspected, IsPublicReply, of_found}
use Rattle.cli_inspect.specs.ReplyChecks.{IsKeysOf, IsReplyReport, IsReportBy, IsTextReport, keys_of_file}
use Rattle.cli_inspect.specs.Shows.{IsShowReply, show_reply}
use Rattle.cli_inspect.specs.declared.checking.Checking.{Checking}
use Rattle.cli_inspect.specs.declared.rings.RingFound.{RingFound}
use Rattle.cli_inspect.specs.declared.rings.RingFound.TheVariants as found

-- ---- files

file_once : (files : Option Files) (name : List ℕ) (a b : Option (List ℕ)) → (told : Files) × (files ≡ Some told) → IsFile files name a → IsFile files name b → a ≡ b
file_once files name a b (told, same) first second =
    let one : IsFile (Some told) name a = subst (λ f. IsFile f name a) same first in
    let two : IsFile (Some told) name b = subst (λ f. IsFile f name b) same second in
    sym one ∙ two

same_bytes : (file : Option (List ℕ)) (a b : List ℕ) → file ≡ Some a → file ≡ Some b → a ≡ b
same_bytes file a b first second = ap (λ x. unwrap_or x []) (sym first ∙ second)

absent_not : (file : Option (List ℕ)) (bytes : List ℕ) → file ≡ None → file ≡ Some bytes → ⊥
absent_not file bytes none some = let clash : None ≡ Some bytes = sym none ∙ some in cc clash

long_not : (file : Option (List ℕ)) (a b : List ℕ) → file ≡ Some a → file_limit < length a → file ≡ Some b → length b ≤ file_limit → ⊥
long_not file a b first long second short = omega (arith, long, short, ap length (same_bytes file a b first second))

shape_not : (file : Option (List ℕ)) (a b : List ℕ) (ring : Ring) → file ≡ Some a → Opens a (Err fault.Shape) → file ≡ Some b → IsRingFile b ring → ⊥
shape_not file a b ring first shape second is = shape ring (subst (λ x. IsRingFile x ring) (same_bytes file b a second first) is)

same_ring : (file : Option (List ℕ)) (a b : List ℕ) (ring other : Ring) → file ≡ Some a → IsRingFile a ring → file ≡ Some b → IsRingFile b other → ring ≡ other
same_ring file a b ring other first is second is_other = one-ring b ring other (subst (λ x. IsRingFile x ring) (same_bytes file a b first second) is) is_other

known_not : (file : Option (List ℕ)) (a b kid : List ℕ) (ring other : Ring) → file ≡ Some a → IsRingFile a ring → repeated_in ring ≡ Some kid → file ≡ Some b → IsRingFile b other
    → repeated_in other ≡ None → ⊥
known_not file a b kid ring other first is twice second is_other none =
    let clash : None ≡ Some kid = sym none ∙ (ap repeated_in (sym (same_ring file a b ring other first is second is_other)) ∙ twice) in cc clash

-- a file is found in one way
ring_once : (file : Option (List ℕ)) (a b : RingFound) → IsFoundIn file a → IsFoundIn file b → a ≡ b
ring_once file found.Absent found.Absent p q = refl
ring_once file found.Absent found.TooLong p q = absurd (absent_not file q.0 p q.1)
ring_once file found.Absent found.Shape p q = absurd (absent_not file q.0 p q.1.0)
ring_once file found.Absent found.Known p q = absurd (absent_not file q.0 p q.1.0)
ring_once file found.Absent (found.Opened ring) p q = absurd (absent_not file q.0 p q.1.0)
ring_once file found.TooLong found.Absent p q = absurd (absent_not file p.0 q p.1)
ring_once file found.TooLong found.TooLong p q = refl
ring_once file found.TooLong found.Shape p q = absurd (long_not file p.0 q.0 p.1 p.2 q.1.0 q.1.1)
ring_once file found.TooLong found.Known p q = absurd (long_not file p.0 q.0 p.1 p.2 q.1.0 q.1.1)
ring_once file found.TooLong (found.Opened ring) p q = absurd (long_not file p.0 q.0 p.1 p.2 q.1.0 q.1.1)
ring_once file found.Shape found.Absent p q = absurd (absent_not file p.0 q p.1.0)
ring_once file found.Shape found.TooLong p q = absurd (long_not file q.0 p.0 q.1 q.2 p.1.0 p.1.1)
ring_once file found.Shape found.Shape p q = refl
ring_once file found.Shape found.Known p q = absurd (shape_not file p.0 q.0 q.2.1.0 p.1.0 p.2 q.1.0 q.2.1.1)
ring_once file found.Shape (found.Opened ring) p q = absurd (shape_not file p.0 q.0 ring p.1.0 p.2 q.1.0 q.2.0)
ring_once file found.Known found.Absent p q = absurd (absent_not file p.0 q p.1.0)
ring_once file found.Known found.TooLong p q = absurd (long_not file q.0 p.0 q.1 q.2 p.1.0 p.1.1)
ring_once file found.Known found.Shape p q = absurd (shape_not file q.0 p.0 p.2.1.0 q.1.0 q.2 p.1.0 p.2.1.1)
ring_once file found.Known found.Known p q = refl
ring_once file found.Known (found.Opened ring) p q = absurd (known_not file p.0 q.0 p.2.0 p.2.1.0 ring p.1.0 p.2.1.1 p.2.1.2 q.1.0 q.2.0 q.2.1)
ring_once file (found.Opened ring) found.Absent p q = absurd (absent_not file p.0 q p.1.0)
ring_once file (found.Opened ring) found.TooLong p q = absurd (long_not file q.0 p.0 q.1 q.2 p.1.0 p.1.1)
ring_once file (found.Opened ring) found.Shape p q = absurd (shape_not file q.0 p.0 ring q.1.0 q.2 p.1.0 p.2.0)
ring_once file (found.Opened ring) found.Known p q = absurd (known_not file q.0 p.0 q.2.0 q.2.1.0 ring q.1.0 q.2.1.1 q.2.1.2 p.1.0 p.2.0 p.2.1)
ring_once file (found.Opened ring) (found.Opened other) p q = ap found.Opened (same_ring file p.0 q.0 ring other p.1.0 p.2.0 q.1.0 q.2.0)

-- ---- configurations

settings_once : (files : Option Files) (checking : Checking) (source : ConfigText) (read : Result Settings ConfigFault) (r s : Reply) → (told : Files) × (files ≡ Some told)
    → IsSettingsReply files checking source read r → IsSettingsReply files checking source read s → r ≡ s
settings_once files checking source (Ok settings) r s told p q =
    let one = file_once files settings.ring p.bytes q.bytes told p.is_file q.is_file in
    let ring = ring_once q.bytes p.ring q.ring (subst (λ f. IsFoundIn f p.ring) one p.is_ring) q.is_ring in
    p.is_reply ∙ ap (found_reply checking source settings) ring ∙ sym q.is_reply
settings_once files checking source (Err (Shape member)) r s told p q = p ∙ sym q
settings_once files checking source (Err Memory) r s told p q = p ∙ sym q

text_once : (files : Option Files) (checking : Checking) (source : Option ConfigText) (r s : Reply) → (told : Files) × (files ≡ Some told)
    → IsTextReply files checking source r → IsTextReply files checking source s → r ≡ s
text_once files checking (Some source) r s told p q = settings_once files checking source (configuration_in source.tree) r s told p q
text_once files checking None r s told p q = p ∙ sym q

config_once : (files : Option Files) (name : List ℕ) (checking : Checking) (r s : Reply) → (told : Files) × (files ≡ Some told)
    → IsConfigReply files name checking r → IsConfigReply files name checking s → r ≡ s
config_once files name checking r s told p q =
    let one = file_once files name p.bytes q.bytes told p.is_file q.is_file in
    text_once files checking (text_of_file q.bytes) r s told (subst (λ f. IsTextReply files checking (text_of_file f) r) one p.is_reply) q.is_reply

-- ---- rings and inputs

public_once : (files : Option Files) (name : List ℕ) (kid : Option (List ℕ)) (r s : Reply) → (told : Files) × (files ≡ Some told)
    → IsPublicReply files name kid r → IsPublicReply files name kid s → r ≡ s
public_once files name kid r s told p q =
    let one = file_once files name p.bytes q.bytes told p.is_file q.is_file in
    let ring = found_once q.bytes p.ring q.ring (subst (λ f. IsRingFound f p.ring) one p.is_ring) q.is_ring in
    p.is_reply ∙ ap (of_found kid) ring ∙ sym q.is_reply

input_once : (left : Option (List ℕ)) (a b : List ℕ) → (told : List ℕ) × (left ≡ Some told) → MayBe left a → MayBe left b → a ≡ b
input_once left a b (told, same) first second =
    let one : MayBe (Some told) a = subst (λ l. MayBe l a) same first in
    let two : MayBe (Some told) b = subst (λ l. MayBe l b) same second in
    sym one ∙ two

show_once : (claims : Bool) (left now later : Option (List ℕ)) (r s : Reply) → (told : List ℕ) × (left ≡ Some told) → IsShowReply claims left now r → IsShowReply claims left later s
    → r ≡ s
show_once claims left now later r s told p q =
    p.is_reply ∙ ap (λ input. show_reply claims (text_of input)) (input_once left p.input q.input told p.is_input q.is_input) ∙ sym q.is_reply

-- ---- replies

keys_once : (files : Option Files) (name : List ℕ) (a b : Option (List Jwk)) → (told : Files) × (files ≡ Some told) → IsKeysOf files name a → IsKeysOf files name b → a ≡ b
keys_once files name a b told p q = p.are ∙ ap keys_of_file (file_once files name p.bytes q.bytes told p.is_file q.is_file) ∙ sym q.are

report_once : (case : Case) (r s : Reply) → IsReport case r → IsReport case s → r ≡ s
report_once case r s p q = p.2 ∙ ap report_of (reply-one case p.0 q.0 p.1 q.1) ∙ sym q.2

told_once : (case : List ℕ → Case) (text : Option (List ℕ)) (r s : Reply) → IsTextReport case text r → IsTextReport case text s → r ≡ s
told_once case (Some text) r s p q = report_once (case text) r s p q
told_once case None r s p q = p ∙ sym q

by_once : (asked : ReplyAsked) (moment : ℕ) (resolver keys : Option (List Jwk)) (left now later : Option (List ℕ)) (r s : Reply) → (told : List ℕ) × (left ≡ Some told)
    → IsReportBy asked moment resolver keys left now r → IsReportBy asked moment resolver keys left later s → r ≡ s
by_once asked moment (Some resolver) (Some keys) left now later r s told p q =
    let case = λ (text : List ℕ). case_of text resolver asked.anchor keys moment in
    let one = input_once left p.input q.input told p.is_input q.is_input in
    told_once case (text_of q.input) r s (subst (λ input. IsTextReport case (text_of input) r) one p.is_report) q.is_report
by_once asked moment (Some resolver) None left now later r s told p q = p ∙ sym q
by_once asked moment None keys left now later r s told p q = p ∙ sym q

reply_once : (files : Option Files) (asked : ReplyAsked) (moment : ℕ) (left now later : Option (List ℕ)) (r s : Reply) → (told : Files) × (files ≡ Some told)
    → (told : List ℕ) × (left ≡ Some told) → IsReplyReport files asked moment left now r → IsReplyReport files asked moment left later s → r ≡ s
reply_once files asked moment left now later r s files_told told p q =
    let resolver = keys_once files asked.keys_file p.resolver q.resolver files_told p.is_resolver q.is_resolver in
    let keys = keys_once files asked.anchor_keys_file p.keys q.keys files_told p.is_keys q.is_keys in
    let one : IsReportBy asked moment q.resolver p.keys left now r = subst (λ o. IsReportBy asked moment o p.keys left now r) resolver p.is_report in
    by_once asked moment q.resolver q.keys left now later r s told (subst (λ o. IsReportBy asked moment q.resolver o left now r) keys one) q.is_report

-- ---- all of them

pub inspected_once : (i : Inspection) (moment : ℕ) (files : Option Files) (left now later : Option (List ℕ)) (r s : Reply) → AreTold i files left
    → IsInspected i moment files left now r → IsInspected i moment files left later s → r ≡ s
inspected_once (Public ring kid) moment files left now later r s told p q = public_once files ring kid r s (told.0 refl) p q
inspected_once (Show claims) moment files left now later r s told p q = show_once claims left now later r s (told.1 refl) p q
inspected_once (Config config None strict) moment files left now later r s told p q = config_once files config _ r s (told.0 refl) p q
inspected_once (Config config (Some at) strict) moment files left now later r s told p q = config_once files config _ r s (told.0 refl) p q
inspected_once (Help verb) moment files left now later r s told p q = p ∙ sym q
inspected_once (ReplyCheck asked) moment files left now later r s told p q = reply_once files asked _ left now later r s (told.0 refl) (told.1 refl) p q

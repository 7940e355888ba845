-- What is told of a node's configuration file: the node, or the first fault with its member (OpenID Federation 1.0 sections 3 and 8).
use Rattle.std.specs.Prelude.{◌≡◌, ◌<◌, ◌≤◌, ℕ, List, [], ◌++◌, map, length, codes, nat_lt, Bool, ◌&&◌, Option, Some, None, option_map, unwrap_or, Result, Ok, Err, if◌then◌else◌}
use Rattle.fed_json.specs.Reading.{tree_in}
use Rattle.fed_json.specs.declared.tree.Json.{Json}
use Rattle.fed_ports.specs.Stores.{Files, IsFile, file_limit}
use Rattle.key_ring.specs.Files.{Opens}
use Rattle.key_ring.specs.Rings.{Ring}
use Rattle.key_ring.specs.Terms.{term_of}
use Rattle.key_ring.specs.declared.term.KeyTerm.{KeyTerm}
use Rattle.key_ring.specs.declared.fault.RingFault.TheVariants as fault
use Rattle.node_config.specs.Configurations.{configuration_in}
use Rattle.node_config.specs.Nodes.{Settings}
use Rattle.node_config.specs.declared.fault.ConfigFault.{ConfigFault}
use Rattle.node_config.specs.declared.fault.ConfigFault.TheVariants.{Shape, Memory}
use Rattle.authority_core.specs.Configurations.{node_in}
use Rattle.authority_core.specs.Nodes.{Node}
use Rattle.config_summary.specs.Marks.{first_fault}
use Rattle.config_summary.specs.Summaries.{summary}
use Rattle.config_warnings.specs.Warnings.{is_warned, warnings}
use Rattle.config_warnings.specs.declared.source.ConfigText.{ConfigText}
use Rattle.config_warnings.specs.declared.warning.Warning.{Warning}
use Rattle.cli_rings.specs.Replies.{bad_input, plain, refused}
use Rattle.cli_rings.specs.declared.reply.Reply.{Reply}
use Rattle.cli_inspect.specs.declared.checking.Checking.{Checking}
use Rattle.cli_inspect.specs.declared.rings.RingFound.{RingFound}
use Rattle.cli_inspect.specs.declared.rings.RingFound.TheVariants as found

-- the tree of a file, where it is there, isn't too long, and is JSON
abbrev pub tree_of_file : Option (List ℕ) → Option Json
tree_of_file None = None
tree_of_file (Some bytes) = if nat_lt file_limit (length bytes) then None else tree_in bytes

-- the text of such a file, with its tree
abbrev pub text_of_file : Option (List ℕ) → Option ConfigText
text_of_file bytes = option_map (λ tree. record { text = unwrap_or bytes []; tree = tree }) (tree_of_file bytes)

-- the file is there, and isn't too long
abbrev pub IsWhole : Option (List ℕ) → List ℕ → Type 0
IsWhole file bytes = (file ≡ Some bytes) × (length bytes ≤ file_limit)

-- what is found of a ring's file
abbrev pub IsFoundIn : Option (List ℕ) → RingFound → Type 0
IsFoundIn file found.Absent = file ≡ None
IsFoundIn file found.TooLong = (bytes : List ℕ) × (file ≡ Some bytes) × (file_limit < length bytes)
IsFoundIn file found.Shape = (bytes : List ℕ) × IsWhole file bytes × Opens bytes (Err fault.Shape)
IsFoundIn file found.Known = (bytes : List ℕ) × IsWhole file bytes × ((kid : List ℕ) × Opens bytes (Err (fault.Known kid)))
IsFoundIn file (found.Opened ring) = (bytes : List ℕ) × IsWhole file bytes × Opens bytes (Ok ring)

-- 0, and 1 where something is warned of and the check is strict
abbrev pub warned_status : Bool → List Warning → ℕ
warned_status strict warned = if strict && is_warned warned then 1 else 0

-- the node with these keys, by what is warned of it
abbrev pub shown_reply : Checking → ConfigText → Settings → List KeyTerm → Reply
shown_reply checking source settings keys = plain (warned_status checking.strict (warnings checking.moment source settings keys)) (summary checking.moment settings keys)

-- the first of its trust marks that is none of the node's, or the node
abbrev pub marks_reply : Checking → ConfigText → Settings → Ring → Option (List ℕ) → Reply
marks_reply checking source settings ring (Some fault) = refused fault
marks_reply checking source settings ring None = shown_reply checking source settings (map term_of ring)

-- what it states is short enough; else the member that makes it too long is told
abbrev pub node_reply : Checking → ConfigText → Settings → Ring → Result Node ConfigFault → Reply
node_reply checking source settings ring (Ok node) = marks_reply checking source settings ring (first_fault settings.id settings.claims.marks)
node_reply checking source settings ring (Err (Shape member)) = refused (member ++ codes " TooLong")
node_reply checking source settings ring (Err Memory) = bad_input

-- the ring is there and of its form
abbrev pub found_reply : Checking → ConfigText → Settings → RingFound → Reply
found_reply checking source settings found.Absent = refused (codes "ring Absent")
found_reply checking source settings found.TooLong = refused (codes "ring TooLong")
found_reply checking source settings found.Shape = refused (codes "ring Shape")
found_reply checking source settings found.Known = refused (codes "ring Known")
found_reply checking source settings (found.Opened ring) = node_reply checking source settings ring (node_in source.tree ring)

-- the file that the configuration names is looked at
pub record IsRingReply (files : Option Files) (checking : Checking) (source : ConfigText) (settings : Settings) (reply : Reply) : Type 0 where
  pub bytes : Option (List ℕ)
  pub is_file : IsFile files settings.ring bytes
  pub ring : RingFound
  pub is_ring : IsFoundIn bytes ring
  pub is_reply : reply ≡ found_reply checking source settings ring

-- each member has its form; else the first that hasn't is told
abbrev pub IsSettingsReply : Option Files → Checking → ConfigText → Result Settings ConfigFault → Reply → Type 0
IsSettingsReply files checking source (Ok settings) reply = IsRingReply files checking source settings reply
IsSettingsReply files checking source (Err (Shape member)) reply = reply ≡ refused (member ++ codes " Shape")
IsSettingsReply files checking source (Err Memory) reply = reply ≡ bad_input

abbrev pub IsTextReply : Option Files → Checking → Option ConfigText → Reply → Type 0
IsTextReply files checking (Some source) reply = IsSettingsReply files checking source (configuration_in source.tree) reply
IsTextReply files checking None reply = reply ≡ bad_input

-- what is told of the file of that name, at the moment of the check
pub record IsConfigReply (files : Option Files) (name : List ℕ) (checking : Checking) (reply : Reply) : Type 0 where
  pub bytes : Option (List ℕ)
  pub is_file : IsFile files name bytes
  pub is_reply : IsTextReply files checking (text_of_file bytes) reply

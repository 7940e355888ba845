-- When a text identifies an entity.
use Rattle.std.proofs.Common.{◌≡◌, ◌<◌, ◌≤◌, ℕ, List, [], ◌∷◌, length, Bool, true, false, cond, not, ◌||◌, nat_lt, refl, sym, ap, ◌∙◌, arith, Bor}
use Rattle.std.specs.Prelude.{Option, Some, None, unwrap_or, option_map, option_copied, Result, Ok, Err, MatchResult, IsOk, is_ok, IsAscii}
use Rattle.std.specs.List.{list_all, list_any, AllPass}
use Rattle.std.proofs.lemmas.Bool.{le-ltb, ltb-false, not-false, or_parts}
use Rattle.std.proofs.lemmas.Bool.Decides.{nat_tests}
use Rattle.std.proofs.lemmas.List.Sums.{AllPass-from_list_all, list_all-from_AllPass}
use Rattle.std.proofs.lemmas.List.Folds.{list_any_none}
use Rattle.std.proofs.lemmas.List.Elements.{All-weaker}
use Rattle.std.proofs.lemmas.Str.Ascii.{IsAscii-from_all}
use Rattle.url.proofs.HostLemmas.{none_from_list_any}
use Rattle.url.specs.Parser.{parse_url}
use Rattle.url.proofs.InputLemmas.{is_empty_nonempty}
use Rattle.url.specs.Host.{host_text, is_empty_host}
use Rattle.url.specs.Parts.{Parts, nonempty_host}
use Rattle.std.specs.Result.{result_ok}
use Rattle.url.specs.declared.host.Host.{Host}
use Rattle.url.specs.declared.host.Host.TheVariants.{Domain, Ipv4, Ipv6}
use Rattle.entity_id.specs.declared.fault.IdFault.{IdFault}
use Rattle.entity_id.specs.declared.fault.IdFault.TheVariants.{Extra, NotUrl, Scheme}
use Rattle.entity_id.specs.Identifiers.{is_plain, is_extra, has_web_scheme, host_in, host_of, identifier_in, IsIdentifier}

-- what a plain byte is
below_128 : (b : ℕ) → is_plain b ≡ true → b < 128
below_128 b plain = grind (arith, nat_tests)

-- plain bytes are ASCII
pub IsAscii-plain : (text : List ℕ) → AllPass is_plain text → IsAscii text
IsAscii-plain text plain = IsAscii-from_all text (All-weaker (λ b. is_plain b ≡ true) (λ b. b < 128) below_128 text plain)

-- a text that passes each test
pub IsIdentifier-tests : (text : List ℕ) → length text ≤ 2048 → list_all is_plain text ≡ true → has_web_scheme text ≡ true → list_any is_extra text ≡ false
    → IsOk (parse_url None text) → IsIdentifier text
IsIdentifier-tests text short plain web bare url =
    record { short = short; plain = AllPass-from_list_all is_plain text plain; web = web; bare = none_from_list_any is_extra text bare; url = url }

-- ---- what is read is an identifier, and each identifier is read

-- the four tests of a text, in their order
abbrev tested : Bool → Bool → Bool → Bool → List ℕ → Result (List ℕ) IdFault
tested odd off extra url text = cond odd (Err NotUrl) (cond off (Err Scheme) (cond extra (Err Extra) (cond url (Ok text) (Err NotUrl))))

-- the tests of a text that is read
record Passes (odd off extra url : Bool) (text id : List ℕ) : Type 0 where
  even : odd ≡ false
  on : off ≡ false
  bare : extra ≡ false
  parsed : url ≡ true
  same : text ≡ id

passed : (odd off extra url : Bool) (text id : List ℕ) → tested odd off extra url text ≡ Ok id → Passes odd off extra url text id
passed true off extra url text id e = cc e
passed false true extra url text id e = cc e
passed false false true url text id e = cc e
passed false false false false text id e = cc e
passed false false false true text id e = record { even = refl; on = refl; bare = refl; parsed = refl; same = cc e }

-- what is read is the text, which identifies an entity
pub identifier_in-found : (text id : List ℕ) → identifier_in text ≡ Ok id → IsIdentifier text × (text ≡ id)
unfolding identifier_in
identifier_in-found text id e =
    let odd = nat_lt 2048 (length text) || not (list_all is_plain text) in
    let is = passed odd (not (has_web_scheme text)) (list_any is_extra text) (is_ok (parse_url None text)) text id e in
    let fits = or_parts (nat_lt 2048 (length text)) (not (list_all is_plain text)) is.even in (
      IsIdentifier-tests text (ltb-false 2048 (length text) fits.0) (not-false (list_all is_plain text) fits.1) (not-false (has_web_scheme text) is.on) is.bare is.parsed,
      is.same,
    )

-- a text that identifies an entity is read
pub identifier_in-only : (text : List ℕ) → IsIdentifier text → identifier_in text ≡ Ok text
unfolding identifier_in
identifier_in-only text id =
    let short : nat_lt 2048 (length text) ≡ false = le-ltb 2048 (length text) id.short in
    let plain : list_all is_plain text ≡ true = list_all-from_AllPass is_plain text id.plain in
    let bare : list_any is_extra text ≡ false = list_any_none is_extra text id.bare in
    λ i. tested (short i || not (plain i)) (not (id.web i)) (bare i) (id.url i) text

-- ---- the code's tests and its host

-- what comes of a call that fails only where a fact doesn't hold
pub IsOk_since : {T E U : Type 0} (P : T → Type 0) (Q : E → Type 0) (r : Result T E) → MatchResult r P (λ e. ¬ U × Q e) → U → IsOk r
IsOk_since P Q (Ok x) cases holds = refl
IsOk_since P Q (Err e) cases holds = absurd (cases.0 holds)

-- what a missing reference is replaced by
now-unwrap_or : (o : Option (Bor (List ℕ))) (d : Bor (List ℕ)) → (unwrap_or o d).now ≡ unwrap_or (option_copied o) d.now
now-unwrap_or (Some x) d = refl
now-unwrap_or None d = refl

-- a URL without a host has the empty one
host_or_empty-text : (host : Option (Host (List ℕ)))
    → unwrap_or (option_map host_text (cond (not (is_empty_host (unwrap_or host (Domain [])))) host None)) [] ≡ host_text (unwrap_or host (Domain []))
host_or_empty-text None = refl
host_or_empty-text (Some (Domain [])) = refl
host_or_empty-text (Some (Domain (b ∷ bs))) = rw (is_empty_nonempty (b ∷ bs) (omega arith))
host_or_empty-text (Some (Ipv4 address)) = refl
host_or_empty-text (Some (Ipv6 address)) = refl

-- what `host_str` gives of the URL that the text is
pub host_of-url : (text : List ℕ) (url : Parts) (host : Option (Bor (List ℕ))) (none : Bor (List ℕ)) → parse_url None text ≡ Ok url
    → option_copied host ≡ option_map host_text (nonempty_host url) → none.now ≡ [] → (unwrap_or host none).now ≡ host_of text
unfolding host_of
host_of-url text url host none parsed copied empty =
    now-unwrap_or host none ∙ (λ i. unwrap_or (copied i) (empty i)) ∙ host_or_empty-text url.host
    ∙ sym (ap (λ r. unwrap_or (option_map host_in (result_ok r)) []) parsed)

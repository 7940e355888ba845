-- A reply whose marks can be asked about, and what it says once they were.
use Rattle.std.proofs.Common.{◌≡◌, ◌≤◌, ℕ, List, [], ◌∷◌, map, length, true, Option, Some, None, Result, Ok, Err, inl, inr, refl, sym, ap, ◌∙◌, subst, arith}
use Rattle.std.specs.Prelude.{All, IsSome, IsTrue, is_some, option_and_then, option_map, zip}
use Rattle.std.specs.List.{list_all}
use Rattle.std.proofs.lemmas.List.{length-map}
use Rattle.std.proofs.lemmas.List.Elements.{All-cons, All-contains, All-head, All-nil, All-tail, All-weaker}
use Rattle.std.proofs.lemmas.List.Sums.{AllPass-from_list_all, list_all-from_AllPass}
use Rattle.std.proofs.lemmas.Slice.Zip.{length-zip}
use Rattle.jwk_set.specs.declared.jwk.Jwk.{Jwk}
use Rattle.entity_statement.specs.Claims.{Claims, Identifier, mark_utf8}
use Rattle.entity_statement.specs.Signed.{statement_of}
use Rattle.entity_statement.specs.declared.marks.MarkEntry.{MarkEntry}
use Rattle.trust_mark.specs.Marks.{mark_of}
use Rattle.trust_mark.specs.declared.mark.Mark.{Mark}
use Rattle.mark_status.specs.declared.heeded.Heeded.{Heeded}
use Rattle.mark_status.specs.declared.post.Post.{Post}
use Rattle.mark_status.specs.Heeding.{IsKept, heeding_of}
use Rattle.mark_status.specs.Tells.{Marked}
use Rattle.mark_status.proofs.KeptLaws.{few-posted}
use Rattle.fed_ports.specs.Exchanges.{Exchange}
use Rattle.http_plain.specs.declared.route.Route.{Route}
use Rattle.resolve_reply.specs.declared.marks.GoodMarks.{GoodMarks}
use Rattle.resolve_reply.specs.declared.reply.Reply.{Reply}
use Rattle.resolve_reply.specs.declared.signer.Signer.{Signer}
use Rattle.resolve_reply.specs.Marks.{AreConfigs, AreThose, IsReturned, IssuerTexts, Judging, config_of}
use Rattle.resolve_reply.specs.Replies.{SaysReply}
use Rattle.resolve_round.specs.declared.trace.Trace.{Trace}
use Rattle.resolve_round.specs.Courses.{Course}
use Rattle.resolve_round.specs.Pages.{Query}
use Rattle.fed_resolver.specs.Outcomes.{HasChainEnd, HasConfigs, asked_query, said_of}
use Rattle.fed_resolver.specs.Searches.{found_keys, found_texts, keys_said}
use Rattle.fed_resolver.specs.Told.{Situation}
use Rattle.heeded_reply.specs.declared.reply.HeededReply.{HeededReply}
use Rattle.heeded_reply.specs.Claims.{claimed_marks}
use Rattle.heeded_reply.specs.Heeding.{Caller, HeedsMarks, HeedsOver, HeedsReply}
use Rattle.heeded_reply.specs.Posted.{PostedSome, Wire}
use Rattle.heeded_reply.specs.Stages.{IsHeedable}
use Rattle.heeded_reply.proofs.ClaimLaws.{marks-said, text-said}

-- ---- good marks with their configurations

-- the fact holds of each pair
abbrev EachPair : {X Y : Type 0} → (X → Y → Type 0) → List (X × Y) → Type 0
EachPair P [] = Unit {0}
EachPair P (m ∷ ms) = P m.0 m.1 × EachPair P ms

those-each : {X Y : Type 0} (P : X → Y → Type 0) (xs : List X) (those : List (X × Y)) → AreThose P xs those → EachPair P those
those-each P [] those none = subst (EachPair P) (sym none) tt
those-each P (x ∷ xs) those (inl (y, rest, is, holds, later)) = subst (EachPair P) (sym is) (holds, those-each P xs rest later)
those-each P (x ∷ xs) those (inr (fails, later)) = those-each P xs those later

abbrev entries_of : List (MarkEntry × Mark) → List MarkEntry
entries_of marks = map (λ (m : MarkEntry × Mark). m.0) marks

read-marks : (here : Judging) (marks : List (MarkEntry × Mark)) → EachPair (IsReturned here) marks → All (λ (entry : MarkEntry). IsSome (mark_of entry.text)) (entries_of marks)
read-marks here [] each = All-nil (λ (entry : MarkEntry). IsSome (mark_of entry.text))
read-marks here (m ∷ ms) each = All-cons (λ (entry : MarkEntry). IsSome (mark_of entry.text)) m.0 (entries_of ms) (ap is_some each.0.good.form) (read-marks here ms each.1)

config-by : (texts : IssuerTexts) (entry : MarkEntry) (mark : Mark) → mark_of entry.text ≡ Some mark → config_of texts entry ≡ texts mark.iss
unfolding config_of
config-by texts entry mark reads = rw reads refl

some-claims : (o : Option Claims) (keys : List Jwk) → option_map (λ (claims : Claims). claims.keys) o ≡ Some keys → IsSome o
some-claims None keys is = absurd (cc is)
some-claims (Some claims) keys is = refl

said-read : (config : List ℕ) (keys : List Jwk) → keys_said (Some config) ≡ Some keys → IsSome (statement_of config)
unfolding keys_said
said-read config keys is = some-claims (statement_of config) keys is

module _ (here : Judging) (texts : IssuerTexts) (keyed : (issuer : Identifier) → here.keys issuer ≡ keys_said (texts issuer)) where
  read-config : (entry : MarkEntry) (mark : Mark) (config : List ℕ) → IsReturned here entry mark → Some config ≡ config_of texts entry → IsSome (statement_of config)
  read-config entry mark config returned is =
      let there : Some config ≡ texts mark.iss = is ∙ config-by texts entry mark returned.good.form in
      said-read config returned.keys (ap keys_said there ∙ sym (keyed mark.iss) ∙ returned.found)

  read-configs : (marks : List (MarkEntry × Mark)) (configs : List (List ℕ)) → EachPair (IsReturned here) marks → AreConfigs texts (entries_of marks) configs
      → All (λ config. IsSome (statement_of config)) configs
  read-configs [] [] each are = All-nil (λ config. IsSome (statement_of config))
  read-configs [] (c ∷ cs) each are = absurd (cc are)
  read-configs (m ∷ ms) [] each are = absurd (cc are)
  read-configs (m ∷ ms) (c ∷ cs) each are =
      let both : Some c ∷ map Some cs ≡ config_of texts m.0 ∷ map (config_of texts) (entries_of ms) = are in
      let one : Some c ≡ config_of texts m.0 = cc both in
      let more : map Some cs ≡ map (config_of texts) (entries_of ms) = cc both in
      All-cons (λ config. IsSome (statement_of config)) c cs (read-config m.0 m.1 c each.0 one) (read-configs ms cs each.1 more)

as-many : (texts : IssuerTexts) (entries : List MarkEntry) (configs : List (List ℕ)) → AreConfigs texts entries configs → length entries ≡ length configs
as-many texts entries configs are = sym (length-map entries (config_of texts)) ∙ sym (ap length are) ∙ length-map configs Some

-- ---- a reply

module _ (here : Situation) (signer : Signer) (trace : Trace) (reply : Reply) (configs : HasConfigs here signer trace reply) where
  -- the marks that its claims name are the good ones
  pub claimed-good : claimed_marks reply.claims ≡ configs.whole.result.is_reply.good.entries
  claimed-good =
      ap claimed_marks configs.whole.result.is_reply.says.claims
      ∙ marks-said signer.iss
      (said_of (asked_query here trace) here.request.types configs.whole.result.is_reply.chain configs.whole.result.is_reply.metadata configs.whole.result.is_reply.good)

  pub heedable : SaysReply reply.claims → IsHeedable reply
  heedable says =
      let good = configs.whole.result.is_reply.are_good in
      let each = those-each _ _ good.marks good.those in
      let claimed : claimed_marks reply.claims ≡ entries_of good.marks = claimed-good ∙ good.entries_are in
      let are : AreConfigs (found_texts configs.whole.told.base.others) (entries_of good.marks) reply.configs =
      subst (λ (es : List MarkEntry). AreConfigs (found_texts configs.whole.told.base.others) es reply.configs) good.entries_are configs.are in
      let said : claimed_marks reply.claims ≡ says.said.marks = ap claimed_marks says.claims_are ∙ marks-said says.iss says.said in
      record {
        says = says;
        marks = subst (All (λ (entry : MarkEntry). IsSome (mark_of entry.text))) (sym claimed) (read-marks _ good.marks each);
        configs = read-configs _ (found_texts configs.whole.told.base.others) configs.keys good.marks reply.configs each are;
        each = ap length claimed ∙ as-many (found_texts configs.whole.told.base.others) (entries_of good.marks) reply.configs are;
        utf8 = subst (λ (es : List MarkEntry). IsTrue (list_all mark_utf8 es)) (sym said) says.writable.marks;
      }

-- the marks of the reply that a trace calls for were asked about
pub heeds-reply : (caller : Caller) (trace : Trace) (reply : Reply) (before now : Wire) (heeded : HeededReply) → HasChainEnd caller.here caller.signer trace reply
    → HasConfigs caller.here caller.signer trace reply → HeedsMarks caller.signer caller.routes caller.here.moment reply before now heeded → HeedsReply caller trace reply before now heeded
heeds-reply caller trace reply before now heeded chain configs heeds = record {
  chain = chain;
  configs = configs;
  heeds = heeds;
  good = heeds.marks ∙ claimed-good caller.here caller.signer trace reply configs;
  says = heeds.text ∙ text-said caller.signer _ reply heeds.what configs.whole.result.is_reply.says;
}

-- ---- marks that are kept

zipped : (P : MarkEntry → Type 0) (marks : List MarkEntry) (configs : List (List ℕ)) → All P marks → All (λ (m : Marked). P m.0) (zip marks configs)
zipped P [] configs all = All-nil (λ (m : Marked). P m.0)
zipped P (m ∷ ms) [] all = All-nil (λ (m : Marked). P m.0)
zipped P (m ∷ ms) (c ∷ cs) all = All-cons (λ (m : Marked). P m.0) (m, c) (zip ms cs) (All-head P m ms all) (zipped P ms cs (All-tail P m ms all))

pub kept-utf8 : (marks : List MarkEntry) (configs : List (List ℕ)) (t : ℕ) (posts : List Post) (kept : List MarkEntry) → All (IsKept (heeding_of marks configs t) posts) kept
    → IsTrue (list_all mark_utf8 marks) → IsTrue (list_all mark_utf8 kept)
kept-utf8 marks configs t posts kept all utf8 =
    let pairs = zipped (λ entry. mark_utf8 entry ≡ true) marks configs (AllPass-from_list_all mark_utf8 marks utf8) in
    list_all-from_AllPass mark_utf8 kept
    (All-weaker (IsKept (heeding_of marks configs t) posts) (λ entry. mark_utf8 entry ≡ true)
    (λ entry is. All-contains (λ (m : Marked). mark_utf8 m.0 ≡ true) (zip marks configs) (entry, is.config) pairs is.returned) kept all)

-- ---- memory was wanting

-- before any post
pub none-posted : (routes : List Route) (most : ℕ) (told : Option (List Exchange)) → PostedSome routes most told told
none-posted routes most told = record { posts = []; few = omega arith; mid = told; posted = refl; last = inl refl }

-- behind all of them
pub all-posted : (routes : List Route) (marks : List MarkEntry) (configs : List (List ℕ)) (t : ℕ) (before now : Wire) (what : Heeded) → length marks ≡ length configs
    → HeedsOver routes (heeding_of marks configs t) before now what → PostedSome routes (length configs) before.exchanges now.exchanges
all-posted routes marks configs t before now what long over = record {
  posts = over.posts;
  few = let few = few-posted _ over.posts over.tests what over.heeds in let both = length-zip marks configs in omega (arith, few, both, long);
  mid = now.exchanges;
  posted = over.posted;
  last = inl refl;
}

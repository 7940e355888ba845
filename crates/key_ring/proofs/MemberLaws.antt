-- Members that were added to an object, one after the other.
use Rattle.std.proofs.Common.{◌≡◌, ℕ, List, [], ◌∷◌, ◌++◌, codes, Result, Ok, Err, OnOk, ap, ◌∙◌, append_assoc}
use Rattle.hex.specs.Hex.{encode_lower}
use Rattle.base64url.specs.Base64url.{base64url}
use Rattle.fed_base.specs.declared.algorithm.Alg.{Alg}
use Rattle.fed_json.specs.declared.tree.Json.{Json, Object}
use Rattle.fed_json.specs.declared.tree.Member.{Member}
use Rattle.fed_json.specs.Members.{number_member, text_member}
use Rattle.fed_json.specs.Reading.{member_of}
use Rattle.jws_form.specs.Header.{algorithm}
use Rattle.jwk_set.specs.Keys.{key_type}
use Rattle.key_ring.specs.declared.key.RingKey.{RingKey}
use Rattle.key_ring.specs.declared.version.Version.{Version}
use Rattle.key_ring.specs.Files.{alg_members, key_tree, state_tree}
use Rattle.key_ring.specs.Sets.{plain_members}

-- one member, and those behind it
behind : (start next rest : List Member) (m : Member) → next ≡ start ++ m ∷ [] → next ++ rest ≡ start ++ m ∷ rest
behind start next rest m added = ap (λ ms. ms ++ rest) added ∙ append_assoc start (m ∷ []) rest

-- those of a key's object
pub key-filled : {X E : Type 0} (r : Result X E) (version : Version) (start zero one two three all : List Member) (state : Json) (key : RingKey) → start ≡ []
    → zero ≡ start ++ alg_members version key.alg → one ≡ zero ++ number_member (codes "exp") key.exp ∷ [] → two ≡ one ++ number_member (codes "iat") key.iat ∷ []
    → three ≡ two ++ text_member (codes "seeds") (encode_lower key.seeds) ∷ [] → state ≡ state_tree key.state → OnOk r (all ≡ three ++ member_of (codes "state") state ∷ [])
    → OnOk r (Object all ≡ key_tree version key)
unfolding key_tree
key-filled (Ok x) version start zero one two three all state key none named first second third is last =
    ap Object (
    last ∙ behind two three _ _ third ∙ behind one two _ _ second ∙ behind zero one _ _ first
    ∙ (λ i. (named ∙ ap (λ ms. ms ++ alg_members version key.alg) none) i ++ number_member (codes "exp") key.exp ∷ number_member (codes "iat") key.iat
    ∷ text_member (codes "seeds") (encode_lower key.seeds) ∷ member_of (codes "state") (is i) ∷ [])
    )
key-filled (Err e) version start zero one two three all state key none named first second third is last = tt

-- those that each historical key has
pub plain-added : {X E : Type 0} (r : Result X E) (start one two three four all : List Member) (alg : Alg) (alg_text kid_text kid : List ℕ) (exp : ℕ) (public_text public : List ℕ)
    → one ≡ start ++ text_member (codes "alg") alg_text ∷ [] → two ≡ one ++ number_member (codes "exp") exp ∷ [] → three ≡ two ++ text_member (codes "kid") kid_text ∷ []
    → four ≡ three ++ text_member (codes "kty") key_type ∷ [] → alg_text ≡ algorithm alg → kid_text ≡ kid → public_text ≡ base64url public → OnOk r (all ≡ four ++ text_member (codes "pub") public_text ∷ [])
    → OnOk r (all ≡ start ++ plain_members alg exp kid public)
plain-added (Ok x) start one two three four all alg alg_text kid_text kid exp public_text public first second third fourth algorithmic named keyed last =
    last ∙ behind three four _ _ fourth ∙ behind two three _ _ third ∙ behind one two _ _ second ∙ behind start one _ _ first
    ∙ (λ i. start ++ text_member (codes "alg") (algorithmic i) ∷ number_member (codes "exp") exp ∷ text_member (codes "kid") (named i) ∷ text_member (codes "kty") key_type
    ∷ text_member (codes "pub") (keyed i) ∷ [])
plain-added (Err e) start one two three four all alg alg_text kid_text kid exp public_text public first second third fourth algorithmic named keyed last = tt

use Rattle.std.proofs.Common.{◌≡◌, ℕ, List, [], ◌++◌, codes, ap, ap₂, ◌∙◌, subst, IfOk}
use Rattle.sha2.specs.Sha256.{sha256}
use Rattle.base64url.specs.Base64url.{base64url}
use Rattle.jwk_set.specs.Keys.{key_type}
use Rattle.jwk_set.specs.Thumbprints.{thumbprint_of}
use Rattle.jwk_set.proofs.thumbprints.thumbprint.Goals as goal

-- the text round the algorithm's name and the key's base64url
abbrev around : List ℕ → List ℕ → List ℕ
around name key = codes "{\"alg\":\"" ++ name ++ codes "\",\"kty\":\"" ++ key_type ++ codes "\",\"pub\":\"" ++ key ++ codes "\"}"

pub returns : goal.returns
unfolding thumbprint_of
returns c =
    let digest : c.finalize.result ≡ sha256 (around c.algorithm_name.result.now c.as_slice.result.now) = c.finalize.ensures _ (c.update-7.ensures _ (c.update-6.ensures _ (c.update-5.ensures _ (c.update-4.ensures _ (c.update-3.ensures _ (c.update-2.ensures _ (c.update.ensures [] c.new-hasher.ensures))))))) in
    let key : c.as_slice.result.now ≡ base64url c.args.public.now = c.as_slice.ensures ∙ c.encode_32.ensures in
    subst (λ expected. IfOk c.encode.result (λ text. text ≡ expected)) (ap base64url (digest ∙ ap₂ (λ n k. sha256 (around n k)) c.algorithm_name.ensures.name key)) c.encode.ensures

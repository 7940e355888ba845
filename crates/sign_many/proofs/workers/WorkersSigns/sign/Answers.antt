use Rattle.std.proofs.Common.{◌≡◌, ◌++◌, length, ap, ap₂, ◌∙◌, rules}
use Rattle.slh_hash.specs.declared.params.Params.{Params}
use Rattle.slh_dsa.specs.Algorithms.{set_of}
use Rattle.slh_dsa.specs.Keys.{pk_root_of}
use Rattle.sign_many.proofs.SecretLaws.{length-seeds, signed-by-seeds}
use Rattle.sign_many.proofs.workers.WorkersSigns.sign.Goals as goal

pub sign_many-requires-sync-R : goal.sign_many-requires-sync-R
sign_many-requires-sync-R g c κs within = c.requires.ready

pub returns-clause-written : goal.returns-clause-written
returns-clause-written g c =
    let keys = c.args.keys.now in
    let p = set_of keys.alg in
    let same : c.params_of.result ≡ p = c.params_of.ensures.value ∙ ap set_of c.alg.ensures in
    let long : length c.secret.result ≡ 64 = search rules in
    signed-by-seeds p c.params_of.result c.secret.result keys.seeds c.args.message.now c.sign_many.new.signature same long c.secret.ensures c.sign_many.ensures.written

pub returns-clause-verifies : goal.returns-clause-verifies
returns-clause-verifies g c =
    let keys = c.args.keys.now in
    let p = set_of keys.alg in
    let same : c.params_of.result ≡ p = c.params_of.ensures.value ∙ ap set_of c.alg.ensures in
    let long : length c.secret.result ≡ 64 = search rules in
    let whole : c.secret.result ≡ keys.seeds ++ pk_root_of c.params_of.result keys.seeds = c.secret.ensures ∙ rw same in
    rw same at (c.sign_many.ensures.verifies keys.seeds (length-seeds p c.secret.result keys.seeds long c.secret.ensures) whole)

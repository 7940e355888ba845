use Rattle.std.proofs.Common.{◌≡◌, ◌+◌, ◌-◌, ◌*◌, ◌^◌, ◌<◌, length, take, drop, ap, ◌∙◌, rules, arith}
use Rattle.std.proofs.Math.Nat.{mul_comm}
use Rattle.std.proofs.lemmas.List.{take_all, length-drop}
use Rattle.slh_hash.specs.declared.params.Params.{Params}
use Rattle.slh_hash.specs.Places.{place_of}
use Rattle.slh_hash.proofs.SetLaws.{bounds}
use Rattle.fors.specs.Fors.{fors_bytes, fors_signature, fors_key_from}
use Rattle.wots_xmss.specs.Xmss.{xmss_bytes, xmss_node}
use Rattle.wots_xmss.specs.Hypertree.{tree_at, hyper_key, hyper_signature, hypertree_bytes}
use Rattle.wots_xmss.proofs.HypertreeLaws.{root-of-top}
use Rattle.slh_dsa.specs.Algorithms.{set_of}
use Rattle.slh_dsa.specs.Keys.{pk_root_of}
use Rattle.slh_dsa.specs.Signing.{digest_of}
use Rattle.slh_dsa.proofs.SigningLaws.{signature_by_parts, made_verifies}
use Rattle.sign_many.specs.Jobs.{Task}
use Rattle.sign_many.proofs.JobLaws.{jobs-parted, room-all}
use Rattle.sign_many.proofs.LayerLaws.{hyper-joined}
use Rattle.sign_many.proofs.SecretLaws.{secret-parts}
use Rattle.sign_many.proofs.signing.sign_many.Goals as goal

pub do_jobs-requires-after_bounds : goal.do_jobs-requires-after_bounds
do_jobs-requires-after_bounds g c κs within =
    let p = c.args.params.now in
    record {
      set = c.requires.set;
      some = omega arith;
      inside = omega arith;
      worker = c.requires.workers.0;
      workers = c.requires.workers.1;
      room = room-all p (length c.split_at_mut-front.result.1.now) (omega (arith, c.split_at_mut-front.ensures.back_len, c.requires.room, mul_comm p.d (xmss_bytes p.tree_height)));
    }

pub sign_layers-requires-clause-done : goal.sign_layers-requires-clause-done
sign_layers-requires-clause-done g c =
    let p = c.args.params.now in
    let t : Task = record { params = p; place = place_of c.new-seed.result c.tree_of.result c.leaf_of.result; sk_seed = c.part-sk_seed.result; md = c.md_of.result.now } in
    let long : length c.do_jobs.new.parts ≡ fors_bytes p.a p.k + xmss_bytes p.tree_height * p.d =
    omega (arith, c.do_jobs.auto.parts, c.split_at_mut-front.ensures.back_len, c.requires.room, mul_comm p.d (xmss_bytes p.tree_height)) in
    (jobs-parted t c.do_jobs.new.parts c.split_at_mut-sig_fors.result.0.now c.split_at_mut-sig_fors.result.1.now c.fors_bytes.result c.do_jobs.ensures long
    c.fors_bytes.ensures.value c.split_at_mut-sig_fors.ensures.front c.split_at_mut-sig_fors.ensures.back).1

pub returns-clause-written : goal.returns-clause-written
returns-clause-written g c =
    let p = c.args.params.now in
    let secret = c.args.secret.now in
    let set : set_of c.alg_of-alg.result ≡ p = c.alg_of-alg.ensures in
    let sk = c.part-sk_seed.result in
    let seed = c.part-pk_seed.result in
    let d = take c.write_digest-count.result c.write_digest-count.new.out in
    let count : c.write_digest-count.result ≡ p.m = c.write_digest-count.ensures.count ∙ ap (λ (q : Params). q.m) set in
    let digest : d ≡ digest_of p c.prf_msg-randomizer.result seed c.part-pk_root.result c.args.message.now = rw (count, ← set) c.write_digest-count.ensures.digest in
    let t : Task = record { params = p; place = place_of c.new-seed.result c.tree_of.result c.leaf_of.result; sk_seed = sk; md = c.md_of.result.now } in
    let long : length c.do_jobs.new.parts ≡ fors_bytes p.a p.k + xmss_bytes p.tree_height * p.d =
    omega (arith, c.do_jobs.auto.parts, c.split_at_mut-front.ensures.back_len, c.requires.room, mul_comm p.d (xmss_bytes p.tree_height)) in
    let done = jobs-parted t c.do_jobs.new.parts c.split_at_mut-sig_fors.result.0.now c.split_at_mut-sig_fors.result.1.now c.fors_bytes.result c.do_jobs.ensures long
    c.fors_bytes.ensures.value c.split_at_mut-sig_fors.ensures.front c.split_at_mut-sig_fors.ensures.back in
    let few : c.split_at_mut-sig_fors.result.0.now ≡ fors_signature p.a p.k (place_of seed c.tree_of.result c.leaf_of.result) sk c.md_of.result.now = rw (← c.new-seed.ensures) done.0 in
    let key : c.fors_key-key.result ≡ fors_key_from p.a p.k (place_of seed c.tree_of.result c.leaf_of.result) c.md_of.result.now c.split_at_mut-sig_fors.result.0.now = rw (← c.new-seed.ensures) c.fors_key-key.ensures in
    let tall : c.sign_layers.new.parts ≡ hyper_signature p.tree_height p.d (place_of seed c.tree_of.result c.leaf_of.result) sk c.fors_key-key.result =
    rw (← c.new-seed.ensures) (hyper-joined p.tree_height p.d t.place sk c.fors_key-key.result c.sign_layers.new.parts c.sign_layers.ensures) in
    let root : c.part-pk_root.result ≡ drop 48 secret = c.part-pk_root.ensures.value ∙ take_all 16 (drop 48 secret) (omega (arith, length-drop 48 secret, c.told-secret)) in
    rw (c.copy_from_slice.ensures.after, ← c.part-sk_seed.ensures.value, ← c.part-sk_prf.ensures.value, ← c.part-pk_seed.ensures.value, ← root)
    (signature_by_parts p sk c.part-sk_prf.result seed c.part-pk_root.result c.args.message.now c.prf_msg-randomizer.result c.split_at_mut-sig_fors.result.0.now c.sign_layers.new.parts d c.md_of.result.now c.fors_key-key.result c.tree_of.result c.leaf_of.result
    c.prf_msg-randomizer.ensures digest (rw (← set) c.tree_of.ensures.value) (rw (← set) c.leaf_of.ensures.value) (rw (← set) c.md_of.ensures.value) few key tall)

pub returns-clause-verifies : goal.returns-clause-verifies
returns-clause-verifies g c seeds size whole =
    let p = c.args.params.now in
    let secret = c.args.secret.now in
    let set : set_of c.alg_of-alg.result ≡ p = c.alg_of-alg.ensures in
    let sk = c.part-sk_seed.result in
    let seed = c.part-pk_seed.result in
    let d = take c.write_digest-count.result c.write_digest-count.new.out in
    let count : c.write_digest-count.result ≡ p.m = c.write_digest-count.ensures.count ∙ ap (λ (q : Params). q.m) set in
    let digest : d ≡ digest_of p c.prf_msg-randomizer.result seed c.part-pk_root.result c.args.message.now = rw (count, ← set) c.write_digest-count.ensures.digest in
    let t : Task = record { params = p; place = place_of c.new-seed.result c.tree_of.result c.leaf_of.result; sk_seed = sk; md = c.md_of.result.now } in
    let long : length c.do_jobs.new.parts ≡ fors_bytes p.a p.k + xmss_bytes p.tree_height * p.d =
    omega (arith, c.do_jobs.auto.parts, c.split_at_mut-front.ensures.back_len, c.requires.room, mul_comm p.d (xmss_bytes p.tree_height)) in
    let key : c.fors_key-key.result ≡ fors_key_from p.a p.k (place_of seed c.tree_of.result c.leaf_of.result) c.md_of.result.now c.split_at_mut-sig_fors.result.0.now = rw (← c.new-seed.ensures) c.fors_key-key.ensures in
    let tall : c.sign_layers.new.parts ≡ hyper_signature p.tree_height p.d (place_of seed c.tree_of.result c.leaf_of.result) sk c.fors_key-key.result =
    rw (← c.new-seed.ensures) (hyper-joined p.tree_height p.d t.place sk c.fors_key-key.result c.sign_layers.new.parts c.sign_layers.ensures) in
    let root : c.part-pk_root.result ≡ drop 48 secret = c.part-pk_root.ensures.value ∙ take_all 16 (drop 48 secret) (omega (arith, length-drop 48 secret, c.told-secret)) in
    let of = secret-parts secret seeds (pk_root_of p seeds) size whole in
    let place = place_of seed c.tree_of.result c.leaf_of.result in
    let small : c.leaf_of.result < 2 ^ p.tree_height = rw (← set) c.leaf_of.ensures.small in
    let top : hyper_key p.tree_height place c.fors_key-key.result c.sign_layers.new.parts p.d ≡ xmss_node seed sk (p.d - 1) (tree_at p.tree_height c.tree_of.result (p.d - 1)) p.tree_height 0 =
    rw tall (root-of-top p.tree_height p.d place sk c.fors_key-key.result (bounds p c.requires.set).layered small) in
    let lfew : length c.split_at_mut-sig_fors.result.0.now ≡ fors_bytes p.a p.k = c.split_at_mut-sig_fors.ensures.front_len ∙ c.fors_bytes.ensures.value in
    let ltall : length c.sign_layers.new.parts ≡ hypertree_bytes p.tree_height p.d =
    omega (arith, c.sign_layers.auto.parts, c.split_at_mut-sig_fors.ensures.back_len, c.fors_bytes.ensures.value, long, mul_comm p.d (xmss_bytes p.tree_height)) in
    rw c.copy_from_slice.ensures.after
    (made_verifies p seeds sk seed c.part-pk_root.result c.args.message.now c.prf_msg-randomizer.result c.split_at_mut-sig_fors.result.0.now c.sign_layers.new.parts d c.md_of.result.now c.fors_key-key.result c.tree_of.result c.leaf_of.result
    (c.part-sk_seed.ensures.value ∙ of.0) (c.part-pk_seed.ensures.value ∙ of.2) (root ∙ of.3) c.part-pk_seed.ensures.len (search rules) lfew ltall digest
    (rw (← set) c.tree_of.ensures.value) (rw (← set) c.leaf_of.ensures.value) (rw (← set) c.md_of.ensures.value) (rw (← set) c.tree_of.ensures.small) key top)

use Rattle.std.proofs.Common.{◌∙◌, ◌∷◌, [], ap, ◌++◌}
use Rattle.key_ring.proofs.ChangeLaws.{one-key}
use Rattle.key_ring.specs.declared.key.RingKey.{RingKey}
use Rattle.key_ring.proofs.first.first_file.Goals as goal

pub ring_text-requires : goal.ring_text-requires
ring_text-requires c =
    one-key c.as_slice.result.now c.fresh_key.result (c.as_slice.ensures ∙ c.in_ok-push.ensures.ok ∙ ap (λ ks. ks ++ c.fresh_key.result ∷ []) c.new-keys.ensures)
    (ap (λ (k : RingKey). k.state) c.fresh_key.ensures.is) c.fresh_key.ensures.formed

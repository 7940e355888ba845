-- Laws of the layers' parts: what is there when their jobs are done, and when they are signed.
use Rattle.std.proofs.Common.{◌≡◌, ◌≤◌, ◌<◌, ◌+◌, ◌-◌, ◌*◌, ◌%◌, ◌^◌, ◌++◌, ℕ, zero, suc, List, length, take, drop, length-append, length-drop, append_assoc, arith, refl, sym, ap, ◌∙◌, add-one}
use Rattle.std.proofs.lemmas.List.{take_at, drop_at}
use Rattle.std.proofs.Math.Pow.{pow_mono}
use Rattle.slh_hash.specs.Lists.{joined}
use Rattle.slh_hash.specs.Places.{Place}
use Rattle.slh_hash.proofs.Joined.{joined-more, joined-zero}
use Rattle.wots_xmss.specs.Wots.{instance_of, wots_bytes, wots_signature}
use Rattle.wots_xmss.specs.Xmss.{xmss_bytes, path_bytes, xmss_node, xmss_path, xmss_signature}
use Rattle.wots_xmss.specs.Hypertree.{tree_at, leaf_at, layer_signature, message_at, hyper_signature}
use Rattle.wots_xmss.proofs.HypertreeLaws.{message_at-root}
use Rattle.sign_many.specs.Jobs.{Task, IsLayerDone, AreDone}
use Rattle.sign_many.proofs.JobLaws.{layer-of-job, length-layers}

-- the leaf of the lowest layer
pub leaf_at-first : (h t leaf layer : ℕ) → layer ≡ 0 → leaf ≡ leaf_at h t leaf layer
unfolding leaf_at
leaf_at-first h t leaf zero first = refl
leaf_at-first h t leaf (suc j) first = absurd (omega (arith, first))

-- the leaf of a layer above it
pub leaf_at-above : (h t leaf layer tree : ℕ) → 1 ≤ layer → h ≤ 9 → tree ≡ tree_at h t (layer - 1) → tree % (1 * 2 ^ h % 18446744073709551616) ≡ leaf_at h t leaf layer
unfolding leaf_at
leaf_at-above h t leaf zero tree some low below = absurd (omega (arith, some))
leaf_at-above h t leaf (suc j) tree some low below =
    let few : 2 ^ h ≤ 2 ^ 9 = pow_mono low in
    let same : suc j - 1 ≡ j = omega arith in
    let whole : 1 * 2 ^ h % 18446744073709551616 ≡ 2 ^ h = omega (arith, few) in
    rw (whole, below, same)

-- a layer's part, from what was written
pub layer-done : (t : Task) (j tree leaf : ℕ) (root chains path : List ℕ) → length root ≡ 16 → length chains ≡ wots_bytes → length path ≡ path_bytes t.params.tree_height
    → tree ≡ tree_at t.params.tree_height t.place.tree j → leaf ≡ leaf_at t.params.tree_height t.place.tree t.place.pair j
    → root ≡ xmss_node t.place.seed t.sk_seed j tree t.params.tree_height 0 → path ≡ xmss_path t.params.tree_height t.place.seed t.sk_seed j tree leaf
    → IsLayerDone t j (root ++ drop 16 chains ++ path)
layer-done t j tree leaf root chains path lroot lchains lpath htree hleaf hroot hpath =
    let front : length (root ++ drop 16 chains) ≡ wots_bytes = omega (arith, length-append root (drop 16 chains), length-drop 16 chains, lroot, lchains) in
    record {
      size = omega (arith, length-append (root ++ drop 16 chains) path, front, lpath);
      root = ap (take 16) (append_assoc root (drop 16 chains) path) ∙ (take_at root (drop 16 chains ++ path) 16 lroot ∙ (hroot ∙ rw htree));
      path = drop_at (root ++ drop 16 chains) path wots_bytes front ∙ (hpath ∙ rw (htree, hleaf));
    }

-- a product, from the one before it
pub mul-pred : (w n : ℕ) → 1 ≤ n → w * n ≡ w * (n - 1) + w
mul-pred w zero some = absurd (omega (arith, some))
mul-pred w (suc j) some =
    let same : suc j - 1 ≡ j = omega arith in
    rw same (omega arith)

-- the root that a layer signs lies at the beginning of the part below
pub root-inside : (t : Task) (layer : ℕ) (below : List ℕ) → 1 ≤ layer → AreDone t 1 layer below → xmss_bytes t.params.tree_height * (layer - 1) + 16 ≤ length below
root-inside t layer below some done =
    omega (arith, length-layers t layer below done, mul-pred (xmss_bytes t.params.tree_height) layer some)

-- what a layer above the lowest signs is the root that the part below begins with
pub message-above : (t : Task) (layer : ℕ) (key below : List ℕ) → 1 ≤ layer → t.place.pair < 2 ^ t.params.tree_height → AreDone t 1 layer below
    → take 16 (drop (xmss_bytes t.params.tree_height * (layer - 1)) below) ≡ message_at t.params.tree_height t.place t.sk_seed key layer
unfolding AreDone
message-above t zero key below some small done = absurd (omega (arith, some))
message-above t (suc j) key below some small done =
    let h = t.params.tree_height in
    let last = layer-of-job t j done.1 done.4 in
    let same : suc j - 1 ≡ j = omega arith in
    let behind : drop (xmss_bytes h * j) (done.0 ++ done.1) ≡ done.1 = drop_at done.0 done.1 (xmss_bytes h * j) (length-layers t j done.0 done.3) in
    rw (same, done.2, behind) (last.root ∙ sym (message_at-root h t.place t.sk_seed key j small))

-- the lowest layer signs the key
pub message-first : (h : ℕ) (place : Place) (sk key : List ℕ) (layer : ℕ) → layer ≡ 0 → key ≡ message_at h place sk key layer
unfolding message_at
message-first h place sk key zero first = refl
message-first h place sk key (suc j) first = absurd (omega (arith, first))

-- all layers but the top one are done
pub layers-below : (t : Task) (layer : ℕ) (parts : List ℕ) → AreDone t 1 (layer + 1) parts → AreDone t 1 layer (take (xmss_bytes t.params.tree_height * layer) parts)
unfolding AreDone
layers-below t layer parts done =
    let all : AreDone t 1 (suc layer) parts = rw add-one at done in
    rw (all.2, take_at all.0 all.1 (xmss_bytes t.params.tree_height * layer) (length-layers t layer all.0 all.3)) all.3

-- the top one is done
pub layer-top : (t : Task) (layer : ℕ) (parts : List ℕ) → AreDone t 1 (layer + 1) parts → IsLayerDone t layer (drop (xmss_bytes t.params.tree_height * layer) parts)
unfolding AreDone
layer-top t layer parts done =
    let all : AreDone t 1 (suc layer) parts = rw add-one at done in
    let last = layer-of-job t layer all.1 all.4 in
    rw (all.2, drop_at all.0 all.1 (xmss_bytes t.params.tree_height * layer) (length-layers t layer all.0 all.3)) last

-- a layer is signed by its one-time signature, with the path behind its place
pub layer-signed : (t : Task) (layer tree leaf : ℕ) (key message chains part : List ℕ) → IsLayerDone t layer part
    → tree ≡ tree_at t.params.tree_height t.place.tree layer → leaf ≡ leaf_at t.params.tree_height t.place.tree t.place.pair layer
    → message ≡ message_at t.params.tree_height t.place t.sk_seed key layer → chains ≡ wots_signature (instance_of t.place.seed layer tree leaf) t.sk_seed message
    → chains ++ drop wots_bytes part ≡ layer_signature t.params.tree_height t.place t.sk_seed key layer
unfolding layer_signature xmss_signature
layer-signed t layer tree leaf key message chains part done htree hleaf hmessage hchains = rw (hchains, done.path, htree, hleaf, hmessage)

-- the layers below and the one above them
pub layers-joined : (f : ℕ → List ℕ) (layers layer : ℕ) (below part : List ℕ) → layers ≡ layer + 1 → below ≡ joined f layer → part ≡ f layer → below ++ part ≡ joined f layers
layers-joined f layers layer below part one hbelow hpart = rw (one, hbelow, hpart) (sym (joined-more f layer))

-- no layer
pub no-layers : (t : Task) (layers : ℕ) (f : ℕ → List ℕ) (parts : List ℕ) → layers ≡ 0 → AreDone t 1 layers parts → parts ≡ joined f layers
unfolding AreDone
no-layers t zero f parts none done = done ∙ sym (joined-zero f)
no-layers t (suc n) f parts none done = absurd (omega (arith, none))

-- the same layers, counted from the top one
pub layers-again : (t : Task) (layers : ℕ) (parts : List ℕ) → 1 ≤ layers → AreDone t 1 layers parts → AreDone t 1 (layers - 1 + 1) parts
layers-again t layers parts some done =
    let same : layers - 1 + 1 ≡ layers = omega (arith, some) in
    rw same done

-- the part of the top one is as long as a layer's
pub room-top : (w layers all part : ℕ) → 1 ≤ layers → all ≡ w * layers → part ≡ all - w * (layers - 1) → part ≡ w
room-top w layers all part some whole here = omega (arith, whole, here, mul-pred w layers some)

-- the layers' signatures are that of the hypertree
pub hyper-joined : (h d : ℕ) (place : Place) (sk m out : List ℕ) → out ≡ joined (layer_signature h place sk m) d → out ≡ hyper_signature h d place sk m
unfolding hyper_signature
hyper-joined h d place sk m out is = is

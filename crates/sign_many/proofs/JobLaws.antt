-- Laws of jobs and of their parts.
use Rattle.std.proofs.Common.{◌≡◌, ◌≤◌, ◌<◌, ◌+◌, ◌-◌, ◌*◌, ◌++◌, ℕ, zero, suc, List, [], length, take, drop, length-append, append_assoc, append-nil, arith, refl, sym, ap, ◌∙◌, add-one}
use Rattle.std.proofs.Math.Nat.{mul-le-mul_left}
use Rattle.std.proofs.lemmas.List.{take_at, drop_at}
use Rattle.slh_hash.specs.declared.params.Params.{Params}
use Rattle.fors.specs.Fors.{fors_bytes, fors_signature}
use Rattle.wots_xmss.specs.Xmss.{xmss_bytes}
use Rattle.sign_many.specs.Jobs.{Task, IsLayerDone, IsDone, AreDone, IsGroup, start_of}

-- FORS begins behind R
pub start-fors : (p : Params) (job : ℕ) → job ≡ 0 → 0 ≡ start_of p job
unfolding start_of
start-fors p zero first = refl
start-fors p (suc j) first = absurd (omega (arith, first))

-- where a layer begins
pub start-layer : (p : Params) (job : ℕ) → 1 ≤ job → fors_bytes p.a p.k + xmss_bytes p.tree_height * (job - 1) ≡ start_of p job
unfolding start_of
start-layer p zero some = absurd (omega (arith, some))
start-layer p (suc j) some =
    let same : suc j - 1 ≡ j = omega arith in
    rw same

-- the room of FORS
pub room-fors : (p : Params) (job n : ℕ) → job ≡ 0 → start_of p job + n ≡ start_of p (job + 1) → n ≡ fors_bytes p.a p.k
room-fors p job n first room =
    let next = start-layer p (job + 1) (omega arith) in
    let none : job + 1 - 1 ≡ 0 = omega (arith, first) in
    let here : fors_bytes p.a p.k + xmss_bytes p.tree_height * 0 ≡ start_of p (job + 1) = rw none at next in
    omega (arith, room, here, start-fors p job first)

-- the room of a layer
pub room-layer : (p : Params) (job n : ℕ) → 1 ≤ job → start_of p job + n ≡ start_of p (job + 1) → n ≡ xmss_bytes p.tree_height
room-layer p job n some room =
    let here = start-layer p job some in
    let next = start-layer p (job + 1) (omega arith) in
    let more : xmss_bytes p.tree_height * (job + 1 - 1) ≡ xmss_bytes p.tree_height * (job - 1) + xmss_bytes p.tree_height =
    let one : job + 1 - 1 ≡ job - 1 + 1 = omega (arith, some) in
    rw one (omega arith) in
    omega (arith, room, here, next, more)

-- the room of all jobs
pub room-all : (p : Params) (n : ℕ) → n ≡ fors_bytes p.a p.k + xmss_bytes p.tree_height * p.d → start_of p 0 + n ≡ start_of p (0 + (p.d + 1))
room-all p n long =
    let last = start-layer p (0 + (p.d + 1)) (omega arith) in
    let layers : 0 + (p.d + 1) - 1 ≡ p.d = omega arith in
    let end : fors_bytes p.a p.k + xmss_bytes p.tree_height * p.d ≡ start_of p (0 + (p.d + 1)) = rw layers at last in
    omega (arith, long, end, start-fors p 0 refl)

-- a job begins no later than those behind it
pub start-later : (p : Params) (i j : ℕ) → i ≤ j → start_of p i ≤ start_of p j
unfolding start_of
start-later p zero j le = omega arith
start-later p (suc i) zero le = absurd (omega (arith, le))
start-later p (suc i) (suc j) le = omega (arith, mul-le-mul_left (xmss_bytes p.tree_height) (let l : i ≤ j = omega (arith, le) in l))

-- the first half of a group
pub front-group : (p : Params) (first n by bytes m half part : ℕ) → IsGroup p first n by bytes → 1 ≤ m → m < n → 1 ≤ half → half ≤ by
    → part ≡ start_of p (first + m) - start_of p first → IsGroup p first m half part
front-group p first n by bytes m half part group some less worker few here = record {
  set = group.set;
  some = some;
  inside = omega (arith, group.inside, less);
  worker = worker;
  workers = omega (arith, few, group.workers);
  room = omega (arith, here, start-later p first (first + m) (omega arith));
}

-- the other half
pub back-group : (p : Params) (first n by bytes m rest part : ℕ) → IsGroup p first n by bytes → m < n → 1 ≤ rest → rest ≤ by
    → part ≡ bytes - (start_of p (first + m) - start_of p first) → IsGroup p (first + m) (n - m) rest part
back-group p first n by bytes m rest part group less worker few here =
    let whole : first + m + (n - m) ≡ first + n = omega (arith, less) in
    record {
      set = group.set;
      some = omega (arith, less);
      inside = omega (arith, group.inside, whole);
      worker = worker;
      workers = omega (arith, few, group.workers);
      room = rw whole (omega (arith, here, group.room, start-later p first (first + m) (omega arith), start-later p (first + m) (first + n) (omega (arith, less))));
    }

-- the first half lies inside
pub front-inside : (p : Params) (first n by bytes m : ℕ) → IsGroup p first n by bytes → m < n → start_of p (first + m) - start_of p first ≤ bytes
front-inside p first n by bytes m group less = omega (arith, group.room, start-later p (first + m) (first + n) (omega (arith, less)))

-- FORS is done
pub done-fors : (t : Task) (job : ℕ) (part : List ℕ) → job ≡ 0 → part ≡ fors_signature t.params.a t.params.k t.place t.sk_seed t.md → IsDone t job part
unfolding IsDone
done-fors t zero part first made = made
done-fors t (suc j) part first made = absurd (omega (arith, first))

-- a layer is done
pub done-layer : (t : Task) (job : ℕ) (part : List ℕ) → 1 ≤ job → IsLayerDone t (job - 1) part → IsDone t job part
unfolding IsDone
done-layer t zero part some done = absurd (omega (arith, some))
done-layer t (suc j) part some done =
    let same : suc j - 1 ≡ j = omega arith in
    rw same at done

-- one job
pub one-done : (t : Task) (first count : ℕ) (part : List ℕ) → count ≡ 1 → IsDone t first part → AreDone t first count part
unfolding AreDone
one-done t first count part one done =
    let none : first + 0 ≡ first = omega arith in
    rw one ([], part, refl, refl, rw none done)

-- jobs and those behind them
pub both-done : (t : Task) (first m n : ℕ) (front back : List ℕ) → AreDone t first m front → AreDone t (first + m) n back → AreDone t first (m + n) (front ++ back)
unfolding AreDone
both-done t first m zero front back one two =
    let none : m + 0 ≡ m = omega arith in
    rw (none, two, append-nil front) one
both-done t first m (suc n) front back one two =
    let more : m + suc n ≡ suc (m + n) = omega arith in
    let place : first + m + n ≡ first + (m + n) = omega arith in
    rw more (front ++ two.0, two.1, ap (λ z. front ++ z) two.2 ∙ sym (append_assoc front two.0 two.1), both-done t first m n front two.0 one two.3, rw place at two.4)

-- a group and those behind it
pub group-done : (t : Task) (first n m : ℕ) (front back : List ℕ) → m < n → AreDone t first m front → AreDone t (first + m) (n - m) back → AreDone t first n (front ++ back)
group-done t first n m front back less one two =
    let whole : m + (n - m) ≡ n = omega (arith, less) in
    rw whole at (both-done t first m (n - m) front back one two)

-- job 1 + j is layer j
pub layer-of-job : (t : Task) (j : ℕ) (part : List ℕ) → IsDone t (1 + j) part → IsLayerDone t j part
unfolding IsDone
layer-of-job t j part done =
    let job : 1 + j ≡ suc j = omega arith in
    rw job at done

-- how long the parts of layers are
pub length-layers : (t : Task) (n : ℕ) (parts : List ℕ) → AreDone t 1 n parts → length parts ≡ xmss_bytes t.params.tree_height * n
unfolding AreDone
length-layers t zero parts done = rw done (omega arith)
length-layers t (suc n) parts done =
    let last = layer-of-job t n done.1 done.4 in
    rw done.2 (omega (arith, length-append done.0 done.1, length-layers t n done.0 done.3, last.size))

-- all jobs are FORS and the layers
all-parted : (t : Task) (d : ℕ) (parts : List ℕ) → AreDone t 0 (suc d) parts
    → (few : List ℕ) × (tall : List ℕ) × (parts ≡ few ++ tall) × (few ≡ fors_signature t.params.a t.params.k t.place t.sk_seed t.md) × AreDone t 1 d tall
unfolding AreDone IsDone
all-parted t zero parts done =
    (done.1, [], done.2 ∙ (ap (λ z. z ++ done.1) done.3 ∙ sym (append-nil done.1)), done.4, refl)
all-parted t (suc n) parts done =
    let front = all-parted t n done.0 done.3 in
    let job : 0 + suc n ≡ 1 + n = omega arith in
    let last : IsDone t (1 + n) done.1 = rw job at done.4 in
    (front.0, front.1 ++ done.1, done.2 ∙ (ap (λ z. z ++ done.1) front.2 ∙ append_assoc front.0 front.1 done.1), front.3, (front.1, done.1, refl, front.4, last))

-- what the FORS job wrote, and the layers' parts behind it
pub jobs-parted : (t : Task) (parts few tall : List ℕ) (n : ℕ) → AreDone t 0 (t.params.d + 1) parts → length parts ≡ fors_bytes t.params.a t.params.k + xmss_bytes t.params.tree_height * t.params.d
    → n ≡ fors_bytes t.params.a t.params.k → few ≡ take n parts → tall ≡ drop n parts
    → (few ≡ fors_signature t.params.a t.params.k t.place t.sk_seed t.md) × AreDone t 1 t.params.d tall
jobs-parted t parts few tall n done long size hfew htall =
    let jobs : AreDone t 0 (suc t.params.d) parts = rw add-one at done in
    let all = all-parted t t.params.d parts jobs in
    let first : length all.0 ≡ n = omega (arith, ap length all.2, length-append all.0 all.1, long, size, length-layers t t.params.d all.1 all.4) in
    let front : few ≡ all.0 = hfew ∙ (ap (take n) all.2 ∙ take_at all.0 all.1 n first) in
    let back : tall ≡ all.1 = htall ∙ (ap (drop n) all.2 ∙ drop_at all.0 all.1 n first) in
    (front ∙ all.3, rw back all.4)

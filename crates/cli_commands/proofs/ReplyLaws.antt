-- A command has one reply on its file and its input, and what was read gives it.
use Rattle.std.proofs.Common.{◌≡◌, ◌≤◌, ℕ, List, [], ◌∷◌, ◌++◌, codes, lit≤, Option, Some, None, false, refl, sym, ap, ◌∙◌, subst, inl, inr, arith}
use Rattle.std.specs.Prelude.{IsTrue, IfSome, unwrap_or}
use Rattle.fed_base.specs.declared.algorithm.Alg.{Alg}
use Rattle.fed_ports.specs.Stores.{Files, IsFile}
use Rattle.fed_ports.specs.Times.{ClockAt}
use Rattle.cli_rings.specs.Issues.{issue_reply}
use Rattle.cli_rings.specs.Rotations.{change_reply}
use Rattle.key_ring.specs.Changes.{retire_key, revoke_key}
use Rattle.key_ring.specs.Rings.{Ring}
use Rattle.key_ring.specs.declared.key.RevokeReason.{RevokeReason}
use Rattle.cli_commands.specs.Answers.{named, wants_input, text_of, IsMomentFor, IsReply, MayBe, IsNamed, IsReached, IsTextRead, FixesFile, FixesInput}
use Rattle.cli_commands.specs.Findings.{status_of, line_of}
use Rattle.cli_rings.specs.Replies.{plain, bad_input, refused}
use Rattle.cli_commands.specs.Checks.{IsChecked, chain_in, keys_in}
use Rattle.cli_commands.specs.Operations.{IsPrepared, IsCheckPrepared, IsKeygenPrepared, IsPerformed, IsOutcome, IsRingPrepared, issue_prepared, rotate_prepared}
use Rattle.cli_rings.specs.RingFiles.{IsFileOf}
use Rattle.cli_words.specs.declared.act.Act.{Act}
use Rattle.cli_words.specs.declared.act.Act.TheVariants.{Add, Retire, Revoke}
use Rattle.cli_words.specs.declared.command.Command.{Command}
use Rattle.cli_words.specs.declared.command.Command.TheVariants.{Verify, Keygen, Issue, Rotate, Check, Help, Version, Faulty}
use Rattle.cli_help.specs.declared.overview.TheConstants.{HELP, VERSION}
use Rattle.cli_rings.specs.declared.reply.Reply.{Reply}
use Rattle.cli_words.specs.declared.text_type.TextType.{TextType}
use Rattle.cli_rings.specs.declared.ring_file.File.{File}
use Rattle.cli_rings.specs.declared.ring_file.File.TheVariants.{Whole}
use Rattle.cli_commands.specs.declared.operation.Operation.{Operation}
use Rattle.cli_commands.specs.declared.operation.Operation.TheVariants as operation
use Rattle.cli_commands.specs.declared.operation.Prepared.{Prepared}
use Rattle.cli_commands.specs.declared.operation.Prepared.TheVariants.{Answered, WantsInput}
use Rattle.jwk_set.specs.declared.set.JwkSet.{JwkSet}
use Rattle.cli_commands.proofs.CheckLaws.{checked_once, checked_small}
use Rattle.cli_commands.proofs.FindingLaws.{finding_once, status_small}
use Rattle.cli_rings.proofs.RingLaws.{found_once}
use Rattle.cli_rings.proofs.SmallLaws.{add_small, change_small, issue_small, keygen_small}

-- ---- what was read gives a reply

some_input : (left : Option (List ℕ)) → (input : List ℕ) × MayBe left input
some_input None = ([], tt)
some_input (Some left) = (left, refl)

pub reached_done : (c : Command) (moment : ℕ) (files : Option Files) (left file : Option (List ℕ)) (reply : Reply) → IsNamed c files file → IsPrepared c moment file (Answered reply)
    → IsReached c moment files left left reply
reached_done c moment files left file reply is prepared = record {
  file = file;
  input = (some_input left).0;
  is_file = is;
  is_input = (some_input left).1;
  is_reply = record { prepared = Answered reply; is_prepared = prepared; outcome = refl };
  read = refl;
}

pub reached_awaits : (c : Command) (moment : ℕ) (files : Option Files) (left left' file : Option (List ℕ)) (before now : ℕ) (text : Option (List ℕ)) (work : Operation) (reply : Reply)
    → IsNamed c files file → IsPrepared c moment file (WantsInput work) → IsTextRead left left' before now text → IsPerformed work text reply → IsReached c moment files left left' reply
reached_awaits c moment files left left' file before now text work reply is prepared read done = record {
  file = file;
  input = read.input;
  is_file = is;
  is_input = read.is_input;
  is_reply = record { prepared = WantsInput work; is_prepared = prepared; outcome = subst (λ t. IsPerformed work t reply) (sym read.is_text) done };
  read = read.ended;
}

-- a chain waits to be checked under the keys of a file
pub check_awaits : (file : File) (found : List ℕ) (anchor copied : List ℕ) (at : ℕ) (keys : JwkSet) → file ≡ Whole found → copied ≡ anchor → keys_in found ≡ Some keys.keys
    → (bytes : Option (List ℕ)) → IsFileOf file bytes → IsCheckPrepared anchor at bytes (WantsInput (operation.Check copied keys at))
check_awaits file found anchor copied at keys is same keyed bytes of_file =
    let there : IsFileOf (Whole found) bytes = subst (λ z. IsFileOf z bytes) is of_file in
    subst (λ z. IsCheckPrepared anchor at z (WantsInput (operation.Check copied keys at))) (sym there.0) (inl (keys, there.1, keyed, ap (λ z. WantsInput (operation.Check z keys at)) same))

-- ---- a command has one reply

ring_once : (make : Option Ring → Prepared) (file : Option (List ℕ)) (a b : Prepared) → IsRingPrepared make file a → IsRingPrepared make file b → a ≡ b
ring_once make file a b (k, r, e) (l, s, d) = e ∙ (ap make (found_once file k l r s) ∙ sym d)

keygen_once : (alg : Alg) (at exp : ℕ) (file : Option (List ℕ)) (a b : Prepared) → IsKeygenPrepared alg at exp file a → IsKeygenPrepared alg at exp file b → a ≡ b
keygen_once alg at exp None a b p q = p ∙ sym q
keygen_once alg at exp (Some bytes) a b p q = p ∙ sym q

-- the same file, where one is named
abbrev SameFile : Command → Option (List ℕ) → Option (List ℕ) → Type 0
SameFile c x y = IfSome (named c) (λ name. x ≡ y)

-- a reply of these parts
abbrev reply_of : ℕ → List ℕ → Option (List ℕ) → Reply
reply_of status text kept = record { status = status; text = text; kept = kept }

reply_of_parts : (r s : Reply) → r.status ≡ s.status → r.text ≡ s.text → r.kept ≡ s.kept → r ≡ s
reply_of_parts r s a b c =
    ap (λ z. reply_of z r.text r.kept) a ∙ (ap (λ z. reply_of s.status z r.kept) b ∙ ap (λ z. reply_of s.status s.text z) c)

-- a check under the same keys
checks_once : (anchor : List ℕ) (at : ℕ) (k l : JwkSet) (text : Option (List ℕ)) (r s : Reply) → k.keys ≡ l.keys → IsPerformed (operation.Check anchor k at) text r → IsPerformed (operation.Check anchor l at) text s
    → r ≡ s
checks_once anchor at k l None r s same p q = p ∙ sym q
checks_once anchor at k l (Some text) r s same (p, kept) (q, also) =
    let moved_keys : IsChecked anchor at (Some k.keys) (chain_in text) s.status s.text = subst (λ z. IsChecked anchor at (Some z) (chain_in text) s.status s.text) (sym same) q in
    let both = checked_once anchor at (Some k.keys) (chain_in text) r.status s.status r.text s.text p moved_keys in
    reply_of_parts r s both.0 both.1 (kept ∙ sym also)

done_once : (work : Operation) (text : Option (List ℕ)) (r s : Reply) → IsPerformed work text r → IsPerformed work text s → r ≡ s
done_once work None r s p q = p ∙ sym q
done_once (operation.Verify key) (Some text) r s (f, p, e) (g, q, d) = e ∙ (ap (λ z. plain (status_of z) (line_of z)) (finding_once key text f g p q) ∙ sym d)
done_once (operation.Keygen alg at exp) (Some text) r s p q = p ∙ sym q
done_once (operation.Issue ring typ workers) (Some text) r s (a, k, p) (b, l, q) = let same : Some a ≡ Some b = sym k ∙ l in p ∙ (ap (λ z. issue_reply z typ text) (cc same) ∙ sym q)
done_once (operation.Add ring alg at exp) (Some text) r s p q = p ∙ sym q
done_once (operation.Check anchor keys at) (Some text) r s p q = checks_once anchor at keys keys (Some text) r s refl p q

outcome_once : (prepared : Prepared) (text : Option (List ℕ)) (r s : Reply) → IsOutcome prepared text r → IsOutcome prepared text s → r ≡ s
outcome_once (Answered reply) text r s p q = p ∙ sym q
outcome_once (WantsInput work) text r s p q = done_once work text r s p q

by_prepared : (a b : Prepared) (text : Option (List ℕ)) (r s : Reply) → a ≡ b → IsOutcome a text r → IsOutcome b text s → r ≡ s
by_prepared a b text r s same p q = outcome_once b text r s (subst (λ z. IsOutcome z text r) same p) q

awaits : (prepared : Prepared) (work : Operation) (text : Option (List ℕ)) (r : Reply) → prepared ≡ WantsInput work → IsOutcome prepared text r → IsPerformed work text r
awaits prepared work text r same out = subst (λ z. IsOutcome z text r) same out

check_once : (anchor : List ℕ) (at : ℕ) (file : Option (List ℕ)) (a b : Prepared) (text : Option (List ℕ)) (r s : Reply) → IsCheckPrepared anchor at file a → IsCheckPrepared anchor at file b
    → IsOutcome a text r → IsOutcome b text s → r ≡ s
check_once anchor at None a b text r s p q out other = by_prepared a b text r s (p ∙ sym q) out other
check_once anchor at (Some bytes) a b text r s (inl (k, few, f, e)) (inl (l, few', g, d)) out other =
    let keys : Some k.keys ≡ Some l.keys = sym f ∙ g in
    checks_once anchor at k l text r s (cc keys) (awaits a (operation.Check anchor k at) text r e out) (awaits b (operation.Check anchor l at) text s d other)
check_once anchor at (Some bytes) a b text r s (inl (k, few, f, e)) (inr (none, d)) out other =
    let clash : None ≡ Some k.keys = sym (none few) ∙ f in absurd (cc clash)
check_once anchor at (Some bytes) a b text r s (inr (none, e)) (inl (k, few, f, d)) out other =
    let clash : None ≡ Some k.keys = sym (none few) ∙ f in absurd (cc clash)
check_once anchor at (Some bytes) a b text r s (inr (none, e)) (inr (none', d)) out other = by_prepared a b text r s (e ∙ sym d) out other

reply_once : (c : Command) (moment : ℕ) (x y : Option (List ℕ)) (a b : Prepared) (text : Option (List ℕ)) (r s : Reply) → SameFile c x y → IsPrepared c moment x a → IsPrepared c moment y b
    → IsOutcome a text r → IsOutcome b text s → r ≡ s
reply_once (Verify key) moment x y a b text r s same p q out other = by_prepared a b text r s (p ∙ sym q) out other
reply_once (Keygen ring alg at exp) moment x y a b text r s same p q out other = by_prepared a b text r s (keygen_once alg at exp y a b (subst (λ z. IsKeygenPrepared alg at exp z a) same p) q) out other
reply_once (Issue ring typ workers) moment x y a b text r s same p q out other = by_prepared a b text r s (ring_once (issue_prepared typ workers) y a b (subst (λ z. IsRingPrepared (issue_prepared typ workers) z a) same p) q) out other
reply_once (Rotate ring act) moment x y a b text r s same p q out other =
    by_prepared a b text r s (ring_once (rotate_prepared act) y a b (subst (λ z. IsRingPrepared (rotate_prepared act) z a) same p) q) out other
reply_once (Check anchor keys at) moment x y a b text r s same p q out other =
    check_once anchor (unwrap_or at moment) y a b text r s (subst (λ z. IsCheckPrepared anchor (unwrap_or at moment) z a) same p) q out other
reply_once Help moment x y a b text r s same p q out other = by_prepared a b text r s (p ∙ sym q) out other
reply_once Version moment x y a b text r s same p q out other = by_prepared a b text r s (p ∙ sym q) out other
reply_once Faulty moment x y a b text r s same p q out other = by_prepared a b text r s (p ∙ sym q) out other

-- the file that is told is the one that was looked at
same_file : (n : Option (List ℕ)) (files : Option Files) (x y : Option (List ℕ)) → IfSome n (λ name. IsFile files name x) → IfSome n (λ name. (told : Files) × (files ≡ Some told) × (told name ≡ y))
    → IfSome n (λ name. x ≡ y)
same_file None files x y is fixes = tt
same_file (Some name) files x y is fixes =
    let found : IsFile (Some fixes.0) name x = subst (λ f. IsFile f name x) fixes.1 is in
    sym found ∙ fixes.2

-- what is answered before the input doesn't depend on it
answered_outcome : (prepared : Prepared) (answer : Reply) (a b : Option (List ℕ)) (reply : Reply) → prepared ≡ Answered answer → IsOutcome prepared a reply → IsOutcome prepared b reply
answered_outcome prepared answer a b reply is out = subst (λ s. IsOutcome s b reply) (sym is) (subst (λ s. IsOutcome s a reply) is out)

-- a retirement and a revocation are answered by the ring alone
retired : (found : Option Ring) (kid : List ℕ) → (answer : Reply) × (rotate_prepared (Retire kid) found ≡ Answered answer)
retired None kid = (bad_input, refl)
retired (Some ring) kid = (change_reply ring (retire_key kid) (codes "done"), refl)

revoked : (found : Option Ring) (kid : List ℕ) (at : ℕ) (reason : RevokeReason) → (answer : Reply) × (rotate_prepared (Revoke kid at reason) found ≡ Answered answer)
revoked None kid at reason = (bad_input, refl)
revoked (Some ring) kid at reason = (change_reply ring (revoke_key kid at reason) (codes "done"), refl)

-- an input that isn't wanted doesn't matter
same_outcome : (c : Command) (moment : ℕ) (file : Option (List ℕ)) (prepared : Prepared) (a b : List ℕ) (reply : Reply) → IsPrepared c moment file prepared → (IsTrue (wants_input c) → a ≡ b)
    → IsOutcome prepared (text_of a) reply → IsOutcome prepared (text_of b) reply
same_outcome Help moment file prepared a b reply is same out = subst (λ s. IsOutcome s (text_of b) reply) (sym is) (subst (λ s. IsOutcome s (text_of a) reply) is out)
same_outcome Version moment file prepared a b reply is same out = subst (λ s. IsOutcome s (text_of b) reply) (sym is) (subst (λ s. IsOutcome s (text_of a) reply) is out)
same_outcome Faulty moment file prepared a b reply is same out = subst (λ s. IsOutcome s (text_of b) reply) (sym is) (subst (λ s. IsOutcome s (text_of a) reply) is out)
same_outcome (Rotate ring (Retire kid)) moment file prepared a b reply (found, of_file, is) same out =
    answered_outcome prepared (retired found kid).0 (text_of a) (text_of b) reply (is ∙ (retired found kid).1) out
same_outcome (Rotate ring (Revoke kid at reason)) moment file prepared a b reply (found, of_file, is) same out =
    answered_outcome prepared (revoked found kid at reason).0 (text_of a) (text_of b) reply (is ∙ (revoked found kid at reason).1) out
same_outcome c moment file prepared a b reply is same out = subst (λ z. IsOutcome prepared (text_of z) reply) (same refl) out

same_input : (left : Option (List ℕ)) (a b : List ℕ) → left ≡ Some b → MayBe left a → a ≡ b
same_input None a b e maybe = cc e
same_input (Some left) a b e maybe = let is : left ≡ b = cc e in sym maybe ∙ is

-- the reply that was reached is the one on the file and the input that are told
pub reached_once : (c : Command) (moment : ℕ) (files : Option Files) (left left' file : Option (List ℕ)) (input : List ℕ) (r s : Reply) → IsReached c moment files left left' r
    → FixesFile c files file → FixesInput c left input → IsReply c moment file input s → r ≡ s
reached_once c moment files left left' file input r s reached fixed wanted is =
    let p = reached.is_reply in
    let same = same_file (named c) files reached.file file reached.is_file fixed in
    let there = same_outcome c moment reached.file p.prepared reached.input input r p.is_prepared (λ t. same_input left reached.input input (wanted t) reached.is_input) p.outcome in
    reply_once c moment reached.file file p.prepared is.prepared (text_of input) r s same p.is_prepared is.is_prepared there is.outcome

-- ---- its status

done_small : (work : Operation) (text : Option (List ℕ)) (r : Reply) → IsPerformed work text r → r.status ≤ 2
done_small work None r p = subst (λ z. z.status ≤ 2) (sym p) (lit≤ tt)
done_small (operation.Verify key) (Some text) r (f, p, e) = let few = status_small f in subst (λ z. z.status ≤ 2) (sym e) (omega (arith, few))
done_small (operation.Keygen alg at exp) (Some text) r p = subst (λ z. z.status ≤ 2) (sym p) (keygen_small alg at exp text)
done_small (operation.Issue ring typ workers) (Some text) r (keys, k, p) = subst (λ z. z.status ≤ 2) (sym p) (issue_small keys typ text)
done_small (operation.Add ring alg at exp) (Some text) r p = subst (λ z. z.status ≤ 2) (sym p) (add_small ring alg at exp text)
done_small (operation.Check anchor keys at) (Some text) r (p, kept) = checked_small anchor at (Some keys.keys) (chain_in text) r.status r.text p

done_at : (prepared : Prepared) (reply : Reply) (text : Option (List ℕ)) (r : Reply) → prepared ≡ Answered reply → IsOutcome prepared text r → r ≡ reply
done_at prepared reply text r e out = subst (λ s. IsOutcome s text r) e out

small_at : (prepared : Prepared) (reply : Reply) (text : Option (List ℕ)) (r : Reply) → reply.status ≤ 2 → prepared ≡ Answered reply → IsOutcome prepared text r → r.status ≤ 2
small_at prepared reply text r small e out = subst (λ z. z.status ≤ 2) (sym (done_at prepared reply text r e out)) small

issue_prepared_small : (typ : TextType) (workers : ℕ) (found : Option Ring) (prepared : Prepared) (text : Option (List ℕ)) (r : Reply) → prepared ≡ issue_prepared typ workers found → IsOutcome prepared text r → r.status ≤ 2
issue_prepared_small typ workers None prepared text r is out = small_at prepared bad_input text r (lit≤ tt) is out
issue_prepared_small typ workers (Some ring) prepared text r is out = done_small (operation.Issue ring typ workers) text r (awaits prepared (operation.Issue ring typ workers) text r is out)

rotate_prepared_small : (act : Act) (found : Option Ring) (prepared : Prepared) (text : Option (List ℕ)) (r : Reply) → prepared ≡ rotate_prepared act found → IsOutcome prepared text r → r.status ≤ 2
rotate_prepared_small (Add alg at exp) None prepared text r is out = small_at prepared bad_input text r (lit≤ tt) is out
rotate_prepared_small (Retire kid) None prepared text r is out = small_at prepared bad_input text r (lit≤ tt) is out
rotate_prepared_small (Revoke kid at reason) None prepared text r is out = small_at prepared bad_input text r (lit≤ tt) is out
rotate_prepared_small (Add alg at exp) (Some ring) prepared text r is out = done_small (operation.Add ring alg at exp) text r (awaits prepared (operation.Add ring alg at exp) text r is out)
rotate_prepared_small (Retire kid) (Some ring) prepared text r is out =
    small_at prepared (change_reply ring (retire_key kid) (codes "done")) text r (change_small ring (retire_key kid) (codes "done")) is out
rotate_prepared_small (Revoke kid at reason) (Some ring) prepared text r is out =
    small_at prepared (change_reply ring (revoke_key kid at reason) (codes "done")) text r (change_small ring (revoke_key kid at reason) (codes "done")) is out

keygen_prepared_small : (alg : Alg) (at exp : ℕ) (file : Option (List ℕ)) (prepared : Prepared) (text : Option (List ℕ)) (r : Reply) → IsKeygenPrepared alg at exp file prepared → IsOutcome prepared text r → r.status ≤ 2
keygen_prepared_small alg at exp None prepared text r p out = done_small (operation.Keygen alg at exp) text r (awaits prepared (operation.Keygen alg at exp) text r p out)
keygen_prepared_small alg at exp (Some bytes) prepared text r p out = small_at prepared (refused (codes "Exists")) text r (lit≤ tt) p out

check_prepared_small : (anchor : List ℕ) (at : ℕ) (file : Option (List ℕ)) (prepared : Prepared) (text : Option (List ℕ)) (r : Reply) → IsCheckPrepared anchor at file prepared → IsOutcome prepared text r
    → r.status ≤ 2
check_prepared_small anchor at None prepared text r p out = small_at prepared bad_input text r (lit≤ tt) p out
check_prepared_small anchor at (Some bytes) prepared text r (inl (k, few, f, e)) out = done_small (operation.Check anchor k at) text r (awaits prepared (operation.Check anchor k at) text r e out)
check_prepared_small anchor at (Some bytes) prepared text r (inr (none, e)) out = small_at prepared bad_input text r (lit≤ tt) e out

-- a reply has a status up to 2
pub reply_small : (c : Command) (moment : ℕ) (file : Option (List ℕ)) (prepared : Prepared) (text : Option (List ℕ)) (r : Reply) → IsPrepared c moment file prepared → IsOutcome prepared text r → r.status ≤ 2
reply_small (Verify key) moment file prepared text r p out = done_small (operation.Verify key) text r (awaits prepared (operation.Verify key) text r p out)
reply_small (Keygen ring alg at exp) moment file prepared text r p out = keygen_prepared_small alg at exp file prepared text r p out
reply_small (Issue ring typ workers) moment file prepared text r (found, of_file, is) out = issue_prepared_small typ workers found prepared text r is out
reply_small (Rotate ring act) moment file prepared text r (found, of_file, is) out = rotate_prepared_small act found prepared text r is out
reply_small (Check anchor keys at) moment file prepared text r p out = check_prepared_small anchor (unwrap_or at moment) file prepared text r p out
reply_small Help moment file prepared text r p out = small_at prepared (plain 0 HELP.now) text r (lit≤ tt) p out
reply_small Version moment file prepared text r p out = small_at prepared (plain 0 VERSION.now) text r (lit≤ tt) p out
reply_small Faulty moment file prepared text r p out = small_at prepared (plain 2 (codes "words" ++ 10 ∷ [])) text r (lit≤ tt) p out

-- ---- its moment

moved : (c : Command) (before now : ClockAt) (moment : ℕ) (file : Option (List ℕ)) (prepared : Prepared) → IsMomentFor c before now moment → IsPrepared c moment file prepared
    → IsPrepared c now.last file prepared
moved (Check anchor keys None) before now moment file prepared is made = subst (λ t. IsPrepared (Check anchor keys None) t file prepared) (is.read refl).1 made
moved (Check anchor keys (Some at)) before now moment file prepared is made = made
moved c before now moment file prepared is made = made

-- the moment of a reply is the clock's last reading, wherever the command wants one
pub reached_at : (c : Command) (before now : ClockAt) (moment : ℕ) (files : Option Files) (left left' : Option (List ℕ)) (reply : Reply) → IsMomentFor c before now moment
    → IsReached c moment files left left' reply → IsReached c now.last files left left' reply
reached_at c before now moment files left left' reply is reached =
    let p = reached.is_reply in
    record {
      file = reached.file;
      input = reached.input;
      is_file = reached.is_file;
      is_input = reached.is_input;
      is_reply = record { prepared = p.prepared; is_prepared = moved c before now moment reached.file p.prepared is p.is_prepared; outcome = p.outcome };
      read = reached.read;
    }

-- ---- its input

answers_never : (answer : Reply) (work : Operation) → WantsInput work ≡ Answered answer → ⊥
answers_never answer work is = cc is

-- a command that wants no input is answered by its file
pub never_wanted : (c : Command) (moment : ℕ) (file : Option (List ℕ)) (work : Operation) → wants_input c ≡ false → IsPrepared c moment file (WantsInput work) → ⊥
never_wanted Help moment file work unwanted is = cc is
never_wanted Version moment file work unwanted is = cc is
never_wanted Faulty moment file work unwanted is = cc is
never_wanted (Rotate ring (Retire kid)) moment file work unwanted (found, of_file, is) = answers_never (retired found kid).0 work (is ∙ (retired found kid).1)
never_wanted (Rotate ring (Revoke kid at reason)) moment file work unwanted (found, of_file, is) =
    answers_never (revoked found kid at reason).0 work (is ∙ (revoked found kid at reason).1)
never_wanted c moment file work unwanted is = cc unwanted
